use Rattle.std.proofs.Common.{◌≡◌, ℤ, pos, ◌+◌, ◌-◌, ◌*◌, ◌/◌, ◌%◌, ◌<◌, ◌+ℤ◌, ◌^◌, length, get_or, arith, inl, inr, ap, ap₂, sym, ◌∙◌}
use Rattle.std.proofs.lemmas.Bool.{cases_lt}
use Rattle.std.proofs.lemmas.Int.{ints}
use Rattle.std.proofs.lemmas.Nat.{div-add-mod', div_below, mod_below}
use Rattle.dirac_upconvert.specs.declared.rows.Rests.{Rests}
use Rattle.dirac_upconvert.specs.SubSamples.{bilinear, rounded}
use Rattle.dirac_upconvert.proofs.Lanes.{in_whole_rows}
use Rattle.dirac_upconvert.proofs.rows.columns_of_parts.Goals as goal

pub loop-c-preserved : goal.loop-c-preserved
loop-c-preserved c j k a b =
    let t = c.args.table.now in
    let w = c.args.width in
    let p = c.args.from in
    let q = c.behind.result in
    let first = 8 * c.loop-c.c in
    elim (cases_lt k first) [
      | inl before ↦ c.eight_columns.ensures.before j k before ∙ c.loop-c.invariant j k a before
      | inr past ↦
          let there : first + (k - first) ≡ k = omega (arith, past) in
          let beside : q.across +ℤ pos (2 * (k - first)) ≡ p.across +ℤ pos (2 * k) = omega (arith, ints, c.behind.ensures.across, past) in
          ap (λ i. get_or c.eight_columns.new.out (j * w + i) (pos 0)) (sym there)
          ∙ c.eight_columns.ensures.eight j (k - first) (omega (arith, a, ap (λ n. n / w) c.loop-c.auto.out)) (omega (arith, b, past))
          ∙ ap (λ (r : Rests). rounded (2 * r.bits) (bilinear t (2 ^ r.bits) (q.across +ℤ pos (2 * (k - first))) (q.down +ℤ pos (2 * j)) r.right r.below)) c.behind.ensures.rests
          ∙ ap₂ (λ (a b : ℤ). rounded (2 * p.rests.bits) (bilinear t (2 ^ p.rests.bits) a (b +ℤ pos (2 * j)) p.rests.right p.rests.below)) beside c.behind.ensures.down
    ]

pub returns : goal.returns
returns c n l =
    let w = c.args.width in
    let len = length c.args.out.now in
    let row : n / w < len / w = div_below n w (len / w) (omega arith) (in_whole_rows len w (len / w) n c.requires.rows.1 (omega arith) (omega (arith, l, c.loop-c.auto.out))) in
    let at : n / w * w + n % w ≡ n = omega (arith, div-add-mod' n w) in
    ap (λ i. get_or c.loop-c.out i (pos 0)) (sym at) ∙ c.loop-c.invariant (n / w) (n % w) row (omega (arith, mod_below n w c.requires.rows.0))
