use Rattle.std.proofs.Common.{◌≡◌, ◌+◌, ◌-◌, ◌<◌, ◌≤◌, get_or, arith, ap, inl, inr, sym, ◌∙◌}
use Rattle.std.proofs.lemmas.Bool.{cases_lt}
use Rattle.std.proofs.lemmas.Nat.{row_fits}
use Rattle.dirac_obmc.proofs.Runs.{shares_small}
use Rattle.dirac_obmc.proofs.RunWeights.{run_between, run_first, run_last, weight_listed}
use Rattle.dirac_obmc.proofs.rows.run_weights.Goals as goal

pub copy_weights-requires-clause-listed : goal.copy_weights-requires-clause-listed
copy_weights-requires-clause-listed c =
    let d = c.args.columns.blocks in
    omega (
      arith,
      c.listed_at-first.ensures,
      c.parts_of-parts.ensures.begun,
      c.parts_of-parts.ensures.single_fits,
      c.parts_of-parts.ensures.from,
      c.requires.weights.whole,
      row_fits c.args.run.i d.length d.count d.length (omega (arith, c.requires.some, c.requires.run)) (omega arith),
    )

pub copy_weights-requires-clause-inside : goal.copy_weights-requires-clause-inside
copy_weights-requires-clause-inside c =
    omega (arith, c.parts_of-parts.ensures.from, c.parts_of-parts.ensures.ordered, c.parts_of-parts.ensures.to, c.requires.len, c.clear_weights.auto.out)

pub put_eights-requires : goal.put_eights-requires
put_eights-requires c =
    omega (arith, c.parts_of-parts.ensures.from, c.parts_of-parts.ensures.ordered, c.parts_of-parts.ensures.to, c.requires.len, c.clear_weights.auto.out, c.copy_weights.auto.out)

pub copy_weights-requires-2-clause-listed : goal.copy_weights-requires-2-clause-listed
copy_weights-requires-2-clause-listed c =
    let d = c.args.columns.blocks in
    omega (
      arith,
      c.listed_at-last.ensures,
      c.parts_of-parts.ensures.last_fits,
      c.requires.weights.whole,
      row_fits (c.args.run.i + c.args.run.count - 1) d.length d.count d.length (omega (arith, c.requires.some, c.requires.run)) (omega arith),
    )

pub copy_weights-requires-2-clause-inside : goal.copy_weights-requires-2-clause-inside
copy_weights-requires-2-clause-inside c =
    omega (arith, c.parts_of-parts.ensures.from, c.parts_of-parts.ensures.ordered, c.parts_of-parts.ensures.to, c.requires.len, c.clear_weights.auto.out, c.copy_weights.auto.out, c.put_eights.auto.out)

pub returns-clause-weight : goal.returns-clause-weight
returns-clause-weight c k l =
    let d = c.args.columns.blocks in
    let i = c.args.run.i in
    let n = c.args.run.count in
    let left = c.args.left in
    let single = c.parts_of-parts.result.single in
    let last = c.parts_of-parts.result.last in
    let h = c.parts_of-parts.ensures in
    elim (cases_lt k (single - left)) [
      | inl before ↦
          let at : 0 + k ≡ k = omega arith in
          let under : left + k < single = omega (arith, before) in
          c.copy_weights-2.ensures.before k (omega (arith, before, h.ordered)) ∙ c.put_eights.ensures.before k before ∙ ap (λ p. get_or c.copy_weights.new.out p 0) (sym at) ∙ c.copy_weights.ensures.done k before
          ∙ weight_listed d.count d.length d.separation i (left + k) (c.listed_at-first.result + k) c.args.columns.weights.now c.requires.weights (omega (arith, c.requires.some, c.requires.run)) (omega (arith, h.begun)) (omega (arith, under, h.single_fits))
          (omega (arith, c.listed_at-first.ensures, h.begun))
          ∙ sym (run_first d.count d.length d.separation i n (left + k) c.requires.some (h.first (left + k) under))
      | inr past ↦ elim (cases_lt k (last - left)) [
        | inl inside ↦
            let at : single - left + (k - (single - left)) ≡ k = omega (arith, past) in
            let from : single ≤ left + k = omega (arith, past, h.from) in
            let to : left + k < last = omega (arith, inside) in
            c.copy_weights-2.ensures.before k (omega (arith, inside, h.from, h.ordered)) ∙ ap (λ p. get_or c.put_eights.new.out p 0) (sym at) ∙ c.put_eights.ensures.done (k - (single - left)) (omega (arith, inside, past, h.from, h.ordered))
            ∙ sym (run_between d.count d.length d.separation i n (left + k) c.requires.overlap c.requires.some c.requires.run (omega (arith, l, c.requires.covers)) (h.between_from (left + k) from to) (h.between_to (left + k) from to))
        | inr behind ↦
            let at : single - left + (last - single) + (k - (last - left)) ≡ k = omega (arith, behind, h.from, h.ordered) in
            let from : last ≤ left + k = omega (arith, behind) in
            let to : left + k < c.args.right = omega (arith, l) in
            let begun = h.behind (left + k) from to in
            let begins = h.behind last (omega arith) (omega (arith, from, to)) in
            ap (λ p. get_or c.copy_weights-2.new.out p 0) (sym at) ∙ c.copy_weights-2.ensures.done (k - (last - left)) (omega (arith, behind, l, h.from, h.ordered, h.to))
            ∙ weight_listed d.count d.length d.separation (i + n - 1) (left + k) (c.listed_at-last.result + (k - (last - left))) c.args.columns.weights.now c.requires.weights (omega (arith, c.requires.some, c.requires.run)) (omega (arith, begun)) (omega (arith, to, c.requires.right))
            (omega (arith, c.listed_at-last.ensures, begins, behind, h.from, h.ordered))
            ∙ sym (run_last d.count d.length d.separation i n (left + k) c.requires.overlap c.requires.some begun)
      ]
    ]

pub returns-clause-past : goal.returns-clause-past
returns-clause-past c k l =
    let h = c.parts_of-parts.ensures in
    c.copy_weights-2.ensures.rest k (omega (arith, l, h.from, h.ordered, h.to)) ∙ c.put_eights.ensures.rest k (omega (arith, l, h.from, h.ordered, h.to)) ∙ c.copy_weights.ensures.rest k (omega (arith, l, h.from, h.ordered, h.to))
    ∙ c.clear_weights.ensures k

pub returns-clause-small : goal.returns-clause-small
returns-clause-small c k =
    let d = c.args.columns.blocks in
    elim (cases_lt k (c.args.right - c.args.left)) [
      | inl inside ↦
          omega (
            arith,
            returns-clause-weight c k inside,
            shares_small d.count d.length d.separation c.args.run.i c.args.run.count (c.args.left + k) c.requires.overlap (omega (arith, inside, c.requires.covers)) c.requires.run,
          )
      | inr past ↦ omega (arith, returns-clause-past c k past)
    ]
