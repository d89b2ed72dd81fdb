use Rattle.std.proofs.Common.{◌≡◌, pos, ◌+◌, ◌*◌, ◌≤◌, length, get_or, arith, refl, inl, inr, ap, ◌∙◌}
use Rattle.std.proofs.lemmas.Bool.{cases_eq, cases_lt}
use Rattle.std.proofs.lemmas.Nat.{row_fits}
use Rattle.dirac_upconvert.proofs.Lanes.{row_below, row_inside}
use Rattle.dirac_upconvert.proofs.rows.eight_columns.Goals as goal

pub loop-j-init : goal.loop-j-init
loop-j-init c = record { eight = λ j k a b. absurd (omega (arith, a)); before = λ j k l. refl }

pub put-requires : goal.put-requires
put-requires c = omega (arith, row_inside (length c.args.out.now) c.args.width c.loop-j.j c.loop-j-test.true, c.loop-j.auto.out, c.row_parts.auto.out, c.requires.columns)

pub loop-j-preserved : goal.loop-j-preserved
loop-j-preserved c =
    let w = c.args.width in
    let first = c.args.first in
    let n = c.loop-j.j in
    let row = row_below c.args.table.now c.args.from c.lower.result n c.row_parts.new.out c.lower.ensures.rests c.lower.ensures.across c.lower.ensures.down c.row_parts.ensures in
    record {
      eight = λ j k a b. elim (cases_eq j n) [
        | inl here ↦
            let at : j * w + (first + k) ≡ n * w + first + k = omega (arith, ap (λ i. i * w) here) in
            ap (λ i. get_or c.put.new.out i (pos 0)) at ∙ c.put.ensures.put.value k (omega (arith, b, c.row_parts.auto.out)) ∙ row k (omega (arith, b, c.row_parts.auto.out)) ∙ rw here refl
        | inr other ↦
            let above : j * w + w ≤ n * w = row_fits j w n w (omega (arith, a, other)) (omega arith) in
            c.put.ensures.put.kept (j * w + (first + k)) (omega (arith, above, b, c.requires.columns)) ∙ c.loop-j.invariant.eight j k (omega (arith, a, other)) b
      ];
      before = λ j k l. elim (cases_lt n j) [
        | inl past ↦
            let below : n * w + w ≤ j * w = row_fits n w j w past (omega arith) in
            c.put.ensures.behind (j * w + k) (omega (arith, below, c.requires.columns, c.row_parts.auto.out)) ∙ c.loop-j.invariant.before j k l
        | inr upto ↦ elim (cases_eq j n) [
          | inl here ↦ c.put.ensures.put.kept (j * w + k) (omega (arith, ap (λ i. i * w) here, l)) ∙ c.loop-j.invariant.before j k l
          | inr other ↦
              let above : j * w + w ≤ n * w = row_fits j w n w (omega (arith, upto, other)) (omega arith) in
              c.put.ensures.put.kept (j * w + k) (omega (arith, above, l, c.requires.columns)) ∙ c.loop-j.invariant.before j k l
        ]
      ];
    }

pub returns-clause-eight : goal.returns-clause-eight
returns-clause-eight c j k a b = c.loop-j.invariant.eight j k (omega (arith, a, c.loop-j-test.false, c.loop-j.auto.out)) b

pub returns-clause-before : goal.returns-clause-before
returns-clause-before c = c.loop-j.invariant.before
