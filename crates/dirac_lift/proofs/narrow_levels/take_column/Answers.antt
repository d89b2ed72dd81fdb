use Rattle.std.proofs.Common.{◌≡◌, rules, ◌+◌, ◌*◌, pos, slice_index_or, arith, ap, sym, ◌∙◌}
use Rattle.std.specs.Int.{w32}
use Rattle.std.proofs.Math.Nat.{add-mul}
use Rattle.std.proofs.lemmas.Int.{to_z-of_z}
use Rattle.std.proofs.lemmas.Nat.{mul-add-lt}
use mir.Val.{SFits}
use Rattle.dirac_lift.proofs.ColumnLemmas.{column_at, length-column}
use Rattle.dirac_lift.proofs.NarrowLevels.{taken_none, taken_more, taken_all}
use Rattle.dirac_lift.proofs.narrow_levels.take_column.Goals as goal

pub loop-n-init : goal.loop-n-init
loop-n-init c = taken_none _ _ _

pub bounds-values-first : goal.bounds-values-first
bounds-values-first c = omega (arith, c.requires.len, mul-add-lt (2 * c.loop-n.n) c.args.width c.args.x c.args.height (omega arith) c.requires.across)

pub bounds-values-first-in-loop-n : goal.bounds-values-first-in-loop-n
bounds-values-first-in-loop-n c =
    omega (arith, c.requires.len, add-mul (2 * c.loop-n.n) 1 c.args.width, mul-add-lt (2 * c.loop-n.n + 1) c.args.width c.args.x c.args.height (omega arith) c.requires.across)

pub loop-n-preserved : goal.loop-n-preserved
loop-n-preserved c =
    let xs = c.args.values.now in
    let w = c.args.width in
    let n = c.loop-n.n in
    let next : 2 * n * w + c.args.x + w ≡ (2 * n + 1) * w + c.args.x = omega (arith, add-mul (2 * n) 1 w) in
    let first : SFits w32 (slice_index_or xs (2 * n * w + c.args.x) (pos 0)) = search rules in
    let second : SFits w32 (slice_index_or xs (2 * n * w + c.args.x + w) (pos 0)) = search rules in
    rw (to_z-of_z w32 _ first, to_z-of_z w32 _ second)
    (taken_more _ _ _ n _ _ c.loop-n.invariant (omega arith) (omega arith)
    (sym (column_at xs w c.args.height c.args.x (2 * n) (omega arith)))
    (ap (λ i. slice_index_or xs i (pos 0)) next ∙ sym (column_at xs w c.args.height c.args.x (2 * n + 1) (omega arith))))

pub returns : goal.returns
returns c =
    taken_all _ _ _ c.loop-n.n c.loop-n.invariant (omega (arith, length-column c.args.values.now c.args.width c.args.height c.args.x)) (omega arith) (omega arith)
