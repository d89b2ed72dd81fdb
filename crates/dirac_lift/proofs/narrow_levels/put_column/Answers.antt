use Rattle.std.proofs.Common.{rules, ℤ, ◌+◌, ◌*◌, pos, slice_index_or, arith}
use Rattle.std.specs.Int.{w32}
use Rattle.std.proofs.Math.Nat.{add-mul}
use Rattle.std.proofs.lemmas.Int.{to_z-of_z}
use Rattle.std.proofs.lemmas.List.{length-set}
use Rattle.std.proofs.lemmas.Nat.{mul-add-lt}
use mir.Val.{SFits}
use Rattle.dirac_lift.proofs.NarrowLevels.{put_all, put_more, put_none}
use Rattle.dirac_lift.proofs.narrow_levels.put_column.Goals as goal

pub loop-n-init : goal.loop-n-init
loop-n-init c = put_none _ _ _ _ _ _

pub bounds-values-first : goal.bounds-values-first
bounds-values-first c = omega (arith, c.requires.len, c.loop-n.invariant.len, mul-add-lt (2 * c.loop-n.n) c.args.width c.args.x c.args.height (omega arith) c.requires.across)

pub bounds-values-first-in-loop-n : goal.bounds-values-first-in-loop-n
bounds-values-first-in-loop-n c =
    omega (arith, c.requires.len, c.loop-n.invariant.len, length-set {A = ℤ}, add-mul (2 * c.loop-n.n) 1 c.args.width, mul-add-lt (2 * c.loop-n.n + 1) c.args.width c.args.x c.args.height (omega arith) c.requires.across)

pub loop-n-preserved : goal.loop-n-preserved
loop-n-preserved c =
    let low : SFits w32 (slice_index_or c.args.low.now c.loop-n.n (pos 0)) = search rules in
    let high : SFits w32 (slice_index_or c.args.high.now c.loop-n.n (pos 0)) = search rules in
    rw (to_z-of_z w32 _ low, to_z-of_z w32 _ high) (put_more _ _ _ c.loop-n.n _ _ _ _ c.loop-n.invariant c.requires.len c.requires.across (omega arith))

pub returns-clause-put : goal.returns-clause-put
returns-clause-put c whole a = put_all _ _ _ c.loop-n.n _ _ _ _ whole c.loop-n.invariant c.requires.low (omega arith) a
