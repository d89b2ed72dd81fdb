use Rattle.std.proofs.Common.{refl}
use Rattle.dirac_bits.proofs.Fronts.{on_err, none_stand, still_stand}
use Rattle.dirac_header.specs.Written.{counts_bits}
use Rattle.dirac_header.proofs.TransformSpelled.{level_written, level_begun, level_ended}
use Rattle.dirac_header.proofs.write.write_counts.Goals as goal

pub levels-init : goal.levels-init
levels-init c = (refl, none_stand (counts_bits c.args.counts.now) refl)

pub returns-in_err-uint-clause-front : goal.returns-in_err-uint-clause-front
returns-in_err-uint-clause-front c = on_err _ (still_stand c.levels.invariant.1 c.in_err-uint.ensures.err)

pub returns-in_err-uint-2-clause-front : goal.returns-in_err-uint-2-clause-front
returns-in_err-uint-2-clause-front c =
    let begun =
    level_begun c.args.w.now c.levels.w c.uint.new.self _ c.args.counts.now c.levels.level c.at-across.result c.levels.invariant.0 c.levels.invariant.1
    c.at-across.ensures (rw c.from.ensures at c.in_ok-uint.ensures.ok) in
    on_err _ (still_stand begun c.in_err-uint-2.ensures.err)

pub levels-preserved : goal.levels-preserved
levels-preserved c = (
  level_written c.levels.w c.uint.new.self c.uint-in-levels.new.self _ c.args.counts.now c.levels.level c.at-across.result c.levels.invariant.0
      c.at-across.ensures (rw c.from.ensures at c.in_ok-uint.ensures.ok) (rw c.from-in-levels.ensures at c.in_ok-uint-2.ensures.ok),
  level_ended c.args.w.now c.levels.w c.uint.new.self c.uint-in-levels.new.self _ c.args.counts.now c.levels.level c.at-across.result c.levels.invariant.0
      c.levels.invariant.1 c.at-across.ensures (rw c.from.ensures at c.in_ok-uint.ensures.ok) (rw c.from-in-levels.ensures at c.in_ok-uint-2.ensures.ok),
)
