use Rattle.std.proofs.Common.{◌≡◌, ◌-◌, ◌*◌, ◌^◌, arith, ap}
use Rattle.dirac_obmc.specs.Given.{compensation_of}
use Rattle.dirac_obmc.specs.Strips.{run_added_at}
use Rattle.dirac_obmc.proofs.AddLemmas.{part_shorter}
use Rattle.dirac_obmc.proofs.StripLemmas.{below_all, below_bounded, below_none, part_above, part_below, part_fits, part_low, part_row, part_small, part_weighed, weighed_none}
use Rattle.dirac_obmc.proofs.rows.add_rows.Goals as goal

pub loop-y-init : goal.loop-y-init
loop-y-init c = below_none _ _ _ (λ p l. part_above (compensation_of c.args.motion.now) c.args.lines.first c.args.lines.end c.args.part p c.requires.motion c.requires.part l)

pub overflow_sub-sums : goal.overflow_sub-sums
overflow_sub-sums c =
    omega (arith, part_fits (compensation_of c.args.motion.now) c.args.lines.first c.args.lines.end c.args.part c.loop-y.y c.requires.part (omega arith) (omega arith), c.requires.len, c.loop-y.invariant.len)

pub add_values-requires-clause-sums : goal.add_values-requires-clause-sums
add_values-requires-clause-sums c =
    below_bounded (run_added_at (compensation_of c.args.motion.now) c.args.lines.first c.args.part.run.j c.args.part.run.i c.args.part.run.count) _ (2 ^ 22) (2 ^ 22) (2 ^ 23) _ _ c.loop-y.invariant c.requires.sums
    (λ p l inside. part_small (compensation_of c.args.motion.now) c.args.lines c.args.part p c.requires.motion c.requires.sound c.requires.lines c.requires.part (omega (arith, inside, c.requires.len))) (omega arith)

pub add_values-requires-clause-inside : goal.add_values-requires-clause-inside
add_values-requires-clause-inside c =
    omega (arith, c.count_with_sums-count.ensures, part_fits (compensation_of c.args.motion.now) c.args.lines.first c.args.lines.end c.args.part c.loop-y.y c.requires.part (omega arith) (omega arith), c.requires.len, c.loop-y.invariant.len)

pub add_values-requires-clause-weighed : goal.add_values-requires-clause-weighed
add_values-requires-clause-weighed c =
    part_weighed (compensation_of c.args.motion.now) c.args.lines c.args.part c.loop-y.y _ c.requires.motion c.requires.sound c.requires.lines c.requires.part (omega arith) (omega arith) (omega (arith, c.count_with_sums-count.ensures))

pub loop-y-preserved : goal.loop-y-preserved
loop-y-preserved c =
    part_row (compensation_of c.args.motion.now) c.args.lines c.args.part c.loop-y.y _ _ _ c.requires.motion c.requires.lines c.requires.part (omega arith) (omega arith) c.loop-y.invariant
    (part_shorter _ _ (c.args.part.right - c.args.part.left) c.count_with_sums-count.result _ _ c.add_values.ensures
    (omega (arith, c.count_with_sums-count.ensures, c.requires.part.fits, part_fits (compensation_of c.args.motion.now) c.args.lines.first c.args.lines.end c.args.part c.loop-y.y c.requires.part (omega arith) (omega arith), c.requires.len, c.loop-y.invariant.len))
    (λ k past l. weighed_none _ k (c.requires.part.columns.past k past)))

pub bounds-lines-part : goal.bounds-lines-part
bounds-lines-part c = omega (arith, c.requires.lines.weights.whole, c.requires.part.rows.listed c.requires.part.some_rows)

pub overflow_sub-row : goal.overflow_sub-row
overflow_sub-row c = omega arith

pub overflow_sub-place : goal.overflow_sub-place
overflow_sub-place c = omega (arith, c.requires.part.rows.from)

pub overflow_mul-place : goal.overflow_mul-place
overflow_mul-place c = omega (arith, part_low (compensation_of c.args.motion.now) c.args.lines c.args.part c.loop-y.y c.requires.motion c.requires.lines c.requires.part (omega arith) (omega arith))

pub overflow_add-place : goal.overflow_add-place
overflow_add-place c = omega (arith, part_low (compensation_of c.args.motion.now) c.args.lines c.args.part c.loop-y.y c.requires.motion c.requires.lines c.requires.part (omega arith) (omega arith))

pub returns : goal.returns
returns c =
    let all : c.loop-y.y ≡ c.args.part.down.end = omega arith in
    below_all _ _ _ _ _ c.loop-y.invariant
    (λ p past l. part_below (compensation_of c.args.motion.now) c.args.lines.first c.args.lines.end c.args.part p c.requires.motion c.requires.part
    (omega (arith, past, ap (λ n. (n - c.args.lines.first) * c.args.motion.now.width) all)) l)
