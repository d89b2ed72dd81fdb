use Rattle.std.proofs.Common.{◌≡◌, ◌<◌, ◌^◌, pos, slice_index_or, unsigned_abs, rules, ap, ◌∙◌, arith}
use Rattle.std.specs.Int.{w128}
use Rattle.std.proofs.lemmas.Int.{to_z-of_z}
use mir.Val.{SFits}
use Rattle.dirac_analysis.proofs.Flatness.{bounds_more}
use Rattle.dirac_analysis.proofs.choosing.row_peak.Goals as goal
use Rattle.dirac_analysis.proofs.choosing.row_peak.Goals.{then-largest-magnitude, else-largest-magnitude}

pub loop-x-preserved : goal.loop-x-preserved
loop-x-preserved c =
    let old = c.loop-x.invariant in
    let value = slice_index_or c.args.row.now c.loop-x.x (pos 0) in
    let fits : SFits w128 value = search rules in
    let size : c.magnitude_of-magnitude.result ≡ unsigned_abs value = c.magnitude_of-magnitude.ensures ∙ ap unsigned_abs (to_z-of_z w128 value fits) in
    let small : unsigned_abs value < 2 ^ 38 = c.requires.magnitudes_below_2_38 c.loop-x.x (pos 0) (omega arith) in
    elim c.if-largest-magnitude.branch [
      | then-largest-magnitude w ↦
          record {
            above = omega (arith, old.above);
            below = omega (arith, size, small);
            bounds = bounds_more c.args.row.now c.args.left c.loop-x.x c.loop-x.largest c.if-largest-magnitude.largest (omega arith) (omega (arith, size)) old.bounds;
            least = λ limit l all. omega (arith, size, all c.loop-x.x (omega arith) (omega arith));
          }
      | else-largest-magnitude w ↦
          record {
            above = omega (arith, old.above);
            below = omega (arith, old.below);
            bounds = bounds_more c.args.row.now c.args.left c.loop-x.x c.loop-x.largest c.if-largest-magnitude.largest (omega arith) (omega (arith, size)) old.bounds;
            least = λ limit l all. omega (arith, old.least limit l all);
          }
    ]
