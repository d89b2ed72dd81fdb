use Rattle.std.proofs.Common.{◌≡◌}
use Rattle.dirac_common.specs.declared.formats.Vector.{Vector}
use Rattle.dirac_inside.specs.Inside.{all_below}
use Rattle.dirac_inside.specs.Ranges.{IsBounded, IsRange, is_in}
use Rattle.dirac_decide.specs.Given.{deciding_of}
use Rattle.dirac_decide.specs.Units.{block_keeps}
use Rattle.dirac_decide.proofs.inside.unit_range.Given as goal

abbrev pub invariant-loop-k : goal.invariant-loop-k
invariant-loop-k l = record {
  inside : (v : Vector) → IsBounded v → is_in l.range v ≡ all_below (block_keeps (deciding_of l.inputs) l.unit v) l.k;
  range : IsRange l.range;
}
