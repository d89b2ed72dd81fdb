use Rattle.std.proofs.Common.{◌≡◌, drop, map, max}
use Rattle.dirac_edit_laws.specs.Joined.{keyed_from}
use Rattle.dirac_edit.specs.Merged.{above, below}
use Rattle.dirac_edit.proofs.keys.keys_of.Given as goal

abbrev pub invariant-loop-picture : goal.invariant-loop-picture
invariant-loop-picture l = record {
  above : max l.above (above (map (keyed_from l.first) (drop l.picture-index l.pictures))) ≡ above (map (keyed_from l.first) l.pictures);
  below : max l.below (below (map (keyed_from l.first) (drop l.picture-index l.pictures))) ≡ below (map (keyed_from l.first) l.pictures);
}
