use Rattle.std.proofs.Common.{◌≡◌, ◌+◌, ◌-◌, ◌*◌, length}
use Rattle.dirac_bits.specs.Syntax.{read}
use Rattle.dirac_picture.specs.Fits.{AreBands}
use Rattle.dirac_picture.specs.Grammar.{subbands_of_plane, bands_behind}
use Rattle.dirac_picture.proofs.plane.read_plane_bands.Given as goal

abbrev pub invariant-bands : goal.invariant-bands
invariant-bands l = record {
  count : length l.bands ≡ l.n;
  kept : l.r.bytes ≡ l.fn.r.bytes;
  lawful : AreBands l.transform l.width l.height l.bands;
  same : read (bands_behind l.transform l.width l.height l.bands (3 * l.transform.depth + 1 - l.n)) l.r ≡ read (subbands_of_plane l.transform l.width l.height) l.fn.r;
}
