use Rattle.std.proofs.Common.{◌≡◌, ◌<◌, ℕ, Some, slice_get}
use Rattle.dirac_coeffs.specs.declared.layout.CodedBand.{CodedBand}
use Rattle.dirac_lift.specs.Zeros.{AreZeros}
use Rattle.dirac_synthesis.proofs.plane.have_zeros_alone.Given as goal

abbrev pub invariant-loop-n : goal.invariant-loop-n
invariant-loop-n l = (k : ℕ) (band : CodedBand) → k < l.n → slice_get l.bands k ≡ Some band → AreZeros band.table.values
