use Rattle.std.proofs.Common.{◌≡◌, ℕ, ◌+◌, ◌<◌, pos}
use Rattle.dirac_coeffs.specs.Contexts.{band_value}
use Rattle.dirac_coeffs.specs.Lent.{numbers_in}
use Rattle.dirac_coeffs.proofs.zeros.has_zeros_alone.Given as goal

abbrev pub invariant-rows : goal.invariant-rows
invariant-rows l = (k : ℕ) → k < l.j → (i : ℕ) → i < l.columns.length → band_value l.band.layout.width (numbers_in l.band.values) (l.columns.start + i) (l.rows.start + k) ≡ pos 0

abbrev pub invariant-values : goal.invariant-values
invariant-values l = (k : ℕ) → k < l.i → band_value l.band.layout.width (numbers_in l.band.values) (l.columns.start + k) (l.rows.start + l.j) ≡ pos 0
