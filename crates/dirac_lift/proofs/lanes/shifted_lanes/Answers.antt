use Rattle.std.proofs.Common.{◌+ℤ◌, arith}
use Rattle.std.proofs.lemmas.Int.{ints}
use Rattle.dirac_lift.specs.Lanes.{lane}
use Rattle.dirac_lift.proofs.LaneLemmas.{bits_by, bits_shifted, fits_by, lanes_from, own_bits, shifts_fit, sum_fits}
use Rattle.dirac_lift.proofs.lanes.shifted_lanes.Goals as goal

pub overflow_add-result : goal.overflow_add-result
overflow_add-result c =
    fits_by (λ x y. x +ℤ y) _ _ _ _ (own_bits c.args.sum c.requires.lanes.0) (own_bits c.args.half c.requires.lanes.1)
    (λ j l. sum_fits (lane c.args.sum j) (lane c.args.half j) (c.requires.fits j l))

pub overflow_shr-result : goal.overflow_shr-result
overflow_shr-result c =
    shifts_fit _ _ _ _
    (bits_by (λ x y. x +ℤ y) _ _ _ _ (own_bits c.args.sum c.requires.lanes.0) (own_bits c.args.half c.requires.lanes.1) (λ j l. sum_fits (lane c.args.sum j) (lane c.args.half j) (c.requires.fits j l)))
    (own_bits c.args.bits c.requires.lanes.2) c.requires.bits

pub returns : goal.returns
returns c =
    lanes_from _ _ (bits_shifted _ _ _ _
    (bits_by (λ x y. x +ℤ y) _ _ _ _ (own_bits c.args.sum c.requires.lanes.0) (own_bits c.args.half c.requires.lanes.1) (λ j l. sum_fits (lane c.args.sum j) (lane c.args.half j) (c.requires.fits j l)))
    (own_bits c.args.bits c.requires.lanes.2) c.requires.bits (λ j l. omega (arith, ints, c.requires.fits j l)))
