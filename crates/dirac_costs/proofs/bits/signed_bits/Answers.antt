use Rattle.std.proofs.Common.{◌≡◌, ◌+◌, ◌≤◌, ◌<◌, ◌^◌, ap, arith, sym, ◌∙◌, unsigned_abs, suc, add-one}
use Rattle.std.specs.Int.{w32}
use Rattle.std.proofs.lemmas.Int.{to_z-of_z}
use Rattle.dirac_costs.proofs.Spelt.{sint_count, sint_of_none, digits_few}
use Rattle.dirac_costs.proofs.bits.signed_bits.Goals as goal

pub returns-then-magnitude-eq0-clause-value : goal.returns-then-magnitude-eq0-clause-value
returns-then-magnitude-eq0-clause-value c =
    let magnitude : unsigned_abs c.args.value ≡ c.unsigned_abs-magnitude.result = ap unsigned_abs (sym (to_z-of_z w32 c.args.value c.ranges.value)) ∙ sym c.unsigned_abs-magnitude.ensures.value in
    sint_of_none c.args.value (omega (arith, magnitude, c.if-magnitude-eq0.true))

pub returns-clause-value : goal.returns-clause-value
returns-clause-value c =
    let magnitude : unsigned_abs c.args.value ≡ c.unsigned_abs-magnitude.result = ap unsigned_abs (sym (to_z-of_z w32 c.args.value c.ranges.value)) ∙ sym c.unsigned_abs-magnitude.ensures.value in
    let least : 2 ^ c.ilog2-digits.result ≤ unsigned_abs c.args.value + 1 = omega (arith, magnitude, c.ilog2-digits.ensures.power_le, c.from.ensures) in
    let power : 2 ^ (c.ilog2-digits.result + 1) ≡ 2 ^ suc c.ilog2-digits.result = ap (λ k. 2 ^ k) (add-one c.ilog2-digits.result) in
    let above : unsigned_abs c.args.value + 1 < 2 ^ (c.ilog2-digits.result + 1) = omega (arith, magnitude, power, c.ilog2-digits.ensures.next_power_gt, c.from.ensures) in
    sint_count c.args.value c.ilog2-digits.result (omega (arith, magnitude, c.if-magnitude-eq0.false)) least above
    (digits_few (unsigned_abs c.args.value + 1) c.ilog2-digits.result least (omega (arith, c.unsigned_abs-magnitude.ensures.bound, magnitude)))
