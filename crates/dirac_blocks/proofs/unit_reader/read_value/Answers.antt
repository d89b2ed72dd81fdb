use Rattle.std.proofs.Common.{arith, refl, ◌≡◌, true, false, ℤ, ap, subst, sym, to_z, of_z, w32, ◌+ℤ◌, ◌∙◌}
use Rattle.std.proofs.lemmas.Int.{to_z-of_z}
use Rattle.dirac_vectors.specs.Neighbours.{IsShort}
use Rattle.dirac_blocks.specs.Grammar.{has_16_bits}
use Rattle.dirac_blocks.proofs.UnitValues.{number_passed, short_fits, sum_fits, sum_passed, value_found, value_refused, widened}
use Rattle.dirac_blocks.proofs.unit_reader.read_value.Goals as goal

pub overflow_add-value : goal.overflow_add-value
overflow_add-value c =
    let number = number_passed c.in-Ok.number c.in-Ok.ensures.below_2_39 in
    let prediction = widened c.from.result c.args.prediction c.from.ensures c.requires.prediction in
    rw (number, prediction) (sum_fits c.in-Ok.number c.args.prediction c.in-Ok.ensures.below_2_39 c.requires.prediction)

pub signed-requires-clause-not_empty : goal.signed-requires-clause-not_empty
signed-requires-clause-not_empty c = c.requires.not_empty

pub signed-requires-clause-follow : goal.signed-requires-clause-follow
signed-requires-clause-follow c = c.requires.follow

pub signed-requires-clause-bits : goal.signed-requires-clause-bits
signed-requires-clause-bits c = c.requires.bits

pub signed-requires-clause-sign : goal.signed-requires-clause-sign
signed-requires-clause-sign c = c.requires.sign

pub signed-requires-clause-no_overflow : goal.signed-requires-clause-no_overflow
signed-requires-clause-no_overflow c = c.requires.no_overflow

pub overflow_cast-result : goal.overflow_cast-result
overflow_cast-result c =
    let both = sum_passed c.in-Ok.number c.from.result c.args.prediction c.in-Ok.ensures.below_2_39 c.from.ensures c.requires.prediction in
    rw both (short_fits (c.in-Ok.number +ℤ c.args.prediction) (subst IsShort both (c.fits.ensures.short c.if-fits.true)))

pub returns-then-fits-clause-value : goal.returns-then-fits-clause-value
returns-then-fits-clause-value c =
    let both = sum_passed c.in-Ok.number c.from.result c.args.prediction c.in-Ok.ensures.below_2_39 c.from.ensures c.requires.prediction in
    let few : IsShort (c.in-Ok.number +ℤ c.args.prediction) = subst IsShort both (c.fits.ensures.short c.if-fits.true) in
    let is = ap (λ (z : ℤ). to_z w32 (of_z w32 z)) both ∙ to_z-of_z w32 (c.in-Ok.number +ℤ c.args.prediction) (short_fits _ few) in
    let short : has_16_bits (c.in-Ok.number +ℤ c.args.prediction) ≡ true = ap has_16_bits (sym both) ∙ sym c.fits.ensures.value ∙ c.if-fits.true in
    value_found c.args.cause c.args.follow.now c.args.bits c.args.sign c.args.prediction c.in-Ok.number _ c.args.decoder.now c.signed.new.self c.in-Ok.ensures.read is short

pub returns-then-fits-clause-short : goal.returns-then-fits-clause-short
returns-then-fits-clause-short c =
    let both = sum_passed c.in-Ok.number c.from.result c.args.prediction c.in-Ok.ensures.below_2_39 c.from.ensures c.requires.prediction in
    let few : IsShort (c.in-Ok.number +ℤ c.args.prediction) = subst IsShort both (c.fits.ensures.short c.if-fits.true) in
    let is = ap (λ (z : ℤ). to_z w32 (of_z w32 z)) both ∙ to_z-of_z w32 (c.in-Ok.number +ℤ c.args.prediction) (short_fits _ few) in
    subst IsShort (sym is) few

pub returns-else-fits-clause-value : goal.returns-else-fits-clause-value
returns-else-fits-clause-value c =
    let both = sum_passed c.in-Ok.number c.from.result c.args.prediction c.in-Ok.ensures.below_2_39 c.from.ensures c.requires.prediction in
    let long : has_16_bits (c.in-Ok.number +ℤ c.args.prediction) ≡ false = ap has_16_bits (sym both) ∙ sym c.fits.ensures.value ∙ c.if-fits.false in
    value_refused c.args.cause c.args.follow.now c.args.bits c.args.sign c.args.prediction c.in-Ok.number c.args.decoder.now c.signed.new.self c.in-Ok.ensures.read long

pub returns-in-Err-clause-value : goal.returns-in-Err-clause-value
returns-in-Err-clause-value c = rw c.in-Err.ensures.read refl

pub returns-then-fits-clause-few_doublings : goal.returns-then-fits-clause-few_doublings
returns-then-fits-clause-few_doublings c = omega (arith, c.signed.ensures.few_doublings)

pub returns-else-fits-clause-few_doublings : goal.returns-else-fits-clause-few_doublings
returns-else-fits-clause-few_doublings c = omega (arith, c.signed.ensures.few_doublings)

pub returns-in-Err-clause-few_doublings : goal.returns-in-Err-clause-few_doublings
returns-in-Err-clause-few_doublings c = omega (arith, c.signed.ensures.few_doublings)
