use Rattle.std.proofs.Common.{◌≡◌, ◌+ℤ◌, pos, to_z, of_z, arith, refl, ap, ◌∙◌}
use Rattle.std.specs.Int.{w16, int_shr}
use Rattle.std.proofs.lemmas.Int.{ints, to_z-of_z}
use Rattle.dirac_common.specs.Samples.{clip}
use Rattle.dirac_upconvert.specs.HalfSamples.{half_between, weighted_pairs}
use Rattle.dirac_upconvert.proofs.half_sample.half_sample.Goals as goal

pub returns-clause-value : goal.returns-clause-value
unfolding half_between
returns-clause-value c =
    let first : to_z w16 (of_z w16 c.pair_sum.result) ≡ c.args.of.a0 +ℤ c.args.of.b0 = omega (arith, ints, c.pair_sum.ensures.value) in
    let second : to_z w16 (of_z w16 c.pair_sum-2.result) ≡ c.args.of.a1 +ℤ c.args.of.b1 = omega (arith, ints, c.pair_sum-2.ensures.value) in
    let third : to_z w16 (of_z w16 c.pair_sum-3.result) ≡ c.args.of.a2 +ℤ c.args.of.b2 = omega (arith, ints, c.pair_sum-3.ensures.value) in
    let fourth : to_z w16 (of_z w16 c.pair_sum-4.result) ≡ c.args.of.a3 +ℤ c.args.of.b3 = omega (arith, ints, c.pair_sum-4.ensures.value) in
    let sum : to_z w16 (of_z w16 c.whole_sum.result) ≡ weighted_pairs (c.args.of.a0 +ℤ c.args.of.b0) (c.args.of.a1 +ℤ c.args.of.b1) (c.args.of.a2 +ℤ c.args.of.b2) (c.args.of.a3 +ℤ c.args.of.b3) +ℤ pos 16 =
    to_z-of_z w16 _ (record { sfits = c.whole_sum.type_inv }) ∙ c.whole_sum.ensures.value ∙ rw (first, second, third, fourth) refl in
    to_z-of_z w16 _ (record { sfits = c.clip.type_inv }) ∙ c.clip.ensures.value
    ∙ ap clip (to_z-of_z w16 _ (record { sfits = c.shifted.type_inv }) ∙ c.shifted.ensures ∙ ap (λ z. int_shr z 5) sum)
