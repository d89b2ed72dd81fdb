use Rattle.std.proofs.Common.{◌≡◌, ℤ, pos, to_z, of_z, refl, arith, ◌∙◌, sym, subst}
use Rattle.std.specs.Int.{int_div_euclid, w16, w32}
use Rattle.std.proofs.lemmas.Int.{ints}
use Rattle.dirac_upconvert.specs.HalfSamples.{IsSample}
use Rattle.dirac_costs.proofs.means.quotient.Goals as goal

same : (a b c d : ℤ) → a ≡ c → b ≡ d → int_div_euclid a b ≡ int_div_euclid c d
same a b c d e f = rw (e, f) refl

passed : (r : ℤ) → IsSample r → to_z w16 (of_z w16 (to_z w32 (of_z w32 r))) ≡ r
passed r h = omega (arith, ints, h.least, h.most)

pub returns-clause-value : goal.returns-clause-value
returns-clause-value c =
    let is : c.div_euclid.result ≡ int_div_euclid c.args.sum (pos c.args.parts) =
    c.div_euclid.ensures ∙ same (to_z w32 (of_z w32 c.args.sum)) (to_z w32 c.args.parts) c.args.sum (pos c.args.parts) (omega (arith, ints)) (omega (arith, ints)) in
    let sample : IsSample c.div_euclid.result = subst (λ (z : ℤ). IsSample z) (sym is) c.requires.sample in
    passed c.div_euclid.result sample ∙ is

pub returns-clause-sample : goal.returns-clause-sample
returns-clause-sample c =
    let is : c.div_euclid.result ≡ int_div_euclid c.args.sum (pos c.args.parts) =
    c.div_euclid.ensures ∙ same (to_z w32 (of_z w32 c.args.sum)) (to_z w32 c.args.parts) c.args.sum (pos c.args.parts) (omega (arith, ints)) (omega (arith, ints)) in
    let sample : IsSample c.div_euclid.result = subst (λ (z : ℤ). IsSample z) (sym is) c.requires.sample in
    subst (λ (z : ℤ). IsSample z) (sym (passed c.div_euclid.result sample)) sample
