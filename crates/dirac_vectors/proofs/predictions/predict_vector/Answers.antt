use Rattle.std.proofs.Common.{rules, ◌≡◌, ℤ, refl, ap₂, ◌∙◌}
use Rattle.std.specs.Prelude.{option_map}
use Rattle.dirac_vectors.proofs.Means.{passed}
use Rattle.dirac_vectors.proofs.predictions.predict_vector.Goals as goal

pub returns-clause-value : goal.returns-clause-value
returns-clause-value c =
    let left_x : c.map.result ≡ option_map (λ v. v.x) c.args.left = search rules in
    let above_x : c.map-2.result ≡ option_map (λ v. v.x) c.args.above = search rules in
    let corner_x : c.map-3.result ≡ option_map (λ v. v.x) c.args.corner = search rules in
    let left_y : c.map-4.result ≡ option_map (λ v. v.y) c.args.left = search rules in
    let above_y : c.map-5.result ≡ option_map (λ v. v.y) c.args.above = search rules in
    let corner_y : c.map-6.result ≡ option_map (λ v. v.y) c.args.corner = search rules in
    let x = passed c.predict_component.result c.predict_component.ensures.short ∙ c.predict_component.ensures.value ∙ rw (left_x, above_x, corner_x) refl in
    let y = passed c.predict_component-2.result c.predict_component-2.ensures.short ∙ c.predict_component-2.ensures.value ∙ rw (left_y, above_y, corner_y) refl in
    ap₂ (λ (a b : ℤ). record { x = a; y = b }) x y
