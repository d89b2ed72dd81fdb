use Rattle.std.proofs.Common.{ℕ, ℤ, ◌+◌, ◌-◌, ◌/◌, ap, min, ◌∙◌}
use Rattle.std.specs.Int.{w16}
use Rattle.std.proofs.lemmas.Int.{to_z-of_z}
use Rattle.dirac_upconvert.specs.HalfSamples.{row_doubled_at}
use Rattle.dirac_upconvert.proofs.Wholes.{half_told}
use Rattle.dirac_upconvert.proofs.whole_samples.WholeSamples.between.Goals as goal

pub returns-clause-value : goal.returns-clause-value
returns-clause-value c =
    let f : ℕ → ℤ = λ i. row_doubled_at c.args.self.now i c.args.y in
    to_z-of_z w16 _ (record { sfits = c.half_sample.type_inv }) ∙ c.half_sample.ensures.value
    ∙ half_told f (c.args.self.now.width - 1) c.args.x _ _ _ _ _ _ _ _ c.if-x-eq0.false
    (to_z-of_z w16 _ (record { sfits = c.between_rows-2.type_inv }) ∙ c.between_rows-2.ensures.value ∙ ap f c.saturating_sub.ensures)
    (to_z-of_z w16 _ (record { sfits = c.between_rows-3.type_inv }) ∙ c.between_rows-3.ensures.value ∙ ap f c.saturating_sub-2.ensures)
    (to_z-of_z w16 _ (record { sfits = c.between_rows-4.type_inv }) ∙ c.between_rows-4.ensures.value ∙ ap f c.saturating_sub-3.ensures)
    (to_z-of_z w16 _ (record { sfits = c.between_rows-5.type_inv }) ∙ c.between_rows-5.ensures.value)
    (to_z-of_z w16 _ (record { sfits = c.between_rows-6.type_inv }) ∙ c.between_rows-6.ensures.value ∙ ap f c.min.ensures ∙ ap (λ n. f (min (c.args.x / 2 + 1) (n - 1))) c.width-last.ensures.value)
    (to_z-of_z w16 _ (record { sfits = c.between_rows-7.type_inv }) ∙ c.between_rows-7.ensures.value ∙ ap f c.min-2.ensures ∙ ap (λ n. f (min (c.args.x / 2 + 2) (n - 1))) c.width-last.ensures.value)
    (to_z-of_z w16 _ (record { sfits = c.between_rows-8.type_inv }) ∙ c.between_rows-8.ensures.value ∙ ap f c.min-3.ensures ∙ ap (λ n. f (min (c.args.x / 2 + 3) (n - 1))) c.width-last.ensures.value)
    (to_z-of_z w16 _ (record { sfits = c.between_rows-9.type_inv }) ∙ c.between_rows-9.ensures.value ∙ ap f c.min-4.ensures ∙ ap (λ n. f (min (c.args.x / 2 + 4) (n - 1))) c.width-last.ensures.value)
