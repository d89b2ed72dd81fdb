use Rattle.std.proofs.Common.{◌≡◌, ◌*◌, ◌/◌, ◌∙◌, ℤ, FitsSigned, ap, of_z, subst, sym, to_z, unsigned_abs}
use Rattle.std.specs.Int.{w32, w64}
use Rattle.std.proofs.lemmas.Int.{to_z-of_z}
use Rattle.dirac_quant.specs.Quantiser.{with_sign_of}
use Rattle.dirac_quant.proofs.Signs.{reduced_fits}
use Rattle.dirac_quant.proofs.quantiser.reduce_narrow.Goals as goal

pub overflow_cast-result : goal.overflow_cast-result
overflow_cast-result c =
    let wide : to_z w64 (of_z w64 c.from.result) ≡ c.args.value = to_z-of_z w64 _ (record { sfits = c.from.type_inv }) ∙ c.from.ensures ∙ to_z-of_z w32 c.args.value c.ranges.value in
    let is = to_z-of_z w64 _ (record { sfits = c.reduce_at.type_inv }) ∙ c.reduce_at.ensures ∙ ap (λ (v : ℤ). with_sign_of v (4 * unsigned_abs v / c.args.factor)) wide in
    subst (FitsSigned w32) (sym is) (reduced_fits c.args.value c.args.factor c.requires.factor c.ranges.value)

pub returns : goal.returns
returns c =
    let wide : to_z w64 (of_z w64 c.from.result) ≡ c.args.value = to_z-of_z w64 _ (record { sfits = c.from.type_inv }) ∙ c.from.ensures ∙ to_z-of_z w32 c.args.value c.ranges.value in
    let is = to_z-of_z w64 _ (record { sfits = c.reduce_at.type_inv }) ∙ c.reduce_at.ensures ∙ ap (λ (v : ℤ). with_sign_of v (4 * unsigned_abs v / c.args.factor)) wide in
    to_z-of_z w32 _ (subst (FitsSigned w32) (sym is) (reduced_fits c.args.value c.args.factor c.requires.factor c.ranges.value)) ∙ is
