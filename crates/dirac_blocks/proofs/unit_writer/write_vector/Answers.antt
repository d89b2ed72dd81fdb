use Rattle.std.proofs.Common.{◌≡◌, ◌-ℤ◌, ℤ, List, [], ◌∷◌, Option, Some, None, ap, ap₂, sym, ◌∙◌, arith, refl}
use Rattle.std.specs.Prelude.{option_map}
use Rattle.std.proofs.lemmas.Result.{on_ok_weaker}
use Rattle.dirac_common.specs.declared.formats.Vector.{Vector}
use Rattle.dirac_arith.specs.Interval.{Decision, narrowed_by}
use Rattle.dirac_arith.specs.Spelling.{signed_spelling}
use Rattle.dirac_vectors.specs.Predictions.{vector_of}
use Rattle.dirac_blocks.specs.Decisions.{predicted}
use Rattle.dirac_blocks.specs.Parts.{component_along, vector_at}
use Rattle.dirac_blocks.proofs.UnitValues.{component_told, difference_fits, difference_passed, none_told, short_difference, some_told, widened}
use Rattle.dirac_blocks.proofs.unit_writer.write_vector.Goals as goal

pub returns-in-None : goal.returns-in-None
returns-in-None c =
    let t = c.args.table.now in
    let a = c.args.axis in
    let k = c.args.reference in
    let p = component_along a (predicted vector_of (vector_at k t) c.args.i c.args.j) in
    let none : vector_at k t c.args.i c.args.j ≡ None = sym c.vector.ensures.value ∙ c.in-None.is in
    none_told (27 ∷ 28 ∷ 29 ∷ 30 ∷ 31 ∷ []) 32 33 p _ c.args.encoder.now (ap (λ (o : Option Vector). option_map (component_along a) o) none)
    ∙ ap (λ (ds : List Decision). narrowed_by c.args.encoder.now ds) (sym (component_told a k t c.args.i c.args.j))

pub returns-in-Some : goal.returns-in-Some
returns-in-Some c =
    let t = c.args.table.now in
    let a = c.args.axis in
    let k = c.args.reference in
    let v = component_along a c.in-Some.v in
    let p = component_along a (predicted vector_of (vector_at k t) c.args.i c.args.j) in
    let both = difference_passed c.from.result c.from-in-Some.result c.component.result c.component-prediction.result c.from.ensures c.from-in-Some.ensures c.component.ensures.short c.component-prediction.ensures.short in
    let given : c.component-prediction.result ≡ p = c.component-prediction.ensures.value ∙ ap (component_along a) c.predicted_vector.ensures.value in
    let some : vector_at k t c.args.i c.args.j ≡ Some c.in-Some.v = sym c.vector.ensures.value ∙ c.in-Some.is in
    let told = some_told (27 ∷ 28 ∷ 29 ∷ 30 ∷ 31 ∷ []) 32 33 p v _ (ap (λ (o : Option Vector). option_map (component_along a) o) some) in
    let written = ap (λ (w : ℤ). signed_spelling (27 ∷ 28 ∷ 29 ∷ 30 ∷ 31 ∷ []) 32 33 w) (both ∙ ap₂ (λ (w q : ℤ). w -ℤ q) c.component.ensures.value given) ∙ told ∙ sym (component_told a k t c.args.i c.args.j) in
    on_ok_weaker c.signed.result (λ e. e ∙ ap (λ (ds : List Decision). narrowed_by c.args.encoder.now ds) written) c.signed.ensures

pub overflow_sub-difference : goal.overflow_sub-difference
overflow_sub-difference c =
    let v = c.component.result in
    let q = c.component-prediction.result in
    let short = c.component.ensures.short in
    let near = c.component-prediction.ensures.short in
    rw (widened c.from.result v c.from.ensures short, widened c.from-in-Some.result q c.from-in-Some.ensures near) (difference_fits v q short near)

pub signed-requires-clause-value : goal.signed-requires-clause-value
signed-requires-clause-value c =
    let v = c.component.result in
    let q = c.component-prediction.result in
    let short = c.component.ensures.short in
    let near = c.component-prediction.ensures.short in
    rw (difference_passed c.from.result c.from-in-Some.result v q c.from.ensures c.from-in-Some.ensures short near) (short_difference v q short near)

pub predicted_vector-requires-clause-column : goal.predicted_vector-requires-clause-column
predicted_vector-requires-clause-column c = c.requires.column

pub predicted_vector-requires-clause-row : goal.predicted_vector-requires-clause-row
predicted_vector-requires-clause-row c = c.requires.row

pub component-prediction-requires : goal.component-prediction-requires
component-prediction-requires c = c.predicted_vector.ensures.short

pub vector-requires-clause-column : goal.vector-requires-clause-column
vector-requires-clause-column c = c.requires.column

pub vector-requires-clause-row : goal.vector-requires-clause-row
vector-requires-clause-row c = c.requires.row

pub component-requires : goal.component-requires
component-requires c = c.in-Some.ensures.short c.in-Some.v refl

pub signed-requires-clause-not_empty : goal.signed-requires-clause-not_empty
signed-requires-clause-not_empty c = omega arith

pub signed-requires-clause-follow : goal.signed-requires-clause-follow
signed-requires-clause-follow c = refl

pub signed-requires-clause-bits : goal.signed-requires-clause-bits
signed-requires-clause-bits c = omega arith

pub signed-requires-clause-sign : goal.signed-requires-clause-sign
signed-requires-clause-sign c = omega arith
