use Rattle.std.proofs.Common.{◌≡◌, ◌-ℤ◌, ℤ, List, [], ◌∷◌, Some, None, refl, ap, sym, ◌∙◌, arith}
use Rattle.std.proofs.lemmas.Result.{on_ok_weaker}
use Rattle.dirac_arith.specs.Interval.{Decision, narrowed_by}
use Rattle.dirac_arith.specs.Spelling.{signed_spelling}
use Rattle.dirac_vectors.specs.Predictions.{dc_of}
use Rattle.dirac_blocks.specs.Decisions.{predicted}
use Rattle.dirac_blocks.specs.Parts.{dc_at}
use Rattle.dirac_blocks.proofs.UnitValues.{difference_fits, difference_passed, none_told, short_difference, some_told, widened}
use Rattle.dirac_blocks.proofs.unit_writer.write_dc.Goals as goal

pub returns-in-None : goal.returns-in-None
returns-in-None c =
    let t = c.args.table.now in
    let p = predicted dc_of (dc_at c.args.component t) c.args.i c.args.j in
    let none : dc_at c.args.component t c.args.i c.args.j ≡ None = sym c.dc.ensures.value ∙ c.in-None.is in
    none_told (34 ∷ 35 ∷ []) 36 37 p _ c.args.encoder.now none

pub returns-in-Some : goal.returns-in-Some
returns-in-Some c =
    let t = c.args.table.now in
    let v = c.in-Some.value in
    let q = c.predicted_dc-prediction.result in
    let p = predicted dc_of (dc_at c.args.component t) c.args.i c.args.j in
    let both = difference_passed c.from.result c.from-in-Some.result v q c.from.ensures c.from-in-Some.ensures (c.in-Some.ensures.short v refl) c.predicted_dc-prediction.ensures.short in
    let some : dc_at c.args.component t c.args.i c.args.j ≡ Some v = sym c.dc.ensures.value ∙ c.in-Some.is in
    let written = ap (λ (w : ℤ). signed_spelling (34 ∷ 35 ∷ []) 36 37 w) (both ∙ ap (λ (w : ℤ). v -ℤ w) c.predicted_dc-prediction.ensures.value) ∙ some_told (34 ∷ 35 ∷ []) 36 37 p v _ some in
    on_ok_weaker c.signed.result (λ e. e ∙ ap (λ (ds : List Decision). narrowed_by c.args.encoder.now ds) written) c.signed.ensures

pub overflow_sub-difference : goal.overflow_sub-difference
overflow_sub-difference c =
    let v = c.in-Some.value in
    let q = c.predicted_dc-prediction.result in
    let short = c.in-Some.ensures.short v refl in
    let near = c.predicted_dc-prediction.ensures.short in
    rw (widened c.from.result v c.from.ensures short, widened c.from-in-Some.result q c.from-in-Some.ensures near) (difference_fits v q short near)

pub signed-requires-clause-value : goal.signed-requires-clause-value
signed-requires-clause-value c =
    let v = c.in-Some.value in
    let q = c.predicted_dc-prediction.result in
    let short = c.in-Some.ensures.short v refl in
    let near = c.predicted_dc-prediction.ensures.short in
    rw (difference_passed c.from.result c.from-in-Some.result v q c.from.ensures c.from-in-Some.ensures short near) (short_difference v q short near)

pub predicted_dc-prediction-requires-clause-column : goal.predicted_dc-prediction-requires-clause-column
predicted_dc-prediction-requires-clause-column c = c.requires.column

pub predicted_dc-prediction-requires-clause-row : goal.predicted_dc-prediction-requires-clause-row
predicted_dc-prediction-requires-clause-row c = c.requires.row

pub dc-requires-clause-column : goal.dc-requires-clause-column
dc-requires-clause-column c = c.requires.column

pub dc-requires-clause-row : goal.dc-requires-clause-row
dc-requires-clause-row c = c.requires.row

pub signed-requires-clause-not_empty : goal.signed-requires-clause-not_empty
signed-requires-clause-not_empty c = omega arith

pub signed-requires-clause-follow : goal.signed-requires-clause-follow
signed-requires-clause-follow c = refl

pub signed-requires-clause-bits : goal.signed-requires-clause-bits
signed-requires-clause-bits c = omega arith

pub signed-requires-clause-sign : goal.signed-requires-clause-sign
signed-requires-clause-sign c = omega arith
