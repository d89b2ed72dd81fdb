use Rattle.std.proofs.Common.{◌≡◌, ℤ, Result, true, false, ap, ◌∙◌, subst, sym, to_z, of_z, w32, Ok, Err, arith, refl}
use Rattle.dirac_common.specs.declared.faults.Cause.{Cause}
use Rattle.dirac_arith.specs.Coded.{Coded, read_coded}
use Rattle.dirac_arith.specs.Reading.{Reading}
use Rattle.dirac_vectors.proofs.Means.{passed}
use Rattle.dirac_vectors.specs.Neighbours.{IsShort}
use Rattle.dirac_vectors.specs.Predictions.{vector_of}
use Rattle.dirac_block_table.specs.declared.block.Block.{Block}
use Rattle.dirac_blocks.specs.Decisions.{predicted}
use Rattle.dirac_blocks.specs.Grammar.{component_coded, uses, with_component}
use Rattle.dirac_blocks.specs.Parts.{component_along, vector_at}
use Rattle.dirac_block_table.specs.Tables.{IsBlock, block_at}
use Rattle.dirac_blocks.proofs.UnitValues.{component_is, component_lawful, into_found, into_none, into_refused}
use Rattle.dirac_blocks.proofs.unit_reader.read_vector.Goals as goal

pub returns-in-Ok-clause-value : goal.returns-in-Ok-clause-value
returns-in-Ok-clause-value c =
    let t = c.args.table.now in
    let a = c.args.axis in
    let k = c.args.reference in
    let b = block_at t c.args.i c.args.j in
    let v = c.in-Ok.value in
    let old = c.args.decoder.now in
    let new = c.read_value.new.decoder in
    let p = component_along a (predicted vector_of (vector_at k t) c.args.i c.args.j) in
    let used : uses k b ≡ true = ap (uses k) (sym c.at-block.ensures.value) ∙ sym c.has_reference.ensures ∙ c.if-not-has_reference.false in
    let stored = passed v c.in-Ok.ensures.short in
    let given : to_z w32 (of_z w32 c.component-prediction.result) ≡ p = passed _ c.component-prediction.ensures.short ∙ c.component-prediction.ensures.value ∙ ap (component_along a) c.predicted_vector.ensures.value in
    let found : read_coded (component_coded p) old ≡ Ok (v, new) = subst (λ (q : ℤ). read_coded (component_coded q) old ≡ Ok (v, new)) given c.in-Ok.ensures.value in
    let put : c.set_component.result ≡ with_component a k b v =
    c.set_component.ensures ∙ ap (λ (x : Block). with_component a k x (to_z w32 (of_z w32 v))) c.at-block.ensures.value ∙ ap (λ (w : ℤ). with_component a k b w) stored in
    ap (λ (s : Coded Block). read_coded s old) (component_is a k t c.args.i c.args.j)
    ∙ into_found (uses k b) b (with_component a k) (component_coded p) old new v used found
    ∙ ap (λ (x : Block). let q : Result (Block × Reading) Cause = Ok (x, new) in q) (sym put)

pub returns-in-Err-clause-value : goal.returns-in-Err-clause-value
returns-in-Err-clause-value c =
    let t = c.args.table.now in
    let a = c.args.axis in
    let k = c.args.reference in
    let b = block_at t c.args.i c.args.j in
    let old = c.args.decoder.now in
    let p = component_along a (predicted vector_of (vector_at k t) c.args.i c.args.j) in
    let used : uses k b ≡ true = ap (uses k) (sym c.at-block.ensures.value) ∙ sym c.has_reference.ensures ∙ c.if-not-has_reference.false in
    let given : to_z w32 (of_z w32 c.component-prediction.result) ≡ p = passed _ c.component-prediction.ensures.short ∙ c.component-prediction.ensures.value ∙ ap (component_along a) c.predicted_vector.ensures.value in
    ap (λ (s : Coded Block). read_coded s old) (component_is a k t c.args.i c.args.j)
    ∙ into_refused (uses k b) b (with_component a k) (component_coded p) old c.in-Err.e used
    (subst (λ (q : ℤ). read_coded (component_coded q) old ≡ Err c.in-Err.e) given c.in-Err.ensures.value)

pub returns-in-Ok-clause-block : goal.returns-in-Ok-clause-block
returns-in-Ok-clause-block c =
    let refs = c.args.table.now.refs in
    let a = c.args.axis in
    let k = c.args.reference in
    let b = c.at-block.result in
    let v = c.in-Ok.value in
    let used : uses k b ≡ true = sym c.has_reference.ensures ∙ c.if-not-has_reference.false in
    let stored = passed v c.in-Ok.ensures.short in
    let short : IsShort (to_z w32 (of_z w32 v)) = subst IsShort (sym stored) c.in-Ok.ensures.short in
    subst (IsBlock refs) (sym c.set_component.ensures) (component_lawful refs a k b (to_z w32 (of_z w32 v)) c.at-block.ensures.block used short)

pub returns-then-not-has_reference-clause-value : goal.returns-then-not-has_reference-clause-value
returns-then-not-has_reference-clause-value c =
    let t = c.args.table.now in
    let a = c.args.axis in
    let k = c.args.reference in
    let b = block_at t c.args.i c.args.j in
    let old = c.args.decoder.now in
    let p = component_along a (predicted vector_of (vector_at k t) c.args.i c.args.j) in
    let unused : uses k b ≡ false = ap (uses k) (sym c.at-block.ensures.value) ∙ sym c.has_reference.ensures ∙ c.if-not-has_reference.true in
    ap (λ (s : Coded Block). read_coded s old) (component_is a k t c.args.i c.args.j)
    ∙ into_none (uses k b) b (with_component a k) (component_coded p) old unused
    ∙ ap (λ (x : Block). let q : Result (Block × Reading) Cause = Ok (x, old) in q) (sym c.at-block.ensures.value)

pub at-block-requires-clause-across : goal.at-block-requires-clause-across
at-block-requires-clause-across c = c.requires.column

pub at-block-requires-clause-down : goal.at-block-requires-clause-down
at-block-requires-clause-down c = c.requires.row

pub predicted_vector-requires-clause-column : goal.predicted_vector-requires-clause-column
predicted_vector-requires-clause-column c = c.requires.column

pub predicted_vector-requires-clause-row : goal.predicted_vector-requires-clause-row
predicted_vector-requires-clause-row c = c.requires.row

pub component-prediction-requires : goal.component-prediction-requires
component-prediction-requires c = c.predicted_vector.ensures.short

pub read_value-requires-clause-not_empty : goal.read_value-requires-clause-not_empty
read_value-requires-clause-not_empty c = omega arith

pub read_value-requires-clause-follow : goal.read_value-requires-clause-follow
read_value-requires-clause-follow c = refl

pub read_value-requires-clause-bits : goal.read_value-requires-clause-bits
read_value-requires-clause-bits c = omega arith

pub read_value-requires-clause-sign : goal.read_value-requires-clause-sign
read_value-requires-clause-sign c = omega arith

pub read_value-requires-clause-prediction : goal.read_value-requires-clause-prediction
read_value-requires-clause-prediction c = subst IsShort (sym (passed _ c.component-prediction.ensures.short)) c.component-prediction.ensures.short

pub read_value-requires-clause-no_overflow : goal.read_value-requires-clause-no_overflow
read_value-requires-clause-no_overflow c = c.requires.no_overflow

pub returns-then-not-has_reference-clause-block : goal.returns-then-not-has_reference-clause-block
returns-then-not-has_reference-clause-block c = c.at-block.ensures.block

pub returns-then-not-has_reference-clause-few_doublings : goal.returns-then-not-has_reference-clause-few_doublings
returns-then-not-has_reference-clause-few_doublings c = omega arith

pub returns-in-Ok-clause-few_doublings : goal.returns-in-Ok-clause-few_doublings
returns-in-Ok-clause-few_doublings c = c.read_value.ensures.few_doublings

pub returns-in-Err-clause-few_doublings : goal.returns-in-Err-clause-few_doublings
returns-in-Err-clause-few_doublings c = c.read_value.ensures.few_doublings

pub returns-in-Err-clause-block : goal.returns-in-Err-clause-block
returns-in-Err-clause-block c = tt
