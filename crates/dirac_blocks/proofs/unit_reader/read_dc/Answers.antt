use Rattle.std.proofs.Common.{rules, ◌≡◌, ℤ, Result, true, false, not, ◌||◌, ap, ◌∙◌, subst, sym, to_z, of_z, w32, Ok, Err, [], ◌∷◌, arith, refl}
use Rattle.dirac_common.specs.declared.faults.Cause.TheVariants as causes
use Rattle.dirac_common.specs.declared.faults.Cause.{Cause}
use Rattle.dirac_arith.specs.Coded.{read_coded}
use Rattle.dirac_arith.specs.Reading.{Reading}
use Rattle.dirac_vectors.proofs.Means.{passed}
use Rattle.dirac_vectors.specs.Neighbours.{IsShort}
use Rattle.dirac_vectors.specs.Predictions.{dc_of}
use Rattle.dirac_block_table.specs.declared.block.Block.{Block}
use Rattle.dirac_blocks.specs.Decisions.{predicted}
use Rattle.dirac_blocks.specs.Grammar.{is_dc, coded_into, value_coded, with_dc}
use Rattle.dirac_blocks.specs.Parts.{dc_at}
use Rattle.dirac_block_table.specs.Tables.{IsBlock, block_at}
use Rattle.dirac_blocks.proofs.UnitValues.{into_found, into_none, into_refused, dc_lawful, is_dc_from}
use Rattle.dirac_blocks.proofs.unit_reader.read_dc.Goals as goal

pub returns-in-Ok-clause-value : goal.returns-in-Ok-clause-value
returns-in-Ok-clause-value c =
    let t = c.args.table.now in
    let k = c.args.component in
    let b = block_at t c.args.i c.args.j in
    let v = c.in-Ok.value in
    let old = c.args.decoder.now in
    let new = c.read_value.new.decoder in
    let p = predicted dc_of (dc_at k t) c.args.i c.args.j in
    let none : (b.ref1 || b.ref2) ≡ false = search rules in
    let stored = passed v c.in-Ok.ensures.short in
    let given : to_z w32 (of_z w32 c.predicted_dc-prediction.result) ≡ p = passed _ c.predicted_dc-prediction.ensures.short ∙ c.predicted_dc-prediction.ensures.value in
    let found : read_coded (value_coded causes.DcRange (34 ∷ 35 ∷ []) 36 37 p) old ≡ Ok (v, new) =
    subst (λ (q : ℤ). read_coded (value_coded causes.DcRange (34 ∷ 35 ∷ []) 36 37 q) old ≡ Ok (v, new)) given c.in-Ok.ensures.value in
    let put : c.set_dc.result ≡ with_dc k b v =
    c.set_dc.ensures ∙ ap (λ (x : Block). with_dc k x (to_z w32 (of_z w32 v))) c.at-block.ensures.value ∙ ap (λ (w : ℤ). with_dc k b w) stored in
    let one = value_coded causes.DcRange (34 ∷ 35 ∷ []) 36 37 p in
    subst (λ (x : Block). read_coded (coded_into (is_dc b) b (with_dc k) one) old ≡ Ok (x, new)) (sym put)
    (into_found (is_dc b) b (with_dc k) one old new v (is_dc_from b none) found)

pub returns-in-Err-clause-value : goal.returns-in-Err-clause-value
returns-in-Err-clause-value c =
    let t = c.args.table.now in
    let k = c.args.component in
    let b = block_at t c.args.i c.args.j in
    let old = c.args.decoder.now in
    let p = predicted dc_of (dc_at k t) c.args.i c.args.j in
    let none : (b.ref1 || b.ref2) ≡ false = search rules in
    let given : to_z w32 (of_z w32 c.predicted_dc-prediction.result) ≡ p = passed _ c.predicted_dc-prediction.ensures.short ∙ c.predicted_dc-prediction.ensures.value in
    into_refused (is_dc b) b (with_dc k) (value_coded causes.DcRange (34 ∷ 35 ∷ []) 36 37 p) old c.in-Err.e (is_dc_from b none)
    (subst (λ (q : ℤ). read_coded (value_coded causes.DcRange (34 ∷ 35 ∷ []) 36 37 q) old ≡ Err c.in-Err.e) given c.in-Err.ensures.value)

pub returns-in-Ok-clause-block : goal.returns-in-Ok-clause-block
returns-in-Ok-clause-block c =
    let refs = c.args.table.now.refs in
    let k = c.args.component in
    let b = c.at-block.result in
    let v = c.in-Ok.value in
    let none : (b.ref1 || b.ref2) ≡ false = search rules in
    let stored = passed v c.in-Ok.ensures.short in
    let short : IsShort (to_z w32 (of_z w32 v)) = subst IsShort (sym stored) c.in-Ok.ensures.short in
    subst (IsBlock refs) (sym c.set_dc.ensures) (dc_lawful refs k b (to_z w32 (of_z w32 v)) c.at-block.ensures.block none short)

pub returns-then-block-clause-value : goal.returns-then-block-clause-value
returns-then-block-clause-value c =
    let t = c.args.table.now in
    let k = c.args.component in
    let b = block_at t c.args.i c.args.j in
    let old = c.args.decoder.now in
    let p = predicted dc_of (dc_at k t) c.args.i c.args.j in
    let some : (b.ref1 || b.ref2) ≡ true = search rules in
    into_none (is_dc b) b (with_dc k) (value_coded causes.DcRange (34 ∷ 35 ∷ []) 36 37 p) old (ap not some)
    ∙ ap (λ (x : Block). let r : Result (Block × Reading) Cause = Ok (x, old) in r) (sym c.at-block.ensures.value)

pub read_value-requires-clause-prediction : goal.read_value-requires-clause-prediction
read_value-requires-clause-prediction c =
    subst IsShort (sym (passed _ c.predicted_dc-prediction.ensures.short)) c.predicted_dc-prediction.ensures.short

pub at-block-requires-clause-across : goal.at-block-requires-clause-across
at-block-requires-clause-across c = c.requires.column

pub at-block-requires-clause-down : goal.at-block-requires-clause-down
at-block-requires-clause-down c = c.requires.row

pub predicted_dc-prediction-requires-clause-column : goal.predicted_dc-prediction-requires-clause-column
predicted_dc-prediction-requires-clause-column c = c.requires.column

pub predicted_dc-prediction-requires-clause-row : goal.predicted_dc-prediction-requires-clause-row
predicted_dc-prediction-requires-clause-row c = c.requires.row

pub read_value-requires-clause-not_empty : goal.read_value-requires-clause-not_empty
read_value-requires-clause-not_empty c = omega arith

pub read_value-requires-clause-follow : goal.read_value-requires-clause-follow
read_value-requires-clause-follow c = refl

pub read_value-requires-clause-bits : goal.read_value-requires-clause-bits
read_value-requires-clause-bits c = omega arith

pub read_value-requires-clause-sign : goal.read_value-requires-clause-sign
read_value-requires-clause-sign c = omega arith

pub read_value-requires-clause-no_overflow : goal.read_value-requires-clause-no_overflow
read_value-requires-clause-no_overflow c = c.requires.no_overflow

pub returns-then-block-clause-block : goal.returns-then-block-clause-block
returns-then-block-clause-block c = c.at-block.ensures.block

pub returns-then-block-clause-few_doublings : goal.returns-then-block-clause-few_doublings
returns-then-block-clause-few_doublings c = omega arith

pub returns-in-Ok-clause-few_doublings : goal.returns-in-Ok-clause-few_doublings
returns-in-Ok-clause-few_doublings c = c.read_value.ensures.few_doublings

pub returns-in-Err-clause-few_doublings : goal.returns-in-Err-clause-few_doublings
returns-in-Err-clause-few_doublings c = c.read_value.ensures.few_doublings

pub returns-in-Err-clause-block : goal.returns-in-Err-clause-block
returns-in-Err-clause-block c = tt
