use Rattle.std.proofs.Common.{◌≡◌, ap, ap₂, sym, ◌∙◌, arith}
use Rattle.std.proofs.lemmas.Result.{on_ok_weaker}
use Rattle.dirac_vectors.specs.Predictions.{mode_of}
use Rattle.dirac_block_table.specs.declared.block.Block.{Block}
use Rattle.dirac_block_table.specs.Tables.{block_at}
use Rattle.dirac_blocks.specs.Decisions.{differ, predicted, ref1_at, ref2_at}
use Rattle.dirac_blocks.proofs.UnitValues.{both_told, first_told}
use Rattle.dirac_blocks.proofs.unit_writer.write_modes.Goals as goal

pub returns-then-refs-ne2 : goal.returns-then-refs-ne2
returns-then-refs-ne2 c =
    let t = c.args.table.now in
    let i = c.args.i in
    let j = c.args.j in
    let first : c.differs.result ≡ differ (block_at t i j).ref1 (predicted mode_of (ref1_at t) i j) =
    c.differs.ensures ∙ ap₂ differ (ap (λ (b : Block). b.ref1) c.at-block.ensures.value) c.predicted_use_bit-first.ensures.value in
    first_told t i j c.differs.result c.args.encoder.now c.decision.new.self (λ e. c.if-refs-ne2.true (c.refs.ensures.value ∙ e)) first c.in-Ok.ensures.taken

pub returns-else-refs-ne2 : goal.returns-else-refs-ne2
returns-else-refs-ne2 c =
    let t = c.args.table.now in
    let i = c.args.i in
    let j = c.args.j in
    let first : c.differs.result ≡ differ (block_at t i j).ref1 (predicted mode_of (ref1_at t) i j) =
    c.differs.ensures ∙ ap₂ differ (ap (λ (b : Block). b.ref1) c.at-block.ensures.value) c.predicted_use_bit-first.ensures.value in
    let second : c.differs-in-Ok.result ≡ differ (block_at t i j).ref2 (predicted mode_of (ref2_at t) i j) =
    c.differs-in-Ok.ensures ∙ ap₂ differ (ap (λ (b : Block). b.ref2) c.at-block.ensures.value) c.predicted_use_bit-second.ensures.value in
    on_ok_weaker c.decision-in-Ok.result
    (λ e. both_told t i j c.differs.result c.differs-in-Ok.result c.args.encoder.now c.decision.new.self c.decision-in-Ok.new.self (sym c.refs.ensures.value ∙ c.if-refs-ne2.false) first second c.in-Ok.ensures.taken e)
    c.decision-in-Ok.ensures.taken

pub at-block-requires-clause-across : goal.at-block-requires-clause-across
at-block-requires-clause-across c = c.requires.column

pub at-block-requires-clause-down : goal.at-block-requires-clause-down
at-block-requires-clause-down c = c.requires.row

pub predicted_use_bit-first-requires-clause-column : goal.predicted_use_bit-first-requires-clause-column
predicted_use_bit-first-requires-clause-column c = c.requires.column

pub predicted_use_bit-first-requires-clause-row : goal.predicted_use_bit-first-requires-clause-row
predicted_use_bit-first-requires-clause-row c = c.requires.row

pub predicted_use_bit-second-requires-clause-column : goal.predicted_use_bit-second-requires-clause-column
predicted_use_bit-second-requires-clause-column c = c.requires.column

pub predicted_use_bit-second-requires-clause-row : goal.predicted_use_bit-second-requires-clause-row
predicted_use_bit-second-requires-clause-row c = c.requires.row

pub decision-requires : goal.decision-requires
decision-requires c = omega arith

pub decision-requires-in-Ok : goal.decision-requires-in-Ok
decision-requires-in-Ok c = omega arith

pub returns-in-Err : goal.returns-in-Err
returns-in-Err c = tt
