use Rattle.std.proofs.Common.{◌≡◌, Bool, Result, Ok, false, ap, subst, sym, ◌∙◌, arith, refl}
use Rattle.dirac_common.specs.declared.faults.Cause.{Cause}
use Rattle.dirac_arith.specs.Reading.{Reading}
use Rattle.dirac_vectors.specs.Predictions.{mode_of}
use Rattle.dirac_block_table.specs.declared.block.Block.{Block}
use Rattle.dirac_block_table.specs.Tables.{IsBlock}
use Rattle.dirac_blocks.specs.Decisions.{differ, predicted, ref1_at}
use Rattle.dirac_blocks.specs.Grammar.{block_using}
use Rattle.dirac_blocks.proofs.UnitValues.{mode_found, mode_lawful, mode_refused, mode_stops, second_absent, second_found, second_refused}
use Rattle.dirac_blocks.proofs.unit_reader.read_mode.Goals as goal

pub decision-requires-clause-context : goal.decision-requires-clause-context
decision-requires-clause-context c = omega arith

pub decision-requires-clause-no_overflow : goal.decision-requires-clause-no_overflow
decision-requires-clause-no_overflow c = omega (arith, c.requires.no_overflow)

pub predicted_use_bit-prediction-requires-clause-column : goal.predicted_use_bit-prediction-requires-clause-column
predicted_use_bit-prediction-requires-clause-column c = c.requires.column

pub predicted_use_bit-prediction-requires-clause-row : goal.predicted_use_bit-prediction-requires-clause-row
predicted_use_bit-prediction-requires-clause-row c = c.requires.row

pub predicted_use_bit-other-requires-clause-column : goal.predicted_use_bit-other-requires-clause-column
predicted_use_bit-other-requires-clause-column c = c.requires.column

pub predicted_use_bit-other-requires-clause-row : goal.predicted_use_bit-other-requires-clause-row
predicted_use_bit-other-requires-clause-row c = c.requires.row

pub decision-requires-in-Ok-clause-context : goal.decision-requires-in-Ok-clause-context
decision-requires-in-Ok-clause-context c = omega arith

pub decision-requires-in-Ok-clause-no_overflow : goal.decision-requires-in-Ok-clause-no_overflow
decision-requires-in-Ok-clause-no_overflow c = omega (arith, c.requires.no_overflow, c.decision.ensures.few_doublings)

pub returns-then-refs-ne2-clause-value : goal.returns-then-refs-ne2-clause-value
returns-then-refs-ne2-clause-value c =
    let t = c.args.table.now in
    let i = c.args.i in
    let j = c.args.j in
    let bit = c.in-Ok.bit in
    let mid = c.decision.new.self in
    let first : c.differs-first.result ≡ differ bit (predicted mode_of (ref1_at t) i j) = c.differs-first.ensures ∙ ap (λ (p : Bool). differ bit p) c.predicted_use_bit-prediction.ensures.value in
    let block = c.block_of.ensures ∙ ap (λ (b : Bool). block_using b false) first in
    mode_found t i j bit false c.args.decoder.now mid mid c.in-Ok.ensures.read (second_absent t i j mid (λ e. c.if-refs-ne2.true (c.refs.ensures.value ∙ e)))
    ∙ ap (λ (b : Block). let x : Result (Block × Reading) Cause = Ok (b, mid) in x) (sym block)

pub returns-then-refs-ne2-clause-block : goal.returns-then-refs-ne2-clause-block
returns-then-refs-ne2-clause-block c = subst (IsBlock c.args.table.now.refs) (sym c.block_of.ensures) (mode_lawful c.args.table.now.refs c.differs-first.result false (λ one. refl))

pub returns-then-refs-ne2-clause-few_doublings : goal.returns-then-refs-ne2-clause-few_doublings
returns-then-refs-ne2-clause-few_doublings c = omega (arith, c.decision.ensures.few_doublings)

pub returns-in-Ok-decision-clause-value : goal.returns-in-Ok-decision-clause-value
returns-in-Ok-decision-clause-value c =
    let t = c.args.table.now in
    let i = c.args.i in
    let j = c.args.j in
    let bit = c.in-Ok.bit in
    let other = c.in-Ok-decision.other_bit in
    let second = c.differs-second.result in
    let mid = c.decision.new.self in
    let new = c.decision-in-Ok.new.self in
    let two = sym c.refs.ensures.value ∙ c.if-refs-ne2.false in
    let first : c.differs-first.result ≡ differ bit (predicted mode_of (ref1_at t) i j) = c.differs-first.ensures ∙ ap (λ (p : Bool). differ bit p) c.predicted_use_bit-prediction.ensures.value in
    let block = c.block_of-block.ensures ∙ ap (λ (b : Bool). block_using b second) first in
    mode_found t i j bit second c.args.decoder.now mid new c.in-Ok.ensures.read
    (second_found t i j other second mid new two (c.differs-second.ensures ∙ ap (λ (p : Bool). differ other p) c.predicted_use_bit-other.ensures.value) c.in-Ok-decision.ensures.read)
    ∙ ap (λ (b : Block). let x : Result (Block × Reading) Cause = Ok (b, new) in x) (sym block)

pub returns-in-Ok-decision-clause-block : goal.returns-in-Ok-decision-clause-block
returns-in-Ok-decision-clause-block c =
    let two = sym c.refs.ensures.value ∙ c.if-refs-ne2.false in
    subst (IsBlock c.args.table.now.refs) (sym c.block_of-block.ensures) (mode_lawful c.args.table.now.refs c.differs-first.result c.differs-second.result (λ one. absurd (omega arith)))

pub returns-in-Ok-decision-clause-few_doublings : goal.returns-in-Ok-decision-clause-few_doublings
returns-in-Ok-decision-clause-few_doublings c = omega (arith, c.decision.ensures.few_doublings, c.decision-in-Ok.ensures.few_doublings)

pub returns-in-Err-decision-clause-value : goal.returns-in-Err-decision-clause-value
returns-in-Err-decision-clause-value c =
    let t = c.args.table.now in
    let two = sym c.refs.ensures.value ∙ c.if-refs-ne2.false in
    mode_stops t c.args.i c.args.j c.in-Ok.bit c.args.decoder.now c.decision.new.self c.in-Err-decision.e c.in-Ok.ensures.read
    (second_refused t c.args.i c.args.j c.decision.new.self c.in-Err-decision.e two c.in-Err-decision.ensures.read)

pub returns-in-Err-decision-clause-block : goal.returns-in-Err-decision-clause-block
returns-in-Err-decision-clause-block c = tt

pub returns-in-Err-decision-clause-few_doublings : goal.returns-in-Err-decision-clause-few_doublings
returns-in-Err-decision-clause-few_doublings c = omega (arith, c.decision.ensures.few_doublings, c.decision-in-Ok.ensures.few_doublings)

pub returns-in-Err-clause-value : goal.returns-in-Err-clause-value
returns-in-Err-clause-value c = mode_refused c.args.table.now c.args.i c.args.j c.args.decoder.now c.in-Err.e c.in-Err.ensures.read

pub returns-in-Err-clause-block : goal.returns-in-Err-clause-block
returns-in-Err-clause-block c = tt

pub returns-in-Err-clause-few_doublings : goal.returns-in-Err-clause-few_doublings
returns-in-Err-clause-few_doublings c = omega (arith, c.decision.ensures.few_doublings)
