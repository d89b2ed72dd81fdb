use Rattle.std.proofs.Common.{◌∙◌, [], ap, sym}
use Rattle.dirac_edit.specs.Open.{first_open}
use Rattle.dirac_edit.proofs.Going.{no_sequence_open, sequence_more, sequence_open}
use Rattle.dirac_edit.proofs.open.first_open.Goals as goal

pub returns-in-Some : goal.returns-in-Some
returns-in-Some c =
    sequence_open c.args.sequences.now c.loop-sequence.sequence-index c.sequence-item.result c.in-Some.index c.loop-sequence-test.true c.sequence-item.is
    c.loop-sequence.invariant (sym c.in-Some.is ∙ c.in_ok-index.ensures ∙ ap (first_open []) c.pictures.ensures)

pub loop-sequence-preserved : goal.loop-sequence-preserved
loop-sequence-preserved c =
    sequence_more c.args.sequences.now c.loop-sequence.sequence-index c.sequence-item.result c.loop-sequence-test.true c.sequence-item.is
    c.loop-sequence.invariant (sym c.in_default.is ∙ c.in_ok-index.ensures ∙ ap (first_open []) c.pictures.ensures)

pub returns : goal.returns
returns c = no_sequence_open c.args.sequences.now c.loop-sequence.sequence-index c.loop-sequence-test.false c.loop-sequence.invariant
