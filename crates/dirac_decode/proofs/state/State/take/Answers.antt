use Rattle.std.proofs.Common.{◌∙◌, sym}
use Rattle.dirac_decode.proofs.Taken.{takes_header, takes_passed, takes_picture}
use Rattle.dirac_decode.proofs.state.State.take.Goals as goal

pub returns-then-not-fields_are_read : goal.returns-then-not-fields_are_read
returns-then-not-fields_are_read g c =
    takes_passed c.pass.result c.args.code c.args.payload c.args.self.now c.pass.new.self (sym c.fields_are_read.ensures ∙ c.if-not-fields_are_read.true) c.pass.ensures

pub returns-then-code-eq-SEQUENCE_HEADER : goal.returns-then-code-eq-SEQUENCE_HEADER
returns-then-code-eq-SEQUENCE_HEADER g c =
    takes_header c.take_header.result c.args.code c.args.payload c.args.self.now c.take_header.new.self (sym c.fields_are_read.ensures ∙ c.if-not-fields_are_read.false)
    c.if-code-eq-SEQUENCE_HEADER.true c.take_header.ensures

pub returns-else-code-eq-SEQUENCE_HEADER : goal.returns-else-code-eq-SEQUENCE_HEADER
returns-else-code-eq-SEQUENCE_HEADER g c =
    takes_picture c.take_picture.result c.args.code c.args.payload c.bytes.result.now c.args.self.now c.take_picture.new.self (sym c.fields_are_read.ensures ∙ c.if-not-fields_are_read.false)
    c.if-code-eq-SEQUENCE_HEADER.false c.bytes.ensures c.take_picture.ensures
