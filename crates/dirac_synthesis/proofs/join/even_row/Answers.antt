use Rattle.std.proofs.Common.{arith}
use Rattle.dirac_quant.specs.Quantiser.{restored}
use Rattle.dirac_synthesis.proofs.JoinedRows.{in_turn_after}
use Rattle.dirac_synthesis.proofs.join.even_row.Goals as goal

pub returns : goal.returns
returns c =
    in_turn_after (λ v. restored v c.args.index c.args.kind) c.args.low.now c.args.right.now c.copy_into.new.line c.restore_into.new.line (omega arith) c.requires.right
    c.copy_into.ensures.written c.restore_into.ensures.written c.restore_into.ensures.others
