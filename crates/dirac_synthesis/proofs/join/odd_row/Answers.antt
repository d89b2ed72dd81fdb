use Rattle.std.proofs.Common.{arith}
use Rattle.dirac_quant.specs.Quantiser.{restored}
use Rattle.dirac_synthesis.proofs.JoinedRows.{both_in_turn_after}
use Rattle.dirac_synthesis.proofs.join.odd_row.Goals as goal

pub returns : goal.returns
returns c =
    both_in_turn_after (λ v. restored v c.args.left_index c.args.kind) (λ v. restored v c.args.right_index c.args.kind)
    c.args.left.now c.args.right.now c.restore_into.new.line c.restore_into-2.new.line (omega arith) c.requires.right
    c.restore_into.ensures.written c.restore_into-2.ensures.written c.restore_into-2.ensures.others
