use Rattle.std.proofs.Common.{arith}
use Rattle.dirac_decide.specs.Given.{deciding_of}
use Rattle.dirac_decide.proofs.Superblocks.{all_decided, none_decided}
use Rattle.dirac_decide.proofs.table.put_rows.Goals as goal

pub loop-sy-init : goal.loop-sy-init
loop-sy-init c = none_decided (deciding_of c.args.inputs.now) c.args.table.now c.requires.table

pub returns : goal.returns
returns c = record { table = all_decided (deciding_of c.args.inputs.now) c.loop-sy.sy c.loop-sy.table (omega arith) c.loop-sy.invariant }
