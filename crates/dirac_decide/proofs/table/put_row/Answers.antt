use Rattle.std.proofs.Common.{arith}
use Rattle.dirac_decide.specs.Given.{deciding_of}
use Rattle.dirac_decide.proofs.Superblocks.{decided_more, row_decided}
use Rattle.dirac_decide.proofs.table.put_row.Goals as goal

pub loop-sx-preserved : goal.loop-sx-preserved
loop-sx-preserved c =
    decided_more (deciding_of c.args.inputs.now) c.loop-sx.sx c.args.sy c.loop-sx.table c.put_best.new.table c.loop-sx.invariant c.put_best.ensures

pub returns : goal.returns
returns c = row_decided (deciding_of c.args.inputs.now) c.loop-sx.sx c.args.sy c.loop-sx.table (omega arith) c.loop-sx.invariant
