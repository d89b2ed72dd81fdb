use Rattle.dirac_decide.specs.Given.{deciding_of}
use Rattle.dirac_decide.proofs.Superblocks.{put_decided}
use Rattle.dirac_decide.proofs.table.put_best.Goals as goal

pub returns : goal.returns
returns c =
    put_decided (deciding_of c.args.inputs.now) c.args.sx c.args.sy c.args.best.now c.as_slice.result.now c.args.table.now c.put.new.self c.requires.best c.as_slice.ensures.value c.put.ensures.put
