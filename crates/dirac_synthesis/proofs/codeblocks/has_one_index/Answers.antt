use Rattle.dirac_synthesis.proofs.ByCodeblock.{one_restores}
use Rattle.dirac_synthesis.proofs.codeblocks.has_one_index.Goals as goal

pub returns : goal.returns
returns c is kind =
    one_restores kind c.args.counts c.args.band.now c.width-width.ensures.whole c.requires (c.are_all.ensures is)
