use Rattle.dirac_sequence.proofs.Accepted.{writable}
use Rattle.dirac_sequence.proofs.write.sequence_of.Goals as goal

pub made-requires : goal.made-requires
made-requires c = writable c.args.settings.now c.requires
