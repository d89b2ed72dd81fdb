use Rattle.dirac_bits.proofs.Writes.{whole_view}
use Rattle.dirac_bits.proofs.writer.BitWriter.finish.Goals as goal

pub returns : goal.returns
returns c = whole_view c.self.inside.bytes.items c.self.inside.used c.self.inside.pending c.args.self c.self.invariant.0 c.self.view_is c.requires
