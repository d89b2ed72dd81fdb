use Rattle.dirac_bits.proofs.Writes.{block_view}
use Rattle.dirac_bits.proofs.writer.BitWriter.block.Goals as goal

pub returns-clause-ok : goal.returns-clause-ok
returns-clause-ok c =
    rw c.in_ok-extend_from_slice.ensures.items
    (block_view c.self.inside.bytes.items c.args.bytes.now c.self.inside.used c.self.inside.pending c.args.self.now c.self.invariant.0 c.self.view_is c.requires)
