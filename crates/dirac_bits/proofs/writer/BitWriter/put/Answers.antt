use Rattle.std.proofs.Common.{◌/◌, ◌%◌, take, ◌∙◌}
use Rattle.dirac_bits.specs.Writing.{bits_below}
use Rattle.dirac_bits.proofs.Writes.{put_view}
use Rattle.dirac_bits.proofs.writer.BitWriter.put.Goals as goal

pub returns-clause-ok : goal.returns-clause-ok
returns-clause-ok c =
    rw (c.in_ok-extend_from_slice.ensures.items, c.from.ensures)
    (put_view c.self.inside.bytes.items (take (c.joined-whole.result.count / 8) c.whole_bytes-pending.result.0) c.self.inside.used c.self.inside.pending
    (c.joined-whole.result.count % 8) c.whole_bytes-pending.result.1 c.args.self.now (bits_below c.args.run.count c.args.run.number) c.self.view_is
    (c.whole_bytes-pending.ensures.bits ∙ c.joined-whole.ensures.bits))
