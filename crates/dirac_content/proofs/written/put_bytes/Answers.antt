use Rattle.std.proofs.Common.{arith}
use Rattle.dirac_content.specs.Raw.{byte_of}
use Rattle.dirac_content.proofs.Rows.{bytes_all}
use Rattle.dirac_content.proofs.written.put_bytes.Goals as goal

pub returns : goal.returns
returns c = bytes_all byte_of c.args.samples.now c.loop-i.bytes c.loop-i.i (omega arith) c.loop-i.invariant (omega arith)
