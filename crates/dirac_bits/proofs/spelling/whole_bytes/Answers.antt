use Rattle.std.proofs.Common.{◌≡◌, ◌/◌, ◌%◌, arith}
use Rattle.std.proofs.Math.ListN.{length-set}
use Rattle.dirac_bits.specs.Writing.{bits_below}
use Rattle.dirac_bits.proofs.Writes.{byte_step, rest_is}
use Rattle.dirac_bits.proofs.spelling.whole_bytes.Goals as goal

pub bytes-preserved : goal.bytes-preserved
bytes-preserved c = (
  byte_step c.bytes.bytes c.bytes.index c.bytes.left c.args.run.number (bits_below c.args.run.count c.args.run.number)
      (omega (arith, c.bytes.invariant.2, c.from-index-end.ensures)) (omega (arith, c.from-index-end.ensures)) c.bytes.invariant.0,
  omega (arith, c.from-index-end.ensures),
  simp length-set c.bytes.invariant.2,
)

pub returns-clause-bits : goal.returns-clause-bits
returns-clause-bits c =
    let index : c.args.run.count / 8 ≡ c.bytes.index = omega (arith, c.from-index-end.ensures) in
    let left : c.bytes.left ≡ c.args.run.count % 8 = omega (arith, c.from-index-end.ensures) in
    rw (index, rest_is c.bytes.left c.args.run.number (c.args.run.count % 8) (omega arith) left) c.bytes.invariant.0
