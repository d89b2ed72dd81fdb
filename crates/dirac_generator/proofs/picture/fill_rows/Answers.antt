use Rattle.std.proofs.Common.{arith, ◌/◌, ◌%◌}
use Rattle.dirac_generator.specs.Generated.{generated_byte}
use Rattle.dirac_generator.proofs.Rows.{told_all}
use Rattle.dirac_generator.proofs.picture.fill_rows.Goals as goal

pub returns : goal.returns
returns c =
    told_all (λ place. generated_byte c.args.number c.args.plane (place % c.args.width) (place / c.args.width)) c.bytes.bytes _ c.bytes.place (omega arith) (omega arith) c.bytes.invariant
