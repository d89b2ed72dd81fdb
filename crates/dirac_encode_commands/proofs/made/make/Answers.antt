use Rattle.dirac_encode_commands.proofs.Making.{no_write_fault, nothing_made}
use Rattle.dirac_encode_commands.proofs.made.make.Goals as goal

pub returns-clause-made : goal.returns-clause-made
returns-clause-made g c =
    nothing_made c.in-Err.why c.args.settings.now c.args.count (g.K.Sink.taken c.args.out.now) c.in-Err.ensures.unmade

pub returns-clause-write : goal.returns-clause-write
returns-clause-write g c fault = absurd (no_write_fault c.in-Err.why c.args.settings.now c.args.count c.in-Err.ensures.unmade fault)
