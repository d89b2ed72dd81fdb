use Rattle.dirac_encode_laws.specs.Fit.{rule_of}
use Rattle.dirac_encode_progress.proofs.OfRead.{front_of_nothing}
use Rattle.dirac_encode.proofs.stream.encode_by.Goals as goal

pub returns-in_default-clause-front_of_read : goal.returns-in_default-clause-front_of_read
returns-in_default-clause-front_of_read g c =
    front_of_nothing (rule_of c.args.coder.now.budget) c.args.coder.now.settings.now (g.S.Source.held c.args.source.now) (g.K.Sink.taken c.args.out.now) (g.N.Sink.taken c.args.side.now)

pub returns-in_default-blank-clause-front_of_read : goal.returns-in_default-blank-clause-front_of_read
returns-in_default-blank-clause-front_of_read g c =
    front_of_nothing (rule_of c.args.coder.now.budget) c.args.coder.now.settings.now (g.S.Source.held c.args.source.now) (g.K.Sink.taken c.args.out.now) (g.N.Sink.taken c.args.side.now)

pub returns-in_default-try_new-clause-front_of_read : goal.returns-in_default-try_new-clause-front_of_read
returns-in_default-try_new-clause-front_of_read g c =
    front_of_nothing (rule_of c.args.coder.now.budget) c.args.coder.now.settings.now (g.S.Source.held c.args.source.now) (g.K.Sink.taken c.args.out.now) (g.N.Sink.taken c.args.side.now)
