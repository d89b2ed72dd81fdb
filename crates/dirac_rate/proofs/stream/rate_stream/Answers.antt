use Rattle.std.proofs.Common.{[]}
use Rattle.dirac_encode_laws.specs.Fit.{fit}
use Rattle.dirac_encode_laws.specs.Standing.{jobs_in}
use Rattle.dirac_rate.proofs.stream.rate_stream.Goals as goal

pub returns-clause-fits : goal.returns-clause-fits
returns-clause-fits g c = λ bytes. c.streams_show_their_pictures.ensures.budgets c.args.budget c.args.settings.now [] (jobs_in c.args.settings.now bytes) c.requires

pub returns-clause-alike : goal.returns-clause-alike
returns-clause-alike g c = λ bytes alike. c.streams_show_their_pictures.ensures.alike (fit c.args.budget) c.args.settings.now [] (jobs_in c.args.settings.now bytes) alike
