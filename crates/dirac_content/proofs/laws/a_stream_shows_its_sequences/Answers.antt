use Rattle.dirac_content.proofs.Flushing.{each_is_flushed, last_is_flushed}
use Rattle.dirac_content.proofs.laws.a_stream_shows_its_sequences.Goals as goal

pub returns-clause-each : goal.returns-clause-each
returns-clause-each c = each_is_flushed

pub returns-clause-last : goal.returns-clause-last
returns-clause-last c = last_is_flushed
