use Rattle.std.proofs.Common.{ℕ, List, [], Option, None, Some}
use Rattle.std.specs.Prelude.{IfSome}
use Rattle.dirac_types.specs.declared.settings.Settings.{Settings}
use Rattle.dirac_encode_laws.specs.declared.answers.Encoded.{Encoded}
use Rattle.dirac_encode_laws.specs.Coding.{own_index}
use Rattle.dirac_encode_laws.specs.Encoding.{EncodesToTheEnd, IsRecovered, IsRecoveredUnder}
use Rattle.dirac_encode_laws.specs.Standing.{jobs_in}
use Rattle.dirac_encode_laws.proofs.Recovered.{own_recovered}
use Rattle.dirac_encode.proofs.stream.encode_stream.Goals as goal

-- with the settings' index
recovered_by_own : (held : Option (List ℕ)) (t : Settings) (answer : Encoded) → IfSome held (λ bytes. EncodesToTheEnd answer → IsRecoveredUnder own_index t bytes) → IfSome held (λ bytes. EncodesToTheEnd answer → IsRecovered t bytes)
recovered_by_own None t answer is = is
recovered_by_own (Some bytes) t answer is = λ ends. own_recovered t bytes (is ends)

pub returns-clause-recovered : goal.returns-clause-recovered
returns-clause-recovered g c = recovered_by_own _ c.args.settings.now c.encode_by.result c.encode_by.ensures.recovered

pub returns-clause-alike : goal.returns-clause-alike
returns-clause-alike g c = λ bytes alike. c.streams_show_their_pictures.ensures.alike own_index c.args.settings.now [] (jobs_in c.args.settings.now bytes) alike
