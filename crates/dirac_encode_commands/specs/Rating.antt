-- What `rate` answers and writes.
use Rattle.std.specs.Prelude.{ℕ, List, Option}
use Rattle.dirac_types.specs.declared.settings.Settings.{Settings}
use Rattle.dirac_encode_laws.specs.Encoding.{IsRecoveredUnder, encoding_under}
use Rattle.dirac_encode_laws.specs.Fit.{fit}
use Rattle.dirac_command_line.specs.declared.ended.Ended.{Ended}
use Rattle.dirac_encode_commands.specs.Encoding.{AnswersEncode, EndsStream}

-- the answer, and what both sinks took, are those of the encoding of these bytes in which each picture has the least
-- index by which its unit fits the budget; a whole stream is decoded to what the side got
abbrev pub IsRated : Settings → ℕ → List ℕ → Ended → Option (List ℕ) → Option (List ℕ) → Option (List ℕ)
    → Option (List ℕ) → Type 0
IsRated t budget bytes answer out out' side side' =
    AnswersEncode answer (encoding_under (fit budget) t bytes) out out' side side'
    × (EndsStream answer → IsRecoveredUnder (fit budget) t bytes)
