-- What `encode` answers and writes.
use Rattle.std.specs.Prelude.{◌≡◌, ℕ, List, Option, ⊤}
use Rattle.dirac_types.specs.declared.settings.Settings.{Settings}
use Rattle.dirac_encode_laws.specs.declared.answers.Encoded.{Encoded}
use Rattle.dirac_encode_laws.specs.declared.answers.Encoded.TheVariants as encoded
use Rattle.dirac_encode_laws.specs.Encoding.{Encoding, IsRecovered, WritesAll, WritesFront, encoding}
use Rattle.dirac_command_line.specs.declared.ended.Ended.{Ended}
use Rattle.dirac_command_line.specs.declared.ended.Ended.TheVariants as ended

-- the answer of a run whose encoding ends so
abbrev pub ended_of : Encoded → Ended
ended_of encoded.Done = ended.Done
ended_of (encoded.PartialPicture n) = ended.PartialPicture n
ended_of (encoded.UnitTooLong number) = ended.UnitTooLong number
ended_of encoded.TooManyPictures = ended.TooManyPictures
ended_of encoded.ReadFault = ended.ReadFault
ended_of encoded.WriteFault = ended.WriteFault
ended_of encoded.SideFault = ended.SideFault
ended_of encoded.NoMemory = ended.NoMemory

-- what an answer says of the encoding, and of what both sinks took
abbrev pub AnswersEncode : Ended → Encoding → Option (List ℕ) → Option (List ℕ) → Option (List ℕ) → Option (List ℕ)
    → Type 0
AnswersEncode ended.ReadFault e out out' side side' = WritesFront e out out' side side'
AnswersEncode ended.WriteFault e out out' side side' = WritesFront e out out' side side'
AnswersEncode ended.SideFault e out out' side side' = WritesFront e out out' side side'
AnswersEncode ended.NoMemory e out out' side side' = WritesFront e out out' side side'
AnswersEncode answer e out out' side side' = (answer ≡ ended_of e.answer) × WritesAll e out out' side side'

-- an answer behind a whole stream
abbrev pub EndsStream : Ended → Type 0
EndsStream ended.Done = ⊤
EndsStream (ended.PartialPicture n) = ⊤
EndsStream ended.TooManyPictures = ⊤
EndsStream answer = ⊥

-- the answer, and what both sinks took, are those of the encoding of these bytes; a whole stream is decoded to what
-- the side got, and at index 0 to the input
abbrev pub IsEncoded : Settings → List ℕ → Ended → Option (List ℕ) → Option (List ℕ) → Option (List ℕ) → Option (List ℕ)
    → Type 0
IsEncoded t bytes answer out out' side side' =
    AnswersEncode answer (encoding t bytes) out out' side side' × (EndsStream answer → IsRecovered t bytes)

-- the answers that `encode` may give, of whatever source
abbrev pub IsEncodeAnswer : Ended → Type 0
IsEncodeAnswer ended.Done = ⊤
IsEncodeAnswer (ended.PartialPicture n) = ⊤
IsEncodeAnswer (ended.UnitTooLong number) = ⊤
IsEncodeAnswer ended.TooManyPictures = ⊤
IsEncodeAnswer ended.ReadFault = ⊤
IsEncodeAnswer ended.WriteFault = ⊤
IsEncodeAnswer ended.SideFault = ⊤
IsEncodeAnswer ended.NoMemory = ⊤
IsEncodeAnswer _ = ⊥
