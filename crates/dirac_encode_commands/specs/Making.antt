-- What `make` answers and writes.
use Rattle.std.specs.Prelude.{◌≡◌, ℕ, List, [], ◌++◌, length, codes, decimal, Option, ⊤}
use Rattle.std.specs.Io.KnownBytes.{Appends, Keeps}
use Rattle.dirac_io.specs.Writing.{AppendsFront}
use Rattle.dirac_types.specs.declared.settings.Settings.{Settings}
use Rattle.dirac_content.specs.Raw.{raws}
use Rattle.dirac_encode_laws.specs.declared.answers.Encoded.{Encoded}
use Rattle.dirac_encode_laws.specs.declared.answers.Encoded.TheVariants as encoded
use Rattle.dirac_encode_laws.specs.Encoding.{Encoding, encoding}
use Rattle.dirac_generator.specs.Generated.{exact_from, generated_from}
use Rattle.dirac_command_line.specs.declared.ended.Ended.{Ended}
use Rattle.dirac_command_line.specs.declared.ended.Ended.TheVariants as ended

-- the encoding of the first generated pictures, of that number
abbrev pub making : Settings → ℕ → Encoding
making t count = encoding t (generated_from t count 0)

-- pictures=N stream=B raw=R exact=E, and a newline
abbrev pub make_line_with : ℕ → ℕ → ℕ → ℕ → List ℕ
make_line_with pictures stream raw exact =
    codes "pictures=" ++ (decimal pictures ++ (codes " stream=" ++ (decimal stream
    ++ (codes " raw=" ++ (decimal raw ++ (codes " exact=" ++ (decimal exact ++ codes "\n")))))))

-- the number of pictures, the bytes of the stream, the raw bytes, and how many of the pictures delivered are, byte for
-- byte, the generated pictures of their numbers
abbrev pub made_line : Settings → ℕ → List ℕ
made_line t count =
    make_line_with count (length (making t count).stream) (length (generated_from t count 0))
    (exact_from t count 0 (raws (making t count).shown))

-- what is written: the line, where all pictures were coded, and else nothing
abbrev pub made_text : Encoded → List ℕ → List ℕ
made_text encoded.Done line = line
made_text answer line = []

-- what an answer says of the encoding, and of what was written
abbrev pub AnswersMake : Ended → Settings → ℕ → Option (List ℕ) → Option (List ℕ) → Type 0
AnswersMake ended.Done t count out out' =
    ((making t count).answer ≡ encoded.Done) × Appends out out' (made_line t count)
AnswersMake (ended.UnitTooLong number) t count out out' =
    ((making t count).answer ≡ encoded.UnitTooLong number) × Keeps out out'
AnswersMake ended.TooManyPictures t count out out' =
    ((making t count).answer ≡ encoded.TooManyPictures) × Keeps out out'
AnswersMake ended.WriteFault t count out out' =
    ((making t count).answer ≡ encoded.Done) × AppendsFront out out' (made_line t count)
AnswersMake ended.NoMemory t count out out' =
    AppendsFront out out' (made_text (making t count).answer (made_line t count))
AnswersMake _ t count out out' = ⊥

-- what an answer says of the encoding, where there is no line
abbrev pub AnswersUnmade : Ended → Settings → ℕ → Type 0
AnswersUnmade (ended.UnitTooLong number) t count = (making t count).answer ≡ encoded.UnitTooLong number
AnswersUnmade ended.TooManyPictures t count = (making t count).answer ≡ encoded.TooManyPictures
AnswersUnmade ended.NoMemory t count = ⊤
AnswersUnmade _ t count = ⊥
