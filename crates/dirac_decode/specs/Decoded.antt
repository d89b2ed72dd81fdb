-- What the decoding of a whole stream answers.
use Rattle.std.specs.Prelude.{◌≡◌, ℕ, List, ◌++◌, Option, None, Some, ⊤}
use Rattle.std.specs.Io.KnownBytes.{Appends}
use Rattle.dirac_io.specs.Writing.{AppendsFront}
use Rattle.dirac_decode.specs.declared.answers.Decoded.{Decoded}
use Rattle.dirac_decode.specs.declared.answers.Decoded.TheVariants as decoded
use Rattle.dirac_content.specs.declared.tally.Tally.{Tally}
use Rattle.dirac_content.specs.Raw.{raws}
use Rattle.dirac_content.specs.Shown.{Outcome, IsShown, tally_of}

-- what the answer says of what the stream shows and of what was written
abbrev pub AnswersDecodedStream : Decoded → Outcome → Option (List ℕ) → Option (List ℕ) → Type 0
AnswersDecodedStream (decoded.Done tally) o taken taken' =
    (o.end ≡ None) × (tally ≡ tally_of o) × Appends taken taken' (raws o.shown)
AnswersDecodedStream (decoded.Fault fault tally) o taken taken' =
    (o.end ≡ Some fault) × (tally ≡ tally_of o) × Appends taken taken' (raws o.shown)
AnswersDecodedStream decoded.ReadFault o taken taken' = AppendsFront taken taken' (raws o.shown)
AnswersDecodedStream decoded.WriteFault o taken taken' = AppendsFront taken taken' (raws o.shown)
AnswersDecodedStream decoded.NoMemory o taken taken' = AppendsFront taken taken' (raws o.shown)

-- the answer and what was written are those of what these bytes show
abbrev pub IsDecodedStream : List ℕ → Decoded → Option (List ℕ) → Option (List ℕ) → Type 0
IsDecodedStream bytes answer taken taken' = (o : Outcome) × IsShown bytes o × AnswersDecodedStream answer o taken taken'

-- a fact, where the stream was decoded to its lawful end
abbrev pub IfDone : Decoded → Type 0 → Type 0
IfDone (decoded.Done tally) P = P
IfDone (decoded.Fault fault tally) P = ⊤
IfDone decoded.ReadFault P = ⊤
IfDone decoded.WriteFault P = ⊤
IfDone decoded.NoMemory P = ⊤

-- a fact on the tally, where there is one
abbrev pub IfTally : Decoded → (Tally → Type 0) → Type 0
IfTally (decoded.Done tally) P = P tally
IfTally (decoded.Fault fault tally) P = P tally
IfTally decoded.ReadFault P = ⊤
IfTally decoded.WriteFault P = ⊤
IfTally decoded.NoMemory P = ⊤

-- of these bytes some were read and just the others are held, and whatever front of the others is read too, a sink took
-- a front of the pictures that those read show by themselves
pub record IsFrontOfMore (bytes : List ℕ) (held' taken taken' : Option (List ℕ)) : Type 0 where
  pub read : List ℕ
  pub rest : List ℕ
  pub parts : bytes ≡ read ++ rest
  pub holds : held' ≡ Some rest
  pub shows : (more behind : List ℕ) → rest ≡ more ++ behind
      → (o : Outcome) × IsShown (read ++ more) o × AppendsFront taken taken' (raws o.shown)
