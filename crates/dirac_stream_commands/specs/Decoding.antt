-- What `decode` answers and writes.
use Rattle.std.specs.Prelude.{◌≡◌, ℕ, ◌≤◌, List, ◌++◌, codes, decimal, Option, None, Some, ⊤}
use Rattle.std.specs.Io.KnownBytes.{Appends, Keeps}
use Rattle.dirac_refs.specs.declared.ref_buffer.TheConstants.{MOST_REFERENCES}
use Rattle.dirac_io.specs.Writing.{AppendsFront}
use Rattle.dirac_content.specs.declared.tally.Tally.{Tally}
use Rattle.dirac_content.specs.Raw.{raws}
use Rattle.dirac_content.specs.Shown.{IsShown, Outcome, tally_of}
use Rattle.dirac_command_line.specs.declared.ended.Ended.{Ended}
use Rattle.dirac_command_line.specs.declared.ended.Ended.TheVariants as ended

-- pictures=N references=M, and a newline
abbrev pub tally_line : Tally → List ℕ
tally_line t =
    codes "pictures=" ++ (decimal t.pictures ++ (codes " references=" ++ (decimal t.references ++ codes "\n")))

-- what both sinks took: all raw pictures, and behind them the line of the tally
abbrev pub WritesAllDecoded : Outcome → Option (List ℕ) → Option (List ℕ) → Option (List ℕ) → Option (List ℕ) → Type 0
WritesAllDecoded o out out' side side' = Appends out out' (raws o.shown) × Appends side side' (tally_line (tally_of o))

-- what an answer says of what a stream shows, and of what both sinks took
abbrev pub AnswersDecode : Ended → Outcome → Option (List ℕ) → Option (List ℕ) → Option (List ℕ) → Option (List ℕ)
    → Type 0
AnswersDecode ended.Done o out out' side side' = (o.end ≡ None) × WritesAllDecoded o out out' side side'
AnswersDecode (ended.Fault fault) o out out' side side' = (o.end ≡ Some fault) × WritesAllDecoded o out out' side side'
AnswersDecode ended.ReadFault o out out' side side' = AppendsFront out out' (raws o.shown) × Keeps side side'
AnswersDecode ended.WriteFault o out out' side side' = AppendsFront out out' (raws o.shown) × Keeps side side'
AnswersDecode ended.SideFault o out out' side side' =
    Appends out out' (raws o.shown) × AppendsFront side side' (tally_line (tally_of o))
AnswersDecode ended.NoMemory o out out' side side' =
    AppendsFront out out' (raws o.shown) × AppendsFront side side' (tally_line (tally_of o))
AnswersDecode _ o out out' side side' = ⊥

-- the answer, and what both sinks took, are those of what these bytes show
abbrev pub IsDecoded : List ℕ → Ended → Option (List ℕ) → Option (List ℕ) → Option (List ℕ) → Option (List ℕ) → Type 0
IsDecoded bytes answer out out' side side' =
    (o : Outcome) × IsShown bytes o × AnswersDecode answer o out out' side side'

-- where the tally is written, the greatest length of the reference list that it tells is at most 8
abbrev pub TellsFew : Ended → List ℕ → Type 0
TellsFew ended.Done bytes = (o : Outcome) × IsShown bytes o × (o.most ≤ MOST_REFERENCES)
TellsFew (ended.Fault fault) bytes = (o : Outcome) × IsShown bytes o × (o.most ≤ MOST_REFERENCES)
TellsFew _ bytes = ⊤

-- the answers that `decode` may give, of whatever source
abbrev pub IsDecodeAnswer : Ended → Type 0
IsDecodeAnswer ended.Done = ⊤
IsDecodeAnswer (ended.Fault fault) = ⊤
IsDecodeAnswer ended.ReadFault = ⊤
IsDecodeAnswer ended.WriteFault = ⊤
IsDecodeAnswer ended.SideFault = ⊤
IsDecodeAnswer ended.NoMemory = ⊤
IsDecodeAnswer _ = ⊥
