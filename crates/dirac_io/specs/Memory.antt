-- A source and a sink in memory, as their contracts see them.
use Rattle.std.specs.Prelude.{◌≡◌, ℕ, ◌-◌, ◌^◌, ◌<◌, ◌==◌, Bool, true, false, List, [], ◌++◌, length, take, drop, min}
use Rattle.std.specs.Prelude.{if◌then◌else◌}
use Rattle.std.proofs.Common.{lit<}
use Rattle.std.proofs.Math.Nat.{lt_of_le_of_lt, min-le_right}
use Rattle.dirac_io.specs.Calls.{Calls, fails, called}
use Rattle.dirac_io.specs.declared.source.Got.{Got}
use Rattle.dirac_io.specs.declared.source.Got.TheVariants as got
use Rattle.dirac_io.specs.declared.sink.Took.{Took}
use Rattle.dirac_io.specs.declared.sink.Took.TheVariants as took

-- a source in memory: the bytes it holds, the most that a read gives, and its calls
pub record Feed : Type 0 where
  pub bytes : List ℕ
  pub most : ℕ
  pub calls : Calls

-- how many bytes the next read gives, where it gives some
abbrev pub portion : Feed → ℕ → ℕ
portion feed room = min (min feed.most room) (length feed.bytes)

-- what the next read answers: exactly the calls that are to fail do
abbrev pub feed_answer : Feed → ℕ → Got
feed_answer feed room =
    if fails feed.calls then got.Failed
    else if length feed.bytes == 0 then got.End
    else got.Bytes (portion feed room)

-- what the source is after the next read
abbrev pub fed : Feed → ℕ → Feed
fed feed room = record {
  bytes = if fails feed.calls then feed.bytes else drop (portion feed room) feed.bytes;
  most = feed.most;
  calls = called feed.calls;
}

-- a list's length as a number below 2^63
abbrev pub count_left : List ℕ → ℕ
count_left bytes = min (length bytes) (2 ^ 63 - 1)

-- it is one
pub left_of_fits : (bytes : List ℕ) → count_left bytes < 2 ^ 63
left_of_fits bytes = lt_of_le_of_lt (min-le_right (length bytes) (2 ^ 63 - 1)) (lit< tt)

-- a sink in memory: the bytes it took, the most that a write takes, and its calls
pub record Store : Type 0 where
  pub taken : List ℕ
  pub most : ℕ
  pub calls : Calls

-- what a write answers, where this says whether it is to fail and how many bytes it takes
abbrev pub AnswersWrite : Took → Bool → ℕ → Type 0
AnswersWrite (took.Bytes n) failing most = (failing ≡ false) × (n ≡ most)
AnswersWrite took.Failed failing most = failing ≡ true
AnswersWrite took.NoMemory failing most = failing ≡ false

-- the bytes of a piece that an answer says were taken
abbrev pub taken_of : Took → List ℕ → List ℕ
taken_of (took.Bytes n) piece = take n piece
taken_of took.Failed piece = []
taken_of took.NoMemory piece = []

-- what the sink is after a write with this answer
abbrev pub stored : Store → Took → List ℕ → Store
stored store answer piece = record {
  taken = store.taken ++ taken_of answer piece;
  most = store.most;
  calls = called store.calls;
}
