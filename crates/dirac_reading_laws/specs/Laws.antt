-- The laws of this crate.
use Rattle.std.specs.Prelude.{◌≡◌, ◌↔◌, ◌⊎◌, ℕ, ◌*◌, ◌≤◌, List, length, Err}
use Rattle.dirac_common.specs.declared.faults.Refusal.{Refusal}
use Rattle.dirac_bits.specs.Cursor.{Cursor}
use Rattle.dirac_bits.specs.Laws.{BeginsWith}
use Rattle.dirac_bits.specs.Syntax.{Syntax, read}
use Rattle.dirac_content.specs.Shown.{IsShown, Outcome}
use Rattle.dirac_reading_laws.specs.Broken.{HeaderBreaks}

-- a header is refused exactly where it breaks
abbrev pub IsRefusedWhereBroken : Type 0 → Type 0
IsRefusedWhereBroken A = (s : Syntax A) (c : Cursor) (r : Refusal) → (read s c ≡ Err r) ↔ HeaderBreaks s c r

-- within the bytes, the bits left begin with a spelling of a value, or the header breaks
abbrev pub IsSpelledOrBreaks : Type 0 → Type 0
IsSpelledOrBreaks A =
    (s : Syntax A) (c : Cursor) → c.at ≤ 8 * length c.bytes → ((x : A) × (d : Cursor) × BeginsWith s x c d)
    ⊎ ((r : Refusal) × HeaderBreaks s c r)

-- a header that is spelled there doesn't break there
abbrev pub NoneSpelledBreaks : Type 0 → Type 0
NoneSpelledBreaks A = (s : Syntax A) (x : A) (c d : Cursor) (r : Refusal) → BeginsWith s x c d → HeaderBreaks s c r → ⊥

-- the bits left begin with a spelling of one value, which ends at one place
abbrev pub SpellsOneValue : Type 0 → Type 0
SpellsOneValue A =
    (s : Syntax A) (x y : A) (c d e : Cursor) → BeginsWith s x c d → BeginsWith s y c e → (x ≡ y) × (d ≡ e)

-- a header breaks with one refusal
abbrev pub BreaksWithOneRefusal : Type 0 → Type 0
BreaksWithOneRefusal A = (s : Syntax A) (c : Cursor) (r q : Refusal) → HeaderBreaks s c r → HeaderBreaks s c q → r ≡ q

-- a list of bytes shows one outcome
abbrev pub StreamsShowOneOutcome : Type 0
StreamsShowOneOutcome = (bytes : List ℕ) (o p : Outcome) → IsShown bytes o → IsShown bytes p → o ≡ p

-- and each one shows some
abbrev pub EachShowsAnOutcome : Type 0
EachShowsAnOutcome = (bytes : List ℕ) → (o : Outcome) × IsShown bytes o
