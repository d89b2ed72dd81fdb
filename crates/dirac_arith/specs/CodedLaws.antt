-- The laws of coded values.
use Rattle.std.specs.Prelude.{◌≡◌, ◌≢◌, ◌⊎◌, ◌↔◌, ℕ, List, [], Ok, Err}
use Rattle.dirac_common.specs.Chain.{◌>>=◌}
use Rattle.dirac_common.specs.declared.faults.Cause.{Cause}
use Rattle.dirac_common.specs.declared.faults.Cause.TheVariants.{CodeWord}
use Rattle.dirac_arith.specs.Carried.{Carries}
use Rattle.dirac_arith.specs.Coded.{Coded, DecisionsSpell, Breaks, read_coded, and_then}
use Rattle.dirac_arith.specs.Deciding.{begin}
use Rattle.dirac_arith.specs.Front.{front}
use Rattle.dirac_arith.specs.Interval.{Decision}
use Rattle.dirac_arith.specs.Reading.{Reading}

-- a value is read exactly where the block carries decisions that spell it
abbrev pub SpelledIsRead : Type 0 → Type 0
SpelledIsRead A =
    (s : Coded A) (x : A) (block : List ℕ) →
    ((r : Reading) × (read_coded s (begin block) ≡ Ok (x, r)))
    ↔ ((ds : List Decision) × DecisionsSpell s x ds × Carries block ds)

-- a block carries at most one value
abbrev pub OneIsSpelled : Type 0 → Type 0
OneIsSpelled A =
    (s : Coded A) (x y : A) (ds es : List Decision) (block : List ℕ) → DecisionsSpell s x ds → Carries block ds
    → DecisionsSpell s y es → Carries block es → x ≡ y

-- but for one that begins with sixteen ones a block is refused exactly where it breaks off
abbrev pub BrokenIsRefused : Type 0 → Type 0
BrokenIsRefused A =
    (s : Coded A) (cause : Cause) (block : List ℕ) → front block 16 ≢ 0xFFFF →
    (read_coded s (begin block) ≡ Err cause) ↔ ((ds : List Decision) × Breaks s cause ds × Carries block ds)

-- one that begins with sixteen ones is refused for them, where a decision is needed
abbrev pub OnesAreRefused : Type 0 → Type 0
OnesAreRefused A =
    (s : Coded A) (block : List ℕ) → front block 16 ≡ 0xFFFF →
    (read_coded s (begin block) ≡ Err CodeWord)
    ⊎ (((x : A) × DecisionsSpell s x []) ⊎ ((cause : Cause) × Breaks s cause []))

-- what follows is read behind what was read
abbrev pub ThenIsRead : Type 0 → Type 0
ThenIsRead A =
    (s : Coded A) (g : A → Coded A) (r : Reading) → read_coded (and_then s g) r
    ≡ (read_coded s r >>= λ x. read_coded (g x.0) x.1)
