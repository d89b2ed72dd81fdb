-- What holds of all blocks and decisions.
use Rattle.std.specs.Prelude.{◌≡◌, ◌≢◌, ◌↔◌, ◌⊎◌, ◌-◌, ◌^◌, ◌<◌, ℕ, ℤ, Bool, true, false, List, [], ◌∷◌, ◌++◌, length}
use Rattle.std.specs.Prelude.{map, nat_abs, Ok, Err}
use Rattle.dirac_common.specs.declared.limits.TheConstants.{MOST_DIGITS}
use Rattle.dirac_common.specs.Numbers.{uint, sint}
use Rattle.dirac_arith.specs.Interval.{Decision, InContexts}
use Rattle.dirac_common.specs.declared.faults.Cause.TheVariants.{CodeWord, NumberTooLong}
use Rattle.dirac_arith.specs.Carried.{Carries}
use Rattle.dirac_arith.specs.Deciding.{begin, decision_read, number_read, signed_read}
use Rattle.dirac_arith.specs.Front.{front}
use Rattle.dirac_arith.specs.Spelling.{spelt, spelling, signed_spelling}
use Rattle.dirac_arith.specs.Written.{flush}
use Rattle.dirac_arith.specs.Reading.{Reading, DecisionsAreRead}

-- of two lists that first differ in one truth at the same context, a block carries at most one
abbrev pub CarriesOneTruth : Type 0
CarriesOneTruth =
    (block : List ℕ) (common ds es : List Decision) (context : ℕ)
    → Carries block (common ++ (context, true) ∷ ds) → Carries block (common ++ (context, false) ∷ es) → ⊥

-- the same of two lists of equal length
abbrev pub CarriesOneOfEqualLength : Type 0
CarriesOneOfEqualLength =
    (block : List ℕ) (common ds es : List Decision) (context : ℕ) → length ds ≡ length es
    → Carries block (common ++ (context, true) ∷ ds) → Carries block (common ++ (context, false) ∷ es) → ⊥

-- behind the same decisions a block carries at most one number
abbrev pub CarriesOneNumber : Type 0
CarriesOneNumber =
    (block : List ℕ) (common ds es : List Decision) (follow : List ℕ) (bits v w : ℕ) → v < 2 ^ 39 - 1 → w < 2 ^ 39 - 1
    → Carries block (common ++ (spelling follow bits v ++ ds))
    → Carries block (common ++ (spelling follow bits w ++ es)) → v ≡ w

-- and at most one signed number
abbrev pub CarriesOneSigned : Type 0
CarriesOneSigned =
    (block : List ℕ) (common ds es : List Decision) (follow : List ℕ) (bits sign : ℕ) (v w : ℤ) → nat_abs v < 2 ^ 39 - 1
    → nat_abs w < 2 ^ 39 - 1
    → Carries block (common ++ (signed_spelling follow bits sign v ++ ds))
    → Carries block (common ++ (signed_spelling follow bits sign w ++ es)) → v ≡ w

-- the truths that spell a number are the bits that spell it
abbrev pub TruthsAreBits : Type 0
TruthsAreBits = (follow : List ℕ) (bits v : ℕ) → map (λ (d : Decision). d.1) (spelling follow bits v) ≡ uint v

-- the same of a signed number
abbrev pub SignedTruthsAreBits : Type 0
SignedTruthsAreBits =
    (follow : List ℕ) (bits sign : ℕ) (v : ℤ) → map (λ (d : Decision). d.1) (signed_spelling follow bits sign v)
    ≡ sint v

-- reading some decisions and then more is reading both
abbrev pub ReadingComposes : Type 0
ReadingComposes = (a b c : Reading) (ds es : List Decision) → DecisionsAreRead a ds b → DecisionsAreRead b es c
    → DecisionsAreRead a (ds ++ es) c

-- the block that is written for decisions carries them
abbrev pub FlushedIsCarried : Type 0
FlushedIsCarried = (ds : List Decision) → InContexts ds → Carries (flush ds) ds

-- behind decisions that it carries, a block that doesn't begin with sixteen ones carries one more in each context
abbrev pub CarriesSomeTruth : Type 0
CarriesSomeTruth =
    (block : List ℕ) (common : List Decision) (context : ℕ) → front block 16 ≢ 0xFFFF → Carries block common
    → (truth : Bool) × Carries block (common ++ (context, truth) ∷ [])

-- and a number, or the begin of one that is too long
abbrev pub CarriesSomeNumber : Type 0
CarriesSomeNumber =
    (block : List ℕ) (common : List Decision) (follow : List ℕ) (bits : ℕ) → front block 16 ≢ 0xFFFF
    → Carries block common
    → ((v : ℕ) × (v < 2 ^ 39 - 1) × Carries block (common ++ spelling follow bits v))
    ⊎ ((digits : List Bool) × (length digits ≡ MOST_DIGITS) × Carries block (common ++ spelt follow bits digits false))

-- the same of signed numbers
abbrev pub CarriesSomeSigned : Type 0
CarriesSomeSigned =
    (block : List ℕ) (common : List Decision) (follow : List ℕ) (bits sign : ℕ) → front block 16 ≢ 0xFFFF
    → Carries block common
    → ((v : ℤ) × (nat_abs v < 2 ^ 39 - 1) × Carries block (common ++ signed_spelling follow bits sign v))
    ⊎ ((digits : List Bool) × (length digits ≡ MOST_DIGITS) × Carries block (common ++ spelt follow bits digits false))

-- behind decisions that were read, the next one reads to the truth that the block allows
abbrev pub DecisionIsRead : Type 0
DecisionIsRead =
    (block : List ℕ) (common : List Decision) (old new : Reading) (context : ℕ) (truth : Bool) → front block 16 ≢ 0xFFFF
    → DecisionsAreRead (begin block) common old
    → (decision_read context old ≡ Ok (truth, new)) ↔ DecisionsAreRead old ((context, truth) ∷ []) new

-- a number reads to the one that the block carries
abbrev pub NumberIsRead : Type 0
NumberIsRead =
    (block : List ℕ) (common : List Decision) (old new : Reading) (follow : List ℕ) (bits v : ℕ)
    → DecisionsAreRead (begin block) common old
    → (number_read follow bits old ≡ Ok (v, new))
    ↔ ((v < 2 ^ 39 - 1) × DecisionsAreRead old (spelling follow bits v) new)

-- it is refused where it is too long
abbrev pub LongNumberIsRefused : Type 0
LongNumberIsRefused =
    (block : List ℕ) (common : List Decision) (old : Reading) (follow : List ℕ) (bits : ℕ)
    → DecisionsAreRead (begin block) common old
    → (number_read follow bits old ≡ Err NumberTooLong) ↔ ((digits : List Bool) × (length digits ≡ MOST_DIGITS)
    × ((new : Reading) × DecisionsAreRead old (spelt follow bits digits false) new))

-- the same of signed numbers
abbrev pub SignedIsRead : Type 0
SignedIsRead =
    (block : List ℕ) (common : List Decision) (old new : Reading) (follow : List ℕ) (bits sign : ℕ) (v : ℤ)
    → DecisionsAreRead (begin block) common old
    → (signed_read follow bits sign old ≡ Ok (v, new)) ↔ ((nat_abs v < 2 ^ 39 - 1)
    × DecisionsAreRead old (signed_spelling follow bits sign v) new)

-- it is refused where its magnitude is too long
abbrev pub LongSignedIsRefused : Type 0
LongSignedIsRefused =
    (block : List ℕ) (common : List Decision) (old : Reading) (follow : List ℕ) (bits sign : ℕ)
    → DecisionsAreRead (begin block) common old
    → (signed_read follow bits sign old ≡ Err NumberTooLong) ↔ ((digits : List Bool) × (length digits ≡ MOST_DIGITS)
    × ((new : Reading) × DecisionsAreRead old (spelt follow bits digits false) new))

-- decisions and numbers are refused for the block's first bits exactly where sixteen of them are ones
abbrev pub OnesReadToNothing : Type 0
OnesReadToNothing =
    (r : Reading) (follow : List ℕ) (context bits sign : ℕ)
    → ((decision_read context r ≡ Err CodeWord) ↔ (front r.block 16 ≡ 0xFFFF))
    × ((number_read follow bits r ≡ Err CodeWord) ↔ (front r.block 16 ≡ 0xFFFF))
    × ((signed_read follow bits sign r ≡ Err CodeWord) ↔ (front r.block 16 ≡ 0xFFFF))
