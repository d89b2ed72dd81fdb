-- Where a header breaks: the fields before are spelled by the bits, and the next one isn't, or a rule refuses them at
-- the place that the grammar names.
use Rattle.std.specs.Prelude.{◌≡◌, ◌⊎◌, ℕ, zero, suc, ℤ, ◌+◌, ◌-◌, ◌*◌, ◌<◌, ◌≤◌, ◌^◌, Bool, true, false, List, [], ◌∷◌}
use Rattle.std.specs.Prelude.{length, unsigned_abs}
use Rattle.std.specs.List.{AllByRecursion}
use Rattle.dirac_common.specs.declared.limits.TheConstants.{MOST_DIGITS}
use Rattle.dirac_common.specs.declared.faults.Cause.{Cause}
use Rattle.dirac_common.specs.declared.faults.Cause.TheVariants.{NumberTooLong, UnitShort}
use Rattle.dirac_common.specs.declared.faults.Refusal.{Refusal}
use Rattle.dirac_common.specs.Bits.{bits_of}
use Rattle.dirac_common.specs.Numbers.{followed, literal, sint, uint}
use Rattle.dirac_bits.specs.Cursor.{Cursor, place, aligned, bits_left, Passes}
use Rattle.dirac_bits.specs.Syntax.{Syntax, done, flag_then, uint_then, sint_then, literal_then, block_then, align_then}
use Rattle.dirac_bits.specs.Syntax.{here_then, refuse}

-- where that many digits may still follow, these bits are no number's end: they end before a follow bit or before its
-- digit, or a follow bit 0 stands where no digit may follow
abbrev pub EndsBadly : List Bool → ℕ → Cause → Type 0
EndsBadly [] left cause = cause ≡ UnitShort
EndsBadly (false ∷ bits) zero cause = cause ≡ NumberTooLong
EndsBadly (false ∷ []) (suc left) cause = cause ≡ UnitShort
EndsBadly (false ∷ bit ∷ bits) (suc left) cause = ⊥
EndsBadly (true ∷ bits) left cause = ⊥

-- no number of at most that many digits stands there: behind some digits it ends badly
pub record BreaksNumber (most : ℕ) (c : Cursor) (cause : Cause) : Type 0 where
  pub digits : List Bool
  pub at_most_that_many : length digits ≤ most
  pub behind : Cursor
  pub passes : Passes c (followed digits) behind
  pub ends : EndsBadly (bits_left behind) (most - length digits) cause

-- the bits end before the sign of a number that isn't 0
pub record LacksSign (c : Cursor) (cause : Cause) : Type 0 where
  pub pred : ℕ
  pub below : suc pred + 1 < 2 ^ 39
  pub behind : Cursor
  pub passes : Passes c (uint (suc pred)) behind
  pub ends : bits_left behind ≡ []
  pub is : cause ≡ UnitShort

-- fewer bits are left than these
abbrev pub AreFewer : ℕ → Cursor → Cause → Type 0
AreFewer count c cause = (length (bits_left c) < count) × (cause ≡ UnitShort)

-- a field that isn't spelled there, for this cause, is refused at the byte of its first bit
abbrev pub BreaksAt : Cursor → Refusal → (Cause → Type 0) → Type 0
BreaksAt c r P = (r.at ≡ place c) × P r.cause

-- the header breaks there with this refusal: its next field isn't spelled, or it is, and the rest breaks behind it
abbrev pub HeaderBreaks : {A : Type 0} → Syntax A → Cursor → Refusal → Type 0
HeaderBreaks (done x) c r = ⊥
HeaderBreaks (flag_then f) c r =
    BreaksAt c r (AreFewer 1 c)
    ⊎ ((b : Bool) × (d : Cursor) × Passes c (b ∷ []) d × HeaderBreaks (f b) d r)
HeaderBreaks (uint_then f) c r =
    BreaksAt c r (BreaksNumber MOST_DIGITS c)
    ⊎ ((v : ℕ) × (d : Cursor) × (v + 1 < 2 ^ 39) × Passes c (uint v) d × HeaderBreaks (f v) d r)
HeaderBreaks (sint_then f) c r =
    BreaksAt c r (λ cause. BreaksNumber MOST_DIGITS c cause ⊎ LacksSign c cause)
    ⊎ ((v : ℤ) × (d : Cursor) × (unsigned_abs v + 1 < 2 ^ 39) × Passes c (sint v) d × HeaderBreaks (f v) d r)
HeaderBreaks (literal_then f) c r =
    BreaksAt c r (AreFewer 32 c)
    ⊎ ((v : ℕ) × (d : Cursor) × (v < 2 ^ 32) × Passes c (literal v) d × HeaderBreaks (f v) d r)
HeaderBreaks (block_then len f) c r =
    BreaksAt c r (AreFewer (8 * len) c)
    ⊎ ((bytes : List ℕ) × (d : Cursor) × ((length bytes ≡ len) × AllByRecursion (λ b. b < 2 ^ 8) bytes)
    × Passes c (bits_of bytes) d × HeaderBreaks (f bytes) d r)
HeaderBreaks (align_then s) c r = HeaderBreaks s (aligned c) r
HeaderBreaks (here_then f) c r = HeaderBreaks (f (place c)) c r
HeaderBreaks (refuse at cause) c r = (r.at ≡ at) × (r.cause ≡ cause)
