-- Bits by their byte, as the code counts them.
use Rattle.std.specs.Prelude.{◌≡◌, ℕ, ◌+◌, ◌*◌, List, Result, Ok, Err}
use Rattle.dirac_common.specs.declared.faults.Cause.{Cause}
use Rattle.dirac_bits.specs.declared.bit_place.BitPlace.{BitPlace}
use Rattle.dirac_bits.specs.Cursor.{Cursor}

-- the number of a bit
abbrev pub bit_number : BitPlace → ℕ
bit_number bit_place = 8 * bit_place.byte + bit_place.bit

-- the reading of these bytes that stands at this bit
abbrev pub cursor_at : List ℕ → BitPlace → Cursor
cursor_at bytes bit_place = record { bytes = bytes; at = bit_number bit_place }

-- what was read, and the bit behind it
abbrev pub ReadsToBitPlace : {X : Type 0} → List ℕ → Result (X × BitPlace) Cause → Result (X × Cursor) Cause → Type 0
ReadsToBitPlace bytes (Ok x) read = read ≡ Ok (x.0, cursor_at bytes x.1)
ReadsToBitPlace bytes (Err cause) read = read ≡ Err cause

-- the same of a value seen by `view`
abbrev pub StepsBy : {X Y : Type 0} → (X → Y) → List ℕ → Result (X × BitPlace) Cause → Result (Y × Cursor) Cause
    → Type 0
StepsBy view bytes (Ok x) read = read ≡ Ok (view x.0, cursor_at bytes x.1)
StepsBy view bytes (Err cause) read = read ≡ Err cause
