-- What the answer of a reader says of what is read.
use Rattle.std.specs.Prelude.{◌≡◌, ⊤, ℕ, ◌≤◌, Result, Ok, Err}
use Rattle.dirac_common.specs.declared.faults.Refusal.{Refusal}
use Rattle.dirac_common.specs.declared.faults.Stop.{Stop}
use Rattle.dirac_common.specs.declared.faults.Stop.TheVariants as stop
use Rattle.dirac_bits.specs.Cursor.{Cursor}

-- the reader answers what is read, seen by `view`, and stands behind it; after a refusal it stands where it stood
abbrev pub TakesSeenBy : {X Y : Type 0} → (X → Y) → Result X Refusal → Cursor → Cursor → Result (Y × Cursor) Refusal
    → Type 0
TakesSeenBy view (Ok x) old new read = read ≡ Ok (view x, new)
TakesSeenBy view (Err e) old new read = (read ≡ Err e) × (new ≡ old)

-- the same, where nothing is said of the reader after a refusal
abbrev pub ReadsSeenBy : {X Y : Type 0} → (X → Y) → Result X Refusal → Cursor → Result (Y × Cursor) Refusal → Type 0
ReadsSeenBy view (Ok x) new read = read ≡ Ok (view x, new)
ReadsSeenBy view (Err e) new read = read ≡ Err e

-- the answer is this one, seen by `view`
abbrev pub GivesSeenBy : {X Y E : Type 0} → (X → Y) → Result X E → Result Y E → Type 0
GivesSeenBy view (Ok x) read = read ≡ Ok (view x)
GivesSeenBy view (Err e) read = read ≡ Err e

-- the answer of a reader that takes memory is what is read, and the reader stands behind it; want of memory says
-- nothing of the input
abbrev pub ReadsOrStops : {X : Type 0} → Result X Stop → Cursor → Result (X × Cursor) Refusal → Type 0
ReadsOrStops (Ok x) new read = read ≡ Ok (x, new)
ReadsOrStops (Err (stop.Refused r)) new read = read ≡ Err r
ReadsOrStops (Err stop.NoMemory) new read = ⊤

-- a refusal is within that many bytes
abbrev pub IsEarly : ℕ → Stop → Type 0
IsEarly len (stop.Refused r) = r.at ≤ len
IsEarly len stop.NoMemory = ⊤

-- what is read, without the place behind it
abbrev pub value_of : {A E : Type 0} → Result (A × Cursor) E → Result A E
value_of (Ok x) = Ok x.0
value_of (Err e) = Err e
