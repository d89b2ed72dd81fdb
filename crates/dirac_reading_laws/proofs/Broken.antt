-- A header is refused exactly where it breaks.
use Rattle.std.proofs.Common.{◌≡◌, ℕ, ◌*◌, ◌⊎◌, Bool, [], ◌∷◌, refl, sym, ap, inl, inr, Result, Ok, Err}
use Rattle.dirac_common.specs.declared.faults.Cause.{Cause}
use Rattle.dirac_common.specs.declared.faults.Refusal.{Refusal}
use Rattle.dirac_common.specs.Chain.{◌>>=◌}
use Rattle.dirac_bits.specs.Cursor.{Cursor, place, skip, aligned, bit_next, Passes}
use Rattle.dirac_bits.specs.Fields.{block_read_at, bytes_on, flag_at, from, literal_at, literal_on, number_on, signed_on, sint_at, uint_at}
use Rattle.dirac_bits.specs.Syntax.{Syntax, done, flag_then, uint_then, sint_then, literal_then, block_then, align_then, here_then, refuse, read}
use Rattle.dirac_bits.proofs.Passing.{none_passed, passes_bit}
use Rattle.dirac_bits.proofs.Spelled.{flag_spelled, flag_read, uint_spelled, uint_read, sint_spelled, sint_read}
use Rattle.dirac_bits.proofs.Literals.{literal_spelled, literal_read}
use Rattle.dirac_bits.proofs.Blocks.{block_spelled, block_read}
use Rattle.dirac_reading_laws.specs.Broken.{AreFewer, HeaderBreaks, BreaksAt, BreaksNumber, LacksSign}
use Rattle.dirac_reading_laws.proofs.Numbers.{bytes_refused, bytes_stop, flag_refused, flag_stops, literal_refused, literal_stops, number_refused, number_stops, signed_refused, signed_stops}

-- a field is refused at the byte of its first bit
refused_at : {A : Type 0} (c : Cursor) (field : Result (A × Cursor) Cause) (r : Refusal) → from c field ≡ Err r → (r.at ≡ place c) × (field ≡ Err r.cause)
refused_at c (Ok x) r e = absurd cc
refused_at c (Err cause) r e =
    let own : Refusal = record { at = place c; cause = cause } in
    let same : r ≡ own = cc in
    (ap (λ (x : Refusal). x.at) same, ap (λ (x : Refusal). Err x.cause) (sym same))

refusal_is : {A : Type 0} (c : Cursor) (field : Result (A × Cursor) Cause) (r : Refusal) → r.at ≡ place c → field ≡ Err r.cause → from c field ≡ Err r
refusal_is c field r at is = rw (is, ← at) refl

-- a field is refused, or it is read and those behind it are refused
field_cases : {X A P : Type 0} (field : Result (X × Cursor) Refusal) (k : X × Cursor → Result (A × Cursor) Refusal) (r : Refusal) → (field >>= k) ≡ Err r
    → (field ≡ Err r → P) → ((v : X) (d : Cursor) → field ≡ Ok (v, d) → k (v, d) ≡ Err r → P) → P
field_cases (Ok x) k r e stop next = next x.0 x.1 refl e
field_cases (Err other) k r e stop next =
    let same : other ≡ r = cc in
    stop (ap (λ (x : Refusal). Err x) same)

field_stops : {X A : Type 0} (field : Result (X × Cursor) Refusal) (k : X × Cursor → Result (A × Cursor) Refusal) (r : Refusal) → field ≡ Err r → (field >>= k) ≡ Err r
field_stops field k r e = rw e refl

later_stops : {X A : Type 0} (field : Result (X × Cursor) Refusal) (k : X × Cursor → Result (A × Cursor) Refusal) (r : Refusal) (v : X) (d : Cursor)
    → field ≡ Ok (v, d) → k (v, d) ≡ Err r → (field >>= k) ≡ Err r
later_stops field k r v d first second = rw first second

-- ---- fields that are refused

flag_breaks : (c : Cursor) (r : Refusal) → flag_at c ≡ Err r → BreaksAt c r (AreFewer 1 c)
unfolding flag_at
flag_breaks c r e =
    let x = refused_at c (bit_next c) r e in
    (x.0, flag_refused c r.cause x.1)

uint_breaks : (c : Cursor) (r : Refusal) → uint_at c ≡ Err r → BreaksAt c r (BreaksNumber 38 c)
unfolding uint_at
uint_breaks c r e =
    let x = refused_at c (number_on 38 1 c) r e in
    (x.0, number_refused 38 1 c r.cause x.1)

sint_breaks : (c : Cursor) (r : Refusal) → sint_at c ≡ Err r → BreaksAt c r (λ cause. BreaksNumber 38 c cause ⊎ LacksSign c cause)
unfolding sint_at
sint_breaks c r e =
    let x = refused_at c (signed_on c) r e in
    (x.0, signed_refused c r.cause x.1)

literal_breaks : (c : Cursor) (r : Refusal) → literal_at c ≡ Err r → BreaksAt c r (AreFewer 32 c)
unfolding literal_at
literal_breaks c r e =
    let x = refused_at c (literal_on c) r e in
    (x.0, literal_refused c r.cause x.1)

block_breaks : (len : ℕ) (c : Cursor) (r : Refusal) → block_read_at len c ≡ Err r → BreaksAt c r (AreFewer (8 * len) c)
unfolding block_read_at
block_breaks len c r e =
    let x = refused_at c (bytes_on len c) r e in
    (x.0, bytes_refused len c r.cause x.1)

flag_ends : (c : Cursor) (r : Refusal) → BreaksAt c r (AreFewer 1 c) → flag_at c ≡ Err r
unfolding flag_at
flag_ends c r b = refusal_is c (bit_next c) r b.0 (flag_stops c r.cause b.1)

uint_ends : (c : Cursor) (r : Refusal) → BreaksAt c r (BreaksNumber 38 c) → uint_at c ≡ Err r
unfolding uint_at
uint_ends c r b = refusal_is c (number_on 38 1 c) r b.0 (number_stops 38 1 c r.cause b.1)

sint_ends : (c : Cursor) (r : Refusal) → BreaksAt c r (λ cause. BreaksNumber 38 c cause ⊎ LacksSign c cause) → sint_at c ≡ Err r
unfolding sint_at
sint_ends c r b = refusal_is c (signed_on c) r b.0 (signed_stops c r.cause b.1)

literal_ends : (c : Cursor) (r : Refusal) → BreaksAt c r (AreFewer 32 c) → literal_at c ≡ Err r
unfolding literal_at
literal_ends c r b = refusal_is c (literal_on c) r b.0 (literal_stops c r.cause b.1)

block_ends : (len : ℕ) (c : Cursor) (r : Refusal) → BreaksAt c r (AreFewer (8 * len) c) → block_read_at len c ≡ Err r
unfolding block_read_at
block_ends len c r b = refusal_is c (bytes_on len c) r b.0 (bytes_stop len c r.cause b.1)

-- ---- headers

pub refused_broken : {A : Type 0} (s : Syntax A) (c : Cursor) (r : Refusal) → read s c ≡ Err r → HeaderBreaks s c r
refused_broken (done x) c r e = absurd cc
refused_broken (flag_then f) c r e =
    field_cases (flag_at c) (λ b. read (f b.0) b.1) r e (λ first. inl (flag_breaks c r first))
    (λ v d first second. inr (v, d, flag_read v c d first, refused_broken (f v) d r second))
refused_broken (uint_then f) c r e =
    field_cases (uint_at c) (λ n. read (f n.0) n.1) r e (λ first. inl (uint_breaks c r first))
    (λ v d first second.
    let number = uint_read v c d first in
    inr (v, d, number.0, number.1, refused_broken (f v) d r second))
refused_broken (sint_then f) c r e =
    field_cases (sint_at c) (λ n. read (f n.0) n.1) r e (λ first. inl (sint_breaks c r first))
    (λ v d first second.
    let number = sint_read v c d first in
    inr (v, d, number.below, number.passes, refused_broken (f v) d r second))
refused_broken (literal_then f) c r e =
    field_cases (literal_at c) (λ n. read (f n.0) n.1) r e (λ first. inl (literal_breaks c r first))
    (λ v d first second.
    let number = literal_read v c d first in
    inr (v, d, number.below, number.passes, refused_broken (f v) d r second))
refused_broken (block_then len f) c r e =
    field_cases (block_read_at len c) (λ n. read (f n.0) n.1) r e (λ first. inl (block_breaks len c r first))
    (λ v d first second.
    let bytes = block_read v len c d first in
    inr (v, d, (bytes.count, bytes.below), bytes.passes, refused_broken (f v) d r second))
refused_broken (align_then s) c r e = refused_broken s (aligned c) r e
refused_broken (here_then f) c r e = refused_broken (f (place c)) c r e
refused_broken (refuse at cause) c r e =
    let own : Refusal = record { at = at; cause = cause } in
    let same : r ≡ own = cc in
    (ap (λ (x : Refusal). x.at) same, ap (λ (x : Refusal). x.cause) same)

-- a flag that was passed
flag_passed : (b : Bool) (c d : Cursor) → Passes c (b ∷ []) d → flag_at c ≡ Ok (b, d)
flag_passed b c d p = rw (none_passed (skip 1 c) d (passes_bit b [] c d p).1) (flag_spelled b [] c d p)

pub broken_refused : {A : Type 0} (s : Syntax A) (c : Cursor) (r : Refusal) → HeaderBreaks s c r → read s c ≡ Err r
broken_refused (done x) c r e = absurd e
broken_refused (flag_then f) c r (inl b) = field_stops (flag_at c) (λ b. read (f b.0) b.1) r (flag_ends c r b)
broken_refused (flag_then f) c r (inr e) =
    later_stops (flag_at c) (λ b. read (f b.0) b.1) r e.0 e.1 (flag_passed e.0 c e.1 e.2) (broken_refused (f e.0) e.1 r e.3)
broken_refused (uint_then f) c r (inl b) = field_stops (uint_at c) (λ n. read (f n.0) n.1) r (uint_ends c r b)
broken_refused (uint_then f) c r (inr e) =
    later_stops (uint_at c) (λ n. read (f n.0) n.1) r e.0 e.1 (uint_spelled e.0 c e.1 e.2 e.3) (broken_refused (f e.0) e.1 r e.4)
broken_refused (sint_then f) c r (inl b) = field_stops (sint_at c) (λ n. read (f n.0) n.1) r (sint_ends c r b)
broken_refused (sint_then f) c r (inr e) =
    later_stops (sint_at c) (λ n. read (f n.0) n.1) r e.0 e.1 (sint_spelled e.0 c e.1 e.2 e.3) (broken_refused (f e.0) e.1 r e.4)
broken_refused (literal_then f) c r (inl b) = field_stops (literal_at c) (λ n. read (f n.0) n.1) r (literal_ends c r b)
broken_refused (literal_then f) c r (inr e) =
    later_stops (literal_at c) (λ n. read (f n.0) n.1) r e.0 e.1 (literal_spelled e.0 c e.1 e.2 e.3) (broken_refused (f e.0) e.1 r e.4)
broken_refused (block_then len f) c r (inl b) = field_stops (block_read_at len c) (λ n. read (f n.0) n.1) r (block_ends len c r b)
broken_refused (block_then len f) c r (inr e) =
    later_stops (block_read_at len c) (λ n. read (f n.0) n.1) r e.0 e.1 (block_spelled e.0 len c e.1 e.2.0 e.2.1 e.3) (broken_refused (f e.0) e.1 r e.4)
broken_refused (align_then s) c r e = broken_refused s (aligned c) r e
broken_refused (here_then f) c r e = broken_refused (f (place c)) c r e
broken_refused (refuse at cause) c r e = rw (← e.0, ← e.1) refl
