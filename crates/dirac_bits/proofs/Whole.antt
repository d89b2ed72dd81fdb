-- A payload's header is read exactly where its bytes begin with a spelling of it.
use Rattle.std.proofs.Common.{◌≡◌, ℕ, Bool, List, ◌++◌, length, drop, refl, sym, ap, ◌∙◌, arith, Result, Ok, Err}
use Rattle.std.proofs.lemmas.List.{drop_at}
use Rattle.dirac_common.specs.declared.faults.Refusal.{Refusal}
use Rattle.dirac_common.specs.Bits.{bits_of}
use Rattle.dirac_bits.specs.Cursor.{Cursor, start, skip, bits_left, Passes}
use Rattle.dirac_bits.specs.Syntax.{Syntax, read}
use Rattle.dirac_bits.specs.Answers.{value_of}
use Rattle.dirac_bits.specs.Laws.{StartsWith}
use Rattle.dirac_bits.proofs.Passing.{left_behind}
use Rattle.dirac_bits.proofs.Read.{spelled_read, read_spelled}

-- a front of the bytes' bits is passed from their start
front_passed : (bits rest : List Bool) (bytes : List ℕ) → bits_of bytes ≡ bits ++ rest → Passes (start bytes) bits (skip (length bits) (start bytes))
unfolding bits_left
front_passed bits rest bytes e =
    let left : bits_left (start bytes) ≡ bits ++ rest = e in
    let behind : bits_left (skip (length bits) (start bytes)) ≡ rest =
    left_behind (length bits) (start bytes) ∙ ap (λ b. drop (length bits) b) left ∙ drop_at bits rest (length bits) refl in
    record { same_bytes = refl; moved = refl; front = left ∙ ap (λ b. bits ++ b) (sym behind) }

all_left : (bytes : List ℕ) → bits_left (start bytes) ≡ bits_of bytes
unfolding bits_left
all_left bytes = refl

pub whole_read : {A : Type 0} (s : Syntax A) (x : A) (bytes : List ℕ) → StartsWith s x bytes → value_of (read s (start bytes)) ≡ Ok x
whole_read s x bytes p =
    let c = start bytes in
    ap value_of (spelled_read s x c (skip (length p.bits) c) p.bits p.spells (front_passed p.bits p.rest bytes p.parts))

whole_cases : {A : Type 0} (s : Syntax A) (x : A) (bytes : List ℕ) (r : Result (A × Cursor) Refusal) → read s (start bytes) ≡ r → value_of r ≡ Ok x → StartsWith s x bytes
whole_cases s x bytes (Ok y) is e =
    let same : y.0 ≡ x = cc in
    let p = read_spelled s y.0 (start bytes) y.1 (omega arith) is in
    rw (← same) (record { bits = p.bits; rest = bits_left y.1; spells = p.spells; parts = sym (all_left bytes) ∙ p.passes.front })
whole_cases s x bytes (Err refusal) is e = absurd cc

pub read_whole : {A : Type 0} (s : Syntax A) (x : A) (bytes : List ℕ) → value_of (read s (start bytes)) ≡ Ok x → StartsWith s x bytes
read_whole s x bytes e = whole_cases s x bytes (read s (start bytes)) refl e
