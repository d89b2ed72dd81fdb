-- A header is spelled or breaks, and not both, in one way.
use Rattle.std.proofs.Common.{◌≡◌, ◌∙◌, ◌⊎◌, ◌*◌, ◌≤◌, length, sym, ap, refl, inl, inr, Result, Ok, Err}
use Rattle.dirac_common.specs.declared.faults.Refusal.{Refusal}
use Rattle.dirac_bits.specs.Cursor.{Cursor}
use Rattle.dirac_bits.specs.Laws.{BeginsWith}
use Rattle.dirac_bits.specs.Syntax.{Syntax, read}
use Rattle.dirac_bits.proofs.Read.{spelled_read, read_spelled}
use Rattle.dirac_reading_laws.specs.Broken.{HeaderBreaks}
use Rattle.dirac_reading_laws.proofs.Broken.{broken_refused, refused_broken}

-- what is spelled is read
spelled_is_read : {A : Type 0} (s : Syntax A) (x : A) (c d : Cursor) → BeginsWith s x c d → read s c ≡ Ok (x, d)
spelled_is_read s x c d b = spelled_read s x c d b.bits b.spells b.passes

-- an answer is a value with the place behind it, or a refusal
read_cases : {A : Type 0} (s : Syntax A) (c : Cursor) (r : Result (A × Cursor) Refusal) → read s c ≡ r
    → c.at ≤ 8 * length c.bytes → ((x : A) × (d : Cursor) × BeginsWith s x c d) ⊎ ((r : Refusal) × HeaderBreaks s c r)
read_cases s c (Ok x) is inside = inl (x.0, x.1, read_spelled s x.0 c x.1 inside is)
read_cases s c (Err r) is inside = inr (r, refused_broken s c r is)

pub spelled_or_broken : {A : Type 0} (s : Syntax A) (c : Cursor) → c.at ≤ 8 * length c.bytes
    → ((x : A) × (d : Cursor) × BeginsWith s x c d) ⊎ ((r : Refusal) × HeaderBreaks s c r)
spelled_or_broken s c inside = read_cases s c (read s c) refl inside

-- an answer is of one kind, and has one value or one refusal
never_both : {X E : Type 0} (r : Result X E) (x : X) (e : E) → r ≡ Ok x → r ≡ Err e → ⊥
never_both r x e good bad = absurd cc

same_value : {X E : Type 0} (r : Result X E) (x y : X) → r ≡ Ok x → r ≡ Ok y → x ≡ y
same_value {X} {E} r x y first second =
    let left : Result X E = Ok x in
    let right : Result X E = Ok y in
    let both : left ≡ right = sym first ∙ second in
    cc

same_refusal : {X E : Type 0} (r : Result X E) (x y : E) → r ≡ Err x → r ≡ Err y → x ≡ y
same_refusal {X} {E} r x y first second =
    let left : Result X E = Err x in
    let right : Result X E = Err y in
    let both : left ≡ right = sym first ∙ second in
    cc

pub spelled_not_broken : {A : Type 0} (s : Syntax A) (x : A) (c d : Cursor) (r : Refusal) → BeginsWith s x c d → HeaderBreaks s c r → ⊥
spelled_not_broken s x c d r b broken = never_both (read s c) (x, d) r (spelled_is_read s x c d b) (broken_refused s c r broken)

pub one_value : {A : Type 0} (s : Syntax A) (x y : A) (c d e : Cursor) → BeginsWith s x c d → BeginsWith s y c e → (x ≡ y) × (d ≡ e)
one_value {A} s x y c d e first second =
    let same = same_value (read s c) (x, d) (y, e) (spelled_is_read s x c d first) (spelled_is_read s y c e second) in
    (ap (λ (p : A × Cursor). p.0) same, ap (λ (p : A × Cursor). p.1) same)

pub one_refusal : {A : Type 0} (s : Syntax A) (c : Cursor) (r q : Refusal) → HeaderBreaks s c r → HeaderBreaks s c q → r ≡ q
one_refusal s c r q first second = same_refusal (read s c) r q (broken_refused s c r first) (broken_refused s c q second)
