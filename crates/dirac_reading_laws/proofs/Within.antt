-- Headers whose own refusals stand within their bytes, and the refusals of reading them.
use Rattle.std.proofs.Common.{◌≡◌, ◌∙◌, ℕ, ◌*◌, ◌≤◌, ℤ, Bool, true, false, List, [], ◌∷◌, length, refl, ap, if◌then◌else◌, inl, inr, Result, Ok, Err, arith}
use Rattle.std.specs.Prelude.{⊤}
use Rattle.dirac_common.specs.declared.faults.Cause.{Cause}
use Rattle.dirac_common.specs.declared.faults.Refusal.{Refusal}
use Rattle.dirac_common.specs.Bits.{bits_of}
use Rattle.dirac_common.specs.Numbers as numbers
use Rattle.dirac_bits.specs.Answers.{value_of}
use Rattle.dirac_bits.specs.Cursor.{Cursor, aligned, place, start}
use Rattle.dirac_bits.specs.Syntax.{Syntax, done, flag_then, uint_then, sint_then, literal_then, block_then, align_then, here_then, refuse, ◌>>=◌, align, custom, number_field, flag, here, literal, read, sint, uint}
use Rattle.dirac_bits.proofs.Passing.{passes_gap, passes_inside}
use Rattle.dirac_reading_laws.specs.Broken.{HeaderBreaks}
use Rattle.dirac_reading_laws.proofs.Broken.{refused_broken}

-- the places of a header's own refusals are at most this one, where the places that it looks at are
unfoldable pub RefusesWithin : {A : Type 0} → ℕ → Syntax A → Type 0
RefusesWithin n (done x) = ⊤
RefusesWithin n (flag_then f) = (b : Bool) → RefusesWithin n (f b)
RefusesWithin n (uint_then f) = (v : ℕ) → RefusesWithin n (f v)
RefusesWithin n (sint_then f) = (v : ℤ) → RefusesWithin n (f v)
RefusesWithin n (literal_then f) = (v : ℕ) → RefusesWithin n (f v)
RefusesWithin n (block_then len f) = (bytes : List ℕ) → RefusesWithin n (f bytes)
RefusesWithin n (align_then s) = RefusesWithin n s
RefusesWithin n (here_then f) = (at : ℕ) → at ≤ n → RefusesWithin n (f at)
RefusesWithin n (refuse at cause) = at ≤ n

-- ---- each field, and fields behind one another

pub behind : {A B : Type 0} (n : ℕ) (s : Syntax A) (f : A → Syntax B) → RefusesWithin n s → ((x : A) → RefusesWithin n (f x)) → RefusesWithin n (s >>= f)
unfolding RefusesWithin
behind n (done x) f p k = k x
behind n (flag_then g) f p k = λ b. behind n (g b) f (p b) k
behind n (uint_then g) f p k = λ v. behind n (g v) f (p v) k
behind n (sint_then g) f p k = λ v. behind n (g v) f (p v) k
behind n (literal_then g) f p k = λ v. behind n (g v) f (p v) k
behind n (block_then len g) f p k = λ bytes. behind n (g bytes) f (p bytes) k
behind n (align_then s) f p k = behind n s f p k
behind n (here_then g) f p k = λ at inside. behind n (g at) f (p at inside) k
behind n (refuse at cause) f p k = p

pub either : {A : Type 0} (n : ℕ) (b : Bool) (x y : Syntax A) → RefusesWithin n x → RefusesWithin n y → RefusesWithin n (if b then x else y)
either n true x y p q = p
either n false x y p q = q

pub no_more : {A : Type 0} (n : ℕ) (x : A) → RefusesWithin n (done x)
unfolding RefusesWithin
no_more n x = tt

pub refuses : (A : Type 0) (n at : ℕ) (cause : Cause) → at ≤ n → RefusesWithin {A = A} n (refuse at cause)
unfolding RefusesWithin
refuses A n at cause inside = inside

pub a_flag : (n : ℕ) → RefusesWithin n flag
unfolding RefusesWithin
a_flag n = λ b. tt

pub a_number : (n : ℕ) → RefusesWithin n uint
unfolding RefusesWithin
a_number n = λ v. tt

pub a_signed : (n : ℕ) → RefusesWithin n sint
unfolding RefusesWithin
a_signed n = λ v. tt

pub a_literal : (n : ℕ) → RefusesWithin n literal
unfolding RefusesWithin
a_literal n = λ v. tt

pub a_gap : (n : ℕ) → RefusesWithin n align
unfolding RefusesWithin
a_gap n = tt

pub a_block : {A : Type 0} (n len : ℕ) (f : List ℕ → Syntax A) → ((bytes : List ℕ) → RefusesWithin n (f bytes)) → RefusesWithin n (block_then len f)
unfolding RefusesWithin
a_block n len f k = k

-- what follows a place
pub from_here : {A : Type 0} (n : ℕ) (f : ℕ → Syntax A) → ((at : ℕ) → at ≤ n → RefusesWithin n (f at)) → RefusesWithin n (here >>= f)
unfolding RefusesWithin
from_here n f k = k

pub a_field : (n : ℕ) (cause : Cause) (allows : ℕ → Bool) → RefusesWithin n (number_field cause allows)
unfolding RefusesWithin
a_field n cause allows = λ at inside v. either n (allows v) (done v) (refuse at cause) tt inside

pub if_custom : {A : Type 0} (n : ℕ) (default : A) (s : Syntax A) → RefusesWithin n s → RefusesWithin n (custom default s)
unfolding RefusesWithin
if_custom n default s p = λ own. either n own s (done default) p tt

-- ---- reading

-- a header that breaks is refused within its bytes
broken_within : {A : Type 0} (n : ℕ) (s : Syntax A) (c : Cursor) (r : Refusal) → length c.bytes ≡ n → c.at ≤ 8 * length c.bytes → RefusesWithin n s → HeaderBreaks s c r → r.at ≤ n
unfolding RefusesWithin
broken_within n (done x) c r size inside p e = absurd e
broken_within n (flag_then f) c r size inside p (inl b) = omega (arith, b.0, inside, size)
broken_within n (flag_then f) c r size inside p (inr e) =
    broken_within n (f e.0) e.1 r (ap length e.2.same_bytes ∙ size) (passes_inside (e.0 ∷ []) c e.1 e.2 inside) (p e.0) e.3
broken_within n (uint_then f) c r size inside p (inl b) = omega (arith, b.0, inside, size)
broken_within n (uint_then f) c r size inside p (inr e) =
    broken_within n (f e.0) e.1 r (ap length e.3.same_bytes ∙ size) (passes_inside (numbers.uint e.0) c e.1 e.3 inside) (p e.0) e.4
broken_within n (sint_then f) c r size inside p (inl b) = omega (arith, b.0, inside, size)
broken_within n (sint_then f) c r size inside p (inr e) =
    broken_within n (f e.0) e.1 r (ap length e.3.same_bytes ∙ size) (passes_inside (numbers.sint e.0) c e.1 e.3 inside) (p e.0) e.4
broken_within n (literal_then f) c r size inside p (inl b) = omega (arith, b.0, inside, size)
broken_within n (literal_then f) c r size inside p (inr e) =
    broken_within n (f e.0) e.1 r (ap length e.3.same_bytes ∙ size) (passes_inside (numbers.literal e.0) c e.1 e.3 inside) (p e.0) e.4
broken_within n (block_then len f) c r size inside p (inl b) = omega (arith, b.0, inside, size)
broken_within n (block_then len f) c r size inside p (inr e) =
    broken_within n (f e.0) e.1 r (ap length e.3.same_bytes ∙ size) (passes_inside (bits_of e.0) c e.1 e.3 inside) (p e.0) e.4
broken_within n (align_then s) c r size inside p e =
    let gap = passes_gap c inside in
    broken_within n s (aligned c) r size (passes_inside gap.0 c (aligned c) gap.2 inside) p e
broken_within n (here_then f) c r size inside p e =
    broken_within n (f (place c)) c r size inside (p (place c) (omega (arith, inside, size))) e
broken_within n (refuse at cause) c r size inside p e = omega (arith, e.0, p)

value_refused : {A : Type 0} (x : Result (A × Cursor) Refusal) (r : Refusal) → value_of x ≡ Err r → x ≡ Err r
value_refused (Ok x) r e = absurd cc
value_refused (Err q) r e =
    let same : q ≡ r = cc in
    ap (λ (y : Refusal). Err y) same

-- a payload that is refused is so within its bytes
pub refused_within : {A : Type 0} (s : Syntax A) (payload : List ℕ) (r : Refusal) → RefusesWithin (length payload) s → value_of (read s (start payload)) ≡ Err r → r.at ≤ length payload
refused_within s payload r p e =
    broken_within (length payload) s (start payload) r refl (omega arith) p
    (refused_broken s (start payload) r (value_refused (read s (start payload)) r e))
