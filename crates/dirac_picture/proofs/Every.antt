-- What holds of each value that fields can have holds of the value that is read.
use Rattle.std.proofs.Common.{◌≡◌, ℕ, ℤ, Bool, true, false, List, Result, Ok, Err, refl, subst, ◌≤◌, if◌then◌else◌}
use Rattle.std.specs.Prelude.{nat_le}
use Rattle.std.proofs.lemmas.Bool.{leb-true, and_parts}
use Rattle.dirac_common.specs.declared.faults.Cause.{Cause}
use Rattle.dirac_common.specs.declared.faults.Refusal.{Refusal}
use Rattle.dirac_common.specs.Chain.{◌>>=◌ as ◌>>◌}
use Rattle.dirac_bits.specs.Cursor.{Cursor, place, aligned}
use Rattle.dirac_bits.specs.Fields.{flag_at, uint_at, sint_at, literal_at, block_read_at}
use Rattle.dirac_bits.proofs.Passing.{same_answer}
use Rattle.dirac_bits.specs.Syntax.{Syntax, done, flag_then, uint_then, sint_then, literal_then, block_then, align_then, here_then, refuse, ◌>>=◌, read, number_field, between}

-- each value that the fields can have
abbrev pub Every : {A : Type 0} → (A → Type 0) → Syntax A → Type 0
Every P (done x) = P x
Every P (flag_then f) = (b : Bool) → Every P (f b)
Every P (uint_then f) = (n : ℕ) → Every P (f n)
Every P (sint_then f) = (z : ℤ) → Every P (f z)
Every P (literal_then f) = (n : ℕ) → Every P (f n)
Every P (block_then len f) = (bytes : List ℕ) → Every P (f bytes)
Every P (align_then s) = Every P s
Every P (here_then f) = (at : ℕ) → Every P (f at)
Every P (refuse at cause) = Unit {0}

-- a step before an answer
after_ok : {A B : Type 0} (r : Result A Refusal) (g : A → Result B Refusal) (y : B) (Q : Type 0) → ((a : A) → g a ≡ Ok y → Q) → (r >> g) ≡ Ok y → Q
after_ok (Ok a) g y Q k is = k a is
after_ok (Err e) g y Q k is = absurd cc

-- it holds of what is read
pub every_read : {A : Type 0} (P : A → Type 0) (s : Syntax A) (c d : Cursor) (x : A) → Every P s → read s c ≡ Ok (x, d) → P x
every_read P (done y) c d x e is = subst P (same_answer y x c d (Ok (y, c)) refl is).0 e
every_read P (flag_then f) c d x e is = after_ok (flag_at c) (λ b. read (f b.0) b.1) (x, d) (P x) (λ b more. every_read P (f b.0) b.1 d x (e b.0) more) is
every_read P (uint_then f) c d x e is = after_ok (uint_at c) (λ n. read (f n.0) n.1) (x, d) (P x) (λ n more. every_read P (f n.0) n.1 d x (e n.0) more) is
every_read P (sint_then f) c d x e is = after_ok (sint_at c) (λ z. read (f z.0) z.1) (x, d) (P x) (λ z more. every_read P (f z.0) z.1 d x (e z.0) more) is
every_read P (literal_then f) c d x e is = after_ok (literal_at c) (λ n. read (f n.0) n.1) (x, d) (P x) (λ n more. every_read P (f n.0) n.1 d x (e n.0) more) is
every_read P (block_then len f) c d x e is = after_ok (block_read_at len c) (λ b. read (f b.0) b.1) (x, d) (P x) (λ b more. every_read P (f b.0) b.1 d x (e b.0) more) is
every_read P (align_then s) c d x e is = every_read P s (aligned c) d x e is
every_read P (here_then f) c d x e is = every_read P (f (place c)) c d x (e (place c)) is
every_read P (refuse at cause) c d x e is = absurd cc

-- fields, and then others
pub every_then : {A B : Type 0} (Q : A → Type 0) (P : B → Type 0) (s : Syntax A) (f : A → Syntax B) → Every Q s → ((x : A) → Q x → Every P (f x)) → Every P (s >>= f)
every_then Q P (done x) f e k = k x e
every_then Q P (flag_then g) f e k = λ b. every_then Q P (g b) f (e b) k
every_then Q P (uint_then g) f e k = λ n. every_then Q P (g n) f (e n) k
every_then Q P (sint_then g) f e k = λ z. every_then Q P (g z) f (e z) k
every_then Q P (literal_then g) f e k = λ n. every_then Q P (g n) f (e n) k
every_then Q P (block_then len g) f e k = λ bytes. every_then Q P (g bytes) f (e bytes) k
every_then Q P (align_then s) f e k = every_then Q P s f e k
every_then Q P (here_then g) f e k = λ at. every_then Q P (g at) f (e at) k
every_then Q P (refuse at cause) f e k = tt

-- of some fields nothing need be known
pub every_any : {A : Type 0} (s : Syntax A) → Every (λ _. Unit {0}) s
every_any (done x) = tt
every_any (flag_then f) = λ b. every_any (f b)
every_any (uint_then f) = λ n. every_any (f n)
every_any (sint_then f) = λ z. every_any (f z)
every_any (literal_then f) = λ n. every_any (f n)
every_any (block_then len f) = λ bytes. every_any (f bytes)
every_any (align_then s) = every_any s
every_any (here_then f) = λ at. every_any (f at)
every_any (refuse at cause) = tt

-- a value that passes its rule
every_allowed : (P : ℕ → Type 0) (n at : ℕ) (cause : Cause) (allowed : Bool) → (allowed ≡ true → P n) → Every P (if allowed then done n else refuse at cause)
every_allowed P n at cause true k = k refl
every_allowed P n at cause false k = tt

-- a number from one to another is in between
pub every_field : (cause : Cause) (low high : ℕ) → Every (λ n. (low ≤ n) × (n ≤ high)) (number_field cause (between low high))
every_field cause low high = λ at n.
    every_allowed (λ m. (low ≤ m) × (m ≤ high)) n at cause (between low high n) (λ yes.
    let parts = and_parts (nat_le low n) (nat_le n high) yes in (leb-true low n parts.0, leb-true n high parts.1))
