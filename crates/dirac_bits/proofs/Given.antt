-- What an answer that is read says of spellings.
use Rattle.std.proofs.Common.{◌≡◌, ℕ, ◌*◌, ◌≤◌, List, length, sym, ap, ◌∙◌, Result, Ok, Err}
use Rattle.std.specs.Prelude.{IfOk}
use Rattle.dirac_common.specs.declared.faults.Refusal.{Refusal}
use Rattle.dirac_bits.specs.Cursor.{Cursor, start}
use Rattle.dirac_bits.specs.Syntax.{Syntax, read}
use Rattle.dirac_bits.specs.Answers.{GivesSeenBy, ReadsSeenBy, value_of}
use Rattle.dirac_bits.specs.Laws.{BeginsWith, StartsWith}
use Rattle.dirac_bits.proofs.Passing.{same_answer}
use Rattle.dirac_bits.proofs.Read.{spelled_read, read_spelled}
use Rattle.dirac_bits.proofs.Whole.{whole_read, read_whole}

-- an answer that is read, without the place behind it
pub reads_given : {A : Type 0} (r : Result A Refusal) (d : Cursor) (read : Result (A × Cursor) Refusal) → ReadsSeenBy (λ x. x) r d read → GivesSeenBy (λ x. x) r (value_of read)
reads_given (Ok x) d read e = ap value_of e
reads_given (Err refusal) d read e = ap value_of e

-- what is answered of a payload is spelled by its first bits
pub given_spelled : {A : Type 0} (s : Syntax A) (bytes : List ℕ) (r : Result A Refusal) → GivesSeenBy (λ x. x) r (value_of (read s (start bytes))) → IfOk r (λ x. StartsWith s x bytes)
given_spelled s bytes (Ok x) e = read_whole s x bytes e
given_spelled s bytes (Err refusal) e = tt

-- and what its first bits spell is answered
pub spelled_given : {A : Type 0} (s : Syntax A) (bytes : List ℕ) (r : Result A Refusal) → GivesSeenBy (λ x. x) r (value_of (read s (start bytes))) → (x : A) → StartsWith s x bytes → r ≡ Ok x
spelled_given s bytes (Ok y) e x p = sym e ∙ whole_read s x bytes p
spelled_given s bytes (Err refusal) e x p = sym e ∙ whole_read s x bytes p

-- what a reader answers is spelled by the bits left
pub reads_spelled : {A : Type 0} (s : Syntax A) (c d : Cursor) (r : Result A Refusal) → c.at ≤ 8 * length c.bytes → ReadsSeenBy (λ x. x) r d (read s c) → IfOk r (λ x. BeginsWith s x c d)
reads_spelled s c d (Ok x) inside e = read_spelled s x c d inside e
reads_spelled s c d (Err refusal) inside e = tt

-- and what these spell it answers
pub spelled_reads : {A : Type 0} (s : Syntax A) (c d : Cursor) (r : Result A Refusal) → ReadsSeenBy (λ x. x) r d (read s c) → (x : A) (e : Cursor) → BeginsWith s x c e → (r ≡ Ok x) × (d ≡ e)
spelled_reads s c d (Ok y) is x e p =
    let same = same_answer y x d e (read s c) is (spelled_read s x c e p.bits p.spells p.passes) in
    (cc, same.1)
spelled_reads s c d (Err refusal) is x e p =
    let other = sym is ∙ spelled_read s x c e p.bits p.spells p.passes in
    absurd cc
