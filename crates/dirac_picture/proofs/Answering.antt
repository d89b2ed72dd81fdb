-- What an answer says of a payload, without the place behind what is read.
use Rattle.std.proofs.Common.{◌≡◌, List, ℕ, Result, Ok, Err, ap, subst}
use Rattle.std.specs.Prelude.{IfOk}
use Rattle.dirac_common.specs.declared.faults.Refusal.{Refusal}
use Rattle.dirac_common.specs.declared.faults.Stop.{Stop}
use Rattle.dirac_common.specs.declared.faults.Stop.TheVariants as stop
use Rattle.dirac_bits.specs.Answers.{value_of, ReadsOrStops}
use Rattle.dirac_bits.specs.Cursor.{Cursor, start}
use Rattle.dirac_bits.specs.Laws.{StartsWith}
use Rattle.dirac_bits.specs.Syntax.{Syntax, read}
use Rattle.dirac_bits.proofs.Whole.{whole_read, read_whole}
use Rattle.dirac_picture.specs.Answers.{GivesOrStops}

-- the answer is what is read
pub reads_given : {A : Type 0} (r : Result A Stop) (d : Cursor) (read : Result (A × Cursor) Refusal) → ReadsOrStops r d read → GivesOrStops r (value_of read)
reads_given (Ok x) d read e = ap value_of e
reads_given (Err (stop.Refused refusal)) d read e = ap value_of e
reads_given (Err stop.NoMemory) d read e = tt

-- also where the reader began at the payload's start
pub payload_given : {A : Type 0} (s : Syntax A) (bytes : List ℕ) (c d : Cursor) (r : Result A Stop) → c ≡ start bytes → ReadsOrStops r d (read s c) → GivesOrStops r (value_of (read s (start bytes)))
payload_given s bytes c d r begins e = subst (λ (x : Cursor). GivesOrStops r (value_of (read s x))) begins (reads_given r d (read s c) e)

-- it is spelled by the payload's first bits
pub given_spelled : {A : Type 0} (s : Syntax A) (bytes : List ℕ) (r : Result A Stop) → GivesOrStops r (value_of (read s (start bytes))) → IfOk r (λ x. StartsWith s x bytes)
given_spelled s bytes (Ok x) e = read_whole s x bytes e
given_spelled s bytes (Err refused) e = tt

-- what they spell is answered, but where memory is wanting
pub spelled_given : {A : Type 0} (s : Syntax A) (bytes : List ℕ) (r : Result A Stop) → GivesOrStops r (value_of (read s (start bytes))) → (x : A) → StartsWith s x bytes → GivesOrStops r (Ok x)
spelled_given {A = A} s bytes r e x p = subst (λ (given : Result A Refusal). GivesOrStops r given) (whole_read s x bytes p) e
