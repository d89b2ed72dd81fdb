-- What is known of answers.
use Rattle.std.proofs.Common.{Result, Ok, Err, OnOk}

-- what follows from two facts of an answer
pub ok_both : {T E : Type 0} (P Q R : Type 0) → (P → Q → R) → (r : Result T E) → OnOk r P → OnOk r Q → OnOk r R
ok_both P Q R both (Ok x) p q = both p q
ok_both P Q R both (Err e) p q = p
