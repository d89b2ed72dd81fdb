-- Answers on rows, gathered one after another.
use Rattle.std.proofs.Common.{◌≡◌, ℕ, ◌+◌, List, [], ◌∷◌, ◌++◌, length, arith, sym, ap, subst}
use Rattle.dirac_rows.specs.Answers.{AnswerRows}
use Rattle.dirac_rows.proofs.Order.{answer_more}

pub no_answers : {T : Type 0} (P : ℕ → T → Type 0) (items : List T) → items ≡ [] → AnswerRows P 0 items
no_answers P items e = (ap length e, λ r d l. absurd (omega arith))

pub answers_more : {T : Type 0} (P : ℕ → T → Type 0) (n : ℕ) (items new : List T) (x : T) → AnswerRows P n items → P n x → new ≡ items ++ x ∷ [] → AnswerRows P (n + 1) new
answers_more P n items new x f ok e = subst (AnswerRows P (n + 1)) (sym e) (answer_more P n items x f ok)
