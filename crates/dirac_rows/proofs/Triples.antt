-- Three answers, taken one after another.
use Rattle.std.proofs.Common.{◌≡◌, ℕ, List, ◌∷◌, ap, sym, ◌∙◌, arith}
use Rattle.std.specs.Prelude.{slice_index_or}
use Rattle.dirac_rows.specs.Answers.{AnswerRows}

pub three_answers : {T : Type 0} (f : ℕ → T) (items r1 r2 r3 : List T) (x y z : T) → items ≡ x ∷ r1 → r1 ≡ y ∷ r2 → r2 ≡ z ∷ r3 → AnswerRows (λ r t. t ≡ f r) 3 items
    → (x ≡ f 0) × (y ≡ f 1) × (z ≡ f 2)
three_answers f items r1 r2 r3 x y z p q s are =
    let all : items ≡ x ∷ y ∷ z ∷ r3 = p ∙ ap (λ l. x ∷ l) (q ∙ ap (λ l. y ∷ l) s) in (
      sym (ap (λ l. slice_index_or l 0 x) all) ∙ are.1 0 x (omega arith),
      sym (ap (λ l. slice_index_or l 1 x) all) ∙ are.1 1 x (omega arith),
      sym (ap (λ l. slice_index_or l 2 x) all) ∙ are.1 2 x (omega arith),
    )
