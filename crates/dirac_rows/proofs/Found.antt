-- Pairs of rows and answers, as workers find them, and their order.
use Rattle.std.proofs.Common.{◌≡◌, ℕ, true, suc, ◌+◌, ◌-◌, ◌<◌, ◌≤◌, List, [], ◌∷◌, ◌++◌, sym, refl, ap, ◌∙◌, subst, All, Result, Ok, Err, OnOk, IfOk, is_ok, arith}
use Rattle.std.proofs.lemmas.List.{map-append}
use Rattle.std.proofs.lemmas.List.Elements.{All-nil, All-append, All-push, All-contains}
use Rattle.std.specs.Prelude.{slice_index_or, Contains}
use Rattle.dirac_rows.specs.Weights.{times}
use Rattle.dirac_rows.specs.Answers.{AnswerRows, Gathers, rows_of}
use Rattle.dirac_rows.proofs.Sums.{one_if, weight_at, total-append}

module _ {T : Type 0} (answers : ℕ → T → Type 0) (rows : ℕ) where
  pub gathers_nil : Gathers answers rows [] []
  gathers_nil = (All-nil (λ (p : ℕ × T). (p.0 < rows) × answers p.0 p.1), λ r h. refl)

  pub gathers_both : (k l : List ℕ) (xs ys : List (ℕ × T)) → Gathers answers rows k xs → Gathers answers rows l ys → Gathers answers rows (k ++ l) (xs ++ ys)
  gathers_both k l xs ys f g = (
    All-append (λ (p : ℕ × T). (p.0 < rows) × answers p.0 p.1) xs ys f.0 g.0,
    λ r h. let a = ap (times r) (map-append (λ (p : ℕ × T). p.0) xs ys) in let b = total-append (weight_at r) (rows_of xs) (rows_of ys) in let c = total-append (weight_at r) k l in let d = f.1 r h in let e = g.1 r h in omega arith,
  )

  pub gathers_more : (k : List ℕ) (xs : List (ℕ × T)) (r : ℕ) (x : T) → Gathers answers rows k xs → r < rows → answers r x → Gathers answers rows (k ++ r ∷ []) (xs ++ (r, x) ∷ [])
  gathers_more k xs r x f row ok = gathers_both k (r ∷ []) xs ((r, x) ∷ []) f (All-push (λ (p : ℕ × T). (p.0 < rows) × answers p.0 p.1) [] (r, x) (All-nil (λ (p : ℕ × T). (p.0 < rows) × answers p.0 p.1)) (row, ok), λ s h. refl)

  pub gathers_same : (k l : List ℕ) (xs : List (ℕ × T)) → Gathers answers rows k xs → ((r : ℕ) → r < rows → times r l ≡ times r k) → Gathers answers rows l xs
  gathers_same k l xs f e = (f.0, λ r h. f.1 r h ∙ sym (e r h))

  pub both_found : {V E : Type 0} (items : V → List (ℕ × T)) (k l : List ℕ) (ours theirs all : Result V E)
      → IfOk ours (λ v. Gathers answers rows k (items v)) → IfOk theirs (λ v. Gathers answers rows l (items v))
      → IfOk all (λ v. IfOk ours (λ a. IfOk theirs (λ b. items v ≡ items a ++ items b))) → OnOk all ((is_ok ours ≡ true) × (is_ok theirs ≡ true))
      → IfOk all (λ v. Gathers answers rows (k ++ l) (items v))
  both_found items k l ours theirs (Err e) f g h o = tt
  both_found items k l (Ok a) (Ok b) (Ok v) f g h o = subst (λ (xs : List (ℕ × T)). Gathers answers rows (k ++ l) xs) (sym h) (gathers_both k l (items a) (items b) f g)
  both_found items k l (Err a) theirs (Ok v) f g h o = absurd (omega (arith, ap one_if o.0))
  both_found items k l (Ok a) (Err b) (Ok v) f g h o = absurd (omega (arith, ap one_if o.1))

pub both_ended : {V E : Type 0} (P : Type 0) (ours theirs all : Result V E) → OnOk ours P → OnOk all ((is_ok ours ≡ true) × (is_ok theirs ≡ true)) → OnOk all P
both_ended P ours theirs (Err e) p o = tt
both_ended P (Ok a) theirs (Ok v) p o = p
both_ended P (Err a) theirs (Ok v) p o = absurd (omega (arith, ap one_if o.0))

-- one more than the greatest number
abbrev max_of : ℕ → ℕ → ℕ
max_of a b = a + (b - a)

unfoldable pub top : List ℕ → ℕ
top [] = 0
top (x ∷ xs) = max_of (suc x) (top xs)

pub top_le : (xs : List ℕ) (n : ℕ) → All (λ k. k < n) xs → top xs ≤ n
unfolding top
top_le [] n h = omega arith
top_le (x ∷ xs) n h = let a = h 0 0 (omega arith) in let b = top_le xs n (λ k d l. h (suc k) d (omega arith)) in omega arith

pub top_more : (xs : List ℕ) (n : ℕ) → n < top (xs ++ n ∷ [])
unfolding top
top_more [] n = omega arith
top_more (x ∷ xs) n = let a = top_more xs n in omega arith

-- a claimed row leaves fewer rows above those that are kept
pub rows_left_fall : (rows n : ℕ) (old new : List ℕ) → n < rows → All (λ k. k < n) old → new ≡ old ++ n ∷ [] → rows - top new < rows - top old
rows_left_fall rows n old new row higher e = let a = top_le old n higher in let b = top_more old n in let c = ap top e in omega arith

pub gathers_pushed : {T : Type 0} (answers : ℕ → T → Type 0) (rows : ℕ) (k l : List ℕ) (xs ys : List (ℕ × T)) (r : ℕ) (x : T) → Gathers answers rows k xs → r < rows → answers r x
    → l ≡ k ++ r ∷ [] → ys ≡ xs ++ (r, x) ∷ [] → Gathers answers rows l ys
gathers_pushed {T} answers rows k l xs ys r x f row ok e d =
    subst (λ (m : List ℕ). Gathers answers rows m ys) (sym e) (subst (λ (zs : List (ℕ × T)). Gathers answers rows (k ++ r ∷ []) zs) (sym d) (gathers_more answers rows k xs r x f row ok))

pub answers_kept : {T V E : Type 0} (answers : ℕ → T → Type 0) (rows all : ℕ) (kept : List ℕ) (found : List (ℕ × T)) (items : V → List T) (result : Result V E) → Gathers answers all kept found
    → IfOk result (λ v. AnswerRows (λ r x. Contains found (r, x)) rows (items v)) → IfOk result (λ v. AnswerRows answers rows (items v))
answers_kept answers rows all kept found items (Err e) f h = tt
answers_kept {T} answers rows all kept found items (Ok v) f h =
    (h.0, λ r d row. (All-contains (λ (p : ℕ × T). (p.0 < all) × answers p.0 p.1) found (r, slice_index_or (items v) r d) f.0 (h.1 r d row)).1)
