-- A step in place: the pairs below n are changed, the rest is as it was.
use Rattle.std.proofs.Common.{◌≡◌, ◌≢◌, ℕ, zero, suc, ℤ, pos, ◌+◌, ◌/◌, ◌%◌, ◌<◌, ◌≤◌, ◌+ℤ◌, ◌*ℤ◌, List, length, get_or, set, arith, refl, inl, inr, ap, sym, ◌∙◌, eq-eqb}
use Rattle.std.proofs.lemmas.List.{get_or-set_same, get_or-set_other, length-set, get_or_past}
use Rattle.std.proofs.lemmas.List.FromFn.{fill_by_all, get_or-map-range_with_len, length-map-range_with_len}
use Rattle.std.proofs.lemmas.Bool.{cases_lt, cases_eq, ne_eqb}
use Rattle.dirac_lift.specs.Lifting.{Step, own, other, pair_read, value_read, weighted, rounded, change_at, moved, new_at, lifted_at, lift}

pub record LiftedBelow (s : Step) (xs ys : List ℤ) (n : ℕ) : Type 0 where
  pub len : length ys ≡ length xs
  pub kept : (m : ℕ) → get_or ys (other s.parity m) (pos 0) ≡ get_or xs (other s.parity m) (pos 0)
  pub done : (m : ℕ) → m < n → get_or ys (own s.parity m) (pos 0) ≡ new_at s xs m
  pub rest : (m : ℕ) → n ≤ m → get_or ys (own s.parity m) (pos 0) ≡ get_or xs (own s.parity m) (pos 0)

pub below_none : (s : Step) (xs : List ℤ) → LiftedBelow s xs xs 0
below_none s xs = record { len = refl; kept = λ m. refl; done = λ m l. absurd (omega (arith, l)); rest = λ m l. refl }

-- sums of the same values are the same
pub weighted_same : (taps : List ℤ) (f g : ℕ → ℤ) (m : ℕ) → ((k : ℕ) → f k ≡ g k) → weighted taps f m ≡ weighted taps g m
weighted_same taps f g zero h = refl
weighted_same taps f g (suc m) h =
    ap (λ a. a +ℤ get_or taps m (pos 0) *ℤ f m) (weighted_same taps f g m h)
    ∙ ap (λ v. weighted taps g m +ℤ get_or taps m (pos 0) *ℤ v) (h m)

-- a change hangs on the places that are read alone
pub change_same : (s : Step) (xs ys : List ℤ) (n : ℕ) → length ys ≡ length xs → ((m : ℕ) → get_or ys (other s.parity m) (pos 0) ≡ get_or xs (other s.parity m) (pos 0)) → change_at s ys n ≡ change_at s xs n
change_same s xs ys n len kept =
    ap (rounded s.shift) (weighted_same s.taps (value_read s.parity s.lead ys n) (value_read s.parity s.lead xs n) (length s.taps)
    (λ k. kept (pair_read s.lead (length ys / 2) n k) ∙ ap (λ l. get_or xs (other s.parity (pair_read s.lead (l / 2) n k)) (pos 0)) len))

pub below_more : (s : Step) (xs ys : List ℤ) (n : ℕ) (v : ℤ) → LiftedBelow s xs ys n → s.parity ≤ 1 → n < length xs / 2 → v ≡ new_at s ys n → LiftedBelow s xs (set ys (own s.parity n) v) (n + 1)
below_more s xs ys n v b p l e = record {
  len = length-set ys (own s.parity n) v ∙ b.len;
  kept = λ m. get_or-set_other ys (own s.parity n) (other s.parity m) v (pos 0) (λ f. omega (arith, f, p)) ∙ b.kept m;
  done = λ m h. elim (cases_eq m n) [
    | inl here ↦
        ap (λ i. get_or (set ys (own s.parity n) v) (own s.parity i) (pos 0)) here
        ∙ get_or-set_same ys (own s.parity n) v (pos 0) (omega (arith, b.len, p, l)) ∙ e
        ∙ ap (λ a. moved s.minus a (change_at s ys n)) (b.rest n (omega arith))
        ∙ ap (λ d. moved s.minus (get_or xs (own s.parity n) (pos 0)) d) (change_same s xs ys n b.len b.kept)
        ∙ ap (new_at s xs) (sym here)
    | inr before ↦
        get_or-set_other ys (own s.parity n) (own s.parity m) v (pos 0) (λ f. before (omega (arith, f))) ∙ b.done m (omega (arith, h, before))
  ];
  rest = λ m h. get_or-set_other ys (own s.parity n) (own s.parity m) v (pos 0) (λ f. omega (arith, f, h)) ∙ b.rest m (omega (arith, h));
}

pub below_end : (s : Step) (xs ys : List ℤ) (n : ℕ) → LiftedBelow s xs ys n → n ≡ length xs / 2 → s.parity ≤ 1 → length xs % 2 ≡ 0 → ys ≡ lift s xs
unfolding lift
below_end s xs ys n b all p even =
    fill_by_all (lifted_at s xs) ys (length xs) (pos 0) b.len (λ i l. elim (cases_eq (i % 2) s.parity) [
      | inl mine ↦
          let place : own s.parity (i / 2) ≡ i = omega (arith, mine) in
          rw (eq-eqb (i % 2) s.parity mine) (ap (λ q. get_or ys q (pos 0)) (sym place) ∙ b.done (i / 2) (omega (arith, all, even, l)))
      | inr read ↦
          let place : other s.parity (i / 2) ≡ i = omega (arith, read, p) in
          rw (ne_eqb (i % 2) s.parity read) (ap (λ q. get_or ys q (pos 0)) (sym place) ∙ b.kept (i / 2) ∙ ap (λ q. get_or xs q (pos 0)) place)
    ])

pub length-lift : (s : Step) (xs : List ℤ) → length (lift s xs) ≡ length xs
unfolding lift
length-lift s xs = length-map-range_with_len (lifted_at s xs) 0 (length xs)

lift_reads : (s : Step) (xs : List ℤ) (p : ℕ) → p < length xs → get_or (lift s xs) p (pos 0) ≡ lifted_at s xs p
unfolding lift
lift_reads s xs p l = get_or-map-range_with_len (lifted_at s xs) 0 (length xs) p p (pos 0) l (omega arith)

lift_past : (s : Step) (xs : List ℤ) (p : ℕ) → length xs ≤ p → get_or (lift s xs) p (pos 0) ≡ get_or xs p (pos 0)
lift_past s xs p l = get_or_past (lift s xs) p (pos 0) (omega (arith, length-lift s xs)) ∙ sym (get_or_past xs p (pos 0) l)

-- the whole line after a step is changed in all pairs
pub lift_below : (s : Step) (xs : List ℤ) → s.parity ≤ 1 → length xs % 2 ≡ 0 → LiftedBelow s xs (lift s xs) (length xs / 2)
lift_below s xs p even = record {
  len = length-lift s xs;
  kept = λ m. elim (cases_lt (other s.parity m) (length xs)) [
    | inl inside ↦
        let read : other s.parity m % 2 ≢ s.parity = omega (arith, p) in
        lift_reads s xs (other s.parity m) inside ∙ rw (ne_eqb (other s.parity m % 2) s.parity read) refl
    | inr past ↦ lift_past s xs (other s.parity m) past
  ];
  done = λ m l.
      let mine : own s.parity m % 2 ≡ s.parity = omega (arith, p) in
      let pair : own s.parity m / 2 ≡ m = omega (arith, p) in
      lift_reads s xs (own s.parity m) (omega (arith, p, l, even)) ∙ rw (eq-eqb (own s.parity m % 2) s.parity mine) (ap (new_at s xs) pair);
  rest = λ m l. lift_past s xs (own s.parity m) (omega (arith, l, even));
}
