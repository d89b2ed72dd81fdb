-- Rows of sums to which values are added.
use Rattle.std.proofs.Common.{◌≡◌, ℕ, ℤ, pos, suc, ◌+◌, ◌-◌, ◌<◌, ◌≤◌, ◌+ℤ◌, unsigned_abs, List, length, get_or, set, arith, refl, inl, inr, ap, ap₂, sym, subst, ◌∙◌}
use Rattle.std.specs.Int.{int_shr}
use Rattle.std.specs.List.{All}
use Rattle.std.proofs.lemmas.Bool.{cases_eq, cases_lt}
use Rattle.std.proofs.lemmas.Int.{ints}
use Rattle.std.proofs.lemmas.List.{get_or-set_same, get_or-set_other, length-set, get_or_default}
use Rattle.dirac_obmc.specs.declared.sums.Weighed.{Weighed}
use Rattle.dirac_obmc.specs.Adding.{Adds, AddsPart, AreWeighed, PutOver}
use Rattle.dirac_obmc.specs.Compensation.{signed_total}

-- 0 more is the same
pub add_zero : (x : ℤ) → x +ℤ pos 0 ≡ x
add_zero x = omega (arith, ints)

pub part_none : (start : ℕ) (f : ℕ → ℤ) (xs : List ℤ) → AddsPart start f 0 xs xs
part_none start f xs = record { len = refl; before = λ x l. refl; done = λ k l. absurd (omega arith); rest = λ x l. refl }

-- one more sum has grown
pub part_more : (start : ℕ) (f : ℕ → ℤ) (n m : ℕ) (xs ys : List ℤ) (v : ℤ) → AddsPart start f n xs ys → start + n < length ys → m ≡ n + 1
    → v ≡ get_or ys (start + n) (pos 0) +ℤ f n → AddsPart start f m xs (set ys (start + n) v)
part_more start f n m xs ys v a fits next e = record {
  len = length-set ys (start + n) v ∙ a.len;
  before = λ x l. get_or-set_other ys (start + n) x v (pos 0) (omega arith) ∙ a.before x l;
  done = λ k l. elim (cases_eq k n) [
    | inl here ↦
        ap (λ i. get_or (set ys (start + n) v) (start + i) (pos 0)) here
        ∙ get_or-set_same ys (start + n) v (pos 0) fits ∙ e
        ∙ ap (λ z. z +ℤ f n) (a.rest (start + n) (omega arith))
        ∙ ap (λ i. get_or xs (start + i) (pos 0) +ℤ f i) (sym here)
    | inr other ↦ get_or-set_other ys (start + n) (start + k) v (pos 0) (omega arith) ∙ a.done k (omega arith)
  ];
  rest = λ x l. get_or-set_other ys (start + n) x v (pos 0) (omega arith) ∙ a.rest x (omega arith);
}

pub part_all : (start : ℕ) (f : ℕ → ℤ) (n count : ℕ) (xs ys : List ℤ) → AddsPart start f n xs ys → n ≡ count → AddsPart start f count xs ys
part_all start f n count xs ys a e = subst (λ (i : ℕ). AddsPart start f i xs ys) e a

-- one more place of a list is written
pub written_more : (f : ℕ → ℤ) (out : List ℤ) (n m : ℕ) (v : ℤ) → ((k : ℕ) → k < n → get_or out k (pos 0) ≡ f k) → n < length out → m ≡ n + 1 → v ≡ f n → (k : ℕ) → k < m → get_or (set out n v) k (pos 0) ≡ f k
written_more f out n m v h fits next e k l = elim (cases_eq k n) [
  | inl here ↦ ap (λ i. get_or (set out n v) i (pos 0)) here ∙ get_or-set_same out n v (pos 0) fits ∙ e ∙ ap f (sym here)
  | inr other ↦ get_or-set_other out n k v (pos 0) other ∙ h k (omega arith)
]

-- a sum further on hasn't grown yet
pub part_ahead : (start : ℕ) (f : ℕ → ℤ) (n b p : ℕ) (xs ys : List ℤ) → AddsPart start f n xs ys → All (λ v. unsigned_abs v ≤ b) xs → start + n ≤ p → p < length xs → unsigned_abs (get_or ys p (pos 0)) ≤ b
part_ahead start f n b p xs ys a h behind inside = rw (a.rest p behind) (h p (pos 0) inside)

pub part_unmoved : (start : ℕ) (f : ℕ → ℤ) (n b : ℕ) (xs ys : List ℤ) → AddsPart start f n xs ys → unsigned_abs (get_or xs (start + n) (pos 0)) ≤ b → unsigned_abs (get_or ys (start + n) (pos 0)) ≤ b
part_unmoved start f n b xs ys a h = rw (a.rest (start + n) (omega arith)) h

-- the next few sums have grown
pub part_joined : (start place : ℕ) (f g : ℕ → ℤ) (n m k : ℕ) (xs ys zs : List ℤ) → AddsPart start f n xs ys → AddsPart place g m ys zs → place ≡ start + n → k ≡ n + m → ((i : ℕ) → i < m → g i ≡ f (n + i))
    → AddsPart start f k xs zs
part_joined start place f g n m k xs ys zs a b e next same = record {
  len = b.len ∙ a.len;
  before = λ x l. b.before x (omega (arith, l, e)) ∙ a.before x l;
  done = λ i l. elim (cases_lt i n) [
    | inl here ↦ b.before (start + i) (omega (arith, here, e)) ∙ a.done i here
    | inr past ↦
        let at : start + i ≡ place + (i - n) = omega (arith, past, e) in
        let there : n + (i - n) ≡ i = omega (arith, past) in
        ap (λ p. get_or zs p (pos 0)) at ∙ b.done (i - n) (omega (arith, l, past, next))
        ∙ ap₂ (λ (u v : ℤ). u +ℤ v) (ap (λ p. get_or ys p (pos 0)) (sym at) ∙ a.rest (start + i) (omega (arith, past))) (same (i - n) (omega (arith, l, past, next)) ∙ ap f there)
  ];
  rest = λ x l. b.rest x (omega (arith, l, e, next)) ∙ a.rest x (omega (arith, l, next));
}

-- where nothing is added to the last ones, fewer have grown
pub part_shorter : (start : ℕ) (f : ℕ → ℤ) (n m : ℕ) (xs ys : List ℤ) → AddsPart start f m xs ys → n ≤ m → ((k : ℕ) → n ≤ k → k < m → f k ≡ pos 0) → AddsPart start f n xs ys
part_shorter start f n m xs ys a fits none = record {
  len = a.len;
  before = a.before;
  done = λ k l. a.done k (omega (arith, l, fits));
  rest = λ x l. elim (cases_lt x (start + m)) [
    | inl inside ↦
        let at : start + (x - start) ≡ x = omega (arith, l) in
        ap (λ p. get_or ys p (pos 0)) (sym at) ∙ a.done (x - start) (omega (arith, inside, l))
        ∙ ap₂ (λ (u v : ℤ). u +ℤ v) (ap (λ p. get_or xs p (pos 0)) at) (none (x - start) (omega (arith, l)) (omega (arith, inside, l))) ∙ add_zero (get_or xs x (pos 0))
    | inr past ↦ a.rest x past
  ];
}

-- sums that are written over have grown
pub part_put : (place : ℕ) (f : ℕ → ℤ) (n m : ℕ) (values xs ys : List ℤ) → PutOver place values n xs ys → n ≡ m → ((k : ℕ) → k < m → get_or values k (pos 0) ≡ get_or xs (place + k) (pos 0) +ℤ f k) → AddsPart place f m xs ys
part_put place f n m values xs ys h e g = record {
  len = h.len;
  before = h.before;
  done = λ k l. h.done k (omega (arith, l, e)) ∙ g k l;
  rest = λ x l. h.rest x (omega (arith, l, e));
}

pub over_none : (place : ℕ) (values xs : List ℤ) → PutOver place values 0 xs xs
over_none place values xs = record { len = refl; before = λ x l. refl; done = λ k l. absurd (omega arith); rest = λ x l. refl }

pub over_more : (place : ℕ) (values : List ℤ) (n m : ℕ) (xs ys : List ℤ) (v : ℤ) → PutOver place values n xs ys → place + n < length ys → m ≡ n + 1 → v ≡ get_or values n (pos 0) → PutOver place values m xs (set ys (place + n) v)
over_more place values n m xs ys v h fits next e = record {
  len = length-set ys (place + n) v ∙ h.len;
  before = λ x l. get_or-set_other ys (place + n) x v (pos 0) (omega arith) ∙ h.before x l;
  done = λ k l. elim (cases_eq k n) [
    | inl here ↦
        ap (λ i. get_or (set ys (place + n) v) (place + i) (pos 0)) here
        ∙ get_or-set_same ys (place + n) v (pos 0) fits ∙ e ∙ ap (λ i. get_or values i (pos 0)) (sym here)
    | inr other ↦ get_or-set_other ys (place + n) (place + k) v (pos 0) (omega arith) ∙ h.done k (omega arith)
  ];
  rest = λ x l. get_or-set_other ys (place + n) x v (pos 0) (omega arith) ∙ h.rest x (omega arith);
}

-- nothing is added
pub adds_none : (f : ℕ → ℤ) (n : ℕ) (xs : List ℤ) → ((x : ℕ) → x < n → f x ≡ pos 0) → Adds f n xs xs
adds_none f n xs h = record { len = refl; each = λ x l. sym (add_zero (get_or xs x (pos 0))) ∙ ap (λ z. get_or xs x (pos 0) +ℤ z) (sym (h x l)) }

-- one more term is added
pub adds_more : (f : ℕ → ℕ → ℤ) (k m n : ℕ) (xs ys zs : List ℤ) → Adds (λ x. signed_total (f x) k) n xs ys → Adds (λ x. f x k) n ys zs → m ≡ k + 1 → Adds (λ x. signed_total (f x) m) n xs zs
adds_more f k m n xs ys zs a b next = record {
  len = b.len ∙ a.len;
  each = λ x l.
      let last : suc k ≡ m = omega (arith, next) in
      b.each x l ∙ ap (λ z. z +ℤ f x k) (a.each x l) ∙ regroup (get_or xs x (pos 0)) (signed_total (f x) k) (f x k)
      ∙ ap (λ i. get_or xs x (pos 0) +ℤ signed_total (f x) i) last;
} where
  regroup : (p q r : ℤ) → (p +ℤ q) +ℤ r ≡ p +ℤ (q +ℤ r)
  regroup p q r = omega (arith, ints)

-- how large the sums are then
pub adds_bounded : (f : ℕ → ℤ) (n a b c : ℕ) (xs ys : List ℤ) → Adds f n xs ys → length xs ≡ n → All (λ v. unsigned_abs v ≤ a) xs → ((x : ℕ) → x < n → unsigned_abs (f x) ≤ b) → a + b ≤ c
    → All (λ v. unsigned_abs v ≤ c) ys
adds_bounded f n a b c xs ys s len h g l k d inside =
    let place : k < n = omega (arith, s.len) in
    let old : unsigned_abs (get_or xs k (pos 0)) ≤ a = h k (pos 0) (omega arith) in
    rw (get_or_default ys k d (pos 0) inside, s.each k place)
    (abs_within (get_or xs k (pos 0)) (f k) old (g k place))
  where
    abs_within : (x y : ℤ) → unsigned_abs x ≤ a → unsigned_abs y ≤ b → unsigned_abs (x +ℤ y) ≤ c
    abs_within x y p q = omega (arith, ints)

pub adds_all : (f : ℕ → ℕ → ℤ) (k m n : ℕ) (xs ys : List ℤ) → Adds (λ x. signed_total (f x) k) n xs ys → k ≡ m → Adds (λ x. signed_total (f x) m) n xs ys
adds_all f k m n xs ys a e = subst (λ (i : ℕ). Adds (λ x. signed_total (f x) i) n xs ys) e a

pub adds_kept : (f : ℕ → ℕ → ℤ) (k m n : ℕ) (xs ys zs : List ℤ) → Adds (λ x. signed_total (f x) k) n xs ys → m ≡ k → zs ≡ ys → Adds (λ x. signed_total (f x) m) n xs zs
adds_kept f k m n xs ys zs a e same = subst (λ (vs : List ℤ). Adds (λ x. signed_total (f x) m) n xs vs) (sym same) (adds_all f k m n xs ys a (sym e))

-- sums that are 0
pub zeros_small : (xs : List ℤ) → ((x : ℕ) → get_or xs x (pos 0) ≡ pos 0) → All (λ v. unsigned_abs v ≤ 0) xs
zeros_small xs h k d inside = rw (get_or_default xs k d (pos 0) inside, h k) (omega arith)

-- the first n sums are divided by 64 to the nearest, all others are as they were
pub record Divided (n : ℕ) (old new : List ℤ) : Type 0 where
  pub done : (x : ℕ) → x < n → get_or new x (pos 0) ≡ int_shr (get_or old x (pos 0) +ℤ pos 32) 6
  pub rest : (x : ℕ) → n ≤ x → get_or new x (pos 0) ≡ get_or old x (pos 0)

pub divided_none : (xs : List ℤ) → Divided 0 xs xs
divided_none xs = record { done = λ x l. absurd (omega arith); rest = λ x l. refl }

-- one more
pub divided_more : (n m : ℕ) (xs ys : List ℤ) (v : ℤ) → Divided n xs ys → n < length ys → m ≡ n + 1 → v ≡ int_shr (get_or ys n (pos 0) +ℤ pos 32) 6 → Divided m xs (set ys n v)
divided_more n m xs ys v d fits next e = record {
  done = λ x l. elim (cases_eq x n) [
    | inl here ↦
        ap (λ i. get_or (set ys n v) i (pos 0)) here ∙ get_or-set_same ys n v (pos 0) fits ∙ e
        ∙ ap (λ z. int_shr (z +ℤ pos 32) 6) (d.rest n (omega arith))
        ∙ ap (λ i. int_shr (get_or xs i (pos 0) +ℤ pos 32) 6) (sym here)
    | inr other ↦ get_or-set_other ys n x v (pos 0) (omega arith) ∙ d.done x (omega arith)
  ];
  rest = λ x l. get_or-set_other ys n x v (pos 0) (omega arith) ∙ d.rest x (omega arith);
}

-- a sum that isn't divided yet
pub divided_next : (n b : ℕ) (xs ys : List ℤ) → Divided n xs ys → All (λ v. unsigned_abs v ≤ b) xs → n < length xs → unsigned_abs (get_or ys n (pos 0)) ≤ b
divided_next n b xs ys d h inside = rw (d.rest n (omega arith)) (h n (pos 0) inside)

-- the first of weighed values
pub fewer_weighed : (w : Weighed) (n m : ℕ) → AreWeighed w n → m ≤ n → AreWeighed w m
fewer_weighed w n m h few = record {
  enough = omega (arith, h.enough, few);
  values = λ k l. h.values k (omega (arith, l, few));
  listed = omega (arith, h.listed, few);
  weights = h.weights;
  down = h.down;
}
