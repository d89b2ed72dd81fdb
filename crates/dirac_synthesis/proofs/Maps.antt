-- Values that are changed one by one, and elements that are read.
use Rattle.std.proofs.Common.{◌≡◌, ℕ, zero, suc, ℤ, pos, ◌+◌, ◌<◌, ◌≤◌, List, [], ◌∷◌, length, map, get_or, set, slice_get, Some, Result, Ok, Err, IfOk, arith, inl, inr, ap, sym, ◌∙◌}
use Rattle.std.specs.Simd.Lanes.{zip2}
use Rattle.std.proofs.lemmas.Simd.{length-zip2, get_or-zip2}
use Rattle.std.proofs.lemmas.Bool.{cases_eq}
use Rattle.std.proofs.lemmas.List.{length-map, get_or-map, get_or-set_same, get_or-set_other, ext_get_or}
use Rattle.dirac_coeffs.specs.declared.layout.CodedBand.{CodedBand}

pub mapped_all : (f : ℤ → ℤ) (xs ys : List ℤ) (n : ℕ) → length ys ≡ length xs → ((k : ℕ) → k < n → get_or ys k (pos 0) ≡ f (get_or xs k (pos 0))) → length xs ≤ n → ys ≡ map f xs
mapped_all f xs ys n len each all =
    ext_get_or (pos 0) ys (map f xs) (len ∙ sym (length-map xs f)) (λ k l.
    each k (omega (arith, l, len, all)) ∙ sym (get_or-map f xs k (pos 0) (pos 0) (omega (arith, l, len))))

-- one value more that is told by its place
pub one_more_told : (g : ℕ → ℤ) (ys : List ℤ) (i : ℕ) (v : ℤ) → ((k : ℕ) → k < i → get_or ys k (pos 0) ≡ g k) → i < length ys → v ≡ g i → (k : ℕ) → k < i + 1 → get_or (set ys i v) k (pos 0) ≡ g k
one_more_told g ys i v before inside e k l = elim (cases_eq k i) [
  | inl last ↦ rw last (get_or-set_same ys i v (pos 0) inside ∙ e)
  | inr earlier ↦ get_or-set_other ys i k v (pos 0) earlier ∙ before k (omega (arith, l, earlier))
]

-- the same of values that come of two lists
pub mapped_both : (f : ℤ → ℤ) (g : ℤ → ℤ → ℤ) (xs ys zs : List ℤ) (n : ℕ) → length ys ≡ length xs → length zs ≡ length xs
    → ((k : ℕ) → k < n → get_or zs k (pos 0) ≡ f (g (get_or xs k (pos 0)) (get_or ys k (pos 0)))) → length xs ≤ n → zs ≡ map f (zip2 g xs ys)
mapped_both f g xs ys zs n two three each all =
    let len : length (zip2 g xs ys) ≡ length xs = length-zip2 g xs ys (sym two) in
    ext_get_or (pos 0) zs (map f (zip2 g xs ys)) (three ∙ sym len ∙ sym (length-map (zip2 g xs ys) f)) (λ k l.
    let h : k < length xs = omega (arith, l, three) in
    each k (omega (arith, h, all))
    ∙ ap f (sym (get_or-zip2 g xs ys k (pos 0) (pos 0) (pos 0) h (omega (arith, h, two))))
    ∙ sym (get_or-map f (zip2 g xs ys) k (pos 0) (pos 0) (omega (arith, h, len))))

-- a band that is read by its index
pub got_band : (bands : List CodedBand) (n : ℕ) (b : CodedBand) → n < length bands → b ≡ get_or bands n b → slice_get bands n ≡ Some b
got_band [] n b l e = absurd (omega arith)
got_band (x ∷ xs) zero b l e = ap Some (sym e)
got_band (x ∷ xs) (suc n) b l e = got_band xs n b (omega arith) e

-- a fact of what came of a call, where another follows from it
pub ok_weaker : {T E : Type 0} {P Q : T → Type 0} (r : Result T E) → ((t : T) → P t → Q t) → IfOk r P → IfOk r Q
ok_weaker (Ok x) f h = f x h
ok_weaker (Err e) f h = tt
