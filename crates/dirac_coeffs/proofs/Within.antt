-- How the relations on places follow from one another.
use Rattle.std.proofs.Common.{◌≡◌, ◌≢◌, ℕ, ℤ, pos, ◌+◌, ◌*◌, ◌<◌, ◌≤◌, List, set, refl, sym, ◌∙◌, arith, length-set, inl, inr}
use Rattle.std.proofs.lemmas.Bool.{cases_lt}
use Rattle.std.proofs.lemmas.List.{get_or-set_other}
use Rattle.std.proofs.lemmas.Nat.{same_from_place}
use Rattle.dirac_coeffs.specs.Contexts.{band_value}
use Rattle.dirac_coeffs.proofs.Places.{SameWithin, KeptOutside, ZeroFrom}

-- a smaller part
pub same_less : {w right bottom r b : ℕ} {xs ys : List ℤ} → r ≤ right → b ≤ bottom → SameWithin w xs ys right bottom → SameWithin w xs ys r b
same_less h k s = record { each = λ x y p q t. s.each x y p (omega arith) (omega arith) }

-- one column more in the last row
pub same_more : {w x y : ℕ} {xs ys : List ℤ} → SameWithin w xs ys x (y + 1) → SameWithin w xs ys (x + 1) y → band_value w xs x y ≡ band_value w ys x y → SameWithin w xs ys (x + 1) (y + 1)
same_more {x = x} {y = y} s t e =
    record {
      each = λ i j p q r.
          elim (cases_lt i x) [
            | inl a ↦ s.each i j p a r
            | inr a ↦ elim (cases_lt j y) [
              | inl b ↦ t.each i j p q b
              | inr b ↦ let ix : i ≡ x = omega arith in let jy : j ≡ y = omega arith in rw (ix, jy) e
            ]
          ];
    }

-- nothing but the part is changed, so what lies above it is the same
pub kept_above : {w left right top bottom r b : ℕ} {xs ys : List ℤ} → b ≤ top → KeptOutside w left right top bottom xs ys → SameWithin w xs ys r b
kept_above h k = record { each = λ x y p q t. k.over x y p (omega arith) }

-- and so is what lies left of it
pub kept_left : {w left right top bottom r b : ℕ} {xs ys : List ℤ} → r ≤ left → KeptOutside w left right top bottom xs ys → SameWithin w xs ys r b
kept_left h k = record { each = λ x y p q t. k.before x y p (omega arith) }

pub kept_refl : {w left right top bottom : ℕ} {xs : List ℤ} → KeptOutside w left right top bottom xs xs
kept_refl =
    record {
      len = refl;
      before = λ x y p q. refl;
      after = λ x y p q. refl;
      over = λ x y p q. refl;
      under = λ x y p q. refl;
    }

-- two changes within one part
pub kept_join : {w left right top bottom l r t b l' r' t' b' : ℕ} {xs ys zs : List ℤ}
    → (left ≤ l) × (r ≤ right) × (top ≤ t) × (b ≤ bottom)
    → (left ≤ l') × (r' ≤ right) × (top ≤ t') × (b' ≤ bottom)
    → KeptOutside w l r t b xs ys → KeptOutside w l' r' t' b' ys zs → KeptOutside w left right top bottom xs zs
kept_join h h' k k' =
    record {
      len = k'.len ∙ k.len;
      before = λ x y p q. k.before x y p (omega arith) ∙ k'.before x y p (omega arith);
      after = λ x y p q. k.after x y p (omega arith) ∙ k'.after x y p (omega arith);
      over = λ x y p q. k.over x y p (omega arith) ∙ k'.over x y p (omega arith);
      under = λ x y p q. k.under x y p (omega arith) ∙ k'.under x y p (omega arith);
    }

-- a place of another column or row isn't this one
other_place : (w x y i j : ℕ) → x < w → i < w → ((i ≡ x) × (j ≡ y) → ⊥) → j * w + i ≢ y * w + x
other_place w x y i j p q apart e = let same : (j ≡ y) × (i ≡ x) = same_from_place j i y x w q p e in apart (same.1, same.0)

-- a store changes its own place
pub set_kept : (w : ℕ) (xs : List ℤ) (x y : ℕ) (v : ℤ) → x < w → KeptOutside w x (x + 1) y (y + 1) xs (set xs (y * w + x) v)
set_kept w xs x y v h =
    let elsewhere : (i j : ℕ) → i < w → ((i ≡ x) × (j ≡ y) → ⊥) → band_value w xs i j ≡ band_value w (set xs (y * w + x) v) i j =
    λ i j p apart. sym (get_or-set_other xs (y * w + x) (j * w + i) v (pos 0) (other_place w x y i j h p apart)) in
    record {
      len = length-set xs (y * w + x) v;
      before = λ i j p q. elsewhere i j p (λ s. omega arith);
      after = λ i j p q. elsewhere i j p (λ s. omega arith);
      over = λ i j p q. elsewhere i j p (λ s. omega arith);
      under = λ i j p q. elsewhere i j p (λ s. omega arith);
    }

-- zeros to the right of a part that is changed, and below it
pub zero_right : {w left right top bottom l : ℕ} {xs ys : List ℤ} → l ≤ right → KeptOutside w left right top bottom xs ys → ZeroFrom w l top xs → ZeroFrom w right top ys
zero_right h k z = record { each = λ x y p q r. sym (k.after x y p q) ∙ z.each x y p (omega arith) r }

pub zero_below : {w left right top bottom l : ℕ} {xs ys : List ℤ} → top ≤ bottom → KeptOutside w left right top bottom xs ys → ZeroFrom w l top xs → ZeroFrom w l bottom ys
zero_below h k z = record { each = λ x y p q r. sym (k.under x y p r) ∙ z.each x y p q (omega arith) }
