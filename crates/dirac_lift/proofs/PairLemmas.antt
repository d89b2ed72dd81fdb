-- Two halves that are put in turn into a line.
use Rattle.std.proofs.Common.{◌≡◌, ℕ, ℤ, pos, negsuc, ◌+◌, ◌-◌, ◌*◌, ◌/◌, ◌%◌, ◌<◌, ◌≤◌, List, length, map, get_or, set, arith, refl, inl, inr, ap, subst, sym, ◌∙◌}
use Rattle.std.proofs.lemmas.Bool.{cases_eq, cases_lt}
use Rattle.std.proofs.lemmas.List.{get_or-set_same, get_or-set_other, length-set, ext_get_or, get_or-map, length-map}
use Rattle.std.proofs.Math.IntN.{+ℤ_idr}
use lib.Signed.{shr_z}
use Rattle.dirac_lift.specs.Halves.{AreHalvesOfLine}
use Rattle.dirac_lift.specs.Lanes.{AreInTurn, AreLanes, EightPairsPut, RunPut, lane}
use Rattle.dirac_lift.specs.Lifting.{rounded}

pub record PairsPut (f : ℤ → ℤ) (es os zs : List ℤ) (size n : ℕ) : Type 0 where
  pub len : length zs ≡ size
  pub even : (m : ℕ) → m < n → get_or zs (2 * m) (pos 0) ≡ f (get_or es m (pos 0))
  pub odd : (m : ℕ) → m < n → get_or zs (2 * m + 1) (pos 0) ≡ f (get_or os m (pos 0))

pub pairs_none : (f : ℤ → ℤ) (es os zs : List ℤ) → PairsPut f es os zs (length zs) 0
pairs_none f es os zs = record { len = refl; even = λ m l. absurd (omega (arith, l)); odd = λ m l. absurd (omega (arith, l)) }

pub pairs_more : (f : ℤ → ℤ) (es os zs : List ℤ) (size n : ℕ) (v u : ℤ) → PairsPut f es os zs size n → 2 * n + 1 < size → v ≡ f (get_or es n (pos 0)) → u ≡ f (get_or os n (pos 0)) → PairsPut f es os (set (set zs (2 * n) v) (2 * n + 1) u) size (n + 1)
pairs_more f es os zs size n v u p l ev eu =
    let len1 : length (set zs (2 * n) v) ≡ size = length-set zs (2 * n) v ∙ p.len in
    record {
      len = length-set (set zs (2 * n) v) (2 * n + 1) u ∙ len1;
      even = λ m lt.
          get_or-set_other (set zs (2 * n) v) (2 * n + 1) (2 * m) u (pos 0) (λ e. omega (arith, e))
          ∙ elim (cases_eq m n) [
            | inl here ↦ ap (λ i. get_or (set zs (2 * n) v) (2 * i) (pos 0)) here ∙ get_or-set_same zs (2 * n) v (pos 0) (omega (arith, l, p.len)) ∙ ev ∙ ap (λ i. f (get_or es i (pos 0))) (sym here)
            | inr before ↦ get_or-set_other zs (2 * n) (2 * m) v (pos 0) (λ e. before (omega (arith, e))) ∙ p.even m (omega (arith, lt, before))
          ];
      odd = λ m lt. elim (cases_eq m n) [
        | inl here ↦ ap (λ i. get_or (set (set zs (2 * n) v) (2 * n + 1) u) (2 * i + 1) (pos 0)) here ∙ get_or-set_same (set zs (2 * n) v) (2 * n + 1) u (pos 0) (omega (arith, l, len1)) ∙ eu ∙ ap (λ i. f (get_or os i (pos 0))) (sym here)
        | inr before ↦
            get_or-set_other (set zs (2 * n) v) (2 * n + 1) (2 * m + 1) u (pos 0) (λ e. before (omega (arith, e)))
            ∙ get_or-set_other zs (2 * n) (2 * m + 1) v (pos 0) (λ e. omega (arith, e)) ∙ p.odd m (omega (arith, lt, before))
      ];
    }

pub pairs_all : (f : ℤ → ℤ) (es os zs line : List ℤ) (size n : ℕ) → PairsPut f es os zs size n → size ≡ 2 * length es → length es ≤ n → AreHalvesOfLine 0 es os line → zs ≡ map f line
pairs_all f es os zs line size n p e all a =
    let len : length zs ≡ length line = p.len ∙ e ∙ sym a.len in
    ext_get_or (pos 0) zs (map f line) (len ∙ sym (length-map line f)) (λ i l.
    let inside : i < length line = omega (arith, l, len) in
    elim (cases_eq (i % 2) 0) [
      | inl mine ↦
          let place : 2 * (i / 2) ≡ i = omega (arith, mine) in
          ap (λ j. get_or zs j (pos 0)) (sym place)
          ∙ p.even (i / 2) (omega (arith, inside, a.len, all, mine))
          ∙ ap f (sym (a.changed (i / 2)) ∙ ap (λ j. get_or line j (pos 0)) (omega (arith, mine)))
          ∙ sym (get_or-map f line i (pos 0) (pos 0) inside)
      | inr its ↦
          let place : 2 * (i / 2) + 1 ≡ i = omega (arith, its) in
          ap (λ j. get_or zs j (pos 0)) (sym place)
          ∙ p.odd (i / 2) (omega (arith, inside, a.len, all, its))
          ∙ ap f (sym (a.read (i / 2)) ∙ ap (λ j. get_or line j (pos 0)) (omega (arith, its)))
          ∙ sym (get_or-map f line i (pos 0) (pos 0) inside)
    ])

-- eight pairs more
pub pairs_eight : (f : ℤ → ℤ) (es os zs ws : List ℤ) (size i : ℕ) → PairsPut f es os zs size (i * 8) → EightPairsPut (i * 8) (λ j. f (get_or es (i * 8 + j) (pos 0))) (λ j. f (get_or os (i * 8 + j) (pos 0))) zs ws → PairsPut f es os ws size ((i + 1) * 8)
pairs_eight f es os zs ws size i p r = record {
  len = r.len ∙ p.len;
  even = λ m lt. elim (cases_lt m (i * 8)) [
    | inl above ↦ r.before (2 * m) (omega (arith, above)) ∙ p.even m above
    | inr late ↦
        let place : i * 8 + (m - i * 8) ≡ m = omega (arith, late) in
        subst (λ k. get_or ws (2 * k) (pos 0) ≡ f (get_or es k (pos 0))) place (r.even (m - i * 8) (omega (arith, late, lt)))
  ];
  odd = λ m lt. elim (cases_lt m (i * 8)) [
    | inl above ↦ r.before (2 * m + 1) (omega (arith, above)) ∙ p.odd m above
    | inr late ↦
        let place : i * 8 + (m - i * 8) ≡ m = omega (arith, late) in
        subst (λ k. get_or ws (2 * k + 1) (pos 0) ≡ f (get_or os k (pos 0))) place (r.odd (m - i * 8) (omega (arith, late, lt)))
  ];
}

-- eight pairs of two vectors whose lanes are written in turn, four of each at a time
pub pairs_of_lanes : (n : ℕ) (f g : ℕ → ℤ) (evens odds first last xs mid ys : List ℤ) → AreLanes f evens → AreLanes g odds → AreInTurn 0 evens odds first → AreInTurn 4 evens odds last → RunPut (2 * n) 8 (lane first) xs mid → RunPut (2 * n + 8) 8 (lane last) mid ys → EightPairsPut n f g xs ys
pairs_of_lanes n f g evens odds first last xs mid ys e o t u r s = record {
  len = s.len ∙ r.len;
  even = λ j l. elim (cases_lt j 4) [
    | inl early ↦
        let same : 0 + j ≡ j = omega arith in
        s.before (2 * (n + j)) (omega (arith, early))
        ∙ ap (λ i. get_or mid i (pos 0)) (omega arith)
        ∙ r.inside (2 * j) (omega (arith, early))
        ∙ t.even j early
        ∙ e.each (0 + j) (omega (arith, l))
        ∙ ap f same
    | inr late ↦
        let place : 4 + (j - 4) ≡ j = omega (arith, late) in
        ap (λ i. get_or ys i (pos 0)) (omega (arith, late))
        ∙ s.inside (2 * (j - 4)) (omega (arith, late, l))
        ∙ u.even (j - 4) (omega (arith, late, l))
        ∙ e.each (4 + (j - 4)) (omega (arith, late, l))
        ∙ ap f place
  ];
  odd = λ j l. elim (cases_lt j 4) [
    | inl early ↦
        let same : 0 + j ≡ j = omega arith in
        s.before (2 * (n + j) + 1) (omega (arith, early))
        ∙ ap (λ i. get_or mid i (pos 0)) (omega arith)
        ∙ r.inside (2 * j + 1) (omega (arith, early))
        ∙ t.odd j early
        ∙ o.each (0 + j) (omega (arith, l))
        ∙ ap g same
    | inr late ↦
        let place : 4 + (j - 4) ≡ j = omega (arith, late) in
        ap (λ i. get_or ys i (pos 0)) (omega (arith, late))
        ∙ s.inside (2 * (j - 4) + 1) (omega (arith, late, l))
        ∙ u.odd (j - 4) (omega (arith, late, l))
        ∙ o.each (4 + (j - 4)) (omega (arith, late, l))
        ∙ ap g place
  ];
  before = λ k l. s.before k (omega (arith, l)) ∙ r.before k l;
}

-- a shift by no bits leaves values as they are
shifted_by_none : (v : ℤ) → shr_z v 1 ≡ v
shifted_by_none (pos n) = let same : n / 1 ≡ n = omega arith in ap pos same
shifted_by_none (negsuc n) = let same : n / 1 ≡ n = omega arith in ap negsuc same

rounded_by_none : (v : ℤ) → rounded 0 v ≡ v
rounded_by_none v = ap (λ z. shr_z z 1) (+ℤ_idr v) ∙ shifted_by_none v

pub all_rounded_by_none : (line : List ℤ) → map (rounded 0) line ≡ line
all_rounded_by_none line = ext_get_or (pos 0) (map (rounded 0) line) line (length-map line (rounded 0)) (λ i l.
    get_or-map (rounded 0) line i (pos 0) (pos 0) (omega (arith, l, length-map line (rounded 0))) ∙ rounded_by_none (get_or line i (pos 0)))
