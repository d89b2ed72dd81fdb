-- Lines with their half samples between.
use Rattle.std.proofs.Common.{◌≡◌, ◌≢◌, ℕ, ℤ, pos, ◌+◌, ◌-◌, ◌*◌, ◌/◌, ◌%◌, ◌<◌, ◌≤◌, ◌+ℤ◌, List, length, get_or, set, arith, refl, inl, inr, ap, sym, ◌∙◌, eq-eqb, min}
use Rattle.std.specs.Int.{int_shr}
use Rattle.std.proofs.lemmas.Int.{ints, clamps}
use Rattle.std.proofs.lemmas.List.{get_or-set_same, get_or-set_other}
use Rattle.std.proofs.lemmas.Bool.{cases_eq, ne_eqb}
use Rattle.dirac_common.specs.Samples.{clip}
use Rattle.dirac_upconvert.specs.HalfSamples.{IsSample, half_between, weighted_pairs, half_behind, doubled_at}
use Rattle.dirac_upconvert.specs.Phases.{place_in_row}
use Rattle.dirac_upconvert.proofs.Phased.{place_even, place_odd}

-- samples stand at even places
pub at_even : (f : ℕ → ℤ) (last n p : ℕ) → p ≡ 2 * n → doubled_at f last p ≡ f n
at_even f last n p e =
    let rem : p % 2 ≡ 0 = omega arith in
    let quot : p / 2 ≡ n = omega arith in
    rw (eq-eqb (p % 2) 0 rem, quot) refl

-- half samples stand at odd places
pub at_odd : (f : ℕ → ℤ) (last n p : ℕ) → p ≡ 2 * n + 1 → doubled_at f last p ≡ half_behind f last n
at_odd f last n p e =
    let rem : p % 2 ≢ 0 = omega arith in
    let quot : p / 2 ≡ n = omega arith in
    rw (ne_eqb (p % 2) 0 rem, quot) refl

-- a line's samples stand first, and behind them the first n of its half samples
pub record HalvesBelow (line out : List ℤ) (n : ℕ) : Type 0 where
  pub wholes : (k : ℕ) → k < length line → get_or out k (pos 0) ≡ get_or line k (pos 0)
  pub halves : (k : ℕ) → k < n → get_or out (length line + k) (pos 0) ≡ half_behind (λ i. get_or line i (pos 0)) (length line - 1) k

-- one more half sample is written
pub halves_more : (line out : List ℤ) (n m place : ℕ) (v : ℤ) → HalvesBelow line out n → place ≡ length line + n → place < length out → m ≡ n + 1
    → v ≡ half_behind (λ i. get_or line i (pos 0)) (length line - 1) n → HalvesBelow line (set out place v) m
halves_more line out n m place v h e fits next ev = record {
  wholes = λ k l. get_or-set_other out place k v (pos 0) (omega (arith, e, l)) ∙ h.wholes k l;
  halves = λ k l. elim (cases_eq k n) [
    | inl here ↦
        let at : length line + k ≡ place = omega arith in
        ap (λ i. get_or (set out place v) i (pos 0)) at ∙ get_or-set_same out place v (pos 0) fits ∙ ev
        ∙ ap (half_behind (λ i. get_or line i (pos 0)) (length line - 1)) (sym here)
    | inr other ↦ get_or-set_other out place (length line + k) v (pos 0) (omega arith) ∙ h.halves k (omega arith)
  ];
}

-- all of them
pub halves_all : (line out : List ℤ) (n : ℕ) → HalvesBelow line out n → length line ≤ n + 1 → length out ≡ 2 * length line
    → (p : ℕ) → p + 1 < length out → get_or out (place_in_row (length out) p) (pos 0) ≡ doubled_at (λ k. get_or line k (pos 0)) (length line - 1) p
halves_all line out n h all len p l = elim (cases_eq (p % 2) 0) [
  | inl even ↦
      let at : place_in_row (length out) p ≡ p / 2 = place_even (length out) p even in
      ap (λ i. get_or out i (pos 0)) at ∙ h.wholes (p / 2) (omega arith) ∙ sym (at_even (λ k. get_or line k (pos 0)) (length line - 1) (p / 2) p (omega (arith, even)))
  | inr odd ↦
      let at : place_in_row (length out) p ≡ length line + p / 2 = omega (arith, place_odd (length out) p odd, len) in
      ap (λ i. get_or out i (pos 0)) at ∙ h.halves (p / 2) (omega (arith, l, len, all, odd)) ∙ sym (at_odd (λ k. get_or line k (pos 0)) (length line - 1) (p / 2) p (omega (arith, odd)))
]

-- a half sample depends on the places of its line alone
half_same : (f g : ℕ → ℤ) (last i : ℕ) → ((k : ℕ) → k ≤ last → f k ≡ g k) → i ≤ last → half_behind f last i ≡ half_behind g last i
half_same f g last i e h =
    rw (
      e (i - 3) (omega arith),
      e (i - 2) (omega arith),
      e (i - 1) (omega arith),
      e i h,
      e (min (i + 1) last) (omega arith),
      e (min (i + 2) last) (omega arith),
      e (min (i + 3) last) (omega arith),
      e (min (i + 4) last) (omega arith),
    ) refl

pub doubled_same : (f g : ℕ → ℤ) (last p : ℕ) → ((k : ℕ) → k ≤ last → f k ≡ g k) → p ≤ 2 * last → doubled_at f last p ≡ doubled_at g last p
doubled_same f g last p e h = elim (cases_eq (p % 2) 0) [
  | inl even ↦ rw (eq-eqb (p % 2) 0 even) (e (p / 2) (omega arith))
  | inr odd ↦ rw (ne_eqb (p % 2) 0 odd) (half_same f g last (p / 2) e (omega arith))
]

-- what is clipped is a sample
clipped_sample : (v : ℤ) → IsSample (clip v)
clipped_sample v = record { least = omega (arith, ints, clamps); most = omega (arith, ints, clamps) }

pub between_sample : (a3 a2 a1 a0 b0 b1 b2 b3 : ℤ) → IsSample (half_between a3 a2 a1 a0 b0 b1 b2 b3)
unfolding half_between
between_sample a3 a2 a1 a0 b0 b1 b2 b3 =
    clipped_sample (int_shr (weighted_pairs (a0 +ℤ b0) (a1 +ℤ b1) (a2 +ℤ b2) (a3 +ℤ b3) +ℤ pos 16) 5)

-- so are the half samples of samples
pub doubled_sample : (f : ℕ → ℤ) (last p : ℕ) → ((k : ℕ) → IsSample (f k)) → IsSample (doubled_at f last p)
doubled_sample f last p h = elim (cases_eq (p % 2) 0) [
  | inl even ↦ rw (eq-eqb (p % 2) 0 even) (h (p / 2))
  | inr odd ↦ rw (ne_eqb (p % 2) 0 odd) (between_sample _ _ _ _ _ _ _ _)
]
