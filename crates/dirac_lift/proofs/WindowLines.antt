-- Some pairs of a line, next to one another, that take the same steps as the whole line.
use Rattle.std.proofs.Common.{◌≡◌, ℕ, ℤ, pos, ◌+◌, ◌-◌, ◌*◌, ◌/◌, ◌%◌, ◌<◌, ◌≤◌, min, List, [], ◌∷◌, length, get_or, arith, inl, inr, ap, sym, ◌∙◌, eq-eqb}
use Rattle.std.proofs.lemmas.Bool.{cases_eq, cases_lt, ne_eqb}
use Rattle.std.proofs.lemmas.List.FromFn.{get_or-map-range_with_len}
use Rattle.dirac_lift.specs.Lifting.{Step, change_at, lift, lifted_at, moved, new_at, other, own, pair_read, rounded, value_read}
use Rattle.dirac_lift.specs.Wavelets.{run, steps_of, synth}
use Rattle.dirac_lift.specs.Windows.{margin}
use Rattle.dirac_lift.proofs.Lifted.{length-lift}
use Rattle.dirac_lift.proofs.Runs.{by_wavelet}
use Rattle.dirac_lift.proofs.Turns.{weighted_below}

-- ys is pairs a .. b of a line xs of h pairs, but for pairs at those of its ends that aren't the line's: `up` pairs at
-- its begin and `down` pairs at its end
pub record IsWindow (h a b up down : ℕ) (xs ys : List ℤ) : Type 0 where
  pub whole : length xs ≡ 2 * h
  pub part : length ys ≡ 2 * (b - a)
  pub alike : (p : ℕ) → p < 2 * (b - a) → (0 < a → up ≤ p / 2) → (b < h → p / 2 + down < b - a)
      → get_or ys p (pos 0) ≡ get_or xs (2 * a + p) (pos 0)

window_weaker : (h a b up down more_up more_down : ℕ) (xs ys : List ℤ) → IsWindow h a b up down xs ys → up ≤ more_up → down ≤ more_down → IsWindow h a b more_up more_down xs ys
window_weaker h a b up down more_up more_down xs ys w u d = record {
  whole = w.whole;
  part = w.part;
  alike = λ p l above below. w.alike p l (λ z. omega (arith, u, above z)) (λ z. omega (arith, d, below z));
}

-- the pair that a tap reads is the same one, and is inside
pair_in_window : (lead taps h a b up down n k : ℕ) → a < b → b ≤ h → k < taps → n < b - a → (0 < a → up + lead ≤ n) → (b < h → n + (down + (taps - 1 - lead)) < b - a)
    → (a + min (n + k - lead) (b - a - 1) ≡ min (a + n + k - lead) (h - 1)) × (min (n + k - lead) (b - a - 1) < b - a) × (0 < a → up ≤ min (n + k - lead) (b - a - 1)) × (b < h → min (n + k - lead) (b - a - 1) + down < b - a)
pair_in_window lead taps h a b up down n k some fits tap inside above below =
    elim (cases_lt 0 a) [
      | inl from ↦
          let u : up + lead ≤ n = above from in
          elim (cases_lt b h) [
            | inl to ↦
                let d : n + (down + (taps - 1 - lead)) < b - a = below to in
                (omega arith, omega arith, λ z. omega arith, λ z. omega arith)
            | inr end ↦ (omega (arith, u, end, fits, inside), omega (arith, some), λ z. omega (arith, u, inside), λ z. omega (arith, z, end))
          ]
      | inr begin ↦
          elim (cases_lt b h) [
            | inl to ↦
                let d : n + (down + (taps - 1 - lead)) < b - a = below to in
                (omega arith, omega arith, λ z. omega arith, λ z. omega arith)
            | inr end ↦ (omega (arith, begin, end, fits, inside), omega (arith, some), λ z. omega (arith, z, begin), λ z. omega (arith, z, end))
          ]
    ]

reads_alike : (s : Step) (h a b up down : ℕ) (xs ys : List ℤ) (n k : ℕ) → IsWindow h a b up down xs ys → a < b → b ≤ h → k < length s.taps → n < b - a → (0 < a → up + s.lead ≤ n) → (b < h → n + (down + (length s.taps - 1 - s.lead)) < b - a)
    → value_read s.parity s.lead ys n k ≡ value_read s.parity s.lead xs (a + n) k
reads_alike s h a b up down xs ys n k w some fits tap inside above below =
    let whole : length xs / 2 ≡ h = ap (λ m. m / 2) w.whole ∙ omega arith in
    let part : length ys / 2 ≡ b - a = ap (λ m. m / 2) w.part ∙ omega arith in
    let pair = pair_in_window s.lead (length s.taps) h a b up down n k some fits tap inside above below in
    let q : ℕ = pair_read s.lead (b - a) n k in
    let half : other s.parity q / 2 ≡ q = omega arith in
    let place : 2 * a + other s.parity q ≡ other s.parity (a + q) = omega arith in
    ap (λ m. get_or ys (other s.parity (pair_read s.lead m n k)) (pos 0)) part
    ∙ w.alike (other s.parity q) (omega (arith, pair.1)) (λ z. omega (arith, pair.2 z, half)) (λ z. omega (arith, pair.3 z, half))
    ∙ ap (λ i. get_or xs i (pos 0)) (place ∙ ap (other s.parity) pair.0)
    ∙ ap (λ m. get_or xs (other s.parity (pair_read s.lead m (a + n) k)) (pos 0)) (sym whole)

new_alike : (s : Step) (h a b up down : ℕ) (xs ys : List ℤ) (n : ℕ) → IsWindow h a b up down xs ys → a < b → b ≤ h → n < b - a → (0 < a → up + s.lead ≤ n) → (b < h → n + (down + (length s.taps - 1 - s.lead)) < b - a)
    → get_or ys (own s.parity n) (pos 0) ≡ get_or xs (own s.parity (a + n)) (pos 0) → new_at s ys n ≡ new_at s xs (a + n)
new_alike s h a b up down xs ys n w some fits inside above below e =
    ap (λ v. moved s.minus v (change_at s ys n)) e
    ∙ ap (λ sum. moved s.minus (get_or xs (own s.parity (a + n)) (pos 0)) (rounded s.shift sum))
    (weighted_below s.taps (value_read s.parity s.lead ys n) (value_read s.parity s.lead xs (a + n)) (length s.taps)
    (λ k tap. reads_alike s h a b up down xs ys n k w some fits tap inside above below))

lifted_alike : (s : Step) (h a b up down : ℕ) (xs ys : List ℤ) (p : ℕ) → IsWindow h a b up down xs ys → a < b → b ≤ h → p < 2 * (b - a) → (0 < a → up + s.lead ≤ p / 2) → (b < h → p / 2 + (down + (length s.taps - 1 - s.lead)) < b - a)
    → lifted_at s ys p ≡ lifted_at s xs (2 * a + p)
lifted_alike s h a b up down xs ys p w some fits l above below =
    let parity : (2 * a + p) % 2 ≡ p % 2 = omega arith in
    let pair : (2 * a + p) / 2 ≡ a + p / 2 = omega arith in
    let kept : get_or ys p (pos 0) ≡ get_or xs (2 * a + p) (pos 0) = w.alike p l (λ z. omega (arith, above z)) (λ z. omega (arith, below z)) in
    elim (cases_eq (p % 2) s.parity) [
      | inl mine ↦
          let here : p ≡ own s.parity (p / 2) = omega (arith, mine) in
          let there : 2 * a + p ≡ own s.parity (a + p / 2) = omega (arith, here) in
          rw (parity, eq-eqb (p % 2) s.parity mine, pair)
          (new_alike s h a b up down xs ys (p / 2) w some fits (omega (arith, l)) above below
          (ap (λ i. get_or ys i (pos 0)) (sym here) ∙ kept ∙ ap (λ i. get_or xs i (pos 0)) there))
      | inr read ↦ rw (parity, ne_eqb (p % 2) s.parity read) kept
    ]

lift_reads : (s : Step) (xs : List ℤ) (p : ℕ) → p < length xs → get_or (lift s xs) p (pos 0) ≡ lifted_at s xs p
unfolding lift
lift_reads s xs p l = get_or-map-range_with_len (lifted_at s xs) 0 (length xs) p p (pos 0) l (omega arith)

-- a step, which loses as many pairs as it reads before and behind the one that it changes
pub window_step : (s : Step) (h a b up down : ℕ) (xs ys : List ℤ) → a < b → b ≤ h → IsWindow h a b up down xs ys → IsWindow h a b (up + s.lead) (down + (length s.taps - 1 - s.lead)) (lift s xs) (lift s ys)
window_step s h a b up down xs ys some fits w = record {
  whole = length-lift s xs ∙ w.whole;
  part = length-lift s ys ∙ w.part;
  alike = λ p l above below.
      lift_reads s ys p (omega (arith, l, w.part))
      ∙ lifted_alike s h a b up down xs ys p w some fits l above below
      ∙ sym (lift_reads s xs (2 * a + p) (omega (arith, l, fits, w.whole)));
}

-- how many pairs all steps read before a pair, and how many behind it
abbrev pub pairs_before : List Step → ℕ
pairs_before [] = 0
pairs_before (s ∷ ss) = s.lead + pairs_before ss

abbrev pub pairs_behind : List Step → ℕ
pairs_behind [] = 0
pairs_behind (s ∷ ss) = length s.taps - 1 - s.lead + pairs_behind ss

pub window_run : (ss : List Step) (h a b up down : ℕ) (xs ys : List ℤ) → a < b → b ≤ h → IsWindow h a b up down xs ys → IsWindow h a b (up + pairs_before ss) (down + pairs_behind ss) (run ss xs) (run ss ys)
window_run [] h a b up down xs ys some fits w = window_weaker h a b up down (up + 0) (down + 0) xs ys w (omega arith) (omega arith)
window_run (s ∷ ss) h a b up down xs ys some fits w =
    let lag = length s.taps - 1 - s.lead in
    window_weaker h a b (up + s.lead + pairs_before ss) (down + lag + pairs_behind ss) (up + (s.lead + pairs_before ss)) (down + (lag + pairs_behind ss)) (run ss (lift s xs)) (run ss (lift s ys))
    (window_run ss h a b (up + s.lead) (down + lag) (lift s xs) (lift s ys) some fits (window_step s h a b up down xs ys some fits w))
    (omega arith) (omega arith)

-- the steps of a wavelet
within_margin : (k : ℕ) → k ≤ 6 → (pairs_before (steps_of k) ≤ margin k) × (pairs_behind (steps_of k) ≤ margin k)
within_margin = by_wavelet (λ k ss. (pairs_before ss ≤ margin k) × (pairs_behind ss ≤ margin k))
    (omega arith, omega arith) (omega arith, omega arith) (omega arith, omega arith) (omega arith, omega arith) (omega arith, omega arith) (omega arith, omega arith) (omega arith, omega arith)

pub window_synth : (k h a b : ℕ) (xs ys : List ℤ) → k ≤ 6 → a < b → b ≤ h → IsWindow h a b 0 0 xs ys → IsWindow h a b (margin k) (margin k) (synth k xs) (synth k ys)
unfolding synth
window_synth k h a b xs ys l some fits w =
    let most = within_margin k l in
    window_weaker h a b (0 + pairs_before (steps_of k)) (0 + pairs_behind (steps_of k)) (margin k) (margin k) (run (steps_of k) xs) (run (steps_of k) ys)
    (window_run (steps_of k) h a b 0 0 xs ys some fits w) (omega (arith, most.0)) (omega (arith, most.1))
