-- Steps on halves one after another, in 32 bits.
use Rattle.std.proofs.Common.{◌≡◌, ℕ, ℤ, pos, Bool, true, false, ◌&&◌, ◌==◌, if◌then◌else◌, nat_le, ◌+◌, ◌-◌, ◌*◌, ◌/◌, ◌%◌, ◌^◌, ◌<◌, ◌≤◌, unsigned_abs, List, [], ◌∷◌, length, get_or, arith, refl, ap, sym, ◌∙◌}
use Rattle.std.specs.List.{All, sum_by}
use Rattle.std.proofs.lemmas.Bool.{and_parts, leb-true}
use Rattle.std.proofs.lemmas.Nat.{pow_pos, div-add-mod', div_below, mod_below}
use Rattle.std.proofs.lemmas.List.{get_or_default}
use Rattle.dirac_common.proofs.Bounds.{all_weaker}
use Rattle.dirac_bands.proofs.Sizes.{div_mono}
use Rattle.dirac_lift.specs.Level.{column}
use Rattle.dirac_lift.specs.Lifting.{Step, grown_by_step, lift, rounded, weighted}
use Rattle.dirac_lift.specs.Halves.{AreHalvesOfLine, HalfLifted, IsReadable, half_read, half_value}
use Rattle.dirac_lift.specs.HalfRuns.{AreNarrow, HalvesRun, after_step, is_narrow, stays_narrow}
use Rattle.dirac_lift.proofs.Growth.{abs-moved}
use Rattle.dirac_lift.proofs.HalfLemmas.{abs-read}
use Rattle.dirac_lift.proofs.HalfLines.{halves_lifted}
use Rattle.dirac_lift.proofs.Signed.{abs-rounded}
use Rattle.dirac_lift.proofs.Weighted.{abs-weighted}

-- how large a changed half becomes
pub half_grown : (s : Step) (w h a b : ℕ) (os rs ys : List ℤ) → HalfLifted s w h os rs ys → length os ≡ w * h → 0 < w → All (λ v. unsigned_abs v ≤ a) os → All (λ v. unsigned_abs v ≤ b) rs → All (λ v. unsigned_abs v ≤ grown_by_step s a b) ys
half_grown s w h a b os rs ys l len some ha hb k d inside =
    let place : (k / w) * w + k % w ≡ k = div-add-mod' k w in
    let row : k / w < h = div_below k w h some (omega (arith, inside, len, l.len)) in
    let across : k % w < w = mod_below k w some in
    let value : get_or ys k (pos 0) ≡ half_value s w h os rs (k / w) (k % w) = ap (λ i. get_or ys i (pos 0)) (sym place) ∙ l.each (k / w) (k % w) row across in
    let f : ℕ → ℤ = half_read s.lead w h rs (k / w) (k % w) in
    let sum : unsigned_abs (weighted s.taps f (length s.taps)) ≤ sum_by unsigned_abs s.taps * b = abs-weighted s.taps f b (λ j. abs-read b rs _ hb) in
    rw (get_or_default ys k d (pos 0) inside, value) (omega (
      arith,
      abs-moved s.minus (get_or os ((k / w) * w + k % w) (pos 0)) (rounded s.shift (weighted s.taps f (length s.taps))),
      abs-read a os ((k / w) * w + k % w) ha,
      abs-rounded (weighted s.taps f (length s.taps)) s.shift,
      div_mono (unsigned_abs (weighted s.taps f (length s.taps)) + 2 ^ s.shift / 2) (sum_by unsigned_abs s.taps * b + 2 ^ s.shift / 2) (2 ^ s.shift) (pow_pos s.shift) (omega (arith, sum)),
    ))

-- the two halves of a line, told the other way round
turned : (os rs xs : List ℤ) → AreHalvesOfLine 0 os rs xs → AreHalvesOfLine 1 rs os xs
turned os rs xs a = record {
  len = a.len ∙ ap (λ k. 2 * k) (sym a.alike);
  alike = sym a.alike;
  changed = a.read;
  read = a.changed;
}

turned_back : (os rs xs : List ℤ) → AreHalvesOfLine 1 os rs xs → AreHalvesOfLine 0 rs os xs
turned_back os rs xs a = record {
  len = a.len ∙ ap (λ k. 2 * k) (sym a.alike);
  alike = sym a.alike;
  changed = a.read;
  read = a.changed;
}

abbrev even_step : Bool → ℕ → ℕ → List ℤ → Step
even_step minus shift lead taps = record { parity = 0; minus = minus; shift = shift; lead = lead; taps = taps }

abbrev odd_step : Bool → ℕ → ℕ → List ℤ → Step
odd_step minus shift lead taps = record { parity = 1; minus = minus; shift = shift; lead = lead; taps = taps }

pub narrow_parts : (s : Step) (changed read : ℕ) → is_narrow s changed read ≡ true → (s.shift ≤ 12) × (changed ≤ 2 ^ 21) × (sum_by unsigned_abs s.taps * read ≤ 2 ^ 31 - 2 ^ 22)
narrow_parts s changed read t =
    let a = and_parts (nat_le s.shift 12) (nat_le changed (2 ^ 21) && nat_le (sum_by unsigned_abs s.taps * read) (2 ^ 31 - 2 ^ 22)) t in
    let b = and_parts (nat_le changed (2 ^ 21)) (nat_le (sum_by unsigned_abs s.taps * read) (2 ^ 31 - 2 ^ 22)) a.1 in
    (leb-true s.shift 12 a.0, leb-true changed (2 ^ 21) b.0, leb-true (sum_by unsigned_abs s.taps * read) (2 ^ 31 - 2 ^ 22) b.1)

-- values that can take all steps are numbers of 32 bits
after_grows : (b : Bool) (e o g k : ℕ) (r : ℕ × ℕ) → r ≡ (if b then (g, o) else (e, k)) → e ≤ g → o ≤ k → (e ≤ r.0) × (o ≤ r.1)
after_grows true e o g k r is l m = (omega (arith, l, ap (λ (p : ℕ × ℕ). p.0) is), omega (arith, ap (λ (p : ℕ × ℕ). p.1) is))
after_grows false e o g k r is l m = (omega (arith, ap (λ (p : ℕ × ℕ). p.0) is), omega (arith, m, ap (λ (p : ℕ × ℕ). p.1) is))

pub in_32_bits : (ss : List Step) (most : ℕ × ℕ) → stays_narrow ss most ≡ true → (most.0 ≤ 2 ^ 31 - 2 ^ 22) × (most.1 ≤ 2 ^ 31 - 2 ^ 22)
in_32_bits [] most t =
    let a = and_parts (nat_le most.0 (2 ^ 31 - 2 ^ 22)) (nat_le most.1 (2 ^ 31 - 2 ^ 22)) t in
    (leb-true most.0 (2 ^ 31 - 2 ^ 22) a.0, leb-true most.1 (2 ^ 31 - 2 ^ 22) a.1)
in_32_bits (s ∷ ss) most t =
    let rest = in_32_bits ss (after_step s most) (and_parts (if s.parity == 0 then is_narrow s most.0 most.1 else (nat_le s.parity 1 && is_narrow s most.1 most.0)) (stays_narrow ss (after_step s most)) t).1 in
    let more = after_grows (s.parity == 0) most.0 most.1 (grown_by_step s most.0 most.1) (grown_by_step s most.1 most.0) (after_step s most) refl (omega arith) (omega arith) in
    (omega (arith, rest.0, more.0), omega (arith, rest.1, more.1))

-- so a step can be run: on the values that it changes, and those that it reads
pub step_fits : (s : Step) (a b : ℕ) (os rs : List ℤ) → is_narrow s a b ≡ true → b ≤ 2 ^ 31 - 2 ^ 22 → All (λ v. unsigned_abs v ≤ a) os → All (λ v. unsigned_abs v ≤ b) rs → (s.shift ≤ 12) × IsReadable s.taps rs × All (λ v. unsigned_abs v ≤ 2 ^ 21) os
step_fits s a b os rs t small ho hr =
    let p = narrow_parts s a b t in
    (p.0, record { bound = b; within = hr; in_32_bits = omega (arith, small); fits = p.2 }, all_weaker a (2 ^ 21) os p.1 ho)

pub even_rest : (m : Bool) (sh ld : ℕ) (ts : List ℤ) (ss : List Step) (w h : ℕ) (es os new : List ℤ) → AreNarrow (even_step m sh ld ts ∷ ss) w h es os → HalfLifted (even_step m sh ld ts) w h es os new → AreNarrow ss w h new os
even_rest m sh ld ts ss w h es os new n l =
    let s : Step = even_step m sh ld ts in
    record {
      some = n.some;
      evens_len = l.len ∙ n.evens_len;
      odds_len = n.odds_len;
      most = after_step s n.most;
      even_bound = half_grown s w h n.most.0 n.most.1 es os new l n.evens_len n.some n.even_bound n.odd_bound;
      odd_bound = n.odd_bound;
      test = (and_parts (is_narrow s n.most.0 n.most.1) (stays_narrow ss (after_step s n.most)) n.test).1;
    }

pub even_run : (m : Bool) (sh ld : ℕ) (ts : List ℤ) (ss : List Step) (w h : ℕ) (es os new es2 os2 : List ℤ) → AreNarrow (even_step m sh ld ts ∷ ss) w h es os → HalfLifted (even_step m sh ld ts) w h es os new → HalvesRun ss w h new os es2 os2 → HalvesRun (even_step m sh ld ts ∷ ss) w h es os es2 os2
even_run m sh ld ts ss w h es os new es2 os2 n l r =
    let s : Step = even_step m sh ld ts in
    record {
      evens_len = r.evens_len ∙ l.len;
      odds_len = r.odds_len;
      each = λ x xs lt a. r.each x (lift s xs) lt (halves_lifted s w h x es os new xs l lt (omega arith) a);
      grow = λ most he ho. r.grow (grown_by_step s most.0 most.1, most.1) (half_grown s w h most.0 most.1 es os new l n.evens_len n.some he ho) ho;
    }

-- a step of the odd places
pub odd_rest : (m : Bool) (sh ld : ℕ) (ts : List ℤ) (ss : List Step) (w h : ℕ) (es os new : List ℤ) → AreNarrow (odd_step m sh ld ts ∷ ss) w h es os → HalfLifted (odd_step m sh ld ts) w h os es new → AreNarrow ss w h es new
odd_rest m sh ld ts ss w h es os new n l =
    let s : Step = odd_step m sh ld ts in
    record {
      some = n.some;
      evens_len = n.evens_len;
      odds_len = l.len ∙ n.odds_len;
      most = after_step s n.most;
      even_bound = n.even_bound;
      odd_bound = half_grown s w h n.most.1 n.most.0 os es new l n.odds_len n.some n.odd_bound n.even_bound;
      test = (and_parts (is_narrow s n.most.1 n.most.0) (stays_narrow ss (after_step s n.most)) n.test).1;
    }

pub odd_run : (m : Bool) (sh ld : ℕ) (ts : List ℤ) (ss : List Step) (w h : ℕ) (es os new es2 os2 : List ℤ) → AreNarrow (odd_step m sh ld ts ∷ ss) w h es os → HalfLifted (odd_step m sh ld ts) w h os es new → HalvesRun ss w h es new es2 os2 → HalvesRun (odd_step m sh ld ts ∷ ss) w h es os es2 os2
odd_run m sh ld ts ss w h es os new es2 os2 n l r =
    let s : Step = odd_step m sh ld ts in
    record {
      evens_len = r.evens_len;
      odds_len = r.odds_len ∙ l.len;
      each = λ x xs lt a. r.each x (lift s xs) lt (turned_back (column new w h x) (column es w h x) (lift s xs) (halves_lifted s w h x os es new xs l lt (omega arith) (turned (column es w h x) (column os w h x) xs a)));
      grow = λ most he ho. r.grow (most.0, grown_by_step s most.1 most.0) he (half_grown s w h most.1 most.0 os es new l n.odds_len n.some ho he);
    }

pub no_run : (w h : ℕ) (es os : List ℤ) → HalvesRun [] w h es os es os
no_run w h es os = record { evens_len = refl; odds_len = refl; each = λ x xs lt a. a; grow = λ most he ho. (he, ho) }
