-- What a step on halves is to the whole lines.
use Rattle.std.proofs.Common.{◌≡◌, ℕ, ℤ, pos, ◌+◌, ◌*◌, ◌/◌, ◌<◌, ◌≤◌, List, length, get_or, arith, inl, inr, ap, sym, ◌∙◌}
use Rattle.std.proofs.lemmas.Bool.{cases_lt}
use Rattle.std.proofs.lemmas.List.{get_or_past}
use Rattle.dirac_lift.specs.Level.{column}
use Rattle.dirac_lift.specs.Lifting.{Step, lift, moved, other, own, pair_read, rounded, value_read, change_at}
use Rattle.dirac_lift.specs.Halves.{AreHalvesOfLine, HalfLifted, half_read}
use Rattle.dirac_lift.proofs.ColumnLemmas.{column_at, length-column}
use Rattle.dirac_lift.proofs.Lifted.{LiftedBelow, lift_below, weighted_same}

pub halves_lifted : (s : Step) (w h x : ℕ) (os rs ys xs : List ℤ) → HalfLifted s w h os rs ys → x < w → s.parity ≤ 1 → AreHalvesOfLine s.parity (column os w h x) (column rs w h x) xs → AreHalvesOfLine s.parity (column ys w h x) (column rs w h x) (lift s xs)
halves_lifted s w h x os rs ys xs l xw p a =
    let size : length xs ≡ 2 * h = omega (arith, a.len, length-column os w h x) in
    let below : LiftedBelow s xs (lift s xs) (length xs / 2) = lift_below s xs p (omega (arith, size)) in
    record {
      len = below.len ∙ a.len ∙ ap (λ k. 2 * k) (length-column os w h x ∙ sym (length-column ys w h x));
      alike = length-column rs w h x ∙ sym (length-column ys w h x);
      changed = λ n. elim (cases_lt n h) [
        | inl inside ↦
            below.done n (omega (arith, size, inside))
            ∙ ap (λ v. moved s.minus v (change_at s xs n)) (a.changed n ∙ column_at os w h x n inside)
            ∙ ap (λ v. moved s.minus (get_or os (n * w + x) (pos 0)) (rounded s.shift v)) (weighted_same s.taps (value_read s.parity s.lead xs n) (half_read s.lead w h rs n x) (length s.taps) (λ k.
            let half : length xs / 2 ≡ h = omega (arith, size) in
            ap (λ m. get_or xs (other s.parity (pair_read s.lead m n k)) (pos 0)) half
            ∙ a.read (pair_read s.lead h n k)
            ∙ column_at rs w h x (pair_read s.lead h n k) (omega (arith, inside))))
            ∙ sym (column_at ys w h x n inside ∙ l.each n x inside xw)
        | inr past ↦
            get_or_past (lift s xs) (own s.parity n) (pos 0) (omega (arith, below.len, size, past))
            ∙ sym (get_or_past (column ys w h x) n (pos 0) (omega (arith, past, length-column ys w h x)))
      ];
      read = λ n. below.kept n ∙ a.read n;
    }
