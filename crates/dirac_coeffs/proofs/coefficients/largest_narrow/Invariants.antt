use Rattle.std.proofs.Common.{◌<◌, ◌≤◌, ℕ, pos, get_or, unsigned_abs}
use Rattle.dirac_coeffs.proofs.coefficients.largest_narrow.Given as goal

abbrev pub invariant-loop-n : goal.invariant-loop-n
invariant-loop-n l = record {
  bound : (k : ℕ) → k < l.n → unsigned_abs (get_or l.values k (pos 0)) ≤ l.largest;
  least : (m : ℕ) → ((k : ℕ) → k < l.n → unsigned_abs (get_or l.values k (pos 0)) ≤ m) → l.largest ≤ m;
}
