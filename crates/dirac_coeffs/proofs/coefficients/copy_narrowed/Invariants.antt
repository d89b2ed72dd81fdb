use Rattle.std.proofs.Common.{◌≡◌, ◌^◌, ◌<◌, ◌≤◌, ℕ, pos, true, false, get_or, unsigned_abs}
use Rattle.dirac_coeffs.proofs.coefficients.copy_narrowed.Given as goal

abbrev pub invariant-loop-n : goal.invariant-loop-n
invariant-loop-n l = record {
  written : l.all ≡ true → (k : ℕ) → k < l.n → get_or l.narrow k (pos 0) ≡ get_or l.wide k (pos 0);
  bound : l.all ≡ true → (k : ℕ) → k < l.n → unsigned_abs (get_or l.wide k (pos 0)) ≤ l.largest;
  least : l.all ≡ true → (m : ℕ) → ((k : ℕ) → k < l.n → unsigned_abs (get_or l.wide k (pos 0)) ≤ m) → l.largest ≤ m;
  others : l.all ≡ false → (m : ℕ) → ((k : ℕ) → k < l.n → unsigned_abs (get_or l.wide k (pos 0)) ≤ m) → 2 ^ 31 ≤ m;
}
