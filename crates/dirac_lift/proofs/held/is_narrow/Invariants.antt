use Rattle.std.proofs.Common.{◌≡◌, ◌<◌, ◌≤◌, ℕ, pos, true, get_or, unsigned_abs}
use Rattle.dirac_lift.proofs.held.is_narrow.Given as goal

abbrev pub invariant-loop-n : goal.invariant-loop-n
invariant-loop-n l = l.all ≡ true → (k : ℕ) → k < l.n → unsigned_abs (get_or l.values k (pos 0)) ≤ 4095
