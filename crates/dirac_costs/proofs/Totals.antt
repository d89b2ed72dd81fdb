-- Sums of samples, and their means.
use Rattle.std.proofs.Common.{◌≡◌, ℕ, ℤ, pos, zero, suc, ◌+◌, ◌*◌, ◌≤◌, ◌+ℤ◌, arith, refl}
use Rattle.std.proofs.Math.Nat.{mul-suc}
use Rattle.std.specs.List.{All}
use Rattle.std.proofs.lemmas.Int.{ints}
use Rattle.std.proofs.lemmas.Nat.{mul-le}
use Rattle.dirac_common.specs.Table.{Table}
use Rattle.dirac_upconvert.specs.HalfSamples.{IsSample}
use Rattle.dirac_upconvert.specs.SubSamples.{IsWithin}
use Rattle.dirac_upconvert.proofs.Halves.{clamped_sample}
use Rattle.dirac_costs.specs.Sums.{total_below}
use Rattle.dirac_costs.specs.Windows.{mean_over, sample_at}
use Rattle.dirac_costs.specs.declared.window.Window.{Window}
use Rattle.dirac_costs.proofs.Quotients.{mean_sample}

within_sum : (n m : ℕ) (a b : ℤ) → IsWithin n a → IsWithin m b → IsWithin (n + m) (a +ℤ b)
within_sum n m a b p q = record { least = omega (arith, ints, p.least, q.least); most = omega (arith, ints, p.most, q.most) }

within_one : (v : ℤ) → IsSample v → IsWithin 1 v
within_one v h = record { least = omega (arith, ints, h.least); most = omega (arith, ints, h.most) }

within_none : (n : ℕ) → n ≡ 0 → IsWithin n (pos 0)
within_none n e = record { least = omega (arith, ints); most = omega (arith, ints) }

within_as : (n m : ℕ) (v : ℤ) → n ≡ m → IsWithin n v → IsWithin m v
within_as n m v e h = record { least = omega (arith, ints, h.least); most = omega (arith, ints, h.most) }

row_within : (f : ℕ → ℤ) (n : ℕ) → ((k : ℕ) → IsSample (f k)) → IsWithin n (total_below f n)
row_within f zero h = within_none 0 refl
row_within f (suc n) h = within_as (n + 1) (suc n) (total_below f (suc n)) (omega arith) (within_sum n 1 (total_below f n) (f n) (row_within f n h) (within_one (f n) (h n)))

rows_within : (f : ℕ → ℕ → ℤ) (columns n : ℕ) → ((a b : ℕ) → IsSample (f a b)) → IsWithin (columns * n) (total_below (λ b. total_below (λ a. f a b) columns) n)
rows_within f columns zero h = within_none (columns * 0) (omega arith)
rows_within f columns (suc n) h =
    within_as (columns * n + columns) (columns * suc n) _ (omega (arith, mul-suc columns n))
    (within_sum (columns * n) columns _ _ (rows_within f columns n h) (row_within (λ a. f a n) columns (λ a. h a n)))

-- the mean of a plane's samples is a sample
pub mean_over_sample : (t : Table) (w : Window) → All IsSample t.values → 1 ≤ w.columns → 1 ≤ w.rows → IsSample (mean_over t w)
mean_over_sample t w all columns rows =
    mean_sample _ (w.columns * w.rows) (omega (arith, mul-le 1 1 w.columns w.rows columns rows))
    (rows_within (λ a b. sample_at t (w.x + a) (w.y + b)) w.columns w.rows (λ a b. clamped_sample t (sample_at t (w.x + a) (w.y + b)) (pos (w.x + a)) (pos (w.y + b)) all refl))
