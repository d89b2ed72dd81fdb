-- What a predictor costs in a unit, row by row.
use Rattle.std.proofs.Common.{◌≡◌, ℕ, ℤ, pos, ◌+◌, List, length, slice_index_or, arith, ap, ◌∙◌}
use Rattle.std.specs.Prelude.{unsigned_abs, ◌-ℤ◌}
use Rattle.dirac_common.specs.Table.{Table}
use Rattle.dirac_costs.specs.Windows.{apart, over, row_from, sample_at, values_apart, values_from}
use Rattle.dirac_costs.specs.Sums.{sum_below}
use Rattle.dirac_costs.proofs.Sums.{sum_same}
use Rattle.dirac_costs.proofs.Tiles.{tiles}
use Rattle.dirac_decide.specs.Deciding.{Deciding}
use Rattle.dirac_decide.specs.Predictors.{RowHolds, predictor_samples, unit_cost, predictor_cost}
use Rattle.dirac_decide.specs.Units.{unit_distortion, unit_window}
use Rattle.dirac_decide.specs.declared.predictor.Predictor.{Predictor}
use Rattle.dirac_decide.specs.declared.prediction_unit.PredictionUnit.{PredictionUnit}

-- a unit's distortion is that of its window
pub distortion_is : (d : Deciding) (u : PredictionUnit) (f : ℕ → ℕ → ℤ) → unit_distortion d u f ≡ over (unit_window d.grid u) (apart (sample_at d.y) f)
unfolding unit_distortion
distortion_is d u f = tiles (apart (sample_at d.y) f) u.i u.j d.grid.xbsep d.grid.ybsep u.size

-- the differences of a row that holds a predictor's samples
pub row_apart : (t : Table) (g : ℕ → ℕ → ℤ) (x y n : ℕ) (row : List ℤ) → length row ≡ n → RowHolds g x y n row
    → values_apart (row_from t x y) (values_from row 0) (length row) ≡ sum_below (λ a. apart (sample_at t) g (x + a) y) n
row_apart t g x y n row len same =
    ap (values_apart (row_from t x y) (values_from row 0)) len
    ∙ sum_same _ _ n (λ k l. ap (λ (z : ℤ). unsigned_abs (sample_at t (x + k) y -ℤ z)) (ap (λ i. slice_index_or row i (pos 0)) (place k) ∙ same k l))
  where
    place : (k : ℕ) → 0 + k ≡ k
    place k = omega arith

-- what bits and differences cost together, in the order of the definition
pub cost_is : (d : Deciding) (u : PredictionUnit) (p : Predictor) (bits : ℕ) → predictor_cost d.y d.precision p (unit_window d.grid u) bits ≡ unit_cost d u p bits
cost_is d u p bits = omega (arith, distortion_is d u (predictor_samples d.precision p))
