-- Rows that are predicted are those of the plane's predictions.
use Rattle.std.proofs.Common.{◌≡◌, ℕ, ◌+◌, ◌-◌, ◌*◌, ◌<◌, ◌≤◌, arith, ap₂, sym, ◌∙◌}
use Rattle.dirac_common.specs.Table.{table_at}
use Rattle.dirac_common.proofs.Rows.{filled_at}
use Rattle.dirac_obmc.specs.Compensation.{Compensation, predicted_at, predicted_plane, predicted_rows}
use Rattle.dirac_synthesis.specs.Residual.{rows_between}
use Rattle.dirac_synthesis.specs.Sums.{IsOfSize}
use Rattle.dirac_synthesis.proofs.LastRows.{told_alike}
use Rattle.dirac_synthesis.proofs.ZeroBands.{length-filled}

pub rows_told : (m : Compensation) (from to : ℕ) → 0 < m.width → to ≤ m.height → predicted_rows m from to ≡ rows_between from to (predicted_plane m)
rows_told m from to some inside =
    told_alike (λ x y. table_at (predicted_plane m) x (from + y)) (λ x y. predicted_at m x (from + y)) m.width (to - from) some
    (λ x y l k. sym (filled_at (predicted_at m) m.width m.height x (from + y) l (omega (arith, k, inside))))

-- a plane's predictions are as many as it has samples
pub predicted_size : (m : Compensation) (w h : ℕ) → m.width ≡ w → m.height ≡ h → IsOfSize w h (predicted_plane m)
predicted_size m w h ew eh = record {
  across = ew;
  down = eh;
  whole = length-filled m.width m.height (predicted_at m) ∙ ap₂ (λ a b. a * b) ew eh;
}
