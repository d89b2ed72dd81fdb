-- The best of the candidates so far, from one candidate to the next.
use Rattle.std.proofs.Common.{◌≡◌, ℕ, ◌+◌, ◌<◌, ◌≤◌, ◌^◌, arith, ap, sym, ◌∙◌}
use Rattle.dirac_common.specs.declared.formats.Vector.{Vector}
use Rattle.dirac_vectors.specs.Predictions.{IsShortVector}
use Rattle.dirac_costs.specs.Least.{IsToldBelow, first_least_to}
use Rattle.dirac_costs.proofs.Least.{least_kept, least_repeated, least_taken}
use Rattle.dirac_decide.specs.Choosing.{IsBestTo}
use Rattle.dirac_decide.specs.Deciding.{Deciding, View}
use Rattle.dirac_decide.specs.Units.{candidate, candidate_cost, vector_cost}
use Rattle.dirac_decide.specs.declared.best.Best.{Best}
use Rattle.dirac_decide.specs.declared.prediction_unit.PredictionUnit.{PredictionUnit}

-- the first candidate
pub best_first : (d : Deciding) (r : View) (u : PredictionUnit) (b : Best) → b.vector ≡ candidate r u 0 → b.cost ≡ vector_cost d r u b.vector
    → IsShortVector b.vector → b.cost ≤ 2 ^ 29 → IsBestTo d r u 0 b
best_first d r u b is costs short most = record { vector = is; cost = costs ∙ ap (vector_cost d r u) is; of_16_bits = short; at_most = most }

-- the same first of least cost, one candidate further
stays : (d : Deciding) (r : View) (u : PredictionUnit) (k : ℕ) (b : Best) → IsBestTo d r u k b
    → first_least_to (candidate_cost d r u) (k + 1) ≡ first_least_to (candidate_cost d r u) k → IsBestTo d r u (k + 1) b
stays d r u k b is same = record {
  vector = is.vector ∙ ap (candidate r u) (sym same);
  cost = is.cost ∙ ap (candidate_cost d r u) (sym same);
  of_16_bits = is.of_16_bits;
  at_most = is.at_most;
}

-- a candidate that was seen before changes nothing
pub best_seen : (d : Deciding) (r : View) (u : PredictionUnit) (k m : ℕ) (b : Best) (v : Vector) → IsBestTo d r u k b → v ≡ candidate r u (k + 1)
    → m ≤ k → v ≡ candidate r u m → IsBestTo d r u (k + 1) b
best_seen d r u k m b v is next l seen =
    stays d r u k b is (least_repeated (candidate_cost d r u) k m l (ap (vector_cost d r u) (sym next ∙ seen)))

-- nor does one that doesn't cost less
pub best_kept : (d : Deciding) (r : View) (u : PredictionUnit) (k told : ℕ) (b : Best) (v : Vector) → IsBestTo d r u k b → v ≡ candidate r u (k + 1)
    → IsToldBelow b.cost (vector_cost d r u v) told → b.cost ≤ told → IsBestTo d r u (k + 1) b
best_kept d r u k told b v is next t more =
    let cost : vector_cost d r u v ≡ candidate_cost d r u (k + 1) = ap (vector_cost d r u) next in
    let above : b.cost ≤ vector_cost d r u v = t.above more in
    stays d r u k b is (least_kept (candidate_cost d r u) k (omega (arith, is.cost, cost, above)))

-- one that does is the best
pub best_taken : (d : Deciding) (r : View) (u : PredictionUnit) (k : ℕ) (b next : Best) → IsBestTo d r u k b → next.vector ≡ candidate r u (k + 1)
    → IsToldBelow b.cost (vector_cost d r u next.vector) next.cost → next.cost < b.cost → IsShortVector next.vector → IsBestTo d r u (k + 1) next
best_taken d r u k b next is at t less short =
    let cost : vector_cost d r u next.vector ≡ candidate_cost d r u (k + 1) = ap (vector_cost d r u) at in
    let told : next.cost ≡ vector_cost d r u next.vector = t.below less in
    let taken : first_least_to (candidate_cost d r u) (k + 1) ≡ k + 1 = least_taken (candidate_cost d r u) k (omega (arith, is.cost, cost, told, less)) in
    record {
      vector = at ∙ ap (candidate r u) (sym taken);
      cost = told ∙ cost ∙ ap (candidate_cost d r u) (sym taken);
      of_16_bits = short;
      at_most = omega (arith, less, is.at_most);
    }
