-- The exact interval of a list of decisions. Its low end is never masked.
use Rattle.std.specs.Prelude.{ℕ, zero, suc, ◌+◌, ◌-◌, ◌*◌, ◌/◌, ◌^◌, ◌<◌, Bool, true, false, nat_lt, if◌then◌else◌}
use Rattle.std.specs.Prelude.{List, [], ◌∷◌, slice_index, slice_set, replicate}
use Rattle.std.specs.List.{AllByRecursion}
use Rattle.dirac_arith.specs.declared.contexts.TheConstants.{CONTEXTS}
use Rattle.dirac_arith.specs.StepTable.{probability_step}

-- a decision: the number of its context, and its truth
abbrev pub Decision : Type 0
Decision = ℕ × Bool

-- an interval from `low`, `range` wide, after that many doublings, with the probability of each context
pub record Interval : Type 0 where
  pub low : ℕ
  pub range : ℕ
  pub doublings : ℕ
  pub contexts : List ℕ

-- the least number that passes, or the limit where none below it does
abbrev pub least_passing : (ℕ → Bool) → ℕ → ℕ
least_passing p zero = 0
least_passing p (suc limit) = if p 0 then 0 else suc (least_passing (λ i. p (suc i)) limit)

-- the least number of doublings that takes a range above 0x4000
unfoldable pub doublings_for : ℕ → ℕ
doublings_for range = least_passing (λ j. nat_lt 0x4000 (range * 2 ^ j)) 16

-- the interval after the doublings that its range needs
abbrev pub widened : Interval → Interval
widened s =
    let j = doublings_for s.range in
    record { low = s.low * 2 ^ j; range = s.range * 2 ^ j; doublings = s.doublings + j; contexts = s.contexts }

-- the probability of a context after a decision: it falls at true and grows at false
abbrev pub adapted : ℕ → Bool → ℕ
adapted probability true = probability - probability_step (probability / 256)
adapted probability false = probability + probability_step (255 - probability / 256)

-- the part of the range that false keeps, by the probability of the context
abbrev pub split_width : Interval → ℕ → ℕ
split_width s context = s.range * slice_index s.contexts context / 2 ^ 16

-- the contexts after a decision
abbrev pub contexts_after : Interval → ℕ → Bool → List ℕ
contexts_after s context truth = slice_set s.contexts context (adapted (slice_index s.contexts context) truth)

-- the part that a decision keeps: the upper one at true, the lower one at false
abbrev pub interval_kept : Interval → ℕ → Bool → Interval
interval_kept s context true =
    record {
      low = s.low + split_width s context;
      range = s.range - split_width s context;
      doublings = s.doublings;
      contexts = contexts_after s context true;
    }
interval_kept s context false =
    record {
      low = s.low;
      range = split_width s context;
      doublings = s.doublings;
      contexts = contexts_after s context false;
    }

-- the interval after one more decision
abbrev pub narrowed : Interval → Decision → Interval
narrowed s d = widened (interval_kept s d.0 d.1)

-- the interval after more decisions
abbrev pub narrowed_by : Interval → List Decision → Interval
narrowed_by s [] = s
narrowed_by s (d ∷ ds) = narrowed_by (narrowed s d) ds

-- the interval before any decision
abbrev pub whole : Interval
whole = record { low = 0; range = 0xFFFF; doublings = 0; contexts = replicate CONTEXTS 0x8000 }

-- the interval of a list of decisions
abbrev pub interval_of : List Decision → Interval
interval_of ds = narrowed_by whole ds

-- decisions of the 38 contexts
abbrev pub InContexts : List Decision → Type 0
InContexts ds = AllByRecursion (λ (d : Decision). d.0 < CONTEXTS) ds
