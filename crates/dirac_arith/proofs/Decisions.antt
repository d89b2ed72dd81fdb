-- What one decision makes of a decoder.
use Rattle.std.proofs.Common.{◌≡◌, ℕ, ◌+◌, ◌*◌, ◌/◌, ◌^◌, ◌<◌, ◌≤◌, Bool, false, Result, Ok, List, length, get_or, set, slice_index, slice_set, inl, inr, sym, ap, ◌∙◌, arith, subst, get_or-set_same, get_or-set_other}
use Rattle.std.proofs.lemmas.Bool.{both_ways, cases_lt, cases_eq}
use Rattle.std.proofs.lemmas.List.{get_or_past}
use Rattle.dirac_arith.specs.declared.decoder.Decoder.TheInside.{Inside}
use Rattle.dirac_arith.specs.declared.registers.Registers.{Registers}
use Rattle.dirac_arith.specs.Interval.{Interval, adapted, doublings_for, split_width, narrowed, contexts_after}
use Rattle.dirac_arith.specs.Carried.{Lies}
use Rattle.dirac_arith.specs.Deciding.{decision_read}
use Rattle.dirac_arith.specs.Reading.{Reading}
use Rattle.dirac_arith.specs.Registers.{Stands, Runs, Settles, low_of, doublings_of, part_width, lift_of, AreProbabilities}
use Rattle.dirac_arith.specs.Decoding.{IsSound, reading}
use Rattle.dirac_common.specs.declared.faults.Cause.{Cause}
use Rattle.dirac_arith.proofs.Decidings.{decided_is}
use Rattle.dirac_arith.proofs.Intervals.{low_is, doublings_is, stands_self, narrowed_is}
use Rattle.dirac_arith.proofs.Windows.{lies_from_window}

-- a probability within its bounds keeps all within them
pub probabilities_set : (contexts : List ℕ) (context probability : ℕ) → 254 ≤ probability → probability ≤ 65281 → AreProbabilities contexts → AreProbabilities (slice_set contexts context probability)
probabilities_set contexts context probability some most all i below =
    elim (cases_eq i context) [
      | inl same ↦
          let there : context < length contexts =
          elim (cases_lt context (length contexts)) [
            | inl inside ↦ inside
            | inr past ↦ let none = get_or_past contexts i 0 (omega arith) in absurd (omega (arith, (all i below).0))
          ] in
          let P : ℕ → Type 0 = λ x. (254 ≤ x) × (x ≤ 65281) in
          let e : get_or (set contexts context probability) i 0 ≡ probability =
          ap (λ j. get_or (set contexts context probability) j 0) same ∙ get_or-set_same contexts context probability 0 there in
          subst P (sym e) (some, most)
      | inr other ↦
          let P : ℕ → Type 0 = λ x. (254 ≤ x) × (x ≤ 65281) in
          subst P (sym (get_or-set_other contexts context i probability 0 other)) (all i below)
    ]

-- the view of a decoder after a decision
pub moves : (a : Inside) (context : ℕ) (truth : Bool) (r : Registers) (contexts : List ℕ)
    → let s = (reading a).at in
    let part = part_width s.range (split_width s context) truth in
    Stands a.block.now r ((s.low + lift_of (split_width s context) truth) * 2 ^ doublings_for part) (s.doublings + doublings_for part)
    → r.range ≡ part * 2 ^ doublings_for part
    → contexts ≡ contexts_after s context truth
    → reading (record { block = a.block; registers = r; contexts = contexts; refused = a.refused }) ≡ record { block = a.block.now; at = narrowed s (context, truth) }
moves a context truth r contexts stands range after =
    let s = (reading a).at in
    let make : Interval → Reading = λ i. record { block = a.block.now; at = i } in
    ap make (narrowed_is s context truth (low_of a.block.now r) r.range (doublings_of r) contexts
    (low_is a.block.now r _ _ stands) range (doublings_is a.block.now r _ _ stands) after)

-- the front lies in the interval that the decision kept
pub lies_moved : (a : Inside) (context : ℕ) (truth : Bool) (r : Registers) (contexts : List ℕ)
    → let s = (reading a).at in
    let part = part_width s.range (split_width s context) truth in
    Stands a.block.now r ((s.low + lift_of (split_width s context) truth) * 2 ^ doublings_for part) (s.doublings + doublings_for part)
    → r.range ≡ part * 2 ^ doublings_for part
    → contexts ≡ contexts_after s context truth
    → r.window < r.range * 2 ^ r.ahead
    → Lies a.block.now (narrowed s (context, truth))
lies_moved a context truth r contexts stands range after inside =
    let new : Reading = reading (record { block = a.block; registers = r; contexts = contexts; refused = a.refused }) in
    let here = lies_from_window a.block.now r new.at (stands_self a.block.now r _ _ stands) inside in
    let P : Reading → Type 0 = λ x. Lies x.block x.at in
    subst P (moves a context truth r contexts stands range after) here

-- the registers of a decoder whose block has decisions
pub runs_of : (a : Inside) → IsSound a → a.refused ≡ false → Runs a.block.now a.registers
runs_of a sound open' =
    record {
      some = (sound.inside open').0;
      stands = sound.stands;
      wide = sound.wide;
      narrow = sound.narrow;
      some_ahead = sound.some_ahead;
      most_ahead = sound.most_ahead;
      inside = (sound.inside open').1;
    }

-- a decoder with other registers of its block, and with other probabilities
pub sound_with : (a : Inside) (r : Registers) (contexts : List ℕ) → a.refused ≡ false → Runs a.block.now r → AreProbabilities contexts
    → IsSound (record { block = a.block; registers = r; contexts = contexts; refused = a.refused })
sound_with a r contexts open' runs all =
    record {
      stands = runs.stands;
      wide = runs.wide;
      narrow = runs.narrow;
      some_ahead = runs.some_ahead;
      most_ahead = runs.most_ahead;
      refused = λ e. absurd (both_ways a.refused open' e);
      inside = λ _. (runs.some, runs.inside);
      probabilities = all;
    }

-- what a decision leaves
pub record Taken (a : Inside) (context : ℕ) (truth : Bool) (r : Registers) (contexts : List ℕ) : Type 0 where
  pub runs : Runs a.block.now r
  pub moved : reading (record { block = a.block; registers = r; contexts = contexts; refused = a.refused })
      ≡ record { block = a.block.now; at = narrowed (reading a).at (context, truth) }
  pub lies : Lies a.block.now (narrowed (reading a).at (context, truth))
  pub read : decision_read context (reading a) ≡ Ok (truth, reading (record { block = a.block; registers = r; contexts = contexts; refused = a.refused }))
  pub few_doublings : doublings_of r ≤ doublings_of a.registers + 9

-- a decision that settles the registers, which are filled behind it
pub taken : (a : Inside) (context : ℕ) (truth : Bool) (mid r : Registers) (probability : ℕ)
    → Runs a.block.now a.registers
    → Settles a.registers (split_width (reading a).at context) truth mid
    → ((low k : ℕ) → Stands a.block.now mid low k → Stands a.block.now r low k) → r.range ≡ mid.range → 9 ≤ r.ahead → r.ahead ≤ 48
    → ((range : ℕ) → mid.window < range * 2 ^ mid.ahead → r.window < range * 2 ^ r.ahead)
    → probability ≡ adapted (slice_index a.contexts context) truth
    → Taken a context truth r (slice_set a.contexts context probability)
taken a context truth mid r probability runs settled filled range some_ahead most_ahead inside adapted_is =
    let there = settled.stands a.block.now _ _ runs.stands in
    let stands = filled _ _ there in
    let below : r.window < r.range * 2 ^ r.ahead = rw range (inside _ settled.inside) in
    let contexts = slice_set a.contexts context probability in
    let after : contexts ≡ contexts_after (reading a).at context truth = ap (λ p. slice_set a.contexts context p) adapted_is in
    let before = runs.stands.bits in
    let is = doublings_is a.block.now r _ _ stands in
    let moved = moves a context truth r contexts stands (range ∙ settled.range) after in
    let lies = lies_moved a context truth r contexts stands (range ∙ settled.range) after below in
    record {
      runs = record {
        some = runs.some;
        stands = stands_self a.block.now r _ _ stands;
        wide = omega (arith, settled.wide);
        narrow = omega (arith, settled.narrow);
        some_ahead = some_ahead;
        most_ahead = most_ahead;
        inside = below;
      };
      moved = moved;
      lies = lies;
      read = decided_is context truth (reading a) runs.some lies ∙ ap (λ (x : Reading). let y : Result (Bool × Reading) Cause = Ok (truth, x) in y) (sym moved);
      few_doublings = omega (arith, is, before, there.bits, settled.few_doublings, settled.next);
    }

-- the same from registers that a loop keeps, told by a truth that is known
pub taken_from : (a : Inside) (old : Registers) (context : ℕ) (told truth : Bool) (mid r : Registers) (probability : ℕ)
    → told ≡ truth → Runs a.block.now old
    → Settles old (old.range * slice_index a.contexts context / 2 ^ 16) told mid
    → ((low k : ℕ) → Stands a.block.now mid low k → Stands a.block.now r low k) → r.range ≡ mid.range → 9 ≤ r.ahead → r.ahead ≤ 48
    → ((range : ℕ) → mid.window < range * 2 ^ mid.ahead → r.window < range * 2 ^ r.ahead)
    → probability ≡ adapted (slice_index a.contexts context) truth
    → Taken (record { block = a.block; registers = old; contexts = a.contexts; refused = a.refused }) context truth r (slice_set a.contexts context probability)
taken_from a old context told truth mid r probability is runs settled filled range some_ahead most_ahead inside adapted_is =
    taken (record { block = a.block; registers = old; contexts = a.contexts; refused = a.refused }) context truth mid r probability runs
    (subst (λ t. Settles old (old.range * slice_index a.contexts context / 2 ^ 16) t mid) is settled) filled range some_ahead most_ahead inside adapted_is
