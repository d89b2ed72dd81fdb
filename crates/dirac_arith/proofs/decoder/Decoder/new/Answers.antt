use Rattle.std.proofs.Common.{ℕ, ◌≤◌, ap, refl, sym, subst, arith}
use Rattle.std.proofs.lemmas.List.{get_or-replicate}
use Rattle.dirac_arith.specs.Interval.{Interval}
use Rattle.dirac_arith.specs.Reading.{Reading}
use Rattle.dirac_arith.proofs.Intervals.{low_is, doublings_is, stands_self, same_interval}
use Rattle.dirac_arith.proofs.Windows.{past_is_ones, inside_not_ones}
use Rattle.dirac_arith.proofs.decoder.Decoder.new.Goals as goal

pub invariant_of-result : goal.invariant_of-result
invariant_of-result c =
    let block = c.args.block.now in
    let r = c.begin-registers.result in
    let begun = c.begin-registers.ensures in
    record {
      stands = stands_self block r 0 0 begun.stands;
      wide = omega arith;
      narrow = omega arith;
      some_ahead = begun.some_ahead;
      most_ahead = begun.most_ahead;
      refused = λ e. (past_is_ones block r begun.stands (rw begun.range at (c.is_past-refused.ensures.past e)), c.is_past-refused.ensures.past e);
      inside = λ e. (inside_not_ones block r begun.stands (rw begun.range at (c.is_past-refused.ensures.inside e)), c.is_past-refused.ensures.inside e);
      probabilities = λ i below.
          let P : ℕ → Type 0 = λ x. (254 ≤ x) × (x ≤ 65281) in
          subst P (sym (get_or-replicate 38 i 0x8000 0 below)) (omega arith, omega arith);
    }

pub returns : goal.returns
returns c =
    let block = c.args.block.now in
    let r = c.begin-registers.result in
    let begun = c.begin-registers.ensures in
    let make : Interval → Reading = λ i. record { block = block; at = i } in
    ap make (same_interval _ _ _ _ _ _ _ _ (low_is block r 0 0 begun.stands) begun.range (doublings_is block r 0 0 begun.stands) refl)
