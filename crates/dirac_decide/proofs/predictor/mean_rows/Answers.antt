use Rattle.std.proofs.Common.{◌≡◌, ℤ, pos, ◌<◌, length, length-set, slice_index_or, to_z, of_z, arith, ap, ◌∙◌, sym, subst}
use Rattle.std.specs.Int.{w16}
use Rattle.std.proofs.lemmas.Int.{to_z-of_z}
use Rattle.std.proofs.lemmas.List.Elements.{All-set}
use Rattle.dirac_upconvert.specs.HalfSamples.{IsSample}
use Rattle.dirac_decide.specs.Modes.{mean_of_samples}
use Rattle.dirac_decide.specs.Predictors.{mean_in}
use Rattle.dirac_decide.proofs.Rows.{write_done, write_rest}
use Rattle.dirac_decide.proofs.predictor.mean_rows.Goals as goal

pub loop-k-preserved : goal.loop-k-preserved
loop-k-preserved c =
    let k = c.loop-k.k in
    let v : to_z w16 (of_z w16 c.mean_at.result) ≡ c.mean_at.result = to_z-of_z w16 _ (record { sfits = c.mean_at.type_inv }) in
    let inside : k < length c.loop-k.first = omega arith in
    let here : c.mean_at.result ≡ mean_in c.args.first.now c.args.second.now k =
    c.mean_at.ensures.value ∙ ap (λ z. mean_of_samples z (slice_index_or c.args.second.now k (pos 0))) (c.loop-k.invariant.rest k (omega arith)) in
    record {
      len = length-set c.loop-k.first k _ ∙ c.loop-k.invariant.len;
      samples = All-set IsSample c.loop-k.first k _ (subst (λ (z : ℤ). IsSample z) (sym v) c.mean_at.ensures.sample) c.loop-k.invariant.samples;
      done = write_done c.loop-k.first k _ (mean_in c.args.first.now c.args.second.now) inside (v ∙ here) c.loop-k.invariant.done;
      rest = write_rest c.loop-k.first c.args.first.now k _ c.loop-k.invariant.rest;
    }
