use Rattle.std.proofs.Common.{◌≡◌, rules, ◌+◌, ◌-◌, ◌*◌, ◌/◌, pos, slice_index_or, length, to_z, of_z, arith, refl, ap, ◌∙◌}
use Rattle.std.specs.Int.{w32, w128}
use Rattle.std.proofs.lemmas.Int.{to_z-of_z}
use mir.Val.{SFits}
use Rattle.dirac_lift.specs.Lifting.{pair_read, value_read}
use Rattle.dirac_lift.proofs.Weighted.{tap_fits, sum_fits, place_within, weighted_more}
use Rattle.dirac_lift.proofs.step.weighted_clamped.Goals as goal

pub multiply_add-sum-requires : goal.multiply_add-sum-requires
multiply_add-sum-requires c =
    let tap : SFits w32 (slice_index_or c.args.taps.now c.loop-k.k (pos 0)) = search rules in
    let value : SFits w128 (slice_index_or c.args.line.now (2 * c.min-pair.result + (1 - c.args.step.parity)) (pos 0)) = search rules in
    tap_fits c.args.taps.now (value_read c.args.step.parity c.args.step.lead c.args.line.now c.args.n) c.loop-k.k _ _ (to_z w128 (of_z w128 (slice_index_or c.args.line.now (2 * c.min-pair.result + (1 - c.args.step.parity)) (pos 0))))
    c.loop-k.invariant (to_z-of_z w32 _ tap)
    (place_within _ _ c.args.line.now (2 * c.min-pair.result + (1 - c.args.step.parity)) c.min-pair.result _ c.requires.values refl (to_z-of_z w128 _ value))
    (λ k. c.requires.values _) c.loop-k-test.true c.requires.taps

pub loop-k-preserved : goal.loop-k-preserved
loop-k-preserved c =
    let s = c.args.step in
    let line = c.args.line.now in
    let tap : SFits w32 (slice_index_or c.args.taps.now c.loop-k.k (pos 0)) = search rules in
    let value : SFits w128 (slice_index_or line (2 * c.min-pair.result + (1 - s.parity)) (pos 0)) = search rules in
    let pair : c.min-pair.result ≡ pair_read s.lead (length line / 2) c.args.n c.loop-k.k = omega arith in
    weighted_more c.args.taps.now (value_read s.parity s.lead line c.args.n) c.loop-k.k
    _ _ (to_z w128 (of_z w128 (slice_index_or line (2 * c.min-pair.result + (1 - s.parity)) (pos 0)))) _
    c.loop-k.invariant (to_z-of_z w32 _ tap)
    (to_z-of_z w128 _ value ∙ ap (λ p. slice_index_or line (2 * p + (1 - s.parity)) (pos 0)) pair)
    (to_z-of_z w128 _ (record { sfits = c.multiply_add-sum.type_inv }) ∙ c.multiply_add-sum.ensures)

pub returns-clause-bound : goal.returns-clause-bound
returns-clause-bound c =
    sum_fits c.args.taps.now (value_read c.args.step.parity c.args.step.lead c.args.line.now c.args.n) c.loop-k.k _ c.loop-k.invariant (omega arith) (λ k. c.requires.values _) c.requires.taps
