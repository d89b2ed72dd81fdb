use Rattle.std.proofs.Common.{◌+◌, ◌*◌, ◌%◌, ◌<◌, arith, rules, ◌∙◌}
use Rattle.std.specs.Int.{w32}
use Rattle.std.proofs.lemmas.Int.{to_z-of_z}
use Rattle.std.proofs.lemmas.Nat.{mul-add-lt}
use mir.Val.{SFits}
use Rattle.dirac_lift.specs.Changes.{with_taps}
use Rattle.dirac_lift.proofs.HalfLemmas.{abs-read}
use Rattle.dirac_lift.proofs.RingRows.{row_more}
use Rattle.dirac_lift.proofs.ZeroSteps.{end_still, front_still}
use Rattle.dirac_lift.proofs.rings.lift_row.Goals as goal

pub loop-x-init : goal.loop-x-init
loop-x-init c = record {
  run = front_still (with_taps c.args.step c.args.taps.now) c.args.size.width c.args.size.half c.args.n c.first_changed-from.result c.args.own.now c.args.other.now c.first_changed-from.ensures.zeros;
  inside = c.first_changed-from.ensures.inside;
}

pub weighted_in_ring-sum-requires-clause-across : goal.weighted_in_ring-sum-requires-clause-across
weighted_in_ring-sum-requires-clause-across c = omega (arith, c.loop-x-test.true, c.end_of_changed-to.ensures.inside)

pub put_changed-requires-clause-inside : goal.put_changed-requires-clause-inside
put_changed-requires-clause-inside c =
    let inside : c.loop-x.x < c.args.size.width = omega (arith, c.loop-x-test.true, c.end_of_changed-to.ensures.inside) in
    omega (arith, c.loop-x.invariant.run.len, c.requires.own_len, mul-add-lt (c.args.n % 16) c.args.size.width c.loop-x.x 16 (omega arith) inside)

pub put_changed-requires-clause-changed : goal.put_changed-requires-clause-changed
put_changed-requires-clause-changed c =
    rw (c.loop-x.invariant.run.behind ((c.args.n % 16) * c.args.size.width + c.loop-x.x) (omega arith)) (abs-read _ _ ((c.args.n % 16) * c.args.size.width + c.loop-x.x) c.requires.changed)

pub loop-x-preserved : goal.loop-x-preserved
loop-x-preserved c =
    let fits : SFits w32 c.weighted_in_ring-sum.result = search rules in
    let inside : c.loop-x.x < c.args.size.width = omega (arith, c.loop-x-test.true, c.end_of_changed-to.ensures.inside) in
    rw c.put_changed.ensures
    (record {
      run =
          row_more (record { parity = c.args.step.parity; minus = c.args.step.minus; shift = c.args.step.shift; lead = c.args.step.lead; taps = c.args.taps.now }) c.args.size.width c.args.size.half c.args.n c.loop-x.x c.args.own.now c.args.other.now c.loop-x.own _ c.loop-x.invariant.run
          (omega (arith, c.requires.own_len, mul-add-lt (c.args.n % 16) c.args.size.width c.loop-x.x 16 (omega arith) inside))
          (to_z-of_z w32 _ fits ∙ c.weighted_in_ring-sum.ensures.value);
      inside = omega (arith, inside);
    })

pub returns : goal.returns
returns c =
    end_still (with_taps c.args.step c.args.taps.now) c.args.size.width c.args.size.half c.args.n c.loop-x.x c.args.own.now c.args.other.now c.loop-x.own c.loop-x.invariant.run c.loop-x.invariant.inside
    (λ k y kl l m. c.end_of_changed-to.ensures.zeros k y kl (omega (arith, l, c.loop-x-test.false)) m)
