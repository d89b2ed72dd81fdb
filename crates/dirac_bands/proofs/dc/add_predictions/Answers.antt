use Rattle.std.proofs.Common.{◌+◌, ◌*◌, ◌^◌, arith, refl}
use Rattle.std.proofs.lemmas.Int.{ints}
use Rattle.std.proofs.lemmas.Nat.{mul-le, mul-add-lt}
use Rattle.dirac_bands.proofs.Predictions.{sums_more, sums_bound}
use Rattle.dirac_bands.proofs.dc.add_predictions.Goals as goal

pub predict-requires-clause-magnitudes_at_most_2_120 : goal.predict-requires-clause-magnitudes_at_most_2_120
predict-requires-clause-magnitudes_at_most_2_120 c k d l =
    omega (
      arith,
      sums_bound (2 ^ 64) c.args.width c.args.height c.args.values.now c.loop-x.values (c.loop-y.y * c.args.width + c.loop-x.x)
          c.loop-x.invariant c.requires.at_least_1 c.requires.len
          (omega (arith, mul-add-lt c.loop-y.y c.args.width c.loop-x.x c.args.height c.loop-y-test.true c.loop-x-test.true)) c.requires.magnitudes_at_most_2_64 k d l,
      mul-le (c.args.width + c.args.height) (2 ^ 64) (2 ^ 33) (2 ^ 64) c.requires.sizes (omega arith),
    )

pub loop-x-preserved : goal.loop-x-preserved
loop-x-preserved c =
    sums_more _ _ _ (c.loop-y.y * c.args.width + c.loop-x.x) _ c.loop-x.x c.loop-y.y _ c.loop-x.invariant (omega arith) c.loop-x-test.true refl
    (omega (arith, c.requires.len, c.loop-x.invariant.len, mul-add-lt c.loop-y.y c.args.width c.loop-x.x c.args.height c.loop-y-test.true c.loop-x-test.true))
    (omega (arith, ints, c.sum.ensures, c.predict.ensures.value))

pub returns-clause-growth : goal.returns-clause-growth
returns-clause-growth c b all =
    sums_bound b c.args.width c.args.height c.args.values.now c.loop-y.values (c.loop-y.y * c.args.width)
    c.loop-y.invariant c.requires.at_least_1 c.requires.len
    (omega (arith, mul-le c.loop-y.y c.args.width c.args.height c.args.width (omega arith) (omega arith))) all
