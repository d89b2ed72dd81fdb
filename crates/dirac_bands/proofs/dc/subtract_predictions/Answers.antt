use Rattle.std.proofs.Common.{◌+◌, ◌-◌, ◌*◌, ◌^◌, arith, refl}
use Rattle.std.proofs.lemmas.Int.{ints}
use Rattle.std.proofs.lemmas.Nat.{mul-add-lt}
use Rattle.dirac_bands.proofs.Predictions.{differences_more, differences_bound}
use Rattle.dirac_bands.proofs.dc.subtract_predictions.Goals as goal

pub predict-requires-clause-magnitudes_at_most_2_120 : goal.predict-requires-clause-magnitudes_at_most_2_120
predict-requires-clause-magnitudes_at_most_2_120 c k d l =
    omega (
      arith,
      differences_bound (2 ^ 64) c.args.width c.args.values.now c.loop-x.values ((c.loop-y.y - 1) * c.args.width + c.loop-x.x)
          c.loop-x.invariant c.requires.at_least_1 c.requires.magnitudes_at_most_2_64 k d l,
    )

pub loop-x-preserved : goal.loop-x-preserved
loop-x-preserved c =
    differences_more _ _ _ ((c.loop-y.y - 1) * c.args.width + (c.loop-x.x - 1)) _ (c.loop-x.x - 1) (c.loop-y.y - 1) _ c.loop-x.invariant
    (omega arith) (omega arith) refl
    (omega (arith, c.requires.len, c.loop-x.invariant.len, mul-add-lt (c.loop-y.y - 1) c.args.width (c.loop-x.x - 1) c.args.height (omega arith) (omega arith)))
    (omega (arith, ints, c.difference.ensures, c.predict.ensures.value))

pub returns-clause-growth : goal.returns-clause-growth
returns-clause-growth c b all =
    differences_bound b c.args.width c.args.values.now c.loop-y.values (c.loop-y.y * c.args.width) c.loop-y.invariant c.requires.at_least_1 all
