use Rattle.std.proofs.Common.{◌+◌, pos, get_or, arith, ap}
use Rattle.std.specs.Int.{w32}
use Rattle.std.proofs.lemmas.Int.{fits_signed_from_abs}
use Rattle.dirac_lift.specs.Lifting.{rounded}
use Rattle.dirac_lift.proofs.HalfLemmas.{abs-read}
use Rattle.dirac_lift.proofs.LaneLemmas.{handed, handed_own, lanes_same, run_same}
use Rattle.dirac_lift.proofs.PairLemmas.{pairs_of_lanes}
use Rattle.dirac_lift.proofs.half_ends.put_eight_pairs.Goals as goal

pub lanes_at-requires-clause-fit : goal.lanes_at-requires-clause-fit
lanes_at-requires-clause-fit c j l = fits_signed_from_abs w32 (get_or c.args.low.now (c.args.n + j) (pos 0)) (omega (arith, abs-read _ c.args.low.now (c.args.n + j) c.requires.low))

pub rounded_lanes-evens-requires-clause-lanes : goal.rounded_lanes-evens-requires-clause-lanes
rounded_lanes-evens-requires-clause-lanes c = (handed _ _ c.lanes_at.ensures).eight

pub rounded_lanes-evens-requires-clause-sum : goal.rounded_lanes-evens-requires-clause-sum
rounded_lanes-evens-requires-clause-sum c = λ j l. rw ((handed _ _ c.lanes_at.ensures).each j l) (abs-read _ c.args.low.now (c.args.n + j) c.requires.low)

pub lanes_at-requires-2-clause-fit : goal.lanes_at-requires-2-clause-fit
lanes_at-requires-2-clause-fit c j l = fits_signed_from_abs w32 (get_or c.args.high.now (c.args.n + j) (pos 0)) (omega (arith, abs-read _ c.args.high.now (c.args.n + j) c.requires.high))

pub rounded_lanes-odds-requires-clause-lanes : goal.rounded_lanes-odds-requires-clause-lanes
rounded_lanes-odds-requires-clause-lanes c = (handed _ _ c.lanes_at-2.ensures).eight

pub rounded_lanes-odds-requires-clause-sum : goal.rounded_lanes-odds-requires-clause-sum
rounded_lanes-odds-requires-clause-sum c = λ j l. rw ((handed _ _ c.lanes_at-2.ensures).each j l) (abs-read _ c.args.high.now (c.args.n + j) c.requires.high)

pub first_in_turn-requires : goal.first_in_turn-requires
first_in_turn-requires c = record { lanes = ((handed _ _ c.rounded_lanes-evens.ensures).eight, (handed _ _ c.rounded_lanes-odds.ensures).eight) }

pub put_lanes-requires-clause-lanes : goal.put_lanes-requires-clause-lanes
put_lanes-requires-clause-lanes c = (handed_own _ c.first_in_turn.ensures.eight).eight

pub last_in_turn-requires : goal.last_in_turn-requires
last_in_turn-requires c = record { lanes = ((handed _ _ c.rounded_lanes-evens.ensures).eight, (handed _ _ c.rounded_lanes-odds.ensures).eight) }

pub put_lanes-requires-2-clause-lanes : goal.put_lanes-requires-2-clause-lanes
put_lanes-requires-2-clause-lanes c = (handed_own _ c.last_in_turn.ensures.eight).eight

pub returns : goal.returns
returns c = pairs_of_lanes c.args.n _ _ _ _ _ _ _ _ _
    (lanes_same _ _ _ (handed _ _ c.rounded_lanes-evens.ensures) (λ j l. ap (rounded c.args.shift) ((handed _ _ c.lanes_at.ensures).each j l)))
    (lanes_same _ _ _ (handed _ _ c.rounded_lanes-odds.ensures) (λ j l. ap (rounded c.args.shift) ((handed _ _ c.lanes_at-2.ensures).each j l)))
    c.first_in_turn.ensures c.last_in_turn.ensures
    (run_same _ _ _ _ _ _ c.put_lanes.ensures (handed_own _ c.first_in_turn.ensures.eight).each)
    (run_same _ _ _ _ _ _ c.put_lanes-2.ensures (handed_own _ c.last_in_turn.ensures.eight).each)
