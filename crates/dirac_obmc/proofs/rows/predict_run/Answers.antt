use Rattle.std.proofs.Common.{pos, ◌+◌, ◌-◌, ◌*◌, get_or, arith, refl, ap, ◌∙◌}
use Rattle.std.proofs.lemmas.List.{take_at}
use Rattle.std.proofs.lemmas.Nat.{mul-le, row_fits}
use Rattle.dirac_obmc.specs.Given.{compensation_of}
use Rattle.dirac_obmc.proofs.StripLemmas.{predicts_at, room_rows, whole_rows}
use Rattle.dirac_obmc.proofs.rows.predict_run.Goals as goal

pub block_front-requires-clause-window : goal.block_front-requires-clause-window
block_front-requires-clause-window c =
    let n = c.args.down.end - c.args.down.start in
    let w = c.args.width in
    record {
      x = omega (arith, c.requires.columns, c.requires.motion.most_across);
      y = omega (arith, c.requires.rows.0, c.requires.rows.1, c.requires.motion.most_down);
      some = c.requires.some;
      whole_rows = whole_rows _ n w refl c.requires.some;
      at_most_4096 = omega (arith, mul-le n w 64 64 (omega (arith, c.requires.few_rows, c.requires.room_fits.few_rows)) c.requires.at_most_64);
    }

pub block_front-requires-clause-first : goal.block_front-requires-clause-first
block_front-requires-clause-first c =
    omega (arith, room_rows _ (c.args.down.end - c.args.down.start) c.args.width c.requires.few_rows c.requires.at_most_64, c.requires.room_fits.first, c.as_mut_slice.ensures.len)

pub block_front-requires-clause-second : goal.block_front-requires-clause-second
block_front-requires-clause-second c =
    omega (arith, room_rows _ (c.args.down.end - c.args.down.start) c.args.width c.requires.few_rows c.requires.at_most_64, c.requires.room_fits.second, c.as_mut_slice-2.ensures.len)

pub block_front-requires-clause-out : goal.block_front-requires-clause-out
block_front-requires-clause-out c =
    omega (arith, room_rows _ (c.args.down.end - c.args.down.start) c.args.width c.requires.few_rows c.requires.at_most_64, c.requires.room_fits.values, c.as_mut_slice-3.ensures.len)

pub returns-clause-values : goal.returns-clause-values
returns-clause-values c =
    let n = c.args.down.end - c.args.down.start in
    let w = c.args.width in
    λ r k a b. ap (λ vs. get_or vs (r * w + k) (pos 0)) (take_at c.block_front.new.out _ _ (c.block_front.auto.out ∙ c.as_mut_slice-3.ensures.len))
    ∙ c.block_front.ensures (r * w + k) (omega (arith, row_fits r w n w a (omega arith), b))
    ∙ predicts_at (compensation_of c.args.motion.now) _ _ c.args.left c.args.down.start w r k b c.at-block.ensures.value
