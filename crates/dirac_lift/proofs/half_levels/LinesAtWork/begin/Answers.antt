use Rattle.std.proofs.Common.{refl}
use Rattle.dirac_common.proofs.Bounds.{all_weaker}
use Rattle.dirac_lift.specs.Rings.{most_of}
use Rattle.dirac_lift.proofs.RingLevels.{holds_none, most_least}
use Rattle.dirac_lift.proofs.half_levels.LinesAtWork.begin.Goals as goal

pub loop-turn-init : goal.loop-turn-init
loop-turn-init g c =
    let k = c.args.wavelet in
    let least = most_least k c.requires.wavelet in
    record {
      at_work = record {
        rings = record {
          wavelet = c.requires.wavelet;
          some = c.requires.across.0;
          even = c.requires.even;
          down = c.requires.down.1;
          evens_len = c.in_ok-evens.ensures.len;
          odds_len = c.in_ok-odds.ensures.len;
          evens_bound = all_weaker 4095 (most_of k).0 c.in_ok-evens.evens.items least.0 c.in_ok-evens.ensures.at_most_4095;
          odds_bound = all_weaker 4095 (most_of k).1 c.in_ok-odds.odds.items least.1 c.in_ok-odds.ensures.at_most_4095;
        };
        evens_whole = c.requires.evens;
        odds_whole = c.requires.odds;
        evens_small = c.requires.evens_at_most_4095;
        odds_small = c.requires.odds_at_most_4095;
        hold = holds_none k c.args.width c.args.height (g.S.RowPairs.evens c.args.source.now) (g.S.RowPairs.odds c.args.source.now) c.in_ok-evens.evens.items c.in_ok-odds.odds.items c.in_ok-evens.ensures.len c.in_ok-odds.ensures.len;
      };
      wavelet = refl;
      width = refl;
      half = refl;
      turn = refl;
    }
