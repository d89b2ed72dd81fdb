use Rattle.std.proofs.Common.{arith}
use Rattle.dirac_obmc.proofs.predict.bounded.Goals as goal

pub returns : goal.returns
returns c =
    let up = c.width-first.ensures.lawful in
    record {
      grid = c.requires.grid;
      precision = c.requires.precision;
      some_bits = c.requires.bits.0;
      most_bits = c.requires.bits.1;
      weight1 = c.requires.weights.0;
      weight2 = c.requires.weights.1;
      some_across = omega (arith, up.some_across, c.requires.first.0);
      most_across = omega (arith, up.most_across, c.requires.first.0);
      some_down = omega (arith, up.some_down, c.requires.first.1);
      most_down = omega (arith, up.most_down, c.requires.first.1);
      covers_across = c.requires.covers_across;
      covers_down = c.requires.covers_down;
      first = c.requires.first;
      second = c.requires.second;
      two = c.requires.two;
    }
