use Rattle.std.proofs.Common.{◌≡◌, ◌<◌, ◌-◌, get_or, length, arith, length-set, ◌∙◌}
use Rattle.dirac_arith.proofs.Tails.{carry_ends, carry_goes}
use Rattle.dirac_arith.proofs.tail.carry.Goals as goal

pub returns-then-bytes-place-lt255 : goal.returns-then-bytes-place-lt255
returns-then-bytes-place-lt255 c =
    carry_ends c.carrying.bytes c.carrying.place _ (omega arith) c.carrying.invariant.inside c.carrying.invariant.sum

pub carrying-preserved : goal.carrying-preserved
carrying-preserved c =
    let bs = c.carrying.bytes in
    let p = c.carrying.place - 1 in
    let there : p < length bs = omega (arith, c.carrying.invariant.inside) in
    let small : get_or bs p 0 < 256 = omega arith in
    let full : get_or bs p 0 ≡ 255 = omega arith in
    record {
      inside = omega (arith, length-set bs p 0, c.carrying.invariant.inside);
      same = length-set bs p 0 ∙ c.carrying.invariant.same;
      sum = carry_goes bs c.carrying.place _ (omega arith) c.carrying.invariant.inside full c.carrying.invariant.sum;
    }
