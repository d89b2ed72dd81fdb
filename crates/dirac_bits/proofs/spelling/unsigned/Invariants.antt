use Rattle.std.proofs.Common.{◌≡◌, ◌-◌, ◌/◌, ◌%◌, ◌<◌, ◌≤◌, ◌^◌, ◌++◌}
use Rattle.dirac_common.specs.Numbers.{digits_of, followed, uint}
use Rattle.dirac_bits.specs.Writing.{bits_below}
use Rattle.dirac_bits.proofs.spelling.unsigned.Given as goal

abbrev pub invariant-digits : goal.invariant-digits
invariant-digits l =
    (followed (digits_of (l.rest - 1)) ++ bits_below l.run.count l.run.number ≡ uint l.fn.value)
    × (1 ≤ l.rest)
    × (l.rest < 2 ^ (39 - l.run.count / 2))
    × (l.run.count % 2 ≡ 1)
    × (l.run.count ≤ 77)
    × (l.run.number < 2 ^ l.run.count)

abbrev pub decreases-digits : goal.decreases-digits
decreases-digits l = l.rest
