use Rattle.std.proofs.Common.{◌≡◌, ◌+◌, ◌-◌, ◌<◌, ◌≤◌, ◌^◌}
use Rattle.dirac_bits.specs.Fields.{number_on}
use Rattle.dirac_bits.specs.BitPlaces.{cursor_at}
use Rattle.dirac_bits.proofs.numbers.next_number.Given as goal

abbrev pub invariant-digits : goal.invariant-digits
invariant-digits l =
    (number_on (38 - l.doublings) l.value (cursor_at l.bytes l.bit_place) ≡ number_on 38 1 (cursor_at l.bytes l.fn.first))
    × (1 ≤ l.value) × (l.value < 2 ^ (l.doublings + 1))
