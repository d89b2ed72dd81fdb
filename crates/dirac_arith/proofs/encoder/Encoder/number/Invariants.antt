use Rattle.std.proofs.Common.{◌≡◌, ◌-◌, ◌/◌, ◌^◌, length}
use Rattle.dirac_common.specs.Numbers.{digits_of}
use Rattle.dirac_arith.specs.Interval.{narrowed_by}
use Rattle.dirac_arith.specs.Spelling.{opening_digits}
use Rattle.dirac_arith.proofs.encoder.Encoder.number.Given as goal

abbrev pub invariant-digits : goal.invariant-digits
invariant-digits l =
    record {
      taken : l.self ≡ narrowed_by l.fn.self (opening_digits l.follow l.bits 0 (digits_of (l.wide / 2 ^ (l.count - l.i) - 1)));
      digits : length (digits_of (l.wide / 2 ^ (l.count - l.i) - 1)) ≡ l.i;
    }
