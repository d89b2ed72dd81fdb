use Rattle.std.proofs.Common.{◌≡◌, ◌≢◌, ◌+◌, ◌-◌, ◌*◌, ◌^◌, ◌<◌, ◌≤◌, length}
use Rattle.dirac_common.specs.Numbers.{digits_of}
use Rattle.dirac_arith.specs.Front.{front}
use Rattle.dirac_arith.specs.Reading.{DecisionsAreRead}
use Rattle.dirac_arith.specs.Spelling.{opening_digits}
use Rattle.dirac_arith.proofs.decoder.Decoder.read_number.Given as goal

abbrev pub invariant-digits : goal.invariant-digits
invariant-digits l =
    record {
      reads : DecisionsAreRead l.fn.self (opening_digits l.follow l.bits 0 (digits_of (l.value - 1))) l.self;
      some : 1 ≤ l.value;
      below : l.value < 2 ^ (l.i + 1);
      digits : length (digits_of (l.value - 1)) ≡ l.i;
      room : l.self.at.doublings ≤ l.fn.self.at.doublings + 18 * l.i;
      alive : 0 < l.i → front l.fn.self.block 16 ≢ 0xFFFF;
    }
