-- What one decision makes of the registers.
use Rattle.std.proofs.Common.{◌≡◌, ℕ, ◌+◌, ◌-◌, ◌*◌, ◌/◌, ◌%◌, ◌^◌, ◌<◌, ◌≤◌, Bool, true, false, refl, sym, arith, ap, ◌∙◌}
use Rattle.std.proofs.lemmas.Nat.{pow-add, shl_whole}
use Rattle.dirac_arith.specs.declared.registers.Registers.{Registers}
use Rattle.dirac_arith.specs.Interval.{doublings_for}
use Rattle.dirac_arith.specs.Registers.{Settles, with_part, part_width, lift_of}
use Rattle.dirac_arith.proofs.Doublings.{widens, split_bounds}
use Rattle.dirac_arith.proofs.Windows.{stands_decided}

settles : (r : Registers) (split : ℕ) (truth : Bool) (window part : ℕ)
    → part_width r.range split truth ≡ part → 32 < part → part ≤ 0xFFFF → 9 ≤ r.ahead
    → lift_of split truth * 2 ^ r.ahead ≤ r.window → window + lift_of split truth * 2 ^ r.ahead ≡ r.window → window < part * 2 ^ r.ahead
    → Settles r split truth (with_part r window part)
settles r split truth window part is some most ahead fits sum below =
    let count = doublings_for part in
    let moved = widens part (omega arith) most in
    let few = moved.few some in
    let full : 2 ^ (r.ahead - count + count) ≡ 2 ^ (r.ahead - count) * 2 ^ count = pow-add 2 (r.ahead - count) count in
    let back : r.ahead - count + count ≡ r.ahead = omega arith in
    let whole = rw back at full in
    let room = rw whole at below in
    record {
      stands = λ block low k h.
          rw is (stands_decided block r (with_part r window part) low k (lift_of split truth) count fits sum back refl h);
      range = rw is refl;
      wide = moved.wide;
      narrow = moved.narrow;
      next = refl;
      few_doublings = omega arith;
      no_more_ahead = omega arith;
      inside = omega arith;
    }

-- the bound that the code makes of the split
pub bound_is : (r : Registers) (probability number whole : ℕ) → 0x4000 < r.range → r.range ≤ 0xFFFF → 254 ≤ probability → probability ≤ 65281
    → r.ahead ≤ 48 → number ≡ probability → whole ≡ r.range * number / 65536
    → whole * 2 ^ r.ahead % 18446744073709551616 ≡ r.range * probability / 65536 * 2 ^ r.ahead
bound_is r probability number whole wide narrow some most few number_is whole_is =
    let bounds = split_bounds r.range probability wide narrow some most in
    let product : whole ≡ r.range * probability / 65536 = whole_is ∙ ap (λ p. r.range * p / 65536) number_is in
    shl_whole whole 16 r.ahead 64 (omega arith) (omega arith) ∙ ap (λ s. s * 2 ^ r.ahead) product

-- a true decision keeps the upper part
pub settles_upper : (r : Registers) (probability bound window part : ℕ)
    → 0x4000 < r.range → r.range ≤ 0xFFFF → 254 ≤ probability → probability ≤ 65281 → 9 ≤ r.ahead → r.window < r.range * 2 ^ r.ahead
    → bound ≡ r.range * probability / 65536 * 2 ^ r.ahead → bound ≤ r.window → window ≡ r.window - bound → part ≡ r.range - r.range * probability / 65536
    → Settles r (r.range * probability / 65536) true (with_part r window part)
settles_upper r probability bound window part wide narrow some most ahead below bounded above window_is part_is =
    let split = r.range * probability / 65536 in
    let bounds = split_bounds r.range probability wide narrow some most in
    let sum : part + split ≡ r.range = omega arith in
    let inside : r.window < (part + split) * 2 ^ r.ahead = rw sum below in
    settles r split true window part (sym part_is) (omega arith) (omega arith) ahead (omega arith) (omega arith) (omega arith)

-- a false decision keeps the lower part
pub settles_lower : (r : Registers) (probability bound window part : ℕ)
    → 0x4000 < r.range → r.range ≤ 0xFFFF → 254 ≤ probability → probability ≤ 65281 → 9 ≤ r.ahead
    → bound ≡ r.range * probability / 65536 * 2 ^ r.ahead → r.window < bound → window ≡ r.window → part ≡ r.range * probability / 65536
    → Settles r (r.range * probability / 65536) false (with_part r window part)
settles_lower r probability bound window part wide narrow some most ahead bounded below window_is part_is =
    let bounds = split_bounds r.range probability wide narrow some most in
    let inside : window < part * 2 ^ r.ahead = rw part_is (omega arith) in
    settles r (r.range * probability / 65536) false window part (sym part_is) (omega arith) (omega arith) ahead (omega arith) (omega arith) inside
