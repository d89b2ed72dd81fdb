-- How an encoder is seen, and what its registers keep.
use Rattle.std.specs.Prelude.{◌+◌, ◌*◌, ◌^◌, ◌<◌, ◌≤◌}
use Rattle.dirac_arith.specs.declared.encoder.Encoder.TheInside.{Inside}
use Rattle.dirac_arith.specs.Interval.{Interval}
use Rattle.dirac_arith.specs.Registers.{AreProbabilities}

-- the exact interval
abbrev pub exact_interval : Inside → Interval
exact_interval a = record { low = a.tail.value; range = a.range; doublings = a.tail.doublings; contexts = a.contexts }

-- the interval lies within the first one, so a carry finds a byte; and within twice the register
pub record IsEncoding (a : Inside) : Type 0 where
  pub wide : 0x4000 < a.range
  pub narrow : a.range ≤ 0xFFFF
  pub within : a.tail.value + a.range ≤ 0xFFFF * 2 ^ a.tail.doublings
  pub register : a.tail.register + a.range ≤ 2 ^ (17 + a.tail.pending)
  pub pending : a.tail.pending ≤ 47
  pub probabilities : AreProbabilities a.contexts
