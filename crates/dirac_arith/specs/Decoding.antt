-- How a decoder is seen, and what its registers keep.
use Rattle.std.specs.Prelude.{◌≡◌, ◌≢◌, ◌*◌, ◌^◌, ◌<◌, ◌≤◌, true, false}
use Rattle.dirac_arith.specs.declared.decoder.Decoder.TheInside.{Inside}
use Rattle.dirac_arith.specs.declared.registers.Registers.{Registers}
use Rattle.dirac_arith.specs.Front.{front}
use Rattle.dirac_arith.specs.Reading.{Reading}
use Rattle.dirac_arith.specs.Registers.{Stands, low_of, doublings_of, AreProbabilities}

-- the block and the exact interval
abbrev pub reading : Inside → Reading
reading a =
    record {
      block = a.block.now;
      at = record {
        low = low_of a.block.now a.registers;
        range = a.registers.range;
        doublings = doublings_of a.registers;
        contexts = a.contexts;
      };
    }

-- a reading that stands at these registers in place of its own
abbrev pub reading_at : Reading → Registers → Reading
reading_at r registers =
    record {
      block = r.block;
      at = record {
        low = low_of r.block registers;
        range = registers.range;
        doublings = doublings_of registers;
        contexts = r.at.contexts;
      };
    }

-- the window is below the range, unless the block begins with sixteen ones
pub record IsSound (a : Inside) : Type 0 where
  pub stands : Stands a.block.now a.registers (low_of a.block.now a.registers) (doublings_of a.registers)
  pub wide : 0x4000 < a.registers.range
  pub narrow : a.registers.range ≤ 0xFFFF
  pub some_ahead : 9 ≤ a.registers.ahead
  pub most_ahead : a.registers.ahead ≤ 48
  pub refused : a.refused ≡ true → (front a.block.now 16 ≡ 0xFFFF)
      × (a.registers.range * 2 ^ a.registers.ahead ≤ a.registers.window)
  pub inside : a.refused ≡ false → (front a.block.now 16 ≢ 0xFFFF)
      × (a.registers.window < a.registers.range * 2 ^ a.registers.ahead)
  pub probabilities : AreProbabilities a.contexts
