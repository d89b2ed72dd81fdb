-- The registers of a decoder, and the interval that they stand for.
use Rattle.std.specs.Prelude.{◌≡◌, ◌≢◌, ◌+◌, ◌-◌, ◌*◌, ◌/◌, ◌^◌, ◌<◌, ◌≤◌, ℕ, Bool, true, false, List, slice_index}
use Rattle.dirac_arith.specs.declared.contexts.TheConstants.{CONTEXTS}
use Rattle.dirac_arith.specs.declared.registers.Registers.{Registers}
use Rattle.dirac_arith.specs.Front.{front}
use Rattle.dirac_arith.specs.Interval.{doublings_for}

-- the registers stand for this low end after that many doublings: the window is the code less low, and bits read ahead
pub record Stands (block : List ℕ) (r : Registers) (low doublings : ℕ) : Type 0 where
  pub code : front block (8 * r.next) ≡ low * 2 ^ r.ahead + r.window
  pub bits : 8 * r.next ≡ 16 + doublings + r.ahead

-- the low end that the registers stand for
abbrev pub low_of : List ℕ → Registers → ℕ
low_of block r = (front block (8 * r.next) - r.window) / 2 ^ r.ahead

-- the doublings so far
abbrev pub doublings_of : Registers → ℕ
doublings_of r = 8 * r.next - 16 - r.ahead

-- the probabilities of the contexts stay within these bounds, so each part of a range is above 32
abbrev pub AreProbabilities : List ℕ → Type 0
AreProbabilities contexts = (i : ℕ) → i < CONTEXTS → (254 ≤ slice_index contexts i) × (slice_index contexts i ≤ 65281)

-- how wide the part is that a decision keeps
abbrev pub part_width : ℕ → ℕ → Bool → ℕ
part_width range split true = range - split
part_width range split false = split

-- by how much a decision moves the low end
abbrev pub lift_of : ℕ → Bool → ℕ
lift_of split true = split
lift_of split false = 0

-- registers of a block from which its decisions are read: the window is below the range
pub record Runs (block : List ℕ) (r : Registers) : Type 0 where
  pub some : front block 16 ≢ 0xFFFF
  pub stands : Stands block r (low_of block r) (doublings_of r)
  pub wide : 0x4000 < r.range
  pub narrow : r.range ≤ 0xFFFF
  pub some_ahead : 9 ≤ r.ahead
  pub most_ahead : r.ahead ≤ 48
  pub inside : r.window < r.range * 2 ^ r.ahead

-- the registers with this window and this part of the range, as often doubled as the part needs
abbrev pub with_part : Registers → ℕ → ℕ → Registers
with_part r window part =
    let count = doublings_for part in
    record { window = window; range = part * 2 ^ count; ahead = r.ahead - count; next = r.next }

-- the registers behind a decision of this truth, where the lower part of the range is `split` wide
pub record Settles (old : Registers) (split : ℕ) (truth : Bool) (new : Registers) : Type 0 where
  pub stands : (block : List ℕ) (low doublings : ℕ) → Stands block old low doublings →
      let count = doublings_for (part_width old.range split truth) in
      Stands block new ((low + lift_of split truth) * 2 ^ count) (doublings + count)
  pub range : let part = part_width old.range split truth in new.range ≡ part * 2 ^ doublings_for part
  pub wide : 0x4000 < new.range
  pub narrow : new.range ≤ 0xFFFF
  pub next : new.next ≡ old.next
  pub few_doublings : old.ahead ≤ new.ahead + 9
  pub no_more_ahead : new.ahead ≤ old.ahead
  pub inside : new.window < new.range * 2 ^ new.ahead
