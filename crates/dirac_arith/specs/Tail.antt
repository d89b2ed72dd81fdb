-- The low end of an encoder's interval: written bytes, and behind them a register of bits that wait.
use Rattle.std.specs.Prelude.{ℕ, ◌+◌, ◌*◌, ◌^◌, ◌<◌, ◌≤◌, List, [], ◌∷◌, length}
use Rattle.dirac_arith.specs.declared.tail.Tail.TheInside.{Inside}

-- the number that bytes hold behind this one
abbrev pub bytes_from : ℕ → List ℕ → ℕ
bytes_from high [] = high
bytes_from high (b ∷ bs) = bytes_from (high * 256 + b) bs

-- the exact low end and the doublings so far, and what of them waits: the register, and how many doublings of it
pub record Waiting : Type 0 where
  pub value : ℕ
  pub doublings : ℕ
  pub register : ℕ
  pub pending : ℕ

-- a carry may stand in the register, above its bits
abbrev pub waiting : Inside → Waiting
waiting a =
    record {
      value = bytes_from 0 a.bytes.items * 2 ^ (16 + a.pending) + a.register;
      doublings = 8 * length a.bytes.items + a.pending;
      register = a.register;
      pending = a.pending;
    }

-- the bits that no byte is made of yet fit the register
pub record IsWaiting (a : Inside) : Type 0 where
  pub room : a.pending ≤ 47
  pub fits : a.register < 2 ^ (17 + a.pending)
