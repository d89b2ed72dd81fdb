use Rattle.std.proofs.Common.{◌≡◌, ℕ, ◌+◌, ◌-◌, ◌*◌, ◌^◌, ◌<◌, ◌≤◌}
use Rattle.dirac_arith.specs.Registers.{Stands}
use Rattle.dirac_arith.proofs.registers.refilled.Given as goal

abbrev pub invariant-reading : goal.invariant-reading
invariant-reading l =
    record {
      stands : (range low doublings : ℕ) → Stands l.block (record { window = l.fn.window; range = range; ahead = l.fn.ahead; next = l.fn.next }) low doublings
          → Stands l.block (record { window = l.window; range = range; ahead = l.ahead; next = l.next }) low doublings;
      most_ahead : l.ahead ≤ 48;
      place : 8 * l.next + l.fn.ahead ≡ 8 * l.fn.next + l.ahead;
      inside : (range : ℕ) → l.fn.window < range * 2 ^ l.fn.ahead → l.window < range * 2 ^ l.ahead;
      outside : (range : ℕ) → range * 2 ^ l.fn.ahead ≤ l.fn.window → range * 2 ^ l.ahead ≤ l.window;
    }

abbrev pub decreases-reading : goal.decreases-reading
decreases-reading l = 48 - l.ahead
