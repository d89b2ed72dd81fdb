use Rattle.std.proofs.Common.{arith, ◌∙◌, ◌<◌, ◌≡◌, ◌+◌, ◌-◌, ◌*◌, ◌/◌}
use Rattle.dirac_arith.proofs.Windows.{stands_byte, below_byte, above_byte, byte_fits}
use Rattle.dirac_arith.proofs.registers.refilled.Goals as goal

pub overflow_mul-window : goal.overflow_mul-window
overflow_mul-window c =
    let r = c.reading in
    let fits = byte_fits r.window r.ahead 0 (omega arith) (omega arith) (c.reading.invariant.inside 65536 c.requires.narrow) in
    omega arith

pub overflow_add-window : goal.overflow_add-window
overflow_add-window c =
    let r = c.reading in
    omega (arith, byte_fits r.window r.ahead c.from.result (omega arith) (omega arith) (c.reading.invariant.inside 65536 c.requires.narrow))

pub reading-preserved : goal.reading-preserved
reading-preserved c =
    let r = c.reading in
    let byte = c.from.result in
    let small : byte < 256 = omega arith in
    record {
      stands = λ range low doublings h.
          stands_byte c.args.block.now (record { window = r.window; range = range; ahead = r.ahead; next = r.next }) low doublings byte (c.from.ensures ∙ c.byte_at.ensures) small (c.reading.invariant.stands range low doublings h);
      most_ahead = omega arith;
      place = omega arith;
      inside = λ range h. below_byte r.window range r.ahead byte small (c.reading.invariant.inside range h);
      outside = λ range h. above_byte r.window range r.ahead byte (c.reading.invariant.outside range h);
    }

pub returns-clause-stands : goal.returns-clause-stands
returns-clause-stands c =
    let ahead : c.args.ahead + 8 * ((48 - c.args.ahead) / 8) ≡ c.reading.ahead = omega arith in
    let next : c.args.next + (48 - c.args.ahead) / 8 ≡ c.reading.next = omega arith in
    λ range low doublings h. rw (ahead, next) (c.reading.invariant.stands range low doublings h)
