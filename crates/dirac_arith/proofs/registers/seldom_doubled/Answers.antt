use Rattle.std.proofs.Common.{◌≡◌, ◌-◌, ◌*◌, ◌^◌, ap, ◌∙◌, arith}
use Rattle.dirac_arith.specs.declared.registers.Registers.{Registers}
use Rattle.dirac_arith.proofs.Doublings.{doublings_none}
use Rattle.dirac_arith.proofs.registers.seldom_doubled.Goals as goal

pub returns-then-range-gt16384 : goal.returns-then-range-gt16384
returns-then-range-gt16384 c =
    let r = c.args.registers in
    let whole : c.args.range ≡ c.args.range * 2 ^ 0 = omega arith in
    let all : r.ahead ≡ r.ahead - 0 = omega arith in
    rw (doublings_none c.args.range c.if-range-gt16384.true)
    (ap (λ x. let s : Registers = record { window = c.args.window; range = x; ahead = r.ahead; next = r.next } in s) whole
    ∙ ap (λ x. let s : Registers = record { window = c.args.window; range = c.args.range * 2 ^ 0; ahead = x; next = r.next } in s) all)
