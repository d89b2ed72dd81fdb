use Rattle.std.proofs.Common.{arith, ◌*◌, ◌^◌, ◌%◌, ◌≤◌, ◌≡◌}
use Rattle.std.proofs.lemmas.Bool.{leb-true}
use Rattle.std.proofs.lemmas.Nat.{shl_whole}
use Rattle.dirac_arith.proofs.registers.is_past.Goals as goal

pub returns-clause-past : goal.returns-clause-past
returns-clause-past c =
    λ h.
    let r = c.args.registers in
    let bound = c.from.result * 2 ^ r.ahead % 18446744073709551616 in
    let exact : bound ≡ c.from.result * 2 ^ r.ahead = shl_whole c.from.result 16 r.ahead 64 (omega arith) (omega arith) in
    let above : bound ≤ r.window = leb-true bound r.window h in
    let same : c.from.result ≡ r.range = c.from.ensures in
    rw (← same) (omega arith)
