use Rattle.std.proofs.Common.{◌+◌, arith}
use Rattle.std.proofs.lemmas.Nat.{one_shl}
use Rattle.dirac_arith.proofs.Tails.{pow17}
use Rattle.dirac_arith.proofs.tail.carried.Goals as goal

pub returns-clause-fits : goal.returns-clause-fits
returns-clause-fits c =
    let top = one_shl (16 + c.args.pending) 64 (omega arith) in
    let double = pow17 c.args.pending in
    omega (arith, top, double, c.requires.fits, c.if-register-top.false)
