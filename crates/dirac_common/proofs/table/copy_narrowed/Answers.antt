use Rattle.std.proofs.Common.{pos, arith}
use Rattle.std.proofs.lemmas.List.{ext_get_or}
use Rattle.dirac_common.proofs.table.copy_narrowed.Goals as goal

pub returns : goal.returns
returns c =
    ext_get_or (pos 0) c.loop-i.values c.args.wide.now (omega arith) (λ k l. c.loop-i.invariant k (omega (arith, l)))
