use Rattle.std.proofs.Common.{◌++◌, ap, ◌∙◌}
use Rattle.std.proofs.lemmas.Result.{on_ok_weaker}
use Rattle.dirac_bits.proofs.Writes.{one_bit}
use Rattle.dirac_bits.proofs.writer.BitWriter.bit.Goals as goal

pub returns-clause-ok : goal.returns-clause-ok
returns-clause-ok c =
    on_ok_weaker c.put.result (λ e. e ∙ ap (λ bits. c.args.self.now ++ bits) (one_bit c.args.value)) (rw c.from.ensures at c.put.ensures.ok)
