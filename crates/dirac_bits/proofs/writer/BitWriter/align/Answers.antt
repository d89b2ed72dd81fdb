use Rattle.std.proofs.Common.{◌≡◌, ◌-◌, ◌%◌, ◌++◌, ap, sym, ◌∙◌, false}
use Rattle.std.specs.Prelude.{replicate}
use Rattle.std.proofs.lemmas.Result.{on_ok_weaker}
use Rattle.dirac_bits.specs.Writing.{bits_below, gap}
use Rattle.dirac_bits.proofs.Writes.{used_is, bits_below-zero}
use Rattle.dirac_bits.proofs.writer.BitWriter.align.Goals as goal

pub returns-clause-ok : goal.returns-clause-ok
returns-clause-ok c =
    let used = used_is c.self.inside.bytes.items c.self.inside.used c.self.inside.pending c.args.self.now c.self.invariant.0 c.self.view_is in
    let same : bits_below ((8 - c.self.inside.used) % 8) 0 ≡ gap c.args.self.now =
    bits_below-zero ((8 - c.self.inside.used) % 8) ∙ ap (λ n. replicate ((8 - n) % 8) false) (sym used) in
    on_ok_weaker c.put.result (λ e. e ∙ ap (λ bits. c.args.self.now ++ bits) same) c.put.ensures.ok
