use Rattle.std.proofs.Common.{◌≡◌, ◌+◌, ◌*◌, pos, get_or, length, arith, ap, ◌∙◌}
use Rattle.dirac_quant.specs.Quantiser.{restored}
use Rattle.dirac_synthesis.proofs.Maps.{mapped_all}
use Rattle.dirac_synthesis.proofs.restore.restore_values.Goals as goal

pub returns : goal.returns
returns c =
    mapped_all (λ v. restored v c.args.index c.args.kind) c.args.coded.now c.restore_into.new.line (length c.args.coded.now) (omega arith)
    (λ k l. let place : k ≡ k * 1 + 0 = omega arith in
    ap (λ i. get_or c.restore_into.new.line i (pos 0)) place ∙ c.restore_into.ensures.written k l) (omega arith)
