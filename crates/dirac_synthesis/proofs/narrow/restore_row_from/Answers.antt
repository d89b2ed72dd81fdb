use Rattle.std.proofs.Common.{◌+◌, ◌*◌, ◌^◌, ◌<◌, pos, get_or, unsigned_abs, arith, ap, sym, ◌∙◌, refl}
use Rattle.dirac_common.proofs.Rows.{row_at}
use Rattle.dirac_quant.specs.Quantiser.{scaled}
use Rattle.dirac_lift.proofs.ZerosKept.{zeros_read}
use Rattle.dirac_synthesis.specs.Halves.{IsRestorable}
use Rattle.dirac_synthesis.proofs.BesideRows.{row_all}
use Rattle.dirac_synthesis.proofs.narrow.restore_row_from.Goals as goal

pub restore_from-requires-clause-below : goal.restore_from-requires-clause-below
restore_from-requires-clause-below c =
    row_all (λ v. unsigned_abs v < 2 ^ 12) c.args.band.now c.args.y c.in-Some.coded.now c.in-Some.ensures.value c.requires.below

pub restore_from-requires-clause-restorable : goal.restore_from-requires-clause-restorable
restore_from-requires-clause-restorable c =
    row_all (λ v. IsRestorable c.args.scale.factor c.args.scale.offset v) c.args.band.now c.args.y c.in-Some.coded.now c.in-Some.ensures.value c.requires.restorable

pub returns-in-Some-clause-written : goal.returns-in-Some-clause-written
returns-in-Some-clause-written c = λ n l.
    c.restore_from.ensures.written n (omega (arith, l, c.in-Some.ensures.len))
    ∙ ap (λ v. scaled v c.args.scale.factor c.args.scale.offset) (ap (λ zs. get_or zs n (pos 0)) c.in-Some.ensures.value ∙ row_at c.args.band.now n c.args.y l)

pub returns-in-None-clause-written : goal.returns-in-None-clause-written
returns-in-None-clause-written c = λ n l.
    c.clear_from.ensures.written n (omega (arith, l))
    ∙ ap (λ v. scaled v c.args.scale.factor c.args.scale.offset) (sym (zeros_read c.args.band.now.values (c.in-None.ensures.zeros refl) (c.args.y * c.args.band.now.width + n)))
