use Rattle.std.proofs.Common.{ℕ, Option, sym, subst}
use Rattle.std.specs.Prelude.{IfOk}
use Rattle.dirac_encode_laws.specs.Fit.{rule_of}
use Rattle.dirac_encode_progress.specs.PictureCoding.{IsCodedUnder}
use Rattle.dirac_encode.proofs.Alone.{coded_under}
use Rattle.dirac_encode.proofs.stream.code_picture_by.Goals as goal

pub returns-in-None : goal.returns-in-None
returns-in-None g c =
    let t = c.args.coder.now.settings.now in
    subst (λ (o : Option ℕ). IfOk c.code_picture.result (IsCodedUnder (rule_of o) t c.args.refs.now c.args.planned.now c.args.source.now)) (sym c.in-None.is)
    (coded_under _ t c.args.refs.now c.args.planned.now c.args.source.now c.code_picture.result c.code_picture.ensures.payload c.code_picture.ensures.shown)
