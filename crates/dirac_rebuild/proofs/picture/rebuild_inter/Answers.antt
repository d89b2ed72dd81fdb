use Rattle.std.proofs.Common.{ap, sym, ◌∙◌}
use Rattle.std.specs.Option.{option_copied}
use Rattle.dirac_rebuild.proofs.Pictures.{inter_found}
use Rattle.dirac_rebuild.proofs.picture.rebuild_inter.Goals as goal

pub returns : goal.returns
returns c =
    inter_found c.args.sequence.now c.args.refs.now c.args.coded.now c.args.motion.now c.in-Some.first.now (option_copied c.named_reference-second.result) c.rebuild_from.result
    c.requires.inter (sym c.named_reference.ensures ∙ ap option_copied c.in-Some.is) c.named_reference-second.ensures c.rebuild_from.ensures
