use Rattle.std.proofs.Common.{ℕ, subst, sym}
use Rattle.dirac_motion.specs.Chosen.{at_index}
use Rattle.dirac_encode_picture.specs.Prepared.{IsPrepared}
use Rattle.dirac_encode_picture.proofs.Preparing.{prepared_at}
use Rattle.dirac_encode_picture.proofs.within.code_within.Goals as goal

pub coded_within-requires : goal.coded_within-requires
coded_within-requires c =
    subst (λ (i : ℕ). IsPrepared (at_index c.args.asked.now.settings.now i) c.args.asked.now.refs.now c.args.asked.now.planned.now c.args.asked.now.source.now c.args.prepared.now) (sym c.from.ensures)
    (prepared_at c.args.asked.now.settings.now c.args.index c.args.asked.now.refs.now c.args.asked.now.planned.now c.args.asked.now.source.now c.args.prepared.now c.requires.prepared c.requires.index)
