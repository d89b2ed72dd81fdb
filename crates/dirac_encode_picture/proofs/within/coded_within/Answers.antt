use Rattle.dirac_encode_picture.proofs.Finishing.{can_finish}
use Rattle.dirac_encode_picture.proofs.within.coded_within.Goals as goal

pub show-requires : goal.show-requires
show-requires c =
    can_finish c.args.asked.now.settings.now c.sequence_of-sequence.result c.args.asked.now.refs.now c.args.asked.now.planned.now c.args.asked.now.source.now c.args.prepared.now c.in_ok-spelled.spelled.coded c.requires c.sequence_of-sequence.ensures.value c.in_ok-spelled.ensures.coded
