use Rattle.dirac_parts_laws.proofs.Shown.{parts_show}
use Rattle.dirac_parts_laws.proofs.laws.joined_parts_show_the_whole.Goals as goal

pub returns : goal.returns
returns c =
    let laws = c.streams_show_their_pictures.ensures in
    parts_show c.infos_are_read_as_written.ensures c.plans_can_be_coded.ensures laws.sources laws.cut laws.sources_shown
