use Rattle.dirac_picture.proofs.Apart.{text_asked}
use Rattle.dirac_picture.proofs.texts.component_text.Goals as goal

pub plane_text-requires-clause-layout : goal.plane_text-requires-clause-layout
plane_text-requires-clause-layout c = (text_asked c.args.sequence.now c.args.residual.now c.args.component c.requires.sequence c.requires.written).0

pub plane_text-requires-clause-writable : goal.plane_text-requires-clause-writable
plane_text-requires-clause-writable c =
    rw (c.plane_width-width.ensures, c.plane_height-height.ensures, c.plane_bands-bands.ensures)
    (text_asked c.args.sequence.now c.args.residual.now c.args.component c.requires.sequence c.requires.written).3
