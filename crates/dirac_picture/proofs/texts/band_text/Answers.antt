use Rattle.dirac_picture.proofs.Apart.{text_asked}
use Rattle.dirac_picture.proofs.texts.band_text.Goals as goal

pub text_at-requires-clause-layout : goal.text_at-requires-clause-layout
text_at-requires-clause-layout c = (text_asked c.args.sequence.now c.args.residual.now c.args.component c.requires.sequence c.requires.written).0

pub text_at-requires-clause-writable : goal.text_at-requires-clause-writable
text_at-requires-clause-writable c =
    rw (c.plane_width-width.ensures, c.plane_height-height.ensures, c.plane_bands-bands.ensures)
    (text_asked c.args.sequence.now c.args.residual.now c.args.component c.requires.sequence c.requires.written).3
