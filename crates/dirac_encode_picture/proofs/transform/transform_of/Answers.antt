use Rattle.std.proofs.Common.{subst, sym, arith}
use Rattle.dirac_types.specs.Sizes.{picture_height}
use Rattle.dirac_picture.specs.Fits.{IsLayout}
use Rattle.dirac_picture.proofs.Lawful.{layout_lawful}
use Rattle.dirac_encode_laws.specs.Coded.{transform_of}
use Rattle.dirac_encode_laws.proofs.Counting.{transform_lawful}
use Rattle.dirac_sequence.proofs.Sizes.{size_of_pictures}
use Rattle.dirac_encode_picture.proofs.transform.transform_of.Goals as goal

pub parameters_of-requires-clause-width : goal.parameters_of-requires-clause-width
parameters_of-requires-clause-width c = let size = c.requires.sequence.size in omega (arith, size.1)

pub parameters_of-requires-clause-height : goal.parameters_of-requires-clause-height
parameters_of-requires-clause-height c = let size = size_of_pictures c.args.settings.now c.requires.sequence in omega (arith, size.3)

pub returns-clause-layout : goal.returns-clause-layout
returns-clause-layout c =
    let t = c.args.settings.now in
    let size = size_of_pictures t c.requires.sequence in
    subst IsLayout (sym c.parameters_of.ensures)
    (layout_lawful t.width (picture_height t) (transform_of t) (omega (arith, size.1)) (omega (arith, size.3)) (transform_lawful t c.requires))
