use Rattle.std.proofs.Common.{arith, refl}
use Rattle.dirac_generator.proofs.Lengths.{picture_of_parts}
use Rattle.dirac_generator.proofs.picture.fill_picture.Goals as goal

pub returns : goal.returns
returns c =
    picture_of_parts c.args.settings.now c.args.number _ _ _ _ _ _ _ _ c.fill_rows.ensures c.fill_rows-2.ensures c.fill_rows-3.ensures refl c.sizes_of-sizes.ensures.chroma_width (omega arith) (omega arith)
    (omega arith)
