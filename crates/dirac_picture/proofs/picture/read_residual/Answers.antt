use Rattle.std.proofs.Common.{◌≤◌, arith, rules}
use Rattle.dirac_sequence_header.specs.Sizes.{picture_height}
use Rattle.dirac_sequence_header.proofs.Heights.{picture_size}
use Rattle.dirac_picture.specs.Fits.{IsTransform}
use Rattle.dirac_picture.proofs.Lawful.{layout_lawful, transform_lawful}
use Rattle.dirac_picture.proofs.picture.read_residual.Goals as goal

pub planes_by-requires-clause-planes : goal.planes_by-requires-clause-planes
planes_by-requires-clause-planes g c =
    let s = c.args.reading.now.sequence.now in
    let size = picture_size s c.requires.reading.1 in
    let high : picture_height s ≤ 4096 = omega (arith, size.3) in
    let lawful : IsTransform s.width (picture_height s) c.in_ok-transform.transform =
    transform_lawful s.width (picture_height s) c.args.r.now c.read_transform.new.r c.in_ok-transform.transform size.0 size.2
    c.in_ok-transform.ensures.wavelet c.in_ok-transform.ensures.depth c.in_ok-transform.ensures.levels c.in_ok-transform.ensures.mode (rw c.picture_height.ensures at c.in_ok-transform.ensures.value) in
    record {
      transform = lawful;
      layout = layout_lawful s.width (picture_height s) c.in_ok-transform.transform size.1 high lawful;
      luma = search rules;
      chroma = search rules;
    }
