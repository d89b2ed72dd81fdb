-- The half samples of all listed pictures can be made.
use Rattle.std.proofs.Common.{List, arith}
use Rattle.std.specs.List.{All}
use Rattle.std.proofs.lemmas.List.Elements.{All-weaker}
use Rattle.dirac_common.specs.declared.formats.Component.{Component}
use Rattle.dirac_common.specs.declared.formats.Component.TheVariants as component
use Rattle.dirac_common.specs.declared.picture.Picture.{Picture}
use Rattle.dirac_sequence_header.specs.declared.sequence.Sequence.{Sequence}
use Rattle.dirac_sequence_header.specs.Lawful.{IsSequence}
use Rattle.dirac_refs.specs.Halves.{CanBeDoubled, IsDoublable}
use Rattle.dirac_picture.proofs.Chroma.{part_size}
use Rattle.dirac_content.specs.Content.{IsPicture, plane_of}
use Rattle.dirac_content.proofs.Covering.{plane_size}

plane_doubled : (s : Sequence) (p : Picture) (c : Component) → IsSequence s → IsPicture s p → IsDoublable (plane_of p c)
plane_doubled s p c lawful fits =
    let plane = plane_size s p c fits in
    let size = part_size s c lawful in
    record { across = omega (arith, plane.across, size.across.1); down = omega (arith, plane.down, size.down.1); samples = plane.samples }

picture_doubled : (s : Sequence) (p : Picture) → IsSequence s → IsPicture s p → CanBeDoubled p
picture_doubled s p lawful fits = record {
  y = plane_doubled s p component.Y lawful fits;
  u = plane_doubled s p component.U lawful fits;
  v = plane_doubled s p component.V lawful fits;
}

pub references_doubled : (s : Sequence) (refs : List Picture) → IsSequence s → All (IsPicture s) refs → All CanBeDoubled refs
references_doubled s refs lawful all = All-weaker (IsPicture s) CanBeDoubled (λ p fits. picture_doubled s p lawful fits) refs all
