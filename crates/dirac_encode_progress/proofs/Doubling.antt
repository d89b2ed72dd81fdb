-- The half samples of all listed pictures can be made.
use Rattle.std.proofs.Common.{List, arith}
use Rattle.std.specs.List.{All, AllByRecursion}
use Rattle.std.proofs.lemmas.List.Elements.{All-from_recursion, All-weaker}
use Rattle.dirac_common.specs.declared.formats.Component.{Component}
use Rattle.dirac_common.specs.declared.formats.Component.TheVariants as component
use Rattle.dirac_common.specs.declared.picture.Picture.{Picture}
use Rattle.dirac_types.specs.declared.settings.Settings.{Settings}
use Rattle.dirac_types.specs.Settings.{IsAccepted}
use Rattle.dirac_sequence.specs.Written.{sequence_of}
use Rattle.dirac_refs.specs.Halves.{CanBeDoubled, IsDoublable}
use Rattle.dirac_content.specs.Content.{plane_of}
use Rattle.dirac_encode_laws.specs.Coded.{IsSource}
use Rattle.dirac_encode_laws.proofs.Lefts.{part_size, samples_are}
use Rattle.dirac_encode_laws.proofs.Reading.{predicting, source_plane}

plane_doubled : (t : Settings) (p : Picture) (o : Component) → IsAccepted t → IsSource t p → IsDoublable (plane_of p o)
plane_doubled t p o accepted source =
    let is = source_plane t p o source in
    let size = part_size (sequence_of t) o (predicting t accepted).lawful in
    record { across = omega (arith, is.across, size.across.1); down = omega (arith, is.down, size.down.1); samples = samples_are (plane_of p o).values is.samples }

source_doubled : (t : Settings) (p : Picture) → IsAccepted t → IsSource t p → CanBeDoubled p
source_doubled t p accepted source = record {
  y = plane_doubled t p component.Y accepted source;
  u = plane_doubled t p component.U accepted source;
  v = plane_doubled t p component.V accepted source;
}

pub references_doubled : (t : Settings) (refs : List Picture) → IsAccepted t → AllByRecursion (IsSource t) refs → All CanBeDoubled refs
references_doubled t refs accepted all =
    All-weaker (IsSource t) CanBeDoubled (λ p source. source_doubled t p accepted source) refs (All-from_recursion (IsSource t) refs all)
