-- What is asked of the parts of a coded picture follows from what is asked of the whole.
use Rattle.std.proofs.Common.{◌≡◌, ℕ, List, Option, sym, subst, arith}
use Rattle.std.specs.Option.{ForSome}
use Rattle.dirac_common.specs.declared.picture.Picture.{Picture}
use Rattle.dirac_types.specs.declared.settings.Settings.{Settings}
use Rattle.dirac_types.specs.Settings.{IsAccepted}
use Rattle.dirac_sequence_header.specs.declared.sequence.Sequence.{Sequence}
use Rattle.dirac_sequence_header.specs.Lawful.{IsSequence}
use Rattle.dirac_sequence.specs.Written.{sequence_of}
use Rattle.dirac_header.specs.declared.header.PictureHeader.{PictureHeader}
use Rattle.dirac_block_table.specs.Tables.{BlockTable}
use Rattle.dirac_common.specs.declared.formats.Component.{Component}
use Rattle.dirac_common.specs.declared.formats.Component.TheVariants as component
use Rattle.dirac_picture.specs.declared.coded.CodedMotion.{CodedMotion}
use Rattle.dirac_picture.specs.Fits.{IsMotion}
use Rattle.dirac_content.specs.Content.{AreReferences, IsPicture, named, plane_of}
use Rattle.dirac_plan.specs.declared.planned.Planned.{Planned}
use Rattle.dirac_plan_laws.specs.Headers.{header_of}
use Rattle.dirac_encode_laws.specs.Coded.{IsSource, motion_with}
use Rattle.dirac_motion.specs.Chosen.{IsChosen}
use Rattle.dirac_encode_laws.proofs.Lefts.{motion_fits, named_is, part_size, picture_is, samples_are}
use Rattle.dirac_encode_laws.proofs.Reading.{predicting, source_plane}
use Rattle.dirac_encode_picture.specs.Asked.{IsAsked}
use Rattle.dirac_encode_planes.specs.Predictions.{IsCodablePlane, IsCodableSource}

pub ask_sequence : (t : Settings) (s : Sequence) → IsAccepted t → s ≡ sequence_of t → IsSequence s
ask_sequence t s accepted e = subst IsSequence (sym e) (predicting t accepted).lawful

pub ask_motion : (t : Settings) (code : ℕ) (s : Sequence) (b : BlockTable) (m : CodedMotion) → IsAccepted t
    → s ≡ sequence_of t → m ≡ motion_with t b → IsChosen t code b → IsMotion code s m
ask_motion t code s b m accepted es em is =
    subst (λ (x : CodedMotion). IsMotion code s x) (sym em)
    (subst (λ (x : Sequence). IsMotion code x (motion_with t b)) (sym es) (motion_fits t code b (predicting t accepted) is))

-- the listed pictures are references of the sequence
pub ask_refs : (t : Settings) (s : Sequence) (refs : List Picture) (q : Planned) (p : Picture) (head : PictureHeader)
    → IsAsked t refs q p → s ≡ sequence_of t → head ≡ header_of q → AreReferences s refs head
ask_refs t s refs q p head is es eh =
    let one : (o : Option ℕ) → ForSome (named refs o) (IsPicture (sequence_of t)) = λ o x e. picture_is t x (named_is (IsSource t) refs o is.listed x e) in
    subst (λ (h : PictureHeader). AreReferences s refs h) (sym eh)
    (subst (λ (x : Sequence). AreReferences x refs (header_of q)) (sym es) (record { listed = is.found; first = one q.ref1; second = one q.ref2 }))

-- the planes of a source can be coded
plane_codable : (t : Settings) (p : Picture) (o : Component) → IsAccepted t → IsSource t p
    → IsCodablePlane (plane_of p o)
plane_codable t p o accepted source =
    let is = source_plane t p o source in
    let size = part_size (sequence_of t) o (predicting t accepted).lawful in
    record { across = omega (arith, is.across, size.across.1); down = omega (arith, is.down, size.down.1); samples = samples_are (plane_of p o).values is.samples }

pub source_codable : (t : Settings) (p : Picture) → IsAccepted t → IsSource t p → IsCodableSource p
source_codable t p accepted source = record {
  y = plane_codable t p component.Y accepted source;
  u = plane_codable t p component.U accepted source;
  v = plane_codable t p component.V accepted source;
}
