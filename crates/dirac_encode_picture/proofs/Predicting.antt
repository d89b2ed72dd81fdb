-- What is predicted for a source is what its definitions say, and can be taken away from it.
use Rattle.std.proofs.Common.{◌≡◌, ℕ, ◌*◌, ℤ, List, IsSome, Option, None, Some, refl, sym, ap, ap₂, ◌∙◌, subst}
use Rattle.std.specs.List.{All}
use Rattle.std.specs.Option.{ForSome}
use Rattle.dirac_common.specs.declared.picture.Picture.{Picture}
use Rattle.dirac_types.specs.declared.settings.Settings.{Settings}
use Rattle.dirac_sequence_header.specs.declared.sequence.Sequence.{Sequence}
use Rattle.dirac_sequence.specs.Written.{sequence_of}
use Rattle.dirac_block_table.specs.Tables.{BlockTable}
use Rattle.dirac_upconvert.specs.HalfSamples.{IsSample}
use Rattle.dirac_common.specs.declared.formats.Component.{Component}
use Rattle.dirac_common.specs.declared.formats.Component.TheVariants as component
use Rattle.dirac_picture.specs.declared.coded.CodedMotion.{CodedMotion}
use Rattle.dirac_content.specs.Content.{height_of, named, plane_of, predicted_among, width_of}
use Rattle.dirac_plan.specs.declared.planned.Planned.{Planned}
use Rattle.dirac_encode_laws.specs.Coded.{IsSource, motion_with}
use Rattle.dirac_encode_laws.specs.Laws.{IsWholePicture}
use Rattle.dirac_motion.specs.Chosen.{IsChosen}
use Rattle.dirac_motion.specs.Lent.{AreNamed, first_of, second_of}
use Rattle.dirac_motion.specs.declared.lent.References.{References}
use Rattle.dirac_encode_laws.proofs.Lefts.{differences_small, named_is, predicted_are, samples_are}
use Rattle.dirac_encode_laws.proofs.Reading.{predicting, second_found, source_plane}
use Rattle.dirac_encode_planes.specs.declared.predictions.Predictions.{Predictions}
use Rattle.dirac_encode_picture.specs.Asked.{IsAsked}
use Rattle.dirac_encode_planes.specs.Predictions.{IsPicturePredictedBy, IsPredictedBy}
use Rattle.dirac_reconstruct.specs.Predicted.{ArePredictions, IsPredictionOfPlane}
use Rattle.dirac_encode_laws.proofs.Kept.{whole_plane}

-- what is predicted from the references of a plan
pub named_predictions : (s : Sequence) (refs : List Picture) (q : Planned) (m : CodedMotion) (ps : Predictions) (r : References) → AreNamed refs q r
    → ArePredictions s (Some (first_of r)) (second_of r) m ps
    → ArePredictions s (named refs q.ref1) (named refs q.ref2) m ps
named_predictions s refs q m ps r is predicted =
    subst (λ (o : Option Picture). ArePredictions s o (named refs q.ref2) m ps) (sym is.first)
    (subst (λ (o : Option Picture). ArePredictions s (Some (first_of r)) o m ps) (sym is.second) predicted)

some_of : (o : Option Picture) → (o ≡ None → ⊥) → IsSome o
some_of None there = absurd (there refl)
some_of (Some p) there = refl

-- as many references are lent as the blocks have
pub second_lent : (t : Settings) (refs : List Picture) (q : Planned) (p : Picture) (m : CodedMotion) (b : BlockTable) (r : References) → IsAsked t refs q p → m ≡ motion_with t b → IsChosen t q.code b
    → AreNamed refs q r → m.blocks.refs ≡ 2 → IsSome (second_of r)
second_lent t refs q p m b r is em chose lent two =
    subst IsSome lent.second
    (some_of (named refs q.ref2) (second_found refs q is.planned is.found (sym chose.refs ∙ ap (λ (x : CodedMotion). x.blocks.refs) (sym em) ∙ two)))

-- what is predicted, by the definitions
pub same_among : (t : Settings) (s : Sequence) (refs : List Picture) (q : Planned) (m : CodedMotion) (b : BlockTable) (o : Component) (values : List ℤ) → s ≡ sequence_of t → m ≡ motion_with t b
    → IsPredictionOfPlane s (named refs q.ref1) (named refs q.ref2) m o values
    → values ≡ predicted_among (sequence_of t) (motion_with t b) (named refs q.ref1) (named refs q.ref2) o
same_among t s refs q m b o values es em is =
    is.same ∙ ap₂ (λ (x : Sequence) (y : CodedMotion). predicted_among x y (named refs q.ref1) (named refs q.ref2) o) es em

-- it can be taken away from a plane of the source
plane_asked : (t : Settings) (s : Sequence) (refs : List Picture) (q : Planned) (p : Picture) (m : CodedMotion) (b : BlockTable) (o : Component) (values : List ℤ) → IsAsked t refs q p → IsWholePicture p → s ≡ sequence_of t
    → m ≡ motion_with t b → IsChosen t q.code b → IsPredictionOfPlane s (named refs q.ref1) (named refs q.ref2) m o values
    → IsPredictedBy (plane_of p o) values
plane_asked t s refs q p m b o values is whole es em chose predicted =
    let one : (x : Option ℕ) → ForSome (named refs x) (IsSource t) = λ x. named_is (IsSource t) refs x is.listed in
    let plane = source_plane t p o is.source in
    let samples = predicted_are t q.code b (named refs q.ref1) (named refs q.ref2) o (predicting t is.accepted) chose (one q.ref1) (one q.ref2) (second_found refs q is.planned is.found) in
    let small = subst (λ (l : List ℤ). All IsSample l) (sym (same_among t s refs q m b o values es em predicted)) samples in
    record {
      len = predicted.len ∙ ap (λ (x : Sequence). width_of x o * height_of x o) es ∙ ap₂ (λ (w h : ℕ). w * h) (sym plane.across) (sym plane.down) ∙ sym (whole_plane p o whole);
      samples = small;
      left = differences_small (plane_of p o) values (samples_are (plane_of p o).values plane.samples) small;
    }

pub picture_asked : (t : Settings) (s : Sequence) (refs : List Picture) (q : Planned) (p : Picture) (m : CodedMotion) (b : BlockTable) (ps : Predictions) → IsAsked t refs q p → IsWholePicture p → s ≡ sequence_of t
    → m ≡ motion_with t b → IsChosen t q.code b → ArePredictions s (named refs q.ref1) (named refs q.ref2) m ps
    → IsPicturePredictedBy p ps
picture_asked t s refs q p m b ps is whole es em chose predicted = record {
  y = plane_asked t s refs q p m b component.Y ps.y.values is whole es em chose predicted.y;
  u = plane_asked t s refs q p m b component.U ps.u.values is whole es em chose predicted.u;
  v = plane_asked t s refs q p m b component.V ps.v.values is whole es em chose predicted.v;
}
