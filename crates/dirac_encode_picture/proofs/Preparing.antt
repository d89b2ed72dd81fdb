-- A prepared picture: what is made of it at a quantiser index is what the definitions say.
use Rattle.std.proofs.Common.{◌≡◌, ℕ, ℤ, ◌≤◌, true, false, if◌then◌else◌, List, Option, None, Some, refl, sym, ap, ap₂}
use Rattle.std.proofs.Common.{◌∙◌, subst, arith}
use Rattle.std.specs.Prelude.{IfSome, option_map}
use Rattle.dirac_common.specs.declared.formats.Component.TheVariants as component
use Rattle.dirac_common.specs.declared.formats.Kind.{Kind}
use Rattle.dirac_common.specs.declared.formats.Kind.TheVariants.{Intra, Inter}
use Rattle.dirac_common.specs.declared.picture.Picture.{Picture}
use Rattle.dirac_types.specs.declared.settings.Settings.{Settings}
use Rattle.dirac_types.specs.Settings.{IsAccepted, table}
use Rattle.dirac_common.specs.Table.{Table}
use Rattle.dirac_sequence_header.specs.declared.sequence.Sequence.{Sequence}
use Rattle.dirac_sequence.specs.Written.{sequence_of}
use Rattle.dirac_header.specs.declared.header.PictureHeader.{PictureHeader}
use Rattle.dirac_parameters.specs.declared.transform.Transform.{Transform}
use Rattle.dirac_block_table.specs.Tables.{BlockTable}
use Rattle.dirac_coeffs.specs.declared.layout.CodedBand.{CodedBand}
use Rattle.dirac_picture.specs.declared.coded.CodedMotion.{CodedMotion}
use Rattle.dirac_picture.specs.declared.coded.CodedPicture.{CodedPicture}
use Rattle.dirac_picture.specs.declared.coded.CodedResidual.{CodedResidual}
use Rattle.dirac_picture.specs.Grammar.{is_intra}
use Rattle.dirac_content.specs.Content.{named}
use Rattle.dirac_plan.specs.declared.planned.Planned.{Planned}
use Rattle.dirac_plan_laws.specs.Headers.{header_of}
use Rattle.dirac_analysis.specs.Analysis.{Analysis, quantised}
use Rattle.dirac_analysis.proofs.Analysing.{plane_quantised}
use Rattle.dirac_encode_laws.specs.Coded.{quantised_bands_of, coded_with, is_left_out, kind_of, plane_less_prediction, motion_among}
use Rattle.dirac_encode_laws.specs.Coded.{motion_with, residual_of, transform_of}
use Rattle.dirac_encode_laws.specs.Laws.{IsWholePicture}
use Rattle.dirac_motion.specs.Chosen.{IsChosen, at_index}
use Rattle.dirac_reconstruct.specs.declared.showing.Compensated.{Compensated}
use Rattle.dirac_encode_picture.specs.declared.prepared.Prepared.{Prepared}
use Rattle.dirac_encode_planes.specs.declared.predictions.Predictions.{Predictions}
use Rattle.dirac_encode_planes.specs.declared.residual.AnalysedPlanes.{AnalysedPlanes}
use Rattle.dirac_encode_planes.specs.Analyses.{AreAnalysed, AreQuantisablePlanes, IsAnalysed}
use Rattle.dirac_encode_planes.proofs.OnePlane.{analysed_same}
use Rattle.dirac_encode_picture.specs.Asked.{HasBlocks, IsAsked, coded_by}
use Rattle.dirac_reconstruct.specs.Predicted.{ArePredictions}
use Rattle.dirac_encode_picture.specs.Prepared.{IsCompensated, IsLeft, IsPrepared, blocks_in, quantised_planes}
use Rattle.dirac_encode_picture.proofs.Predicting.{same_among}
use Rattle.dirac_encode_laws.proofs.Indices.{sources_with}

-- ---- what is prepared

pub intra_prepared : (t : Settings) (refs : List Picture) (q : Planned) (p : Picture) (a : AnalysedPlanes)
    → IsAsked t refs q p → IsWholePicture p → is_intra q.code ≡ true → AreAnalysed (transform_of t) Intra p.y p.u p.v a
    → let x : Prepared = record { compensated = None; left = a } in IsPrepared t refs q p x
intra_prepared t refs q p a asked whole intra is = record {
  asked = asked;
  as_many_samples = whole;
  blocks = intra;
  compensated = tt;
  left = is;
}

-- planes are analysed with the transform of the settings
pub analysed_with : (t : Settings) (x : Transform) (kind : Kind) (y u v : Table) (a : AnalysedPlanes)
    → x ≡ transform_of t → AreAnalysed x kind y u v a → AreAnalysed (transform_of t) kind y u v a
analysed_with t x kind y u v a e is = subst (λ (z : Transform). AreAnalysed z kind y u v a) e is

pub inter_prepared : (t : Settings) (s : Sequence) (refs : List Picture) (q : Planned) (p : Picture) (m : CodedMotion) (b : BlockTable) (ps : Predictions) (a : AnalysedPlanes) → IsAsked t refs q p → IsWholePicture p → s ≡ sequence_of t
    → is_intra q.code ≡ false → IsChosen t q.code b → m ≡ motion_with t b
    → ArePredictions s (named refs q.ref1) (named refs q.ref2) m ps
    → AreAnalysed (transform_of t) Inter (plane_less_prediction p.y ps.y.values) (plane_less_prediction p.u ps.u.values) (plane_less_prediction p.v ps.v.values) a
    → let c : Compensated = record { motion = m; predictions = ps } in
    let x : Prepared = record { compensated = Some c; left = a } in IsPrepared t refs q p x
inter_prepared t s refs q p m b ps a asked whole es inter chose em predicted is =
    let of : CodedMotion → Prepared = λ x. let c : Compensated = record { motion = x; predictions = ps } in record { compensated = Some c; left = a } in
    let less : Table → List ℤ → Table = λ plane values. plane_less_prediction plane values in
    let right : ArePredictions (sequence_of t) (named refs q.ref1) (named refs q.ref2) (motion_with t b) ps =
    subst (λ (x : Sequence). ArePredictions x (named refs q.ref1) (named refs q.ref2) (motion_with t b) ps) es (subst (λ (x : CodedMotion). ArePredictions s (named refs q.ref1) (named refs q.ref2) x ps) em predicted) in
    subst (λ (x : CodedMotion). IsPrepared t refs q p (of x)) (sym em)
    (record {
      asked = asked;
      as_many_samples = whole;
      blocks = (inter, chose);
      compensated = record { motion = refl; planes = right };
      left = record {
        y = analysed_same (transform_of t) Inter _ _ a.y (ap (less p.y) (same_among t s refs q m b component.Y ps.y.values es em predicted.y)) is.y;
        u = analysed_same (transform_of t) Inter _ _ a.u (ap (less p.u) (same_among t s refs q m b component.U ps.u.values es em predicted.u)) is.u;
        v = analysed_same (transform_of t) Inter _ _ a.v (ap (less p.v) (same_among t s refs q m b component.V ps.v.values es em predicted.v)) is.v;
      };
    })

-- ---- what is made of it

pub left_quantisable : (t : Settings) (refs : List Picture) (q : Planned) (p : Picture) (m : Option CodedMotion) (a : AnalysedPlanes) → IsLeft t refs q p m a → AreQuantisablePlanes t.depth a
left_quantisable t refs q p m a is = record { y = is.y.fits; u = is.u.fits; v = is.v.fits }

-- an analysed plane quantised has the bands of the definitions
bands_same : (t : Settings) (kind : Kind) (plane : Table) (a : Analysis) → IsAnalysed (transform_of t) kind plane a
    → quantised kind (transform_of t) t.finer t.index a ≡ quantised_bands_of t kind plane
bands_same t kind plane a is =
    ap (λ (x : Analysis). quantised kind (transform_of t) t.finer t.index x) is.same
    ∙ plane_quantised kind (transform_of t) t.finer t.index plane

residual_same : (t : Settings) (refs : List Picture) (q : Planned) (p : Picture) (m : Option CodedMotion) (a : AnalysedPlanes) → IsLeft t refs q p m a → quantised_planes t (kind_of m) a ≡ residual_of t refs (header_of q) m p
residual_same t refs q p m a is =
    made _ _ _ _ _ _ (bands_same t (kind_of m) _ a.y is.y) (bands_same t (kind_of m) _ a.u is.u) (bands_same t (kind_of m) _ a.v is.v)
  where
    of : List CodedBand → List CodedBand → List CodedBand → CodedResidual
    of ys us vs = record { transform = transform_of t; y = ys; u = us; v = vs }

    made : (ys us vs ys' us' vs' : List CodedBand) → ys ≡ ys' → us ≡ us' → vs ≡ vs' → of ys us vs ≡ of ys' us' vs'
    made ys us vs ys' us' vs' e f g = ap₂ (λ (a b : List CodedBand). of a b vs) e f ∙ ap (λ (c : List CodedBand). of ys' us' c) g

-- whether there is a block table
pub none_in : (x : Prepared) → x.compensated ≡ None → blocks_in x ≡ None
none_in x e = ap (λ (o : Option Compensated). option_map (λ (c : Compensated). c.motion.blocks) o) e

pub some_in : (x : Prepared) (c : Compensated) → x.compensated ≡ Some c → blocks_in x ≡ Some c.motion.blocks
some_in x c e = ap (λ (o : Option Compensated). option_map (λ (y : Compensated). y.motion.blocks) o) e

pub left_at : (t : Settings) (refs : List Picture) (q : Planned) (p : Picture) (x : Prepared) (o : Option BlockTable)
    → IsPrepared t refs q p x → blocks_in x ≡ o → IsLeft t refs q p (motion_among t o) x.left
left_at t refs q p x o is e = subst (λ (y : Option BlockTable). IsLeft t refs q p (motion_among t y) x.left) e is.left

pub blocks_at : (t : Settings) (refs : List Picture) (q : Planned) (p : Picture) (x : Prepared) (o : Option BlockTable)
    → IsPrepared t refs q p x → blocks_in x ≡ o → HasBlocks t q.code o
blocks_at t refs q p x o is e = subst (HasBlocks t q.code) e is.blocks

-- the coded picture of an intra picture
pub intra_same : (t : Settings) (refs : List Picture) (q : Planned) (p : Picture) (x : Prepared) (head : PictureHeader) (r : CodedResidual) → IsPrepared t refs q p x → x.compensated ≡ None → head ≡ header_of q
    → r ≡ quantised_planes t Intra x.left → let c : CodedPicture = record { code = q.code; header = head; motion = None; residual = Some r } in c ≡ coded_with t refs q p None
intra_same t refs q p x head r is none eh er =
    let of : PictureHeader → CodedResidual → CodedPicture = λ h y. record { code = q.code; header = h; motion = None; residual = Some y } in
    ap₂ (λ (h : PictureHeader) (y : CodedResidual). of h y) eh (er ∙ residual_same t refs q p None x.left (left_at t refs q p x None is (none_in x none)))

-- the coded picture of an inter picture
pub inter_same : (t : Settings) (refs : List Picture) (q : Planned) (p : Picture) (x : Prepared) (y : Compensated) (head : PictureHeader) (m : CodedMotion) (r : CodedResidual) (o : Option CodedResidual) → IsPrepared t refs q p x
    → x.compensated ≡ Some y → head ≡ header_of q → m ≡ motion_with t y.motion.blocks
    → r ≡ quantised_planes t Inter x.left → o ≡ (if is_left_out t r then None else Some r)
    → let c : CodedPicture = record { code = q.code; header = head; motion = Some m; residual = o } in c ≡ coded_by t refs q p (Some y.motion.blocks)
inter_same t refs q p x y head m r o is some eh em er eo =
    let of : PictureHeader → CodedMotion → Option CodedResidual → CodedPicture = λ h z w. record { code = q.code; header = h; motion = Some z; residual = w } in
    let unless : CodedResidual → Option CodedResidual = λ z. if is_left_out t z then None else Some z in
    let same = residual_same t refs q p (Some (motion_with t y.motion.blocks)) x.left (left_at t refs q p x (Some y.motion.blocks) is (some_in x y some)) in
    ap₂ (λ (h : PictureHeader) (z : CodedMotion). of h z o) eh em ∙ ap (of (header_of q) (motion_with t y.motion.blocks)) (eo ∙ ap unless (er ∙ same))

compensated_at : (t : Settings) (refs : List Picture) (q : Planned) (o : Option Compensated) (c : Compensated)
    → o ≡ Some c → IfSome o (IsCompensated t refs q) → IsCompensated t refs q c
compensated_at t refs q None c e is = absurd cc
compensated_at t refs q (Some x) c e is =
    let same : x ≡ c = cc in
    subst (IsCompensated t refs q) same is

-- its predictions, by the motion that is written
pub planes_predicted : (t : Settings) (s : Sequence) (refs : List Picture) (q : Planned) (p : Picture) (x : Prepared) (y : Compensated) (m : CodedMotion) → IsPrepared t refs q p x → x.compensated ≡ Some y → s ≡ sequence_of t
    → m ≡ motion_with t y.motion.blocks → ArePredictions s (named refs q.ref1) (named refs q.ref2) m y.predictions
planes_predicted t s refs q p x y m is some es em =
    let known = compensated_at t refs q x.compensated y some is.compensated in
    subst (λ (z : Sequence). ArePredictions z (named refs q.ref1) (named refs q.ref2) m y.predictions) (sym es)
    (subst (λ (z : CodedMotion). ArePredictions (sequence_of t) (named refs q.ref1) (named refs q.ref2) z y.predictions) (known.motion ∙ sym em) known.planes)

-- ---- at another index

pub accepted_at : (t : Settings) (index : ℕ) → IsAccepted t → index ≤ 99 → IsAccepted (at_index t index)
unfolding table
accepted_at t index is few =
    (is.0, (is.1.0, (is.1.1.0, (is.1.1.1.0, (is.1.1.1.1.0, (is.1.1.1.1.1.0, (is.1.1.1.1.1.1.0, (is.1.1.1.1.1.1.1.0, (is.1.1.1.1.1.1.1.1.0, (is.1.1.1.1.1.1.1.1.1.0, (is.1.1.1.1.1.1.1.1.1.1.0, ((omega arith, few, omega arith), is.1.1.1.1.1.1.1.1.1.1.1.1))))))))))))

blocks_again : (t : Settings) (index code : ℕ) (o : Option BlockTable) → HasBlocks t code o
    → HasBlocks (at_index t index) code o
unfolding sequence_of
blocks_again t index code None has = has
blocks_again t index code (Some b) has =
    (has.0, record { across = has.1.across; down = has.1.down; refs = has.1.refs; table = has.1.table; dcs = has.1.dcs })

compensated_again : (t : Settings) (index : ℕ) (refs : List Picture) (q : Planned) (o : Option Compensated)
    → IfSome o (IsCompensated t refs q) → IfSome o (IsCompensated (at_index t index) refs q)
unfolding sequence_of
compensated_again t index refs q None is = tt
compensated_again t index refs q (Some c) is = record { motion = is.motion; planes = is.planes }

left_again : (t : Settings) (index : ℕ) (refs : List Picture) (q : Planned) (p : Picture) (o : Option BlockTable) (a : AnalysedPlanes) → IsLeft t refs q p (motion_among t o) a → IsLeft (at_index t index) refs q p (motion_among (at_index t index) o) a
unfolding sequence_of
left_again t index refs q p None a is = record {
  y = record { same = is.y.same; fits = is.y.fits };
  u = record { same = is.u.same; fits = is.u.fits };
  v = record { same = is.v.same; fits = is.v.fits };
}
left_again t index refs q p (Some b) a is = record {
  y = record { same = is.y.same; fits = is.y.fits };
  u = record { same = is.u.same; fits = is.u.fits };
  v = record { same = is.v.same; fits = is.v.fits };
}

-- what is prepared serves each index
pub prepared_at : (t : Settings) (index : ℕ) (refs : List Picture) (q : Planned) (p : Picture) (x : Prepared)
    → IsPrepared t refs q p x → index ≤ 99 → IsPrepared (at_index t index) refs q p x
unfolding sequence_of
prepared_at t index refs q p x is few =
    let asked = is.asked in
    record {
      asked = record {
        accepted = accepted_at t index asked.accepted few;
        listed = sources_with t index refs asked.listed;
        source = record { y = asked.source.y; u = asked.source.u; v = asked.source.v };
        planned = asked.planned;
        found = asked.found;
      };
      as_many_samples = is.as_many_samples;
      blocks = blocks_again t index q.code (blocks_in x) is.blocks;
      compensated = compensated_again t index refs q x.compensated is.compensated;
      left = left_again t index refs q p (blocks_in x) x.left is.left;
    }
