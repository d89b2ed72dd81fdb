-- What the coding of a picture shares between all quantiser indices.
use Rattle.std.specs.Prelude.{◌≡◌, ℕ, List, Option, IfSome, option_map}
use Rattle.dirac_common.specs.declared.formats.Component.TheVariants as component
use Rattle.dirac_common.specs.declared.formats.Kind.{Kind}
use Rattle.dirac_common.specs.declared.picture.Picture.{Picture}
use Rattle.dirac_types.specs.declared.settings.Settings.{Settings}
use Rattle.dirac_sequence.specs.Written.{sequence_of}
use Rattle.dirac_block_table.specs.Tables.{BlockTable}
use Rattle.dirac_picture.specs.declared.coded.CodedMotion.{CodedMotion}
use Rattle.dirac_picture.specs.declared.coded.CodedPicture.{CodedPicture}
use Rattle.dirac_picture.specs.declared.coded.CodedResidual.{CodedResidual}
use Rattle.dirac_analysis.specs.Analysis.{quantised}
use Rattle.dirac_content.specs.Content.{named}
use Rattle.dirac_plan.specs.declared.planned.Planned.{Planned}
use Rattle.dirac_plan_laws.specs.Headers.{header_of}
use Rattle.dirac_encode_laws.specs.Coded.{kind_of, residual_plane, motion_among, motion_with, transform_of}
use Rattle.dirac_encode_laws.specs.Laws.{IsWholePicture}
use Rattle.dirac_motion.specs.Chosen.{at_index}
use Rattle.dirac_encode_picture.specs.declared.asked.Asked.{Asked}
use Rattle.dirac_reconstruct.specs.declared.showing.Compensated.{Compensated}
use Rattle.dirac_encode_picture.specs.declared.prepared.Prepared.{Prepared}
use Rattle.dirac_encode_planes.specs.declared.residual.AnalysedPlanes.{AnalysedPlanes}
use Rattle.dirac_encode_planes.specs.Analyses.{AreAnalysed}
use Rattle.dirac_encode_picture.specs.Asked.{HasBlocks, IsAsked, coded_by}
use Rattle.dirac_reconstruct.specs.Predicted.{ArePredictions}

-- the block table that a prepared picture is predicted by, if there is one
abbrev pub blocks_in : Prepared → Option BlockTable
blocks_in x = option_map (λ (c : Compensated). c.motion.blocks) x.compensated

-- an inter picture's motion is that of its block table, and its planes are predicted by it
pub record IsCompensated (t : Settings) (refs : List Picture) (q : Planned) (c : Compensated) : Type 0 where
  pub motion : c.motion ≡ motion_with t c.motion.blocks
  pub planes : ArePredictions (sequence_of t) (named refs q.ref1) (named refs q.ref2) c.motion c.predictions

-- what is left of the planes of a source with this motion, analysed
abbrev pub IsLeft : Settings → List Picture → Planned → Picture → Option CodedMotion → AnalysedPlanes → Type 0
IsLeft t refs q p m a =
    AreAnalysed (transform_of t) (kind_of m) (residual_plane t refs (header_of q) m p component.Y)
    (residual_plane t refs (header_of q) m p component.U) (residual_plane t refs (header_of q) m p component.V) a

-- a planned source is prepared to be coded with these settings, whatever their quantiser index
pub record IsPrepared (t : Settings) (refs : List Picture) (q : Planned) (p : Picture) (x : Prepared) : Type 0 where
  pub asked : IsAsked t refs q p
  pub as_many_samples : IsWholePicture p
  pub blocks : HasBlocks t q.code (blocks_in x)
  pub compensated : IfSome x.compensated (IsCompensated t refs q)
  pub left : IsLeft t refs q p (motion_among t (blocks_in x)) x.left

-- what is asked for is prepared to be coded, whatever the quantiser index
abbrev pub IsPreparedFor : Asked → Prepared → Type 0
IsPreparedFor a x = IsPrepared a.settings.now a.refs.now a.planned.now a.source.now x

-- the coded picture of what is asked for, predicted by this block table if there is one
abbrev pub coded_for : Asked → Option BlockTable → CodedPicture
coded_for a o = coded_by a.settings.now a.refs.now a.planned.now a.source.now o

-- the coded picture of what was prepared, at a quantiser index
abbrev pub coded_at_index : Asked → ℕ → Prepared → CodedPicture
coded_at_index a index x =
    coded_by (at_index a.settings.now index) a.refs.now a.planned.now a.source.now (blocks_in x)

-- the coded residual of analysed planes, at the index of these settings
abbrev pub quantised_planes : Settings → Kind → AnalysedPlanes → CodedResidual
quantised_planes t kind a = record {
  transform = transform_of t;
  y = quantised kind (transform_of t) t.finer t.index a.y;
  u = quantised kind (transform_of t) t.finer t.index a.u;
  v = quantised kind (transform_of t) t.finer t.index a.v;
}
