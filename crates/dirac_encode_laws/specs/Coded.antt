-- The coded picture that a planned picture becomes.
use Rattle.std.specs.Prelude.{ℕ, ℤ, zero, suc, ◌+◌, ◌-ℤ◌, ◌==◌, ◌&&◌, if◌then◌else◌, Bool, List, [], ◌∷◌, ◌++◌, min}
use Rattle.std.specs.Prelude.{Option, Some, None}
use Rattle.std.specs.Simd.Lanes.{zip2}
use Rattle.dirac_common.specs.declared.formats.Kind.{Kind}
use Rattle.dirac_common.specs.declared.formats.Kind.TheVariants.{Intra, Inter}
use Rattle.dirac_common.specs.declared.picture.Picture.{Picture}
use Rattle.dirac_types.specs.declared.settings.Settings.{Settings}
use Rattle.dirac_types.specs.Sizes.{picture_height}
use Rattle.dirac_common.specs.Table.{Table}
use Rattle.dirac_sequence.specs.Written.{sequence_of}
use Rattle.dirac_header.specs.declared.header.PictureHeader.{PictureHeader}
use Rattle.dirac_parameters.specs.declared.transform.Transform.{Transform}
use Rattle.dirac_header.specs.Transform.{band_length}
use Rattle.dirac_block_table.specs.Tables.{BlockTable}
use Rattle.dirac_coeffs.specs.declared.layout.CodedBand.{CodedBand}
use Rattle.dirac_common.specs.declared.formats.Component.{Component}
use Rattle.dirac_common.specs.declared.formats.Component.TheVariants as component
use Rattle.dirac_picture.specs.declared.coded.CodedMotion.{CodedMotion}
use Rattle.dirac_picture.specs.declared.coded.CodedPicture.{CodedPicture}
use Rattle.dirac_picture.specs.declared.coded.CodedResidual.{CodedResidual}
use Rattle.dirac_picture.specs.Grammar.{is_intra}
pub use Rattle.dirac_encode_laws.specs.Payloads.{motion_with}
use Rattle.dirac_analysis.specs.Analysis.{plane_bands}
use Rattle.dirac_content.specs.Content.{named, plane_of, predicted_among}
pub use Rattle.dirac_sources.specs.Sources.{IsSourcePlane, IsSource}
pub use Rattle.dirac_synthesis.specs.Zeros.{are_zero_bands}
use Rattle.dirac_plan.specs.declared.planned.Planned.{Planned}
pub use Rattle.dirac_plan_laws.specs.Headers.{header_of}
use Rattle.dirac_motion.specs.Chosen.{chosen}

-- the codeblocks of a level, across or down: one at level 0, above as many as asked for, but no more than the luma
-- bands have columns or rows
abbrev pub count_of : ℕ → ℕ → ℕ → ℕ → ℕ
count_of codeblocks size depth level = if level == 0 then 1 else min codeblocks (band_length size depth level)

-- the numbers of codeblocks across and down of each of the first levels
unfoldable pub counts_below : Settings → ℕ → List (ℕ × ℕ)
counts_below t zero = []
counts_below t (suc level) =
    counts_below t level
    ++ (count_of t.codeblocks t.width t.depth level, count_of t.codeblocks (picture_height t) t.depth level) ∷ []

-- the codeblock mode of these settings: 1 exactly where flat codeblocks are quantised finer
abbrev pub codeblock_mode_of : Settings → ℕ
codeblock_mode_of t = if t.finer == 0 then 0 else 1

-- the transform parameters of these settings
abbrev pub transform_of : Settings → Transform
transform_of t = record {
  wavelet = t.wavelet;
  depth = t.depth;
  counts = counts_below t (t.depth + 1);
  mode = codeblock_mode_of t;
}

-- the motion by a block table, if there is one
abbrev pub motion_among : Settings → Option BlockTable → Option CodedMotion
motion_among t None = None
motion_among t (Some b) = Some (motion_with t b)

-- the motion of a planned picture with these pictures listed: an intra picture has none, an inter picture that of the
-- blocks chosen for it
abbrev pub motion_of : Settings → List Picture → Planned → Picture → Option CodedMotion
motion_of t refs q p = if is_intra q.code then None else Some (motion_with t (chosen t refs q p))

-- just an inter picture has motion
abbrev pub kind_of : Option CodedMotion → Kind
kind_of None = Intra
kind_of (Some m) = Inter

-- the samples of a plane less what is predicted for them, by rows; nothing is clipped
abbrev pub plane_less_prediction : Table → List ℤ → Table
plane_less_prediction t predicted = record {
  width = t.width;
  height = t.height;
  values = zip2 (λ v other. v -ℤ other) t.values predicted;
}

-- the residual of a plane of a source: of an intra picture the plane itself, of an inter picture the plane less what is
-- predicted for it
abbrev pub residual_plane : Settings → List Picture → PictureHeader → Option CodedMotion → Picture → Component → Table
residual_plane t refs head None p component = plane_of p component
residual_plane t refs head (Some m) p component =
    plane_less_prediction (plane_of p component)
    (predicted_among (sequence_of t) m (named refs head.ref1) (named refs head.ref2) component)

-- the quantised bands of a plane of a residual, by these settings
abbrev pub quantised_bands_of : Settings → Kind → Table → List CodedBand
quantised_bands_of t kind plane = plane_bands kind (transform_of t) t.finer t.index plane

-- the coded residual of a source
abbrev pub residual_of : Settings → List Picture → PictureHeader → Option CodedMotion → Picture → CodedResidual
residual_of t refs head m p = record {
  transform = transform_of t;
  y = quantised_bands_of t (kind_of m) (residual_plane t refs head m p component.Y);
  u = quantised_bands_of t (kind_of m) (residual_plane t refs head m p component.U);
  v = quantised_bands_of t (kind_of m) (residual_plane t refs head m p component.V);
}

-- whether all bands of all planes of a residual have zeros alone
abbrev pub is_zero_residual : CodedResidual → Bool
is_zero_residual r = are_zero_bands r.y && are_zero_bands r.u && are_zero_bands r.v

-- whether an inter picture leaves out this residual: all its bands are zero, and the stream need not be shown alike by
-- decoders that add what they kept where a residual is left out
abbrev pub is_left_out : Settings → CodedResidual → Bool
is_left_out t r = t.alike == 0 && is_zero_residual r

-- the residual that is written: that of an intra picture always, that of an inter picture unless it is left out
abbrev pub residual_unless_left_out : Settings → Option CodedMotion → CodedResidual → Option CodedResidual
residual_unless_left_out t None r = Some r
residual_unless_left_out t (Some m) r = if is_left_out t r then None else Some r

-- the coded picture of a planned source with this motion
abbrev pub coded_with : Settings → List Picture → Planned → Picture → Option CodedMotion → CodedPicture
coded_with t refs q p m = record {
  code = q.code;
  header = header_of q;
  motion = m;
  residual = residual_unless_left_out t m (residual_of t refs (header_of q) m p);
}

-- the coded picture of a planned source, with these pictures listed
abbrev pub coded_of : Settings → List Picture → Planned → Picture → CodedPicture
coded_of t refs q p = coded_with t refs q p (motion_of t refs q p)
