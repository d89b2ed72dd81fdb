-- Raw pictures of settings: how many bytes each has, and the pictures that bytes are.
use Rattle.std.specs.Prelude.{◌≡◌, ℕ, zero, suc, ℤ, pos, ◌+◌, ◌*◌, ◌/◌, ◌%◌, ◌-ℤ◌, List, [], ◌∷◌}
use Rattle.std.specs.Prelude.{length, map, min, take, drop}
use Rattle.dirac_common.specs.declared.picture.Picture.{Picture}
use Rattle.dirac_common.specs.Table.{Table}
use Rattle.dirac_types.specs.declared.settings.Settings.{Settings}
use Rattle.dirac_types.specs.Sizes.{picture_height}
use Rattle.dirac_sequence_header.specs.Sizes.{chroma_height, chroma_width}
use Rattle.dirac_sequence.specs.Written.{sequence_of}
use Rattle.dirac_synthesis.specs.Residual.{AreSamples}

-- the sample of a byte
abbrev pub sample_of : ℕ → ℤ
sample_of byte = pos byte -ℤ pos 128

-- the plane of these bytes
abbrev pub plane_from : ℕ → ℕ → List ℕ → Table
plane_from width height bytes = record { width = width; height = height; values = map sample_of bytes }

-- the bytes of a plane of luma, and of one of chroma
abbrev pub luma_bytes : Settings → ℕ
luma_bytes t = t.width * picture_height t

abbrev pub chroma_bytes : Settings → ℕ
chroma_bytes t = chroma_width (sequence_of t) * chroma_height (sequence_of t)

-- how many bytes a raw picture has with these settings
abbrev pub raw_length : Settings → ℕ
raw_length t = luma_bytes t + chroma_bytes t + chroma_bytes t

-- the picture of this number, its planes of these sizes, whose bytes these are
abbrev pub picture_in : ℕ → ℕ → ℕ → ℕ → ℕ → List ℕ → Picture
picture_in width height chroma_width chroma_height number bytes = record {
  number = number;
  y = plane_from width height (take (width * height) bytes);
  u = plane_from chroma_width chroma_height (take (chroma_width * chroma_height) (drop (width * height) bytes));
  v = plane_from chroma_width chroma_height (drop (width * height + chroma_width * chroma_height) bytes);
}

-- the picture of this number with these settings
abbrev pub picture_from : Settings → ℕ → List ℕ → Picture
picture_from t number bytes =
    picture_in t.width (picture_height t) (chroma_width (sequence_of t)) (chroma_height (sequence_of t)) number bytes

-- a plane of this size, its samples from -128 to 127
pub record IsSourcePlane (width height : ℕ) (t : Table) : Type 0 where
  pub across : t.width ≡ width
  pub down : t.height ≡ height
  pub samples : AreSamples t.values

-- a picture that can be coded with these settings
pub record IsSource (t : Settings) (p : Picture) : Type 0 where
  pub y : IsSourcePlane t.width (picture_height t) p.y
  pub u : IsSourcePlane (chroma_width (sequence_of t)) (chroma_height (sequence_of t)) p.u
  pub v : IsSourcePlane (chroma_width (sequence_of t)) (chroma_height (sequence_of t)) p.v

-- how many whole raw pictures these bytes are, and how many bytes are left over
abbrev pub whole_pictures : Settings → List ℕ → ℕ
whole_pictures t bytes = length bytes / raw_length t

abbrev pub left_over : Settings → List ℕ → ℕ
left_over t bytes = length bytes % raw_length t

-- that many raw pictures, one after another; their numbers rise from this one on
unfoldable pub pictures_in : Settings → ℕ → ℕ → List ℕ → List Picture
pictures_in t zero number bytes = []
pictures_in t (suc count) number bytes =
    picture_from t number (take (raw_length t) bytes) ∷ pictures_in t count (number + 1) (drop (raw_length t) bytes)

-- the pictures that are coded: the whole ones, but no more than the settings allow
abbrev pub sources : Settings → List ℕ → List Picture
sources t bytes = pictures_in t (min (whole_pictures t bytes) t.pictures) 0 bytes
