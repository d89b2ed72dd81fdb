-- Generated pictures, as raw bytes: moving slopes, the same at every run.
use Rattle.std.specs.Prelude.{if◌then◌else◌, ℕ, zero, suc, ◌+◌, ◌*◌, ◌/◌, ◌%◌, List, [], ◌++◌, map, take, drop}
use Rattle.std.specs.Prelude.{bytes_eq}
use Rattle.std.specs.List.{range_with_len}
use Rattle.dirac_types.specs.declared.settings.Settings.{Settings}
use Rattle.dirac_common.specs.declared.formats.Component.TheVariants as component
use Rattle.dirac_types.specs.Sizes.{picture_height, plane_height, plane_width}

-- the byte of picture `number` in plane 0, 1 or 2, at column x of row y
abbrev pub generated_byte : ℕ → ℕ → ℕ → ℕ → ℕ
generated_byte number plane x y = (3 * (x + 2 * number) + 5 * (y + number) + 40 * plane) % 256

-- that many bytes of a plane by rows of this width
abbrev pub generated_rows : ℕ → ℕ → ℕ → ℕ → List ℕ
generated_rows number plane width count =
    map (λ place. generated_byte number plane (place % width) (place / width)) (range_with_len 0 count)

-- the sizes of chroma with these settings
abbrev pub chroma_across : Settings → ℕ
chroma_across t = plane_width t component.U

abbrev pub chroma_down : Settings → ℕ
chroma_down t = plane_height t component.U

-- how many bytes a plane of luma has, and one of chroma
abbrev pub luma_count : Settings → ℕ
luma_count t = t.width * picture_height t

abbrev pub chroma_count : Settings → ℕ
chroma_count t = chroma_across t * chroma_down t

-- how many bytes a picture has
abbrev pub picture_count : Settings → ℕ
picture_count t = luma_count t + (chroma_count t + chroma_count t)

-- the picture of this number: the rows of Y, then of U, then of V
unfoldable pub generated : Settings → ℕ → List ℕ
generated t number =
    generated_rows number 0 t.width (luma_count t)
    ++ (generated_rows number 1 (chroma_across t) (chroma_count t)
    ++ generated_rows number 2 (chroma_across t) (chroma_count t))

-- that many pictures, one after another; their numbers rise from this one on
abbrev pub generated_from : Settings → ℕ → ℕ → List ℕ
generated_from t zero number = []
generated_from t (suc count) number = generated t number ++ generated_from t count (number + 1)

-- how many of that many raw pictures, one after another, are the generated ones whose numbers rise from this one on
abbrev pub exact_from : Settings → ℕ → ℕ → List ℕ → ℕ
exact_from t zero number bytes = 0
exact_from t (suc count) number bytes =
    (if bytes_eq (take (picture_count t) bytes) (generated t number) then 1 else 0)
    + exact_from t count (number + 1) (drop (picture_count t) bytes)
