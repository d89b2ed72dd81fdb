-- Generated pictures in parts, and how long they are.
use Rattle.std.proofs.Common.{◌≡◌, ℕ, zero, suc, ◌+◌, ◌*◌, ◌/◌, ◌%◌, ◌≤◌, List, ◌++◌, length, length-append, ap₂, ◌∙◌, arith}
use Rattle.std.proofs.lemmas.List.FromFn.{length-map-range_with_len}
use Rattle.dirac_types.specs.declared.settings.Settings.{Settings}
use Rattle.dirac_types.specs.Settings.{IsAccepted, step_across, step_down}
use Rattle.dirac_types.specs.Sizes.{picture_height}
use Rattle.dirac_generator.specs.Generated.{generated_byte, generated_rows, generated, generated_from, chroma_across, luma_count, chroma_count, picture_count}
use Rattle.dirac_generator.proofs.Sizes.{sizes_fit, times_some, times_le, count_bounded}

pub picture_of_parts : (t : Settings) (number width chroma_width l u v : ℕ) (a b d : List ℕ) → a ≡ generated_rows number 0 width l → b ≡ generated_rows number 1 chroma_width u → d ≡ generated_rows number 2 chroma_width v
    → width ≡ t.width → chroma_width ≡ chroma_across t → l ≡ luma_count t → u ≡ chroma_count t → v ≡ chroma_count t → a ++ (b ++ d) ≡ generated t number
unfolding generated
picture_of_parts t number width chroma_width l u v a b d luma first second across chroma_is ln un vn =
    ap₂ (λ (xs ys : List ℕ). xs ++ ys) (luma ∙ ap₂ (λ (w k : ℕ). generated_rows number 0 w k) across ln)
    (ap₂ (λ (xs ys : List ℕ). xs ++ ys) (first ∙ ap₂ (λ (w k : ℕ). generated_rows number 1 w k) chroma_is un)
    (second ∙ ap₂ (λ (w k : ℕ). generated_rows number 2 w k) chroma_is vn))

rows_length : (number plane width count : ℕ) → length (generated_rows number plane width count) ≡ count
rows_length number plane width count = length-map-range_with_len (λ place. generated_byte number plane (place % width) (place / width)) 0 count

pub picture_length_is : (t : Settings) (number : ℕ) → length (generated t number) ≡ picture_count t
unfolding generated
picture_length_is t number =
    let y = generated_rows number 0 t.width (luma_count t) in
    let u = generated_rows number 1 (chroma_across t) (chroma_count t) in
    let v = generated_rows number 2 (chroma_across t) (chroma_count t) in
    length-append y (u ++ v)
    ∙ ap₂ (λ (a b : ℕ). a + b) (rows_length number 0 t.width (luma_count t))
    (length-append u v ∙ ap₂ (λ (a b : ℕ). a + b) (rows_length number 1 (chroma_across t) (chroma_count t)) (rows_length number 2 (chroma_across t) (chroma_count t)))

none_times : (size : ℕ) → 0 ≡ 0 * size
none_times size = omega arith

more_times : (count size : ℕ) → size + count * size ≡ suc count * size
more_times count size = omega arith

pub pictures_length : (t : Settings) (count number : ℕ) → length (generated_from t count number) ≡ count * picture_count t
pictures_length t zero number = none_times (picture_count t)
pictures_length t (suc count) number =
    length-append (generated t number) (generated_from t count (number + 1)) ∙ ap₂ (λ (a b : ℕ). a + b) (picture_length_is t number) (pictures_length t count (number + 1))
    ∙ more_times count (picture_count t)

luma_some : (luma chroma : ℕ) → 1 ≤ luma → 1 ≤ luma + (chroma + chroma)
luma_some luma chroma some = omega arith

pub count_fits : (t : Settings) → IsAccepted t → (1 ≤ picture_count t) × (picture_count t ≤ 28311552)
count_fits t is =
    let f = sizes_fit t is in
    let some = times_some t.width (picture_height t) f.across.0 f.down.0 in
    (luma_some (luma_count t) (chroma_count t) some, count_bounded t.width (picture_height t) (step_across t.chroma) (step_down t.chroma) f.across.1 f.down.1)

pub times_bounded : (count size most : ℕ) → count ≤ 1000 → size ≤ most → count * size ≤ 1000 * most
times_bounded count size most few fits = times_le count size 1000 most few fits
