-- What the transform parameters and the header that are read have.
use Rattle.std.proofs.Common.{◌≡◌, ℕ, zero, suc, ◌+◌, ◌≤◌, ◌<◌, Bool, true, false, List, [], ◌∷◌, ◌++◌, length, get_or, replicate, lit≤, arith, sym, subst, refl, ◌∙◌, inl, inr, Option, Some, Ok, if◌then◌else◌}
use Rattle.std.specs.Prelude.{slice_get, is_some, nat_le}
use Rattle.std.proofs.lemmas.Option.{slice_get_within, get_or_from_slice_get, slice_get-get_or}
use Rattle.std.proofs.lemmas.List.{get_or-replicate, length-replicate}
use Rattle.dirac_common.specs.declared.faults.Cause.TheVariants.{Wavelet, Depth, Codeblocks, CodeblockMode}
use Rattle.dirac_bits.specs.Cursor.{Cursor}
use Rattle.dirac_bits.specs.Syntax.{read, done, number_field, between, ◌>>=◌}
use Rattle.dirac_bands.specs.Geometry.{band_length}
use Rattle.dirac_header.specs.declared.header.PictureHeader.{PictureHeader}
use Rattle.dirac_header.specs.declared.transform.Partition.{Partition}
use Rattle.dirac_parameters.specs.declared.transform.Transform.{Transform}
use Rattle.dirac_header.specs.Codes.{references_of, is_reference}
use Rattle.dirac_header.specs.Header.{header, reference, retirement}
use Rattle.dirac_header.specs.Transform.{transform, codeblocks, partition, undivided, counts_behind, level_counts}
use Rattle.dirac_picture.specs.Bands.{counts_at, counts_among}
use Rattle.dirac_picture.specs.Fits.{IsCount, IsLayout, IsTransform, NamesReferences}
use Rattle.dirac_picture.proofs.Every.{Every, every_read, every_then, every_any, every_field}
use Rattle.dirac_picture.proofs.Lengths.{band_some, band_few}
use Rattle.dirac_picture.proofs.Listed.{last_or_before}

-- the counts of one level
abbrev pub IsLevel : ℕ → ℕ → ℕ → ℕ → ℕ × ℕ → Type 0
IsLevel width height depth level counts = IsCount counts.0 (band_length width depth level) × IsCount counts.1 (band_length height depth level)

-- the counts of the levels from 0 on
abbrev pub AreLevels : ℕ → ℕ → ℕ → List (ℕ × ℕ) → Type 0
AreLevels width height depth counts = (level : ℕ) (pair : ℕ × ℕ) → slice_get counts level ≡ Some pair → IsLevel width height depth level pair

-- one level more
levels_more : (width height depth : ℕ) (before : List (ℕ × ℕ)) (counts : ℕ × ℕ) → AreLevels width height depth before
    → IsLevel width height depth (length before) counts → AreLevels width height depth (before ++ counts ∷ [])
levels_more width height depth before counts all one level pair is =
    elim (last_or_before before counts level pair is) [
      | inl there ↦ all level pair there
      | inr last ↦
          let here : IsLevel width height depth level counts = subst (λ k. IsLevel width height depth k counts) (sym last.0) one in
          subst (λ (p : ℕ × ℕ). IsLevel width height depth level p) last.1 here
    ]

every_level : (width height depth level : ℕ) → Every (IsLevel width height depth level) (level_counts width height depth level)
unfolding level_counts
every_level width height depth level =
    every_then (λ n. IsCount n (band_length width depth level)) (IsLevel width height depth level) (number_field Codeblocks (between 1 (band_length width depth level)))
    (λ across. number_field Codeblocks (between 1 (band_length height depth level)) >>= λ down. done (across, down))
    (every_field Codeblocks 1 (band_length width depth level))
    (λ across wide.
    every_then (λ n. IsCount n (band_length height depth level)) (IsLevel width height depth level) (number_field Codeblocks (between 1 (band_length height depth level)))
    (λ down. done (across, down)) (every_field Codeblocks 1 (band_length height depth level)) (λ down high. (wide, high)))

every_levels : (width height depth : ℕ) (before : List (ℕ × ℕ)) (more : ℕ) → AreLevels width height depth before
    → Every (AreLevels width height depth) (counts_behind width height depth before more)
unfolding counts_behind
every_levels width height depth before zero all = all
every_levels width height depth before (suc more) all =
    every_then (IsLevel width height depth (length before)) (AreLevels width height depth) (level_counts width height depth (length before))
    (λ counts. counts_behind width height depth (before ++ counts ∷ []) more) (every_level width height depth (length before))
    (λ counts one. every_levels width height depth (before ++ counts ∷ []) more (levels_more width height depth before counts all one))

no_levels : (width height depth : ℕ) → AreLevels width height depth []
no_levels width height depth level pair is = absurd (omega (arith, slice_get_within {A = ℕ × ℕ} [] level pair is))

-- those of a partition
abbrev pub HasLevels : ℕ → ℕ → ℕ → Partition → Type 0
HasLevels width height depth p = AreLevels width height depth p.counts

-- these counts, and this mode
abbrev parted : List (ℕ × ℕ) → ℕ → Partition
parted counts mode = record { counts = counts; mode = mode }

every_parted : (width height depth : ℕ) → Every (HasLevels width height depth) (partition width height depth)
unfolding partition
every_parted width height depth =
    every_then (AreLevels width height depth) (HasLevels width height depth) (counts_behind width height depth [] (depth + 1))
    (λ counts. number_field CodeblockMode (between 0 1) >>= λ mode. done (parted counts mode)) (every_levels width height depth [] (depth + 1) (no_levels width height depth))
    (λ counts all.
    every_then (λ n. (0 ≤ n) × (n ≤ 1)) (HasLevels width height depth) (number_field CodeblockMode (between 0 1)) (λ mode. done (parted counts mode)) (every_field CodeblockMode 0 1) (λ mode _. all))

below_one_more : (n m : ℕ) → n < m + 1 → n ≤ m
below_one_more n m h = omega arith

-- one codeblock a band
ones_levels : (width height depth : ℕ) → 1 ≤ width → 1 ≤ height → 1 ≤ depth → AreLevels width height depth (replicate (depth + 1) (1, 1))
ones_levels width height depth wide high deep level pair is =
    let within : level < length (replicate (depth + 1) (1, 1)) = slice_get_within (replicate (depth + 1) (1, 1)) level pair is in
    let few : level < depth + 1 = subst (λ n. level < n) (length-replicate {A = ℕ × ℕ} (depth + 1) (1, 1)) within in
    let low : level ≤ depth = below_one_more level depth few in
    let ones : (1, 1) ≡ pair = sym (get_or-replicate (depth + 1) level (1, 1) pair few) ∙ get_or_from_slice_get (replicate (depth + 1) (1, 1)) level pair pair is in
    let across : 1 ≤ band_length width depth level = band_some width depth level wide deep low in
    let down : 1 ≤ band_length height depth level = band_some height depth level high deep low in
    subst (λ (p : ℕ × ℕ). IsLevel width height depth level p) ones ((lit≤ tt, across), (lit≤ tt, down))

every_codeblocks : (width height depth : ℕ) → 1 ≤ width → 1 ≤ height → 1 ≤ depth → Every (HasLevels width height depth) (codeblocks width height depth)
unfolding codeblocks
every_codeblocks width height depth wide high deep = λ parted.
    elim parted as (λ b. Every (HasLevels width height depth) (if b then partition width height depth else done (undivided depth))) [
      | true ↦ every_parted width height depth
      | false ↦ ones_levels width height depth wide high deep
    ]

-- the transform parameters of these fields
abbrev parameters : ℕ → ℕ → Partition → Transform
parameters wavelet depth blocks = record { wavelet = wavelet; depth = depth; counts = blocks.counts; mode = blocks.mode }

every_transform : (width height : ℕ) → 1 ≤ width → 1 ≤ height → Every (λ t. AreLevels width height t.depth t.counts) (transform width height)
unfolding transform
every_transform width height wide high =
    let P : Transform → Type 0 = λ t. AreLevels width height t.depth t.counts in
    every_then (λ n. (0 ≤ n) × (n ≤ 6)) P (number_field Wavelet (between 0 6))
    (λ wavelet. number_field Depth (between 1 5) >>= λ depth. codeblocks width height depth >>= λ blocks. done (parameters wavelet depth blocks))
    (every_field Wavelet 0 6)
    (λ wavelet _.
    every_then (λ n. (1 ≤ n) × (n ≤ 5)) P (number_field Depth (between 1 5))
    (λ depth. codeblocks width height depth >>= λ blocks. done (parameters wavelet depth blocks))
    (every_field Depth 1 5)
    (λ depth some.
    every_then (HasLevels width height depth) P (codeblocks width height depth)
    (λ blocks. done (parameters wavelet depth blocks))
    (every_codeblocks width height depth wide high some.0) (λ blocks all. all)))

-- each level has its counts
level_at : (width height : ℕ) (t : Transform) → AreLevels width height t.depth t.counts → length t.counts ≡ t.depth + 1 → (level : ℕ) → level ≤ t.depth
    → IsLevel width height t.depth level (counts_at t.counts level)
level_at width height t all len level low =
    let there : slice_get t.counts level ≡ Some (get_or t.counts level (1, 1)) = slice_get-get_or t.counts level (1, 1) (omega arith) in
    subst (λ (o : Option (ℕ × ℕ)). IsLevel width height t.depth level (counts_among o)) (sym there) (all level (get_or t.counts level (1, 1)) there)

-- transform parameters that are read
pub transform_lawful : (width height : ℕ) (c d : Cursor) (t : Transform) → 1 ≤ width → 1 ≤ height → t.wavelet ≤ 6 → (1 ≤ t.depth) × (t.depth ≤ 5)
    → length t.counts ≡ t.depth + 1 → t.mode ≤ 1 → read (transform width height) c ≡ Ok (t, d) → IsTransform width height t
transform_lawful width height c d t wide high wavelet depth len mode is =
    let P : Transform → Type 0 = λ t. AreLevels width height t.depth t.counts in
    let all : AreLevels width height t.depth t.counts = every_read P (transform width height) c d t (every_transform width height wide high) is in
    record {
      wavelet = wavelet;
      depth = depth;
      levels = len;
      across = λ level low. (level_at width height t all len level low).0;
      down = λ level low. (level_at width height t all len level low).1;
      mode = mode;
    }

-- they lay bands out
pub layout_lawful : (width height : ℕ) (t : Transform) → width ≤ 4096 → height ≤ 4096 → IsTransform width height t → IsLayout t
layout_lawful width height t wide high lawful = record {
  depth = lawful.depth;
  levels = lawful.levels;
  across = λ level low. ((lawful.across level low).0, omega (arith, (lawful.across level low).1, band_few width t.depth level wide lawful.depth.1));
  down = λ level low. ((lawful.down level low).0, omega (arith, (lawful.down level low).1, band_few height t.depth level high lawful.depth.1));
  mode = lawful.mode;
}

every_reference : (there : Bool) (number : ℕ) → Every (λ r. is_some r ≡ there) (reference there number)
unfolding reference
every_reference true number = λ offset. refl
every_reference false number = refl

every_header : (code : ℕ) → Every (NamesReferences code) (header code)
unfolding header
every_header code = λ number.
    every_then (λ r. is_some r ≡ nat_le 1 (references_of code)) (NamesReferences code) (reference (nat_le 1 (references_of code)) number)
    (λ first. reference (nat_le 2 (references_of code)) number >>= λ second. retirement (is_reference code) number >>= λ retire. done (record { number = number; ref1 = first; ref2 = second; retire = retire }))
    (every_reference (nat_le 1 (references_of code)) number)
    (λ first one.
    every_then (λ r. is_some r ≡ nat_le 2 (references_of code)) (NamesReferences code) (reference (nat_le 2 (references_of code)) number)
    (λ second. retirement (is_reference code) number >>= λ retire. done (record { number = number; ref1 = first; ref2 = second; retire = retire }))
    (every_reference (nat_le 2 (references_of code)) number)
    (λ second two.
    every_then (λ _. Unit {0}) (NamesReferences code) (retirement (is_reference code) number)
    (λ retire. done (record { number = number; ref1 = first; ref2 = second; retire = retire }))
    (every_any (retirement (is_reference code) number)) (λ retire _. record { first = one; second = two })))

-- a header that is read
pub header_lawful : (code : ℕ) (c d : Cursor) (h : PictureHeader) → read (header code) c ≡ Ok (h, d) → NamesReferences code h
header_lawful code c d h is = every_read (NamesReferences code) (header code) c d h (every_header code) is
