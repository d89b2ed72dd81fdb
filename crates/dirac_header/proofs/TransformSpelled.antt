-- The bits of transform parameters spell them.
use Rattle.std.proofs.Common.{◌≡◌, ℕ, zero, suc, ◌+◌, ◌-◌, ◌/◌, ◌<◌, ◌≤◌, ◌^◌, ◌==◌, ◌||◌, if◌then◌else◌, Bool, true, false, List, [], ◌∷◌, ◌++◌, length, drop, Some, refl, sym, ap, ap₂, subst, ◌∙◌, arith, inl, inr, append_assoc, append-nil, length-append}
use Rattle.std.specs.Prelude.{nat_lt, replicate, slice_get}
use Rattle.std.specs.List.{AllByRecursion}
use Rattle.std.proofs.lemmas.Bool.{cases_Bool, or_parts, ltb-false}
use Rattle.std.proofs.lemmas.List.{drop_more, drop_all}
use Rattle.std.proofs.lemmas.Option.{slice_get_within, get_or_from_slice_get}
use Rattle.dirac_common.specs.declared.faults.Cause.TheVariants.{Wavelet, Depth, Codeblocks, CodeblockMode}
use Rattle.dirac_common.specs.Numbers.{uint}
use Rattle.dirac_bits.specs.Fronts.{HoldsFront}
use Rattle.dirac_bits.specs.Spelling.{Spells}
use Rattle.dirac_bits.specs.Syntax.{Syntax, done, ◌>>=◌, number_field, between}
use Rattle.dirac_bands.specs.Geometry.{padded_size, band_length}
use Rattle.dirac_header.specs.declared.transform.Partition.{Partition}
use Rattle.dirac_parameters.specs.declared.transform.Transform.{Transform}
use Rattle.dirac_header.specs.Transform.{level_counts, counts_behind, partition, undivided, codeblocks, transform}
use Rattle.dirac_header.specs.Written.{counts_bits, is_above_one, is_divided, partition_flag, partition_bits, codeblock_bits, transform_bits, IsWritableTransform, FitFrom, TransformBehind}
use Rattle.dirac_header.proofs.Sizes.{band_small}
use Rattle.dirac_bits.proofs.Fronts.{further_stand}
use Rattle.dirac_bits.proofs.Fields.{spells_then, spells_last, field_spelled, between_is}

-- bands of a picture have no more columns or rows than a count can be
band_fits : (size depth level : ℕ) → size < 2 ^ 32 → 1 ≤ depth → depth ≤ 5 → band_length size depth level < 2 ^ 32
band_fits size depth level fits some few =
    let padded = padded_size size depth in
    let cases : Bool → ℕ = λ t. if t then padded / 2 ^ depth else padded / 2 ^ (depth - level + 1) in
    elim (cases_Bool (level == 0)) [
      | inl lowest ↦ subst (λ (t : Bool). cases t < 2 ^ 32) (sym lowest) (band_small depth size depth fits few some)
      | inr above ↦ subst (λ (t : Bool). cases t < 2 ^ 32) (sym above) (band_small depth size (depth - level + 1) fits few (omega arith))
    ]

-- a picture size and a depth
record IsSize (width height depth : ℕ) : Type 0 where
  pub columns : width < 2 ^ 32
  pub rows : height < 2 ^ 32
  pub some : 1 ≤ depth
  pub few : depth ≤ 5

level_spelled : (width height depth level across down k : ℕ) → IsSize width height depth → (1 ≤ across) × (1 ≤ down) → across ≤ band_length width depth level → down ≤ band_length height depth level
    → Spells (level_counts width height depth level) (across, down) k (uint across ++ uint down)
unfolding level_counts
level_spelled width height depth level across down k size some columns rows =
    let first = band_fits width depth level size.columns size.some size.few in
    let second = band_fits height depth level size.rows size.some size.few in
    let pair : ℕ → ℕ → Syntax (ℕ × ℕ) = λ a b. done (a, b) in
    let next : ℕ → Syntax (ℕ × ℕ) = λ a. number_field Codeblocks (between 1 (band_length height depth level)) >>= pair a in
    let k1 = k + length (uint across) in
    let rows_spelled = field_spelled Codeblocks (between 1 (band_length height depth level)) down k1 (omega arith) (between_is 1 (band_length height depth level) down some.1 rows) in
    let last : Spells (next across) (across, down) k1 (uint down) =
    spells_last (number_field Codeblocks (between 1 (band_length height depth level))) (pair across) down (across, down) k1 (uint down) rows_spelled (refl, refl) in
    spells_then (number_field Codeblocks (between 1 (band_length width depth level))) next across (across, down) k (uint across) (uint down)
    (field_spelled Codeblocks (between 1 (band_length width depth level)) across k (omega arith) (between_is 1 (band_length width depth level) across some.0 columns)) last

counts_spelled : (width height depth : ℕ) (before counts : List (ℕ × ℕ)) (k : ℕ) → IsSize width height depth → AllByRecursion (λ c. (1 ≤ c.0) × (1 ≤ c.1)) counts
    → FitFrom width height depth (length before) counts → Spells (counts_behind width height depth before (length counts)) (before ++ counts) k (counts_bits counts)
unfolding counts_behind
counts_spelled width height depth before [] k size some fit = (sym (append-nil before), refl)
counts_spelled width height depth before (c ∷ counts) k size some fit =
    let rest : ℕ × ℕ → Syntax (List (ℕ × ℕ)) = λ pair. counts_behind width height depth (before ++ pair ∷ []) (length counts) in
    let first = uint c.0 ++ uint c.1 in
    let k1 = k + length first in
    let place : length before + 1 ≡ length (before ++ c ∷ []) = omega (arith, length-append before (c ∷ [])) in
    let more = counts_spelled width height depth (before ++ c ∷ []) counts k1 size some.1 (subst (λ (level : ℕ). FitFrom width height depth level counts) place fit.2) in
    let same : (before ++ c ∷ []) ++ counts ≡ before ++ c ∷ counts = append_assoc before (c ∷ []) counts in
    spells_then (level_counts width height depth (length before)) rest c (before ++ c ∷ counts) k first (counts_bits counts)
    (level_spelled width height depth (length before) c.0 c.1 k size some.0 fit.0 fit.1)
    (subst (λ (xs : List (ℕ × ℕ)). Spells (rest c) xs k1 (counts_bits counts)) same more)

partition_spelled : (width height depth : ℕ) (counts : List (ℕ × ℕ)) (mode k : ℕ) → IsSize width height depth → length counts ≡ depth + 1 → AllByRecursion (λ c. (1 ≤ c.0) × (1 ≤ c.1)) counts
    → mode ≤ 1 → FitFrom width height depth 0 counts → Spells (partition width height depth) (record { counts = counts; mode = mode }) k (counts_bits counts ++ uint mode)
unfolding partition
partition_spelled width height depth counts mode k size levels some few fit =
    let blocks : Partition = record { counts = counts; mode = mode } in
    let make : List (ℕ × ℕ) → ℕ → Syntax Partition = λ all n. done (record { counts = all; mode = n }) in
    let behind : List (ℕ × ℕ) → Syntax Partition = λ all. number_field CodeblockMode (between 0 1) >>= make all in
    let k1 = k + length (counts_bits counts) in
    let all = counts_spelled width height depth [] counts k size some fit in
    let mode_field = field_spelled CodeblockMode (between 0 1) mode k1 (omega arith) (between_is 0 1 mode (omega arith) few) in
    let last : Spells (behind counts) blocks k1 (uint mode) = spells_last (number_field CodeblockMode (between 0 1)) (make counts) mode blocks k1 (uint mode) mode_field (refl, refl) in
    spells_then (counts_behind width height depth [] (depth + 1)) behind counts blocks k (counts_bits counts) (uint mode)
    (subst (λ (n : ℕ). Spells (counts_behind width height depth [] n) counts k (counts_bits counts)) levels all) last

-- where no count is above 1, all are 1
all_ones : (counts : List (ℕ × ℕ)) (n : ℕ) → length counts ≡ n → AllByRecursion (λ c. (1 ≤ c.0) × (1 ≤ c.1)) counts → is_divided counts ≡ false → counts ≡ replicate n (1, 1)
all_ones [] zero levels some one = refl
all_ones [] (suc n) levels some one = absurd (omega arith)
all_ones (c ∷ counts) zero levels some one = absurd (omega arith)
all_ones (c ∷ counts) (suc n) levels some one =
    let parts = or_parts (nat_lt 1 c.0 || nat_lt 1 c.1) (is_divided counts) one in
    let two = or_parts (nat_lt 1 c.0) (nat_lt 1 c.1) parts.0 in
    let across_few : c.0 ≤ 1 = ltb-false 1 c.0 two.0 in
    let down_few : c.1 ≤ 1 = ltb-false 1 c.1 two.1 in
    let both = some.0 in
    let across : c.0 ≡ 1 = omega (arith, both.0) in
    let down : c.1 ≡ 1 = omega (arith, both.1) in
    let pair : ℕ → ℕ → ℕ × ℕ = λ a b. (a, b) in
    let here : c ≡ (1, 1) = ap₂ pair across down in
    let others = all_ones counts n (omega arith) some.1 parts.1 in
    ap₂ (λ (x : ℕ × ℕ) (xs : List (ℕ × ℕ)). x ∷ xs) here others

-- without a flag all counts are 1 and the mode is 0
undivided_is : (counts : List (ℕ × ℕ)) (mode depth : ℕ) → length counts ≡ depth + 1 → AllByRecursion (λ c. (1 ≤ c.0) × (1 ≤ c.1)) counts → partition_flag counts mode ≡ false
    → undivided depth ≡ record { counts = counts; mode = mode }
undivided_is counts mode depth levels some one =
    let parts = or_parts (is_divided counts) (nat_lt 0 mode) one in
    let few : mode ≤ 0 = ltb-false 0 mode parts.1 in
    let none : 0 ≡ mode = omega (arith, few) in
    let make : List (ℕ × ℕ) → ℕ → Partition = λ all n. record { counts = all; mode = n } in
    ap₂ make (sym (all_ones counts (depth + 1) levels some parts.0)) none

codeblocks_spelled : (width height depth : ℕ) (counts : List (ℕ × ℕ)) (mode k : ℕ) → IsSize width height depth → length counts ≡ depth + 1 → AllByRecursion (λ c. (1 ≤ c.0) × (1 ≤ c.1)) counts
    → mode ≤ 1 → FitFrom width height depth 0 counts → Spells (codeblocks width height depth) (record { counts = counts; mode = mode }) k (codeblock_bits counts mode)
unfolding codeblocks
codeblocks_spelled width height depth counts mode k size levels some few fit =
    let blocks : Partition = record { counts = counts; mode = mode } in
    let bits : Bool → List Bool = λ t. (t ∷ []) ++ partition_bits t counts mode in
    elim (cases_Bool (partition_flag counts mode)) [
      | inl parted ↦
          subst (λ (t : Bool). Spells (codeblocks width height depth) blocks k (bits t)) (sym parted)
          (true, counts_bits counts ++ uint mode, refl, partition_spelled width height depth counts mode (k + 1) size levels some few fit)
      | inr one ↦
          subst (λ (t : Bool). Spells (codeblocks width height depth) blocks k (bits t)) (sym one) (false, [], refl, (undivided_is counts mode depth levels some one, refl))
    ]

fields_spelled : (width height : ℕ) (t : Transform) (k : ℕ) → IsWritableTransform t → width < 2 ^ 32 → height < 2 ^ 32 → FitFrom width height t.depth 0 t.counts → Spells (transform width height) t k (transform_bits t)
unfolding transform
fields_spelled width height t k is columns rows fit =
    let size : IsSize width height t.depth = record { columns = columns; rows = rows; some = is.at_least_1; few = is.at_most_5 } in
    let blocks : Partition = record { counts = t.counts; mode = t.mode } in
    let make : ℕ → ℕ → Partition → Syntax Transform = λ wavelet depth b. done (record { wavelet = wavelet; depth = depth; counts = b.counts; mode = b.mode }) in
    let second : ℕ → ℕ → Syntax Transform = λ wavelet depth. codeblocks width height depth >>= make wavelet depth in
    let first : ℕ → Syntax Transform = λ wavelet. number_field Depth (between 1 5) >>= second wavelet in
    let behind = codeblock_bits t.counts t.mode in
    let k1 = k + length (uint t.wavelet) in
    let k2 = k1 + length (uint t.depth) in
    let all = codeblocks_spelled width height t.depth t.counts t.mode k2 size is.levels is.counts is.mode fit in
    let last : Spells (second t.wavelet t.depth) t k2 behind =
    spells_last (codeblocks width height t.depth) (make t.wavelet t.depth) blocks t k2 behind all (refl, refl) in
    let depth = field_spelled Depth (between 1 5) t.depth k1 (omega (arith, is.at_most_5)) (between_is 1 5 t.depth is.at_least_1 is.at_most_5) in
    let two : Spells (first t.wavelet) t k1 (uint t.depth ++ behind) =
    spells_then (number_field Depth (between 1 5)) (second t.wavelet) t.depth t k1 (uint t.depth) behind depth last in
    let wavelet = field_spelled Wavelet (between 0 6) t.wavelet k (omega (arith, is.wavelet)) (between_is 0 6 t.wavelet (omega arith) is.wavelet) in
    let all_bits = spells_then (number_field Wavelet (between 0 6)) first t.wavelet t k (uint t.wavelet) (uint t.depth ++ behind) wavelet two in
    let parts : uint t.wavelet ++ (uint t.depth ++ behind) ≡ transform_bits t = sym (append_assoc (uint t.wavelet) (uint t.depth) behind) in
    subst (λ (l : List Bool). Spells (transform width height) t k l) parts all_bits

-- the bits behind others, spelled
pub transform_spelled : (before after : List Bool) (t : Transform) → IsWritableTransform t → after ≡ before ++ transform_bits t → TransformBehind t before after
transform_spelled before after t is e width height columns rows fit =
    record { bits = transform_bits t; is = e; spells = fields_spelled width height t (length before) is columns rows fit }

-- ---- the loops over levels

-- the levels from one on
level_next : (counts : List (ℕ × ℕ)) (level : ℕ) (c : ℕ × ℕ) → slice_get counts level ≡ Some c → drop level counts ≡ c ∷ drop (level + 1) counts
level_next counts level c e =
    drop_more counts level c (slice_get_within counts level c e) ∙ ap (λ x. x ∷ drop (level + 1) counts) (get_or_from_slice_get counts level c c e)

-- one more level written
pub level_written : (old mid new all : List Bool) (counts : List (ℕ × ℕ)) (level : ℕ) (c : ℕ × ℕ) → old ++ counts_bits (drop level counts) ≡ all
    → slice_get counts level ≡ Some c → mid ≡ old ++ uint c.0 → new ≡ mid ++ uint c.1 → new ++ counts_bits (drop (level + 1) counts) ≡ all
level_written old mid new all counts level c so_far is first second =
    let a = uint c.0 in
    let b = uint c.1 in
    let rest = counts_bits (drop (level + 1) counts) in
    let grown : new ≡ (old ++ a) ++ b = second ∙ ap (λ l. l ++ b) first in
    let parts : ((old ++ a) ++ b) ++ rest ≡ old ++ ((a ++ b) ++ rest) = simp append_assoc in
    ap (λ l. l ++ rest) grown ∙ parts ∙ ap (λ xs. old ++ counts_bits xs) (sym (level_next counts level c is)) ∙ so_far

-- the first number of a level written
pub level_begun : (old at mid all : List Bool) (counts : List (ℕ × ℕ)) (level : ℕ) (c : ℕ × ℕ) → at ++ counts_bits (drop level counts) ≡ all → HoldsFront old at all
    → slice_get counts level ≡ Some c → mid ≡ at ++ uint c.0 → HoldsFront old mid all
level_begun old at mid all counts level c so_far holds is first =
    let a = uint c.0 in
    let b = uint c.1 in
    let rest = counts_bits (drop (level + 1) counts) in
    let parts : at ++ ((a ++ b) ++ rest) ≡ (at ++ a) ++ (b ++ rest) = simp append_assoc in
    further_stand a (b ++ rest) holds first
    (sym so_far ∙ ap (λ xs. at ++ counts_bits xs) (level_next counts level c is) ∙ parts ∙ ap (λ l. l ++ (b ++ rest)) (sym first))

-- and the second
pub level_ended : (old at mid new all : List Bool) (counts : List (ℕ × ℕ)) (level : ℕ) (c : ℕ × ℕ) → at ++ counts_bits (drop level counts) ≡ all → HoldsFront old at all
    → slice_get counts level ≡ Some c → mid ≡ at ++ uint c.0 → new ≡ mid ++ uint c.1 → HoldsFront old new all
level_ended old at mid new all counts level c so_far holds is first second =
    further_stand (uint c.1) (counts_bits (drop (level + 1) counts)) (level_begun old at mid all counts level c so_far holds is first) second
    (sym (level_written at mid new all counts level c so_far is first second))

-- whether a count of this level or of a later one is above 1
divided_from : (counts : List (ℕ × ℕ)) (level : ℕ) (c : ℕ × ℕ) → slice_get counts level ≡ Some c → is_divided (drop level counts) ≡ (is_above_one c.0 c.1 || is_divided (drop (level + 1) counts))
divided_from counts level c is = ap is_divided (level_next counts level c is)

pub divided_later : (counts : List (ℕ × ℕ)) (level across down : ℕ) → slice_get counts level ≡ Some (across, down) → is_above_one across down ≡ false
    → is_divided (drop (level + 1) counts) ≡ is_divided (drop level counts)
divided_later counts level across down is not_here = sym (divided_from counts level (across, down) is ∙ ap (λ (t : Bool). t || is_divided (drop (level + 1) counts)) not_here)

pub divided_here : (counts : List (ℕ × ℕ)) (level across down : ℕ) → slice_get counts level ≡ Some (across, down) → is_above_one across down ≡ true
    → is_divided (drop level counts) ≡ true
divided_here counts level across down is here = divided_from counts level (across, down) is ∙ ap (λ (t : Bool). t || is_divided (drop (level + 1) counts)) here

pub none_divided : (counts : List (ℕ × ℕ)) (n : ℕ) → n ≡ length counts → is_divided (drop n counts) ≡ false
none_divided counts n is = ap is_divided (drop_all n counts (omega arith))

-- whether a count is above 1, level by level
pub ruleset divided_steps = (divided_later, divided_here, none_divided)
