-- A picture refuses within its payload.
use Rattle.std.proofs.Common.{◌≡◌, ℕ, zero, suc, ◌+◌, ◌≤◌, ◌==◌, ℤ, Bool, List, [], ◌∷◌, ◌++◌, length, Result, Ok, Err, arith}
use Rattle.std.specs.Prelude.{nat_le}
use Rattle.dirac_common.specs.declared.faults.Cause.{Cause}
use Rattle.dirac_common.specs.declared.faults.Cause.TheVariants.{MissingReference}
use Rattle.dirac_common.specs.declared.faults.Refusal.{Refusal}
use Rattle.dirac_common.specs.declared.formats.Chroma.{Chroma}
use Rattle.dirac_common.specs.declared.picture.Picture.{Picture}
use Rattle.dirac_common.specs.declared.formats.Component.TheVariants as components
use Rattle.dirac_bits.specs.Syntax.{block_then, done}
use Rattle.dirac_arith.specs.Coded as coded
use Rattle.dirac_arith.specs.Deciding.{begin}
use Rattle.dirac_arith.specs.Reading.{Reading}
use Rattle.dirac_sequence_header.specs.declared.sequence.Sequence.{Sequence}
use Rattle.dirac_sequence_header.specs.Sizes.{chroma_height, chroma_width, picture_height}
use Rattle.dirac_header.specs.declared.header.PictureHeader.{PictureHeader}
use Rattle.dirac_parameters.specs.declared.transform.Transform.{Transform}
use Rattle.dirac_header.specs.Codes.{is_reference, references_of}
use Rattle.dirac_header.specs.Header.{header, reference, retirement}
use Rattle.dirac_header.specs.Prediction.{block_grid, modes, own_grid, own_weights, prediction, second_weight, vector_precision, weight, prediction_with, weights}
use Rattle.dirac_header.specs.Transform.{codeblocks, counts_behind, level_counts, partition, transform}
use Rattle.dirac_coeffs.specs.declared.layout.BandLayout.{BandLayout}
use Rattle.dirac_coeffs.specs.declared.layout.CodedBand.{CodedBand}
use Rattle.dirac_coeffs.specs.BandRead.{Content, band_read}
use Rattle.dirac_coeffs.specs.Grammar.{band, band_from, coded_band, zero_band}
use Rattle.dirac_block_table.specs.declared.reference.Reference.{Reference}
use Rattle.dirac_blocks.specs.declared.parts.ListKind.TheVariants as parts
use Rattle.dirac_block_table.specs.declared.reference.Reference.TheVariants as references
use Rattle.dirac_blocks.specs.Grammar.{TableStep, blocks, dcs_listed, empty_table, list_over, lists_of, second_listed, splits_step, table_from, units_step, values_listed, vectors_listed}
use Rattle.dirac_block_table.specs.Tables.{BlockTable}
use Rattle.dirac_picture.specs.Bands.{band_count, layout_of, parent_values}
use Rattle.dirac_picture.specs.Grammar.{bands_behind, body, motion, picture, picture_read, planes, prediction_fields, residual_fields, residual_unless, superblocks_over, zero_residual}
use Rattle.dirac_reading_laws.proofs.Within.{RefusesWithin, a_block, a_field, a_flag, a_gap, a_literal, a_number, a_signed, behind, either, from_here, if_custom, no_more, refused_within, refuses}

-- ---- the header

in_reference : (n : ℕ) (there : Bool) (number : ℕ) → RefusesWithin n (reference there number)
unfolding reference
in_reference n there number = either n _ _ _ (behind n _ _ (a_signed n) (λ offset. no_more n _)) (no_more n _)

in_retirement : (n : ℕ) (there : Bool) (number : ℕ) → RefusesWithin n (retirement there number)
unfolding retirement
in_retirement n there number = either n _ _ _ (behind n _ _ (a_signed n) (λ offset. no_more n _)) (no_more n _)

in_header : (n : ℕ) (code : ℕ) → RefusesWithin n (header code)
unfolding header
in_header n code =
    behind n _ _ (a_gap n) (λ gap. behind n _ _ (a_literal n) (λ number. behind n _ _ (in_reference n (nat_le 1 (references_of code)) number) (λ first. behind n _ _ (in_reference n (nat_le 2 (references_of code)) number) (λ second.
    behind n _ _ (in_retirement n (is_reference code) number) (λ retire. no_more n (record { number = number; ref1 = first; ref2 = second; retire = retire }))))))

-- ---- the transform parameters

in_level_counts : (n width height depth level : ℕ) → RefusesWithin n (level_counts width height depth level)
unfolding level_counts
in_level_counts n width height depth level = behind n _ _ (a_field n _ _) (λ across. behind n _ _ (a_field n _ _) (λ down. no_more n _))

in_counts : (n width height depth : ℕ) (before : List (ℕ × ℕ)) (more : ℕ) → RefusesWithin n (counts_behind width height depth before more)
unfolding counts_behind
in_counts n width height depth before zero = no_more n _
in_counts n width height depth before (suc more) =
    behind n _ _ (in_level_counts n width height depth (length before)) (λ counts. in_counts n width height depth (before ++ counts ∷ []) more)

in_partition : (n width height depth : ℕ) → RefusesWithin n (partition width height depth)
unfolding partition
in_partition n width height depth = behind n _ _ (in_counts n width height depth [] (depth + 1)) (λ counts. behind n _ _ (a_field n _ _) (λ mode. no_more n _))

in_codeblocks : (n width height depth : ℕ) → RefusesWithin n (codeblocks width height depth)
unfolding codeblocks
in_codeblocks n width height depth = behind n _ _ (a_flag n) (λ parted. either n _ _ _ (in_partition n width height depth) (no_more n _))

in_transform : (n width height : ℕ) → RefusesWithin n (transform width height)
unfolding transform
in_transform n width height =
    behind n _ _ (a_field n _ _) (λ wavelet. behind n _ _ (a_field n _ _) (λ depth. behind n _ _ (in_codeblocks n width height depth) (λ blocks. no_more n _)))

-- ---- the prediction parameters

in_own_grid : (n : ℕ) (chroma : Chroma) → RefusesWithin n (own_grid chroma)
unfolding own_grid
in_own_grid n chroma =
    from_here n _ (λ at inside. behind n _ _ (a_number n) (λ xblen. behind n _ _ (a_number n) (λ yblen. behind n _ _ (a_number n) (λ xbsep. behind n _ _ (a_number n) (λ ybsep.
    either n _ _ _ (no_more n _) (refuses _ n _ _ inside))))))

in_block_grid : (n : ℕ) (chroma : Chroma) → RefusesWithin n (block_grid chroma)
unfolding block_grid
in_block_grid n chroma =
    from_here n _ (λ at inside. behind n _ _ (a_number n) (λ index. either n _ _ _ (in_own_grid n chroma) (either n _ _ _ (no_more n _) (refuses _ n _ _ inside))))

in_precision : (n : ℕ) → RefusesWithin n vector_precision
unfolding vector_precision
in_precision n = a_field n _ _

in_weight : (n : ℕ) → RefusesWithin n weight
unfolding weight
in_weight n = from_here n _ (λ at inside. behind n _ _ (a_signed n) (λ w. either n _ _ _ (no_more n _) (refuses _ n _ _ inside)))

in_second_weight : (n : ℕ) (two : Bool) → RefusesWithin n (second_weight two)
unfolding second_weight
in_second_weight n two = either n _ _ _ (in_weight n) (no_more n _)

in_own_weights : (n : ℕ) (two : Bool) → RefusesWithin n (own_weights two)
unfolding own_weights
in_own_weights n two = behind n _ _ (a_field n _ _) (λ bits. behind n _ _ (in_weight n) (λ first. behind n _ _ (in_second_weight n two) (λ second. no_more n _)))

in_weights : (n : ℕ) (two : Bool) → RefusesWithin n (weights two)
unfolding weights
in_weights n two = if_custom n _ _ (in_own_weights n two)

in_modes : (n : ℕ) → RefusesWithin n modes
unfolding modes
in_modes n = from_here n _ (λ at inside. behind n _ _ (a_flag n) (λ global. either n _ _ _ (refuses _ n _ _ inside) (behind n _ _ (a_field n _ _) (λ mode. no_more n _))))

in_prediction : (n code : ℕ) (chroma : Chroma) → RefusesWithin n (prediction code chroma)
unfolding prediction
in_prediction n code chroma =
    behind n _ _ (a_gap n) (λ gap. behind n _ _ (in_block_grid n chroma) (λ grid. behind n _ _ (in_precision n) (λ precision. behind n _ _ (in_modes n) (λ none.
    behind n _ _ (in_weights n (references_of code == 2)) (λ weights. no_more n (prediction_with grid precision weights))))))

-- ---- the block table

in_table : (n at : ℕ) → at ≤ n → (r : Result (BlockTable × Reading) Cause) → RefusesWithin n (table_from at r)
in_table n at inside (Ok x) = no_more n _
in_table n at inside (Err cause) = refuses _ n _ _ inside

in_list : (n : ℕ) (step : TableStep) (t : BlockTable) → RefusesWithin n (list_over step t)
unfolding list_over
in_list n step t =
    behind n _ _ (a_number n) (λ len. behind n _ _ (a_gap n) (λ gap.
    from_here n (λ at. block_then len (λ block. table_from at (coded.read_coded (step t) (begin block)))) (λ at inside.
    a_block n len (λ block. table_from at (coded.read_coded (step t) (begin block))) (λ block. in_table n at inside (coded.read_coded (step t) (begin block))))))

in_vectors : (n : ℕ) (k : Reference) (t : BlockTable) → RefusesWithin n (vectors_listed k t)
unfolding vectors_listed
in_vectors n k t = behind n _ _ (in_list n (units_step (parts.Across k)) t) (λ t. in_list n (units_step (parts.Down k)) t)

in_second : (n : ℕ) (t : BlockTable) → RefusesWithin n (second_listed t)
unfolding second_listed
in_second n t = either n _ _ _ (in_vectors n references.Second t) (no_more n _)

in_dcs : (n : ℕ) (t : BlockTable) → RefusesWithin n (dcs_listed t)
unfolding dcs_listed
in_dcs n t =
    behind n _ _ (in_list n (units_step (parts.Dc components.Y)) t) (λ t. behind n _ _ (in_list n (units_step (parts.Dc components.U)) t)
    (λ t. in_list n (units_step (parts.Dc components.V)) t))

in_values : (n : ℕ) (t : BlockTable) → RefusesWithin n (values_listed t)
unfolding values_listed
in_values n t = behind n _ _ (in_vectors n references.First t) (λ t. behind n _ _ (in_second n t) (λ t. in_dcs n t))

in_lists : (n : ℕ) (t : BlockTable) → RefusesWithin n (lists_of t)
unfolding lists_of
in_lists n t = behind n _ _ (in_list n splits_step t) (λ t. behind n _ _ (in_list n (units_step parts.Modes) t) (λ t. in_values n t))

in_blocks : (n across down refs : ℕ) → RefusesWithin n (blocks across down refs)
unfolding blocks
in_blocks n across down refs = behind n _ _ (a_gap n) (λ gap. in_lists n (empty_table across down refs))

-- ---- the subbands

in_band_from : (n : ℕ) (layout : BandLayout) (index at : ℕ) → at ≤ n → (r : Result Content Cause) → RefusesWithin n (band_from layout index at r)
in_band_from n layout index at inside (Ok c) = no_more n _
in_band_from n layout index at inside (Err cause) = refuses _ n _ _ inside

in_coded_band : (n : ℕ) (layout : BandLayout) (parent : List ℤ) (len : ℕ) → RefusesWithin n (coded_band layout parent len)
unfolding coded_band
in_coded_band n layout parent len =
    behind n _ _ (a_field n _ _) (λ index. behind n _ _ (a_gap n) (λ gap.
    from_here n (λ at. block_then len (λ block. band_from layout index at (band_read layout parent index block))) (λ at inside.
    a_block n len (λ block. band_from layout index at (band_read layout parent index block)) (λ block. in_band_from n layout index at inside (band_read layout parent index block)))))

in_band : (n : ℕ) (layout : BandLayout) (parent : List ℤ) → RefusesWithin n (band layout parent)
unfolding band
in_band n layout parent =
    behind n _ _ (a_gap n) (λ gap. behind n _ _ (a_number n) (λ len.
    either n (len == 0) (done (zero_band layout)) (coded_band layout parent len) (no_more n (zero_band layout)) (in_coded_band n layout parent len)))

in_bands : (n : ℕ) (t : Transform) (width height : ℕ) (before : List CodedBand) (more : ℕ) → RefusesWithin n (bands_behind t width height before more)
unfolding bands_behind
in_bands n t width height before zero = no_more n _
in_bands n t width height before (suc more) = behind n _ _ (in_band n (layout_of t width height (length before)) (parent_values before)) (λ b. in_bands n t width height (before ++ b ∷ []) more)

in_planes : (n : ℕ) (s : Sequence) (t : Transform) → RefusesWithin n (planes s t)
unfolding planes
in_planes n s t =
    behind n _ _ (in_bands n t s.width (picture_height s) [] (band_count t.depth)) (λ y.
    behind n _ _ (in_bands n t (chroma_width s) (chroma_height s) [] (band_count t.depth)) (λ u.
    behind n _ _ (in_bands n t (chroma_width s) (chroma_height s) [] (band_count t.depth)) (λ v. no_more n _)))

in_residual : (n : ℕ) (s : Sequence) → RefusesWithin n (residual_fields s)
unfolding residual_fields
in_residual n s = behind n _ _ (in_transform n s.width (picture_height s)) (λ t. in_planes n s t)

-- ---- the picture

in_prediction_fields : (n code : ℕ) (s : Sequence) → RefusesWithin n (prediction_fields code s)
unfolding prediction_fields
in_prediction_fields n code s = behind n _ _ (in_prediction n code s.chroma) (λ p. behind n _ _ (in_blocks n (superblocks_over s.width p.grid.xbsep) (superblocks_over (picture_height s) p.grid.ybsep) (references_of code)) (λ t. no_more n _))

in_motion : (n code : ℕ) (s : Sequence) → RefusesWithin n (motion code s)
unfolding motion
in_motion n code s = either n _ _ _ (no_more n _) (behind n _ _ (in_prediction_fields n code s) (λ m. no_more n _))

in_zero_residual : (n code : ℕ) → RefusesWithin n (zero_residual code)
unfolding zero_residual
in_zero_residual n code = either n _ _ _ (no_more n _) (a_flag n)

in_residual_unless : (n : ℕ) (none : Bool) (s : Sequence) → RefusesWithin n (residual_unless none s)
unfolding residual_unless
in_residual_unless n none s = either n _ _ _ (no_more n _) (behind n _ _ (in_residual n s) (λ r. no_more n _))

in_body : (n code : ℕ) (s : Sequence) (head : PictureHeader) → RefusesWithin n (body code s head)
unfolding body
in_body n code s head =
    behind n _ _ (in_motion n code s) (λ motion. behind n _ _ (a_gap n) (λ gap. behind n _ _ (in_zero_residual n code) (λ none. behind n _ _ (in_residual_unless n none s) (λ coded.
    no_more n (record { code = code; header = head; motion = motion; residual = coded })))))

in_fields : (n code : ℕ) (s : Sequence) (refs : List Picture) → RefusesWithin n (picture code s refs)
unfolding picture
in_fields n code s refs = behind n _ _ (in_header n code) (λ head. either n _ _ _ (in_body n code s head) (refuses _ n 0 MissingReference (omega arith)))

pub in_picture : (code : ℕ) (s : Sequence) (refs : List Picture) (payload : List ℕ) (r : Refusal) → picture_read code s refs payload ≡ Err r → r.at ≤ length payload
in_picture code s refs payload r e = refused_within (picture code s refs) payload r (in_fields (length payload) code s refs) e
