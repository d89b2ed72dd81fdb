-- What a block reads to, as a value that its decisions spell: codeblocks by rows, in each its zero flag, in mode 1 its
-- offset, and its values by rows. Each step goes on from what the steps before gave.
use Rattle.std.specs.Prelude.{ℕ, zero, suc, ℤ, pos, ◌+◌, ◌*◌, ◌==◌, if◌then◌else◌, Bool, true, false, List, replicate}
use Rattle.std.specs.Prelude.{slice_set, Result, Ok, Err}
use Rattle.dirac_arith.specs.declared.contexts.TheConstants.{ZERO_FLAG}
use Rattle.dirac_common.specs.declared.faults.Cause.{Cause}
use Rattle.dirac_common.specs.declared.faults.Cause.TheVariants.{CodeWord}
use Rattle.dirac_common.specs.Chain.{◌>>=◌ as ◌>>◌}
use Rattle.dirac_arith.specs.Coded.{Coded, done, decide, signed, and_then, repeated, read_coded}
use Rattle.dirac_arith.specs.Deciding.{begin}
use Rattle.dirac_arith.specs.Front.{front}
use Rattle.dirac_bands.specs.Geometry.{edge_of}
use Rattle.dirac_coeffs.specs.declared.layout.BandLayout.{BandLayout}
use Rattle.dirac_coeffs.specs.Contexts.{bits_context}
use Rattle.dirac_coeffs.specs.Decisions.{Frame, frame_of, follow_here, sign_here}
use Rattle.dirac_coeffs.specs.Indices.{place_of, index_before, all_equal, index_coded, with_former}
use Rattle.dirac_coeffs.specs.Layouts.{codeblock_extent, is_flagged}

-- what is coded next: it leads from what was read so far to more, or is refused
abbrev pub BandStep : Type 0 → Type 0
BandStep A = A → Coded A

-- the value in column x of row y, put in its place: a signed number under the contexts that the values so far give it
unfoldable pub value_step : Frame → ℕ → ℕ → BandStep (List ℤ)
value_step f x y xs =
    signed (follow_here f xs x y) bits_context (sign_here f xs x y) (λ v. done (slice_set xs (y * f.width + x) v))

-- n values of row y, from column x on
abbrev pub row_step : Frame → ℕ → ℕ → ℕ → BandStep (List ℤ)
row_step f y x n xs = repeated (λ i. value_step f (x + i) y) n xs

-- n rows of `count` values each, from column x of row y on
abbrev pub rows_step : Frame → ℕ → ℕ → ℕ → ℕ → BandStep (List ℤ)
rows_step f x count y n xs = repeated (λ j. row_step f (y + j) x count) n xs

-- the values of codeblock cx of row cy
abbrev pub filled_step : BandLayout → List ℤ → ℕ → ℕ → BandStep (List ℤ)
filled_step layout parent cy cx xs =
    rows_step
    (frame_of layout parent)
    (edge_of layout.width layout.across cx)
    (codeblock_extent layout.width layout.across cx)
    (edge_of layout.height layout.down cy)
    (codeblock_extent layout.height layout.down cy)
    xs

-- the indices with that of the codeblock in place c, which mode 1 tells by an offset
unfoldable pub offset_step : ℕ → ℕ → ℕ → BandStep (List ℕ)
offset_step zero index c indices = done indices
offset_step (suc mode) index c indices =
    and_then (index_coded (index_before index indices c)) (λ i. done (slice_set indices c i))

-- what a block holds: the values of a band, and the index of each codeblock
pub record Content : Type 0 where
  pub values : List ℤ
  pub indices : List ℕ

-- these values and indices
abbrev pub band_content : List ℤ → List ℕ → Content
band_content xs indices = record { values = xs; indices = indices }

-- a codeblock that isn't skipped
abbrev pub unskipped_step : BandLayout → List ℤ → ℕ → ℕ → ℕ → BandStep Content
unskipped_step layout parent index cy cx c =
    and_then (offset_step layout.mode index (place_of layout cy cx) c.indices)
    (λ indices. and_then (filled_step layout parent cy cx c.values) (λ xs. done (band_content xs indices)))

-- one that is: the zeros that stand there stay
abbrev pub skipped_content : BandLayout → ℕ → ℕ → ℕ → Content → Content
skipped_content layout index cy cx c =
    band_content c.values (with_former layout.mode index (place_of layout cy cx) c.indices)

-- what a zero flag says of a codeblock
abbrev pub unless : Content → Coded Content → Bool → Coded Content
unless skipped unskipped true = done skipped
unless skipped unskipped false = unskipped

-- a codeblock behind its zero flag, where it has one
abbrev pub flagged_coded : Bool → Content → Coded Content → Coded Content
flagged_coded false skipped unskipped = unskipped
flagged_coded true skipped unskipped = decide ZERO_FLAG (unless skipped unskipped)

-- codeblock cx of row cy, in a band of this index
unfoldable pub block_step : BandLayout → List ℤ → ℕ → ℕ → ℕ → BandStep Content
block_step layout parent index cy cx c =
    flagged_coded
    (is_flagged layout)
    (skipped_content layout index cy cx c)
    (unskipped_step layout parent index cy cx c)

-- the first n codeblocks of row cy of codeblocks
abbrev pub blocks_step : BandLayout → List ℤ → ℕ → ℕ → ℕ → BandStep Content
blocks_step layout parent index cy n c = repeated (block_step layout parent index cy) n c

-- the first n rows of codeblocks
abbrev pub block_rows_step : BandLayout → List ℤ → ℕ → ℕ → BandStep Content
block_rows_step layout parent index n c = repeated (λ cy. blocks_step layout parent index cy layout.across) n c

-- before anything is read all values are zeros, and all codeblocks have the band's index
abbrev pub unread : BandLayout → ℕ → Content
unread layout index = band_content (replicate (layout.width * layout.height) (pos 0)) (all_equal layout index)

-- the whole band
abbrev pub band_coded : BandLayout → List ℤ → ℕ → Coded Content
band_coded layout parent index = block_rows_step layout parent index layout.down (unread layout index)

-- what the block of a band of this index reads to; one that begins with sixteen ones holds no decision
unfoldable pub band_read : BandLayout → List ℤ → ℕ → List ℕ → Result Content Cause
band_read layout parent index block =
    if front block 16 == 0xFFFF then Err CodeWord
    else read_coded (band_coded layout parent index) (begin block) >> λ c. Ok c.0
