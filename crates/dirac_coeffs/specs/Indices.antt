-- The quantiser indices of a subband's codeblocks, by rows. In codeblock mode 0 all are the band's; in mode 1 a
-- codeblock that isn't skipped, one without values too, has an offset, which is added to the index of the codeblock
-- before it.
use Rattle.std.specs.Prelude.{ℕ, zero, suc, ℤ, pos, ◌+◌, ◌-◌, ◌*◌, ◌+ℤ◌, ◌==◌, int_le, if◌then◌else◌, ◌&&◌, Bool, List}
use Rattle.std.specs.Prelude.{[], replicate, slice_index_or, slice_set, unsigned_abs}
use Rattle.dirac_common.specs.declared.limits.TheConstants.{LARGEST_INDEX}
use Rattle.dirac_common.specs.declared.faults.Cause.TheVariants.{QuantIndex}
use Rattle.dirac_arith.specs.Coded.{Coded, done, refuse, signed}
use Rattle.dirac_arith.specs.Interval.{Decision}
use Rattle.dirac_arith.specs.Spelling.{signed_spelling}
use Rattle.dirac_arith.specs.declared.contexts.TheConstants.{OFFSET_FOLLOW, OFFSET_DIGITS, OFFSET_SIGN}
use Rattle.dirac_coeffs.specs.declared.layout.BandLayout.{BandLayout}

-- the place of codeblock cx of row cy among all
abbrev pub place_of : BandLayout → ℕ → ℕ → ℕ
place_of layout cy cx = cy * layout.across + cx

-- the index of the codeblock in this place
abbrev pub index_at : List ℕ → ℕ → ℕ
index_at indices c = slice_index_or indices c 0

-- the index of the codeblock before that; before the first one the band's holds
abbrev pub index_before : ℕ → List ℕ → ℕ → ℕ
index_before index indices c = if c == 0 then index else index_at indices (c - 1)

-- all codeblocks have the band's index
abbrev pub all_equal : BandLayout → ℕ → List ℕ
all_equal layout index = replicate (layout.across * layout.down) index

-- whether a sum is the index of a quantiser
abbrev pub is_index : ℤ → Bool
is_index v = int_le (pos 0) v && int_le v (pos LARGEST_INDEX)

-- the decisions of an offset; in mode 0 there is none
abbrev pub offset_part : ℕ → ℤ → List Decision
offset_part zero offset = []
offset_part (suc mode) offset = signed_spelling OFFSET_FOLLOW OFFSET_DIGITS OFFSET_SIGN offset

-- the index that an offset leads to
abbrev pub index_from : ℕ → ℤ → Coded ℕ
index_from former offset =
    if is_index (pos former +ℤ offset) then done (unsigned_abs (pos former +ℤ offset)) else refuse QuantIndex

-- an index, told by an offset from a former one
abbrev pub index_coded : ℕ → Coded ℕ
index_coded former = signed OFFSET_FOLLOW OFFSET_DIGITS OFFSET_SIGN (index_from former)

-- the indices with that of a skipped codeblock: in mode 0 nothing is noted, in mode 1 the index before it
abbrev pub with_former : ℕ → ℕ → ℕ → List ℕ → List ℕ
with_former zero index c indices = indices
with_former (suc mode) index c indices = slice_set indices c (index_before index indices c)
