-- How the codeblocks of a subband are quantised: a flat one, whose coefficients are all small, by a lower index than
-- the band's. So many codeblocks go across and down, and they are counted by rows.
use Rattle.std.specs.Prelude.{ℕ, ℤ, zero, suc, ◌+◌, ◌-◌, ◌*◌, ◌/◌, ◌%◌, nat_lt, unsigned_abs, if◌then◌else◌, Bool, ◌&&◌}
use Rattle.std.specs.Prelude.{List, map, replicate}
use Rattle.std.specs.List.{range_with_len}
use Rattle.dirac_common.specs.Table.{Table, table_at, table_of}
use Rattle.dirac_quant.specs.Quantiser.{reduced}
use Rattle.dirac_bands.specs.Geometry.{edge_of}
use Rattle.dirac_coeffs.specs.declared.layout.CodedBand.{CodedBand}
use Rattle.dirac_coeffs.specs.Contexts.{is_zero}
use Rattle.dirac_coeffs.specs.Layouts.{is_parted, codeblock_extent}
use Rattle.dirac_coeffs.specs.Written.{all_below, is_zero_band}
use Rattle.dirac_synthesis.specs.Codeblocks.{codeblock_of}
use Rattle.dirac_analysis.specs.declared.choosing.TheConstants.{FLAT_BELOW}

-- whether the values of codeblock cx of row cy all pass a test, as they do where it has none
abbrev pub each_passes : (ℤ → Bool) → ℕ × ℕ → Table → ℕ → ℕ → Bool
each_passes test counts t cy cx =
    all_below
    (λ i. all_below
    (λ j. test (table_at t (edge_of t.width counts.0 cx + i) (edge_of t.height counts.1 cy + j)))
    (codeblock_extent t.height counts.1 cy))
    (codeblock_extent t.width counts.0 cx)

-- whether a coefficient is small
abbrev pub is_small : ℤ → Bool
is_small v = nat_lt (unsigned_abs v) FLAT_BELOW

-- whether a codeblock is flat: its coefficients are all small
abbrev pub is_flat : ℕ × ℕ → Table → ℕ → ℕ → Bool
is_flat counts t cy cx = each_passes is_small counts t cy cx

-- the index that a codeblock is quantised with in a band of this index: a flat one's is lower, but no less than 0
abbrev pub chosen_index : ℕ × ℕ → ℕ → ℕ → Table → ℕ → ℕ → ℕ
chosen_index counts finer index t cy cx = if is_flat counts t cy cx then index - finer else index

-- that of the codeblock in place c
abbrev pub chosen_at : ℕ × ℕ → ℕ → ℕ → Table → ℕ → ℕ
chosen_at counts finer index t c = chosen_index counts finer index t (c / counts.0) (c % counts.0)

-- the number of the coefficient in column x of row y, which is quantised with its codeblock's index
abbrev pub reduced_at : ℕ × ℕ → ℕ → ℕ → Table → ℕ → ℕ → ℤ
reduced_at counts finer index t x y =
    reduced (table_at t x y)
    (chosen_index counts finer index t (codeblock_of t.height counts.1 y) (codeblock_of t.width counts.0 x))

-- the numbers of all coefficients
abbrev pub reduced_table : ℕ × ℕ → ℕ → ℕ → Table → Table
reduced_table counts finer index t = table_of t.width t.height (reduced_at counts finer index t)

-- whether the codeblock in place c is skipped: it has a zero flag, which is true where its numbers are zeros
abbrev pub is_skipped : ℕ × ℕ → Table → ℕ → Bool
is_skipped counts numbers c = is_parted counts && each_passes is_zero counts numbers (c / counts.0) (c % counts.0)

-- the index behind the first n codeblocks: that of the last one which isn't skipped, and the band's before there is one
unfoldable pub index_behind : ℕ × ℕ → ℕ → ℕ → Table → ℕ → ℕ
index_behind counts finer index t zero = index
index_behind counts finer index t (suc c) =
    if is_skipped counts (reduced_table counts finer index t) c then index_behind counts finer index t c
    else chosen_at counts finer index t c

-- the index of each codeblock as it is coded: a skipped one has that of the one before it, the first one the band's
abbrev pub coded_indices : ℕ × ℕ → ℕ → ℕ → Table → List ℕ
coded_indices counts finer index t =
    map (λ c. index_behind counts finer index t (suc c)) (range_with_len 0 (counts.0 * counts.1))

-- a band of these numbers, with its index and those of its codeblocks; in a band of zeros all indices are 0
abbrev pub coded_as : ℕ × ℕ → ℕ → List ℕ → Table → CodedBand
coded_as counts index indices numbers =
    if is_zero_band numbers.values
    then record { index = 0; indices = replicate (counts.0 * counts.1) 0; table = numbers }
    else record { index = index; indices = indices; table = numbers }

-- a table coded at this index, its flat codeblocks at one that is lower by `finer`, but no less than 0; where that is
-- 0, none is
abbrev pub coded : ℕ × ℕ → ℕ → ℕ → Table → CodedBand
coded counts finer index t =
    coded_as counts index (coded_indices counts finer index t) (reduced_table counts finer index t)

-- the values of a table as numbers of this index
abbrev pub reduced_values : ℕ → Table → List ℤ
reduced_values index t = map (λ v. reduced v index) t.values

-- the table of these numbers
abbrev pub reduced_band : ℕ → Table → Table
reduced_band index t = record { width = t.width; height = t.height; values = reduced_values index t }

-- the index of a table whose codeblocks are all coded at this one: a band of zeros has index 0
abbrev pub index_unless_zero : ℕ → Table → ℕ
index_unless_zero index t = if is_zero_band (reduced_values index t) then 0 else index

-- such a table coded, as in codeblock mode 0, and at index 0
abbrev pub coded_by_one : ℕ × ℕ → ℕ → Table → CodedBand
coded_by_one counts index t = record {
  index = index_unless_zero index t;
  indices = replicate (counts.0 * counts.1) (index_unless_zero index t);
  table = record { width = t.width; height = t.height; values = reduced_values index t };
}
