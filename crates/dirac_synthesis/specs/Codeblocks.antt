-- Which codeblock of a band a value lies in, and the quantiser index that it is restored with.
use Rattle.std.specs.Prelude.{◌≡◌, ℕ, ◌+◌, ◌-◌, ◌*◌, ◌/◌, ◌<◌, ◌≤◌, length, map}
use Rattle.std.specs.List.{All}
use Rattle.dirac_common.specs.declared.limits.TheConstants.{MOST_CODEBLOCKS}
use Rattle.dirac_common.specs.Limits.{IsIndex}
use Rattle.dirac_common.specs.declared.formats.Kind.{Kind}
use Rattle.dirac_common.specs.Table.{Table, table_at, table_of}
use Rattle.dirac_quant.specs.Quantiser.{restored}
use Rattle.dirac_bands.specs.Geometry.{edge_of}
use Rattle.dirac_coeffs.specs.declared.layout.CodedBand.{CodedBand}
use Rattle.dirac_coeffs.specs.Indices.{index_at}

-- the codeblock that column or row x of a band of this size lies in, where there are that many: the last one that
-- begins at x or before
abbrev pub codeblock_of : ℕ → ℕ → ℕ → ℕ
codeblock_of size count x = (count * (x + 1) - 1) / size

-- codeblock c holds column or row x: x lies between its edges
pub record HoldsPlace (size count c x : ℕ) : Type 0 where
  pub among : c < count
  pub from : edge_of size count c ≤ x
  pub to : x < edge_of size count (c + 1)

-- the index of the codeblock that column x of row y of a band lies in, whose codeblocks, that many across and down, go
-- by rows
abbrev pub index_in : ℕ × ℕ → CodedBand → ℕ → ℕ → ℕ
index_in counts b x y =
    index_at b.indices
    (codeblock_of b.table.height counts.1 y * counts.0 + codeblock_of b.table.width counts.0 x)

-- the coefficients that a coded band stands for: each value is restored with the index of its codeblock
abbrev pub restored_band : Kind → ℕ × ℕ → CodedBand → Table
restored_band kind counts b =
    table_of b.table.width b.table.height (λ x y. restored (table_at b.table x y) (index_in counts b x y) kind)

-- a band has an index for each of that many codeblocks across and down
pub record HasIndices (counts : ℕ × ℕ) (b : CodedBand) : Type 0 where
  pub across : (1 ≤ counts.0) × (counts.0 ≤ MOST_CODEBLOCKS)
  pub down : (1 ≤ counts.1) × (counts.1 ≤ MOST_CODEBLOCKS)
  pub count : length b.indices ≡ counts.0 * counts.1
  pub each : All IsIndex b.indices

-- all its codeblocks have the band's index, as in codeblock mode 0
abbrev pub HasOneIndex : CodedBand → Type 0
HasOneIndex b = All (λ i. i ≡ b.index) b.indices

-- the coefficients that such a band stands for
abbrev pub restored_by_one : Kind → CodedBand → Table
restored_by_one kind b = record {
  width = b.table.width;
  height = b.table.height;
  values = map (λ v. restored v b.index kind) b.table.values;
}

-- each column or row lies in just one codeblock
abbrev pub EachPlaceHasACodeblock : Type 0
EachPlaceHasACodeblock =
    (size count x : ℕ) → 1 ≤ count → x < size
    → HoldsPlace size count (codeblock_of size count x) x
    × ((c : ℕ) → HoldsPlace size count c x → c ≡ codeblock_of size count x)

-- where all codeblocks have the band's index, it restores all values
abbrev pub OneIndexRestoresAll : Type 0
OneIndexRestoresAll =
    (kind : Kind) (counts : ℕ × ℕ) (b : CodedBand) → length b.table.values ≡ b.table.width * b.table.height
    → HasIndices counts b → HasOneIndex b → restored_band kind counts b ≡ restored_by_one kind b
