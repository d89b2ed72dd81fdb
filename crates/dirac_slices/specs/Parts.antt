-- The parts of a picture's planes that a worker writes.
use Rattle.std.specs.Prelude.{◌≡◌, ℕ, ℤ, ◌+◌, ◌-◌, ◌*◌, ◌/◌, ◌<◌, ◌≤◌, List, length}
use Rattle.dirac_common.specs.declared.formats.Component.{Component}
use Rattle.dirac_common.specs.declared.formats.Component.TheVariants as component
use Rattle.dirac_common.specs.declared.picture.Picture.{Picture}
use Rattle.dirac_common.specs.Table.{Table}
use Rattle.dirac_sequence_header.specs.declared.sequence.Sequence.{Sequence}
use Rattle.dirac_content.specs.Content.{height_of, width_of}
use Rattle.dirac_slices.specs.declared.filled.Parts.{Parts}
use Rattle.dirac_slices.specs.Places.{first_row}
use Rattle.dirac_slices.specs.Samples.{values_between, FitsPlane}

-- some of at most 64 parts
pub record AreSomeParts (p : Parts) : Type 0 where
  pub some : p.first < p.end
  pub inside : p.end ≤ p.all
  pub at_most_64 : p.all ≤ 64

-- the first half of more than one part
abbrev pub first_half_of : Parts → Parts
first_half_of p = record { first = p.first; end = p.first + (p.end - p.first) / 2; all = p.all }

-- the second half of more than one part
abbrev pub second_half_of : Parts → Parts
second_half_of p = record { first = p.first + (p.end - p.first) / 2; end = p.end; all = p.all }

-- the first row of a plane that stands in these parts
abbrev pub first_row_of_parts : Sequence → Parts → Component → ℕ
first_row_of_parts s p c = first_row (height_of s c) p.all p.first

-- the row of a plane just behind those that stand in these parts
abbrev pub end_row_of_parts : Sequence → Parts → Component → ℕ
end_row_of_parts s p c = first_row (height_of s c) p.all p.end

-- how many samples of a plane stand in these parts
unfoldable pub room_in : Sequence → Parts → Component → ℕ
room_in s p c = width_of s c * (end_row_of_parts s p c - first_row_of_parts s p c)

-- lists as long as these parts of the planes Y, U, V
pub record HaveRoom (s : Sequence) (p : Parts) (ys us vs : List ℤ) : Type 0 where
  pub y : length ys ≡ room_in s p component.Y
  pub u : length us ≡ room_in s p component.U
  pub v : length vs ≡ room_in s p component.V

-- a picture whose planes are as large as those of this sequence
pub record IsRoomForPicture (s : Sequence) (p : Picture) : Type 0 where
  pub y : FitsPlane s component.Y p.y
  pub u : FitsPlane s component.U p.u
  pub v : FitsPlane s component.V p.v

-- the values of a plane that stand in these parts, by rows
unfoldable pub part_values : Sequence → (Component → Table) → Parts → Component → List ℤ
part_values s planes p c = values_between s planes c (first_row_of_parts s p c) (end_row_of_parts s p c)

-- lists that hold these parts of the planes Y, U, V
pub record AreFilled (s : Sequence) (planes : Component → Table) (p : Parts) (ys us vs : List ℤ) : Type 0 where
  pub y : ys ≡ part_values s planes p component.Y
  pub u : us ≡ part_values s planes p component.U
  pub v : vs ≡ part_values s planes p component.V
