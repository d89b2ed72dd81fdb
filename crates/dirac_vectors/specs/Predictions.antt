-- The predictions of block tables. A neighbour is None where it isn't there, or doesn't count.
use Rattle.std.specs.Prelude.{ℕ, ℤ, pos, ◌+◌, ◌/◌, Bool, false, Option, Some, None, option_map}
use Rattle.dirac_common.specs.declared.formats.Vector.{Vector}
use Rattle.dirac_common.specs.Samples.{mean_of_three}
use Rattle.dirac_vectors.specs.Neighbours.{IsShort, mean_of_two, median, majority}

-- a vector whose components have 16 bits
pub record IsShortVector (v : Vector) : Type 0 where
  pub x : IsShort v.x
  pub y : IsShort v.y

-- the split that left, above, and above and left predict
abbrev pub split_of : Option ℕ → Option ℕ → Option ℕ → ℕ
split_of None None corner = 0
split_of (Some left) None corner = left
split_of None (Some above) corner = above
split_of (Some left) (Some above) None = 0
split_of (Some left) (Some above) (Some corner) = (left + above + corner + 1) / 3

-- the bit of a prediction mode that left, above, and above and left predict
abbrev pub mode_of : Option Bool → Option Bool → Option Bool → Bool
mode_of None None corner = false
mode_of (Some left) None corner = left
mode_of None (Some above) corner = above
mode_of (Some left) (Some above) None = false
mode_of (Some left) (Some above) (Some corner) = majority left above corner

-- the value that the neighbours predict which count: 0, the one itself, the mean of two, or this word of three
abbrev pub of_neighbours : (ℤ → ℤ → ℤ → ℤ) → Option ℤ → Option ℤ → Option ℤ → ℤ
of_neighbours of_three None None None = pos 0
of_neighbours of_three (Some left) None None = left
of_neighbours of_three None (Some above) None = above
of_neighbours of_three None None (Some corner) = corner
of_neighbours of_three (Some left) (Some above) None = mean_of_two left above
of_neighbours of_three (Some left) None (Some corner) = mean_of_two left corner
of_neighbours of_three None (Some above) (Some corner) = mean_of_two above corner
of_neighbours of_three (Some left) (Some above) (Some corner) = of_three left above corner

-- a component of a vector, predicted by the median of three
abbrev pub component_of : Option ℤ → Option ℤ → Option ℤ → ℤ
component_of left above corner = of_neighbours median left above corner

-- a vector, each component for itself
abbrev pub vector_of : Option Vector → Option Vector → Option Vector → Vector
vector_of left above corner = record {
  x = component_of (option_map (λ v. v.x) left) (option_map (λ v. v.x) above) (option_map (λ v. v.x) corner);
  y = component_of (option_map (λ v. v.y) left) (option_map (λ v. v.y) above) (option_map (λ v. v.y) corner);
}

-- a DC value, predicted by the mean of three
abbrev pub dc_of : Option ℤ → Option ℤ → Option ℤ → ℤ
dc_of left above corner = of_neighbours mean_of_three left above corner
