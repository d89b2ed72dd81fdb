-- Which contexts a coefficient is coded under, by the coefficients around it.
use Rattle.std.specs.Prelude.{ℕ, zero, suc, ℤ, pos, negsuc, ◌+◌, ◌-◌, ◌*◌, ◌/◌, ◌==◌, if◌then◌else◌, Bool, true, false}
use Rattle.std.specs.Prelude.{◌&&◌, List, slice_index_or}
use Rattle.dirac_arith.specs.declared.contexts.TheConstants.{COEFFICIENT_DIGITS, PARENT_VALUES, PARENT_ZEROS}
use Rattle.dirac_arith.specs.declared.contexts.TheConstants.{SIGN_OF_NEGATIVE, SIGN_OF_POSITIVE, SIGN_OF_ZERO}
use Rattle.dirac_arith.specs.declared.contexts.TheConstants.{ZERO_PARENT_VALUES, ZERO_PARENT_ZEROS}
use Rattle.dirac_common.specs.declared.formats.Band.{Band}
use Rattle.dirac_common.specs.declared.formats.Band.TheVariants as bands
use Rattle.dirac_arith.specs.Interval.{Decision}
use Rattle.dirac_arith.specs.Spelling.{signed_spelling}

-- the value in column x of row y of a band that is w wide
abbrev pub band_value : ℕ → List ℤ → ℕ → ℕ → ℤ
band_value w xs x y = slice_index_or xs (y * w + x) (pos 0)

-- the value to the left, inside the band
abbrev pub value_left_of : ℕ → List ℤ → ℕ → ℕ → ℤ
value_left_of w xs x y = if x == 0 then pos 0 else band_value w xs (x - 1) y

-- the value above, inside the band
abbrev pub value_above : ℕ → List ℤ → ℕ → ℕ → ℤ
value_above w xs x y = if y == 0 then pos 0 else band_value w xs x (y - 1)

-- the value above and to the left, inside the band
abbrev pub value_in_corner : ℕ → List ℤ → ℕ → ℕ → ℤ
value_in_corner w xs x y = if x == 0 then pos 0 else if y == 0 then pos 0 else band_value w xs (x - 1) (y - 1)

-- the value of the parent band, which is half as wide; a band without a parent has an empty one, whose values are 0
abbrev pub parent_of : ℕ → List ℤ → ℕ → ℕ → ℤ
parent_of w parent x y = slice_index_or parent (y / 2 * (w / 2) + x / 2) (pos 0)

-- whether a value is 0
abbrev pub is_zero : ℤ → Bool
is_zero (pos zero) = true
is_zero (pos (suc n)) = false
is_zero (negsuc n) = false

-- the follow contexts of a magnitude, by whether the parent is zero and whether all neighbours are
abbrev pub follow_of : Bool → Bool → List ℕ
follow_of true true = ZERO_PARENT_ZEROS
follow_of true false = ZERO_PARENT_VALUES
follow_of false true = PARENT_ZEROS
follow_of false false = PARENT_VALUES

-- the context of the bits of a magnitude
abbrev pub bits_context : ℕ
bits_context = COEFFICIENT_DIGITS

-- the context of a sign, by the sign neighbour: zero, positive, negative
abbrev pub sign_of : ℤ → ℕ
sign_of (pos zero) = SIGN_OF_ZERO
sign_of (pos (suc n)) = SIGN_OF_POSITIVE
sign_of (negsuc n) = SIGN_OF_NEGATIVE

-- the sign neighbour: above in an HL band, left in an LH band, else none
abbrev pub sign_neighbour : Band → ℤ → ℤ → ℤ
sign_neighbour bands.HL left above = above
sign_neighbour bands.LH left above = left
sign_neighbour bands.LL left above = pos 0
sign_neighbour bands.HH left above = pos 0

-- the follow contexts of a value among these neighbours
abbrev pub follow_among : ℤ → ℤ → ℤ → ℤ → List ℕ
follow_among left above corner parent = follow_of (is_zero parent) (is_zero left && (is_zero above && is_zero corner))

-- the decisions that spell a value among these neighbours
abbrev pub value_spelling : Band → ℤ → ℤ → ℤ → ℤ → ℤ → List Decision
value_spelling band left above corner parent value =
    signed_spelling (follow_among left above corner parent) bits_context (sign_of (sign_neighbour band left above))
    value
