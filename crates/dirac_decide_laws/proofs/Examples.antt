-- A unit of two by two blocks in the middle of a superblock tries the vectors of its four blocks, by rows.
use Rattle.std.proofs.Common.{◌≡◌, ℕ, pos, [], ◌∷◌, map, refl}
use Rattle.std.specs.List.{range_with_len}
use Rattle.dirac_common.specs.declared.formats.Vector.{Vector}
use Rattle.dirac_search.specs.Candidates.{vector}
use Rattle.dirac_decide.specs.Deciding.{View}
use Rattle.dirac_decide_laws.specs.Choices.{vectors_of}

-- the vector of block k, by rows of four
abbrev numbered : ℕ → Vector
numbered k = vector (pos k) (pos 0)

abbrev one_superblock : View
one_superblock = record {
  up = record { width = 1; height = 1; table = record { width = 1; height = 1; values = pos 0 ∷ [] } };
  field = record { across = 1; down = 1; vectors = map numbered (range_with_len 0 16) };
}

middle_unit : vectors_of one_superblock (record { i = 1; j = 1; size = 2 }) ≡ numbered 5 ∷ numbered 6 ∷ numbered 9 ∷ numbered 10 ∷ []
middle_unit = refl
