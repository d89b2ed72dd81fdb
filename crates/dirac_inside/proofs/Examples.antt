-- Vectors of small blocks, computed.
use Rattle.std.proofs.Common.{◌≡◌, ℕ, ℤ, pos, negsuc, true, false, Bool, [], ◌∷◌, List, map, refl}
use Rattle.dirac_common.specs.declared.formats.Vector.{Vector}
use Rattle.dirac_inside.specs.Inside.{holds, is_inside, keeps_inside}
use Rattle.dirac_inside.specs.declared.picture_blocks.PictureBlocks.{PictureBlocks}

-- blocks of 6 by 6 samples, 4 apart, begin one sample before their own part: the second holds 3 to 8 of a plane
held_by_second : map (holds 1 6 4) (2 ∷ 3 ∷ 8 ∷ 9 ∷ []) ≡ false ∷ true ∷ true ∷ false ∷ []
held_by_second = refl

-- of a row of 4 samples, whole samples 0 to 3
whole_samples : map (is_inside 0 4) (negsuc 0 ∷ pos 0 ∷ pos 3 ∷ pos 4 ∷ []) ≡ false ∷ true ∷ true ∷ false ∷ []
whole_samples = refl

-- its half samples, 0 to 6
half_samples : map (is_inside 1 4) (negsuc 0 ∷ pos 0 ∷ pos 6 ∷ pos 7 ∷ []) ≡ false ∷ true ∷ true ∷ false ∷ []
half_samples = refl

-- in quarters, 12 is the last sample, and 13 takes the half sample behind it too
quarters : map (is_inside 2 4) (negsuc 0 ∷ pos 11 ∷ pos 12 ∷ pos 13 ∷ []) ≡ false ∷ true ∷ true ∷ false ∷ []
quarters = refl

abbrev to : ℤ → ℤ → Vector
to x y = record { x = x; y = y }

-- a picture of 8 by 4 luma samples, and blocks of 4 by 4 without overlap
abbrev small : PictureBlocks
small = record { grid = record { xblen = 4; yblen = 4; xbsep = 4; ybsep = 4 }; width = 8; height = 4; across_ratio = 1; down_ratio = 1 }

-- the first block may go 4 samples to the right, and no further; its rows fill the picture
first_block : map (keeps_inside small 0 0 0) (to (pos 4) (pos 0) ∷ to (pos 5) (pos 0) ∷ to (negsuc 0) (pos 0) ∷ to (pos 0) (pos 1) ∷ []) ≡ true ∷ false ∷ false ∷ false ∷ []
unfolding keeps_inside
first_block = refl

-- a block beside the picture has no sample, and may go anywhere
beside : keeps_inside small 0 2 0 (to (pos 100) (negsuc 100)) ≡ true
unfolding keeps_inside
beside = refl

-- in half samples, and with chroma half as wide and high: from the second block 8 lead back to the first sample, and so
-- do 7 in chroma, which rounds down; 9 lead beyond it, and none to the right keeps inside
abbrev halved : PictureBlocks
halved = record small { across_ratio = 2; down_ratio = 2 }

second_block : map (keeps_inside halved 1 1 0) (to (negsuc 7) (pos 0) ∷ to (negsuc 6) (pos 0) ∷ to (negsuc 8) (pos 0) ∷ to (pos 1) (pos 0) ∷ []) ≡ true ∷ true ∷ false ∷ false ∷ []
unfolding keeps_inside
second_block = refl

-- overlapped blocks begin before their own part, and end behind it
abbrev overlapped : PictureBlocks
overlapped = record { grid = record { xblen = 8; yblen = 4; xbsep = 4; ybsep = 4 }; width = 12; height = 4; across_ratio = 2; down_ratio = 2 }

-- block 1 holds columns 2 to 9 of 12, and 1 to 4 of 6 in chroma: 2 to the right at most
overlapping : map (keeps_inside overlapped 0 1 0) (to (pos 2) (pos 0) ∷ to (pos 3) (pos 0) ∷ to (negsuc 1) (pos 0) ∷ to (negsuc 2) (pos 0) ∷ []) ≡ true ∷ false ∷ true ∷ false ∷ []
unfolding keeps_inside
overlapping = refl
