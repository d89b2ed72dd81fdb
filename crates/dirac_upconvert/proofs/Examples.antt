-- The definitions of half samples and of positions between, computed on small cases.
use Rattle.std.proofs.Common.{◌≡◌, ℤ, pos, negsuc, List, [], ◌∷◌, length, get_or, refl}
use Rattle.dirac_common.specs.Table.{Table, filled}
use Rattle.dirac_upconvert.specs.HalfSamples.{half_between, half}
use Rattle.dirac_upconvert.specs.SubSamples.{Up, part_sample, sub_sample}

-- a plane of one row
abbrev row : List ℤ → Table
row xs = record { width = length xs; height = 1; values = xs }

abbrev up_of : Table → Up
up_of t = record { width = t.width; height = t.height; table = half t }

between_two : (half (row (pos 0 ∷ pos 32 ∷ []))).values ≡ pos 0 ∷ pos 16 ∷ pos 32 ∷ []
unfolding half_between filled
between_two = refl

between_extremes : (half (row (negsuc 127 ∷ pos 127 ∷ []))).values ≡ negsuc 127 ∷ pos 0 ∷ pos 127 ∷ []
unfolding half_between filled
between_extremes = refl

clipped_middle : get_or (half (row (negsuc 127 ∷ pos 127 ∷ pos 127 ∷ negsuc 127 ∷ []))).values 3 (pos 0) ≡ pos 127
unfolding half_between filled
clipped_middle = refl

quarter : sub_sample (up_of (row (pos 0 ∷ pos 32 ∷ []))) 2 (pos 1) (pos 0) ≡ pos 8
unfolding half_between filled part_sample
quarter = refl

-- an eighth before the first column is the first sample
eighth_before : sub_sample (up_of (row (pos 5 ∷ pos 32 ∷ []))) 3 (negsuc 0) (pos 0) ≡ pos 5
unfolding half_between filled part_sample
eighth_before = refl

-- between the rows first, and then between the columns of that result: the other order gives 1 in the middle
order_tells : (half (record { width = 2; height = 2; values = pos 1 ∷ negsuc 0 ∷ pos 2 ∷ pos 2 ∷ [] })).values
    ≡ pos 1 ∷ pos 0 ∷ negsuc 0 ∷ pos 2 ∷ pos 2 ∷ pos 1 ∷ pos 2 ∷ pos 2 ∷ pos 2 ∷ []
unfolding half_between filled
order_tells = refl

-- a plane of two rows
abbrev six : Table
six = record { width = 3; height = 2; values = pos 10 ∷ negsuc 19 ∷ pos 30 ∷ pos 40 ∷ negsuc 49 ∷ pos 60 ∷ [] }

halves : sub_sample (up_of six) 1 (pos 1) (pos 1) ≡ negsuc 16
unfolding half_between filled part_sample
halves = refl

eighths : sub_sample (up_of six) 3 (pos 5) (pos 3) ≡ negsuc 19
unfolding half_between filled part_sample
eighths = refl

far_beyond : sub_sample (up_of six) 3 (pos 17) (pos 100) ≡ pos 60
unfolding half_between filled part_sample
far_beyond = refl
