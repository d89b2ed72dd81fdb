-- The definitions of weights and of what blocks predict, computed on small cases.
use Rattle.std.proofs.Common.{◌≡◌, ℕ, ℤ, pos, negsuc, true, [], ◌∷◌, List, Some, map, length, replicate, refl}
use Rattle.std.specs.List.{range_with_len}
use Rattle.dirac_common.specs.declared.formats.Chroma.TheVariants.{C444}
use Rattle.dirac_common.specs.Table.{filled}
use Rattle.dirac_parameters.specs.declared.prediction.Prediction.{Prediction}
use Rattle.dirac_block_table.specs.declared.block.Block.{Block}
use Rattle.dirac_block_table.specs.Tables.{grey}
use Rattle.dirac_upconvert.specs.HalfSamples.{half_between, half}
use Rattle.dirac_upconvert.specs.SubSamples.{part_sample}
use Rattle.dirac_common.specs.declared.formats.Component.TheVariants as component
use Rattle.dirac_obmc.specs.Compensation.{Compensation, moved_sample, position, predicted_plane, predicts, term}
use Rattle.dirac_obmc.specs.Weights.{share, weight_at}

-- all weights of one of 20 blocks
abbrev weights_of : ℕ → ℕ → ℕ → List ℕ
weights_of block len separation = map (weight_at block 20 len separation) (range_with_len 0 len)

inner_of_twelve : weights_of 3 12 8 ≡ 1 ∷ 3 ∷ 5 ∷ 7 ∷ 8 ∷ 8 ∷ 8 ∷ 8 ∷ 7 ∷ 5 ∷ 3 ∷ 1 ∷ []
unfolding weight_at
inner_of_twelve = refl

first_of_twelve : weights_of 0 12 8 ≡ 8 ∷ 8 ∷ 8 ∷ 8 ∷ 8 ∷ 8 ∷ 8 ∷ 8 ∷ 7 ∷ 5 ∷ 3 ∷ 1 ∷ []
unfolding weight_at
first_of_twelve = refl

last_of_twelve : weights_of 19 12 8 ≡ 1 ∷ 3 ∷ 5 ∷ 7 ∷ 8 ∷ 8 ∷ 8 ∷ 8 ∷ 8 ∷ 8 ∷ 8 ∷ 8 ∷ []
unfolding weight_at
last_of_twelve = refl

inner_of_four : weights_of 7 4 2 ≡ 3 ∷ 5 ∷ 5 ∷ 3 ∷ []
unfolding weight_at
inner_of_four = refl

without_overlap : weights_of 7 4 4 ≡ 8 ∷ 8 ∷ 8 ∷ 8 ∷ []
unfolding weight_at
without_overlap = refl

-- a vector of half a chroma sample to the left is rounded down
vector_down : position 0 2 3 (negsuc 0) ≡ pos 2
vector_down = refl

-- one superblock of blocks without overlap, whose blocks are all this one
abbrev plane_of : Block → Prediction → List ℤ → List ℤ → Compensation
plane_of b p first second = record {
  blocks = record { across = 1; down = 1; refs = 2; splits = 0 ∷ []; blocks = replicate 16 b };
  prediction = p;
  up1 = record { width = length first; height = 1; table = half (record { width = length first; height = 1; values = first }) };
  up2 = Some (record { width = length second; height = 1; table = half (record { width = length second; height = 1; values = second }) });
  component = component.Y;
  chroma = C444;
  width = length first;
  height = 1;
}

-- blocks of 2 by 1 samples, vectors of whole samples, and the weights 3 and 2 of 2 bits
abbrev whole : Prediction
whole = record { grid = record { xblen = 2; yblen = 1; xbsep = 2; ybsep = 1 }; precision = 0; weight_bits = 2; weight1 = pos 3; weight2 = pos 2 }

-- one reference counts by both weights: 10 times 5, and 2 for rounding, divided by 4
from_one_reference : (predicted_plane (plane_of (record grey { ref1 = true }) whole (pos 10 ∷ negsuc 9 ∷ pos 3 ∷ []) (pos 0 ∷ pos 0 ∷ pos 0 ∷ []))).values ≡ pos 13 ∷ negsuc 11 ∷ pos 4 ∷ []
unfolding half_between filled part_sample moved_sample predicts term share weight_at
from_one_reference = refl

-- two references, the first a sample to the right
from_two_references : (predicted_plane (plane_of (record grey { ref1 = true; ref2 = true; v1 = record { x = pos 1; y = pos 0 } }) whole (pos 10 ∷ negsuc 9 ∷ pos 3 ∷ []) (pos 4 ∷ pos 8 ∷ negsuc 3 ∷ []))).values
    ≡ negsuc 4 ∷ pos 6 ∷ pos 0 ∷ []
unfolding half_between filled part_sample moved_sample predicts term share weight_at
from_two_references = refl

dc_alone : (predicted_plane (plane_of (record grey { dc_y = negsuc 199 }) whole (pos 10 ∷ negsuc 9 ∷ []) (pos 4 ∷ pos 8 ∷ []))).values ≡ negsuc 199 ∷ negsuc 199 ∷ []
unfolding half_between filled part_sample moved_sample predicts term share weight_at
dc_alone = refl
