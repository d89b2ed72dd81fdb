-- Predictions from references that are extended in any way.
use Rattle.std.specs.Prelude.{◌≡◌, ℕ, ℤ, pos, ◌+◌, ◌-◌, ◌*◌, ◌^◌, ◌≤◌, ◌==◌, ◌+ℤ◌, ◌-ℤ◌, ◌*ℤ◌, if◌then◌else◌, Option}
use Rattle.std.specs.Prelude.{Some, None}
use Rattle.std.specs.Int.{int_shr}
use Rattle.dirac_common.specs.Table.{Table, clamped_at, table_of}
use Rattle.dirac_common.specs.declared.formats.Vector.{Vector}
use Rattle.dirac_block_table.specs.Tables.{block_at}
use Rattle.dirac_block_table.specs.declared.block.Block.{Block}
use Rattle.dirac_upconvert.specs.SubSamples.{Up, place_at, product, rest_at, rounded}
use Rattle.dirac_obmc.specs.Compensation.{Compensation, across_ratio, blocks_across, blocks_down, component_dc}
use Rattle.dirac_obmc.specs.Compensation.{down_ratio}
use Rattle.dirac_obmc.specs.Compensation.{from_one, from_two, position, signed_total, weight_of}

-- half samples at all positions, those outside of a plane too
abbrev pub HalfSamples : Type 0
HalfSamples = ℤ → ℤ → ℤ

-- they are those of a plane from its first sample to its last, across and down
abbrev pub Extends : Up → HalfSamples → Type 0
Extends up e =
    (x y : ℕ) → x ≤ 2 * up.width - 2 → y ≤ 2 * up.height - 2 → e (pos x) (pos y) ≡ clamped_at up.table (pos x) (pos y)

-- the four half samples round a position, each times its two weights
abbrev pub four_in : HalfSamples → ℕ → ℤ → ℤ → ℤ → ℤ → ℤ
four_in e scale across down right below =
    (product (pos scale -ℤ right) (pos scale -ℤ below) (e across down)
    +ℤ product right (pos scale -ℤ below) (e (across +ℤ pos 1) down))
    +ℤ (product (pos scale -ℤ right) below (e across (down +ℤ pos 1))
    +ℤ product right below (e (across +ℤ pos 1) (down +ℤ pos 1)))

-- the sample at a position in 2 ^ precision parts of a sample
abbrev pub sample_in : HalfSamples → ℕ → ℤ → ℤ → ℤ
sample_in e precision x y =
    if precision == 0
    then e (pos 2 *ℤ x) (pos 2 *ℤ y)
    else rounded (2 * (precision - 1)) (four_in e (2 ^ (precision - 1))
    (place_at x (precision - 1)) (place_at y (precision - 1)) (rest_at x (precision - 1)) (rest_at y (precision - 1)))

-- the sample to which a vector leads from column x of row y
abbrev pub moved_in : Compensation → HalfSamples → Vector → ℕ → ℕ → ℤ
moved_in m e v x y =
    sample_in e m.prediction.precision
    (position m.prediction.precision (across_ratio m) x v.x)
    (position m.prediction.precision (down_ratio m) y v.y)

-- the same of the second reference; no block has one where there is none
abbrev pub second_in : Compensation → Option Up → HalfSamples → Vector → ℕ → ℕ → ℤ
second_in m None e v x y = pos 0
second_in m (Some up) e v x y = moved_in m e v x y

-- what a block predicts at column x of row y
abbrev pub predicts_in : Compensation → HalfSamples → HalfSamples → Block → ℕ → ℕ → ℤ
predicts_in m first second b x y =
    if b.ref1
    then (if b.ref2
    then from_two m.prediction (moved_in m first b.v1 x y) (second_in m m.up2 second b.v2 x y)
    else from_one m.prediction (moved_in m first b.v1 x y))
    else (if b.ref2 then from_one m.prediction (second_in m m.up2 second b.v2 x y) else component_dc m.component b)

-- what block i of row j adds at column x of row y
abbrev pub term_in : Compensation → HalfSamples → HalfSamples → ℕ → ℕ → ℕ → ℕ → ℤ
term_in m first second x y j i =
    pos (weight_of m x y j i) *ℤ predicts_in m first second (block_at m.blocks i j) x y

-- the prediction of the sample in column x of row y
abbrev pub predicted_in : Compensation → HalfSamples → HalfSamples → ℕ → ℕ → ℤ
predicted_in m first second x y =
    int_shr
    (signed_total (λ j. signed_total (term_in m first second x y j) (blocks_across m)) (blocks_down m) +ℤ pos 32) 6

-- the prediction of the plane, from references that are extended so
abbrev pub extended_plane : Compensation → HalfSamples → HalfSamples → Table
extended_plane m first second = table_of m.width m.height (predicted_in m first second)

-- the half samples of a plane, positions outside clamped to it
abbrev pub clamped : Up → HalfSamples
clamped up x y = clamped_at up.table x y

-- those of a second reference
abbrev pub clamped_second : Option Up → HalfSamples
clamped_second None = λ x y. pos 0
clamped_second (Some up) = clamped up
