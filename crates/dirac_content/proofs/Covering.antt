-- The blocks of an inter picture cover each of its planes.
use Rattle.std.proofs.Common.{◌≡◌, ℕ, ◌+◌, ◌-◌, ◌*◌, ◌/◌, ◌%◌, ◌<◌, ◌≤◌, IsTrue, IsSome, Option, None, Some, arith, ap, refl, subst, ◌∙◌}
use Rattle.dirac_sequence_header.proofs.Heights.{picture_whole}
use Rattle.dirac_sequence_header.specs.Sizes.{picture_height}
use Rattle.std.specs.Borrow.{Bor}
use Rattle.std.specs.Option.{ForSome, option_copied}
use Rattle.std.proofs.Math.Nat.{lt-div-mul-add}
use Rattle.std.proofs.lemmas.Bool.Decides.{nat_tests}
use Rattle.dirac_common.specs.declared.formats.BlockGrid.{BlockGrid}
use Rattle.dirac_common.specs.declared.formats.Chroma.{Chroma}
use Rattle.dirac_common.specs.declared.formats.Chroma.TheVariants.{C444, C422, C420}
use Rattle.dirac_common.specs.declared.picture.Picture.{Picture}
use Rattle.dirac_sequence_header.specs.declared.sequence.Sequence.{Sequence}
use Rattle.dirac_sequence_header.specs.Lawful.{IsSequence}
use Rattle.dirac_common.specs.Ratios.{ratio_across, ratio_down}
use Rattle.dirac_header.specs.Prediction.{is_grid}
use Rattle.dirac_upconvert.specs.SubSamples.{Up}
use Rattle.dirac_common.specs.declared.formats.Component.{Component}
use Rattle.dirac_common.specs.declared.formats.Component.TheVariants as component
use Rattle.dirac_obmc.specs.Compensation.{IsPredictable, ratio_of}
use Rattle.dirac_picture.specs.declared.coded.CodedMotion.{CodedMotion}
use Rattle.dirac_picture.specs.Fits.{IsMotion}
use Rattle.dirac_picture.specs.Grammar.{superblocks_over}
use Rattle.dirac_content.specs.Content.{IsPicture, IsPlane, width_of, height_of, plane_of, up_of, compensated}
use Rattle.dirac_content.specs.Predicting.{IsUpOfPart}

-- what a grid says of separations
grid_across : (chroma : Chroma) (g : BlockGrid) → IsTrue (is_grid chroma g) → (1 ≤ g.xbsep) × (g.xbsep % ratio_across chroma ≡ 0)
grid_across chroma g is = grind (arith, nat_tests, is)

grid_down : (chroma : Chroma) (g : BlockGrid) → IsTrue (is_grid chroma g) → (1 ≤ g.ybsep) × (g.ybsep % ratio_down chroma ≡ 0)
grid_down chroma g is = grind (arith, nat_tests, is)

-- so many superblocks cover the samples
luma_covered : (size sep : ℕ) → 1 ≤ sep → size ≤ superblocks_over size sep * (4 * sep)
luma_covered size sep some =
    let unit : 0 < 4 * sep = omega arith in
    omega (arith, lt-div-mul-add {a = size + 4 * sep - 1} {b = 4 * sep} unit)

halves : (w s q : ℕ) → 2 * w ≤ q * (4 * (2 * s)) → w ≤ 4 * q * s
halves w s q h = omega arith

-- and so, of a plane with half as many samples, half as many
half_covered : (size sep q : ℕ) → size % 2 ≡ 0 → sep % 2 ≡ 0 → size ≤ q * (4 * sep) → size / 2 ≤ 4 * q * (sep / 2)
half_covered size sep q even divides h =
    let wide : size ≡ 2 * (size / 2) = omega arith in
    let component : sep ≡ 2 * (sep / 2) = omega arith in
    let both : 2 * (size / 2) ≤ q * (4 * (2 * (sep / 2))) = subst (λ n. 2 * (size / 2) ≤ q * (4 * n)) component (omega arith) in
    halves (size / 2) (sep / 2) q both

div-one : (n : ℕ) → n / 1 ≡ n
div-one n = omega arith

luma_times : (size sep q : ℕ) → size ≤ q * (4 * sep) → size / 1 ≤ 4 * q * (sep / 1)
luma_times size sep q h =
    rw (div-one size, div-one sep) (omega arith)

-- columns of a plane of chroma samples
chroma_across : (chroma : Chroma) (size sep q : ℕ) → size % ratio_across chroma ≡ 0 → sep % ratio_across chroma ≡ 0 → size ≤ q * (4 * sep)
    → size / ratio_across chroma ≤ 4 * q * (sep / ratio_across chroma)
chroma_across C444 size sep q whole divides h = luma_times size sep q h
chroma_across C422 size sep q whole divides h = half_covered size sep q whole divides h
chroma_across C420 size sep q whole divides h = half_covered size sep q whole divides h

-- and rows
chroma_down : (chroma : Chroma) (size sep q : ℕ) → size % ratio_down chroma ≡ 0 → sep % ratio_down chroma ≡ 0 → size ≤ q * (4 * sep)
    → size / ratio_down chroma ≤ 4 * q * (sep / ratio_down chroma)
chroma_down C444 size sep q whole divides h = luma_times size sep q h
chroma_down C422 size sep q whole divides h = luma_times size sep q h
chroma_down C420 size sep q whole divides h = half_covered size sep q whole divides h

-- the columns of each plane are covered
part_across : (s : Sequence) (sep q : ℕ) (p : Component) → IsSequence s → sep % ratio_across s.chroma ≡ 0 → s.width ≤ q * (4 * sep)
    → width_of s p ≤ 4 * q * (sep / ratio_of p (ratio_across s.chroma))
part_across s sep q component.Y lawful divides h = rw (div-one sep) (omega arith)
part_across s sep q component.U lawful divides h = chroma_across s.chroma s.width sep q lawful.frames.whole_across divides h
part_across s sep q component.V lawful divides h = chroma_across s.chroma s.width sep q lawful.frames.whole_across divides h

-- and its rows
part_down : (s : Sequence) (sep q : ℕ) (p : Component) → IsSequence s → sep % ratio_down s.chroma ≡ 0 → picture_height s ≤ q * (4 * sep)
    → height_of s p ≤ 4 * q * (sep / ratio_of p (ratio_down s.chroma))
part_down s sep q component.Y lawful divides h = rw (div-one sep) (omega arith)
part_down s sep q component.U lawful divides h = chroma_down s.chroma (picture_height s) sep q (picture_whole s lawful) divides h
part_down s sep q component.V lawful divides h = chroma_down s.chroma (picture_height s) sep q (picture_whole s lawful) divides h

-- a plane of a picture has the sizes of its part
pub plane_size : (s : Sequence) (picture : Picture) (p : Component) → IsPicture s picture → IsPlane (width_of s p) (height_of s p) (plane_of picture p)
plane_size s picture component.Y fits = fits.y
plane_size s picture component.U fits = fits.u
plane_size s picture component.V fits = fits.v

-- so each plane can be predicted from upconverted planes of its size
pub is_compensation : (code : ℕ) (s : Sequence) (m : CodedMotion) (first : Up) (second : Option Up) (p : Component) → IsSequence s → IsMotion code s m
    → IsUpOfPart s p first → ForSome second (IsUpOfPart s p) → (m.blocks.refs ≡ 2 → IsSome second)
    → IsPredictable (compensated s m first second p)
is_compensation code s m first second p lawful fits one two there =
    let grid = fits.prediction.grid in
    let across = grid_across s.chroma m.prediction.grid grid in
    let down = grid_down s.chroma m.prediction.grid grid in
    let wide : s.width ≤ m.blocks.across * (4 * m.prediction.grid.xbsep) =
    rw fits.across (luma_covered s.width m.prediction.grid.xbsep across.0) in
    let high : picture_height s ≤ m.blocks.down * (4 * m.prediction.grid.ybsep) =
    rw fits.down (luma_covered (picture_height s) m.prediction.grid.ybsep down.0) in
    record {
      grid = grid;
      precision = fits.prediction.precision;
      bits = fits.prediction.bits;
      weights = fits.prediction.weights;
      covers_across = part_across s m.prediction.grid.xbsep m.blocks.across p lawful across.1 wide;
      covers_down = part_down s m.prediction.grid.ybsep m.blocks.down p lawful down.1 high;
      first = one;
      second = two;
      two = there;
    }

-- a lent plane is there where its loan is
pub there_lent : {X : Type 0} (o : Option (Bor X)) → IsSome o → IsSome (option_copied o)
there_lent None there = absurd cc
there_lent (Some b) there = refl

-- the upconverted planes of a picture have the sizes of their parts
pub up_size : (s : Sequence) (picture : Picture) (p : Component) (u : Up) → IsPicture s picture → u ≡ up_of (plane_of picture p) → IsUpOfPart s p u
up_size s picture p u fits is =
    let size = plane_size s picture p fits in
    (ap (λ (x : Up). x.width) is ∙ size.across, ap (λ (x : Up). x.height) is ∙ size.down)

-- one that is lent too
pub lent_size : (s : Sequence) (picture : Picture) (p : Component) (u x : Up) → IsPicture s picture → u ≡ up_of (plane_of picture p) → Some u ≡ Some x → IsUpOfPart s p x
lent_size s picture p u x fits is e = let same : u ≡ x = cc in subst (IsUpOfPart s p) same (up_size s picture p u fits is)

-- from one reference
pub from_one : (code : ℕ) (s : Sequence) (m : CodedMotion) (picture : Picture) (first : Up) (p : Component) → IsSequence s → IsMotion code s m
    → IsPicture s picture → first ≡ up_of (plane_of picture p) → (m.blocks.refs ≡ 2 → ⊥) → IsPredictable (compensated s m first None p)
from_one code s m picture first p lawful fits one is alone =
    is_compensation code s m first None p lawful fits (up_size s picture p first one is) (λ u e. absurd cc) (λ two. absurd (alone two))

-- and from two
pub from_two : (code : ℕ) (s : Sequence) (m : CodedMotion) (picture other : Picture) (first second : Up) (p : Component) → IsSequence s → IsMotion code s m
    → IsPicture s picture → IsPicture s other → first ≡ up_of (plane_of picture p) → second ≡ up_of (plane_of other p)
    → IsPredictable (compensated s m first (Some second) p)
from_two code s m picture other first second p lawful fits one two is also =
    is_compensation code s m first (Some second) p lawful fits (up_size s picture p first one is)
    (λ u e. lent_size s other p second u two also e) (λ refs. refl)
