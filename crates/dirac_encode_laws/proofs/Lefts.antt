-- What is left of a source behind its prediction is no larger than the difference of two samples.
use Rattle.std.proofs.Common.{◌≡◌, ℕ, zero, suc, ℤ, pos, negsuc, ◌+◌, ◌*◌, ◌≤◌, ◌==◌, ◌-ℤ◌, unsigned_abs, if◌then◌else◌, Bool, true, false, List, [], ◌∷◌, length, get_or, Option, None, Some, refl, sym, ◌∙◌, subst, arith, inl, inr}
use Rattle.std.specs.Prelude.{IsTrue, is_some}
use Rattle.std.specs.List.{All, AllByRecursion}
use Rattle.std.specs.Option.{ForSome}
use Rattle.std.specs.Simd.Lanes.{zip2}
use Rattle.std.proofs.lemmas.Bool.{cases_lt}
use Rattle.std.proofs.lemmas.Int.{ints}
use Rattle.std.proofs.lemmas.List.{get_or_past}
use Rattle.dirac_common.specs.declared.formats.Chroma.{Chroma}
use Rattle.dirac_common.specs.declared.formats.Chroma.TheVariants.{C444, C422, C420}
use Rattle.dirac_common.specs.declared.picture.Picture.{Picture}
use Rattle.dirac_types.specs.declared.settings.Settings.{Settings}
use Rattle.dirac_common.specs.Samples.{clip}
use Rattle.dirac_common.specs.Table.{Table}
use Rattle.dirac_sequence_header.specs.declared.sequence.Sequence.{Sequence}
use Rattle.dirac_sequence_header.specs.Lawful.{IsSequence}
use Rattle.dirac_sequence.specs.Written.{sequence_of}
use Rattle.dirac_header.specs.Codes.{references_of}
use Rattle.dirac_header.specs.Prediction.{grid_of, is_grid}
use Rattle.dirac_block_table.specs.declared.block.Block.{Block}
use Rattle.dirac_block_table.specs.Tables.{BlockTable, grey}
use Rattle.dirac_upconvert.specs.HalfSamples.{IsSample}
use Rattle.dirac_upconvert.specs.SubSamples.{Up}
use Rattle.dirac_upconvert.proofs.Halves.{half_samples}
use Rattle.dirac_common.specs.declared.formats.Component.{Component}
use Rattle.dirac_common.specs.declared.formats.Component.TheVariants as component
use Rattle.dirac_obmc.specs.Compensation as obmc
use Rattle.dirac_obmc.proofs.SamplesPredicted.{planes_predicted}
use Rattle.dirac_picture.specs.Fits as fits
use Rattle.dirac_picture.specs.Grammar.{is_listed}
use Rattle.dirac_picture.proofs.Chroma.{chroma_size, luma_size}
use Rattle.dirac_refs.specs.References.{listed}
use Rattle.dirac_analysis.specs.Fits.{AreDifferences, AreSamples}
use Rattle.dirac_content.specs.Content as content
use Rattle.dirac_content.specs.Content.{compensation, height_of, named, plane_of, predicted_among, up_of, width_of}
use Rattle.dirac_content.proofs.Covering.{from_one, from_two}
use Rattle.dirac_encode_laws.specs.Coded.{IsSource, plane_less_prediction, motion_with}
use Rattle.dirac_decide.specs.Modes.{HasDcSamples}
use Rattle.dirac_motion.specs.Chosen.{IsChosen}

-- ---- sources are pictures of the sequence

sample_least : (v : ℤ) → clip v ≡ v → IsSample v
sample_least (pos n) is = record { least = grind (arith, ints); most = grind (arith, ints) }
sample_least (negsuc n) is = record { least = grind (arith, ints); most = grind (arith, ints) }

pub samples_are : (xs : List ℤ) → AreSamples xs → All IsSample xs
samples_are xs all k d l = sample_least (get_or xs k d) (all k d l)

pub picture_is : (t : Settings) (p : Picture) → IsSource t p → content.IsPicture (sequence_of t) p
unfolding sequence_of
picture_is t p is = record {
  y = record { across = is.y.across; down = is.y.down; samples = samples_are p.y.values is.y.samples };
  u = record { across = is.u.across; down = is.u.down; samples = samples_are p.u.values is.u.samples };
  v = record { across = is.v.across; down = is.v.down; samples = samples_are p.v.values is.v.samples };
}

pub plane_samples : (s : Sequence) (p : Picture) (o : Component) → content.IsPicture s p → All IsSample (plane_of p o).values
plane_samples s p component.Y is = is.y.samples
plane_samples s p component.U is = is.u.samples
plane_samples s p component.V is = is.v.samples

pub part_size : (s : Sequence) (o : Component) → IsSequence s → fits.IsPlaneSize (width_of s o) (height_of s o)
part_size s component.Y lawful = luma_size s lawful
part_size s component.U lawful = chroma_size s lawful
part_size s component.V lawful = chroma_size s lawful

-- ---- the encoder's prediction parameters

grids_fit : (chroma : Chroma) (n : ℕ) → 2 ≤ n → n ≤ 4 → IsTrue (is_grid chroma (grid_of n))
grids_fit C444 (suc (suc zero)) low high = refl
grids_fit C422 (suc (suc zero)) low high = refl
grids_fit C420 (suc (suc zero)) low high = refl
grids_fit C444 (suc (suc (suc zero))) low high = refl
grids_fit C422 (suc (suc (suc zero))) low high = refl
grids_fit C420 (suc (suc (suc zero))) low high = refl
grids_fit C444 (suc (suc (suc (suc zero)))) low high = refl
grids_fit C422 (suc (suc (suc (suc zero)))) low high = refl
grids_fit C420 (suc (suc (suc (suc zero)))) low high = refl
grids_fit chroma zero low high = absurd (omega (arith, low))
grids_fit chroma (suc zero) low high = absurd (omega (arith, low))
grids_fit chroma (suc (suc (suc (suc (suc n))))) low high = absurd (omega (arith, high))

-- settings with which pictures can be predicted
pub record IsPredicting (t : Settings) : Type 0 where
  pub lawful : IsSequence (sequence_of t)
  pub some_blocks : 2 ≤ t.blocks
  pub most_blocks : t.blocks ≤ 4
  pub precision : t.precision ≤ 3

pub motion_fits : (t : Settings) (code : ℕ) (b : BlockTable) → IsPredicting t → IsChosen t code b → fits.IsMotion code (sequence_of t) (motion_with t b)
motion_fits t code b is c = record {
  prediction = record {
    grid = grids_fit (sequence_of t).chroma t.blocks is.some_blocks is.most_blocks;
    precision = is.precision;
    bits = (omega arith, omega arith);
    weights = (omega (arith, ints), omega (arith, ints));
  };
  across = c.across;
  down = c.down;
  refs = c.refs;
  table = c.table;
}

dc_at : (xs : List Block) (k : ℕ) (o : Component) → All HasDcSamples xs → IsSample (obmc.component_dc o (get_or xs k grey))
dc_at xs k o all = elim (cases_lt k (length xs)) [
  | inl inside ↦ of o (get_or xs k grey) (all k grey inside)
  | inr past ↦ rw (get_or_past xs k grey past) (of o grey (record { y = zero_sample; u = zero_sample; v = zero_sample }))
] where
  zero_sample : IsSample (pos 0)
  zero_sample = record { least = omega (arith, ints); most = omega (arith, ints) }

  of : (o : Component) (b : Block) → HasDcSamples b → IsSample (obmc.component_dc o b)
  of component.Y b is = is.y
  of component.U b is = is.u
  of component.V b is = is.v

-- what a plane is predicted from
motion_of : (s : Sequence) (o : Component) (m : obmc.Compensation) → IsSequence s → m.width ≡ width_of s o → m.height ≡ height_of s o → obmc.IsPredictable m → obmc.IsCompensation m
motion_of s o m lawful w h is =
    let size = part_size s o lawful in
    record {
      grid = is.grid;
      precision = is.precision;
      some_bits = is.bits.0;
      most_bits = is.bits.1;
      weight1 = is.weights.0;
      weight2 = is.weights.1;
      some_across = omega (arith, w, size.across.0);
      most_across = omega (arith, w, size.across.1);
      some_down = omega (arith, h, size.down.0);
      most_down = omega (arith, h, size.down.1);
      covers_across = is.covers_across;
      covers_down = is.covers_down;
      first = is.first;
      second = is.second;
      two = is.two;
    }

none_are : All IsSample []
none_are k d l = absurd (omega (arith, l))

-- what samples predict with the default weights are samples
pub predicted_are : (t : Settings) (code : ℕ) (b : BlockTable) (first second : Option Picture) (o : Component) → IsPredicting t → IsChosen t code b → ForSome first (IsSource t) → ForSome second (IsSource t)
    → (references_of code ≡ 2 → second ≡ None → ⊥) → All IsSample (predicted_among (sequence_of t) (motion_with t b) first second o)
predicted_are t code b None second o is c one two there = none_are
predicted_are t code b (Some p) None o is c one two there =
    let s = sequence_of t in
    let m = motion_with t b in
    let picture = picture_is t p (one p refl) in
    let predictable = from_one code s m p (up_of (plane_of p o)) o is.lawful (motion_fits t code b is c) picture refl (λ refs. there (sym c.refs ∙ refs) refl) in
    planes_predicted (compensation s m p None o) (motion_of s o (compensation s m p None o) is.lawful refl refl predictable)
    (record {
      weights = record { weight_bits = refl; weight1 = refl; weight2 = refl };
      first = half_samples (plane_of p o) (plane_samples s p o picture);
      second = λ u e. absurd cc;
      dc = λ i j k l. dc_at b.blocks (j * (4 * b.across) + i) o c.dcs;
    })
predicted_are t code b (Some p) (Some q) o is c one two there =
    let s = sequence_of t in
    let m = motion_with t b in
    let picture = picture_is t p (one p refl) in
    let other = picture_is t q (two q refl) in
    let predictable = from_two code s m p q (up_of (plane_of p o)) (up_of (plane_of q o)) o is.lawful (motion_fits t code b is c) picture other refl refl in
    planes_predicted (compensation s m p (Some q) o) (motion_of s o (compensation s m p (Some q) o) is.lawful refl refl predictable)
    (record {
      weights = record { weight_bits = refl; weight1 = refl; weight2 = refl };
      first = half_samples (plane_of p o) (plane_samples s p o picture);
      second = λ u e. let same : up_of (plane_of q o) ≡ u = cc in subst (λ (x : Up). All IsSample x.table.values) same (half_samples (plane_of q o) (plane_samples s q o other));
      dc = λ i j k l. dc_at b.blocks (j * (4 * b.across) + i) o c.dcs;
    })

-- ---- differences

-- two samples are at most 255 apart
apart : (v p : ℤ) → IsSample v → IsSample p → unsigned_abs (v -ℤ p) ≤ 255
apart v p a b = omega (arith, ints, a.least, a.most, b.least, b.most)

zip_small : (vs ps : List ℤ) → All IsSample vs → All IsSample ps → AreDifferences (zip2 (λ v other. v -ℤ other) vs ps)
zip_small [] ps first second k d l = absurd (omega (arith, l))
zip_small (v ∷ vs) [] first second k d l = absurd (omega (arith, l))
zip_small (v ∷ vs) (p ∷ ps) first second zero d l = apart v p (first 0 d (omega arith)) (second 0 d (omega arith))
zip_small (v ∷ vs) (p ∷ ps) first second (suc k) d l =
    zip_small vs ps (λ i e n. first (suc i) e (omega (arith, n))) (λ i e n. second (suc i) e (omega (arith, n))) k d (omega (arith, l))

pub differences_small : (t : Table) (predicted : List ℤ) → All IsSample t.values → All IsSample predicted → AreDifferences (plane_less_prediction t predicted).values
differences_small t predicted samples small = zip_small t.values predicted samples small

-- ---- references that are found

pub listed_is : (P : Picture → Type 0) (refs : List Picture) (n : ℕ) → AllByRecursion P refs → ForSome (listed refs n) P
listed_is P [] n all p e = absurd cc
listed_is P (q ∷ refs) n all p e = by (q.number == n) (listed_is P refs n all.1 p) e
  where
    by : (b : Bool) → (listed refs n ≡ Some p → P p) → (if b then Some q else listed refs n) ≡ Some p → P p
    by true more e = let same : q ≡ p = cc in subst P same all.0
    by false more e = more e

pub named_is : (P : Picture → Type 0) (refs : List Picture) (o : Option ℕ) → AllByRecursion P refs → ForSome (named refs o) P
named_is P refs None all = λ p e. absurd cc
named_is P refs (Some n) all = listed_is P refs n all

found_some : (o : Option Picture) → is_some o ≡ true → o ≡ None → ⊥
found_some None is e = absurd cc
found_some (Some p) is e = absurd cc

pub found_is : (refs : List Picture) (o : Option ℕ) → is_some o ≡ true → is_listed refs o ≡ true → named refs o ≡ None → ⊥
found_is refs None some found e = absurd cc
found_is refs (Some n) some found e = found_some (listed refs n) found e
