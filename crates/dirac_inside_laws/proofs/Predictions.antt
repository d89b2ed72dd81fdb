-- What is predicted where vectors keep inside is the same in every extension.
use Rattle.std.proofs.Common.{◌≡◌, ℕ, zero, suc, ℤ, pos, ◌+◌, ◌*◌, ◌/◌, ◌%◌, ◌<◌, ◌≤◌, ◌+ℤ◌, ◌*ℤ◌, Bool, true, false, List, Option, Some, None, if◌then◌else◌, arith, refl, ap, ap₂, inl, inr, sym, subst, ◌∙◌}
use Rattle.std.specs.Int.{int_shr}
use Rattle.std.specs.Option.{ForSome}
use Rattle.std.proofs.Math.IntN.{zero-*ℤ}
use Rattle.std.proofs.Math.Nat.{mul_comm}
use Rattle.std.proofs.lemmas.Bool.{cases_Bool, cases_eq}
use Rattle.std.proofs.lemmas.List.FromFn.{fill_by_all, get_or-map-range_with_len, length-map-range_with_len}
use Rattle.std.proofs.lemmas.Nat.{div_below, mod_below}
use Rattle.dirac_common.specs.Table.{Table, filled, table_of}
use Rattle.dirac_common.specs.declared.formats.Vector.{Vector}
use Rattle.dirac_block_table.specs.Tables.{block_at}
use Rattle.dirac_block_table.specs.declared.block.Block.{Block}
use Rattle.dirac_upconvert.specs.SubSamples.{Up, part_sample}
use Rattle.dirac_inside.specs.Inside.{is_inside}
use Rattle.dirac_inside.specs.declared.picture_blocks.PictureBlocks.{PictureBlocks}
use Rattle.dirac_obmc.specs.Compensation.{Compensation, IsCompensation, across_ratio, blended, blocks_across, blocks_down, component_dc, down_ratio, from_one, from_two, moved_sample, position, predicted_at, predicted_plane, predicts, second_sample, term, signed_total, weight_of}
use Rattle.dirac_inside_laws.specs.Alike.{ClampingExtends, ExtensionsPredictAlike, LeadsInside}
use Rattle.dirac_inside_laws.specs.Extended.{Extends, HalfSamples, clamped, clamped_second, extended_plane, moved_in, predicted_in, predicts_in, second_in, term_in}
use Rattle.dirac_inside_laws.specs.Kept.{IsPlaneOf, VectorsKeepInside}
use Rattle.dirac_inside_laws.proofs.Positions.{positions_inside}
use Rattle.dirac_inside_laws.proofs.Samples.{sample_same}

-- a reference
moved_same : (m : Compensation) (up : Up) (e : HalfSamples) (v : Vector) (x y : ℕ) → m.prediction.precision ≤ 3 → up.width ≡ m.width → up.height ≡ m.height → Extends up e → LeadsInside m v x y
    → moved_in m e v x y ≡ moved_sample m up v x y
unfolding moved_sample
moved_same m up e v x y fine wide high is leads =
    let q = m.prediction.precision in
    let px = position q (across_ratio m) x v.x in
    let py = position q (down_ratio m) y v.y in
    sample_same up e q px py is fine
    (subst (λ (n : ℕ). is_inside q n px ≡ true) (sym wide) leads.across)
    (subst (λ (n : ℕ). is_inside q n py ≡ true) (sym high) leads.down)

second_same : (m : Compensation) (o : Option Up) (e : HalfSamples) (v : Vector) (x y : ℕ) → m.prediction.precision ≤ 3 → ForSome o (λ u. (u.width ≡ m.width) × (u.height ≡ m.height)) → ForSome o (λ u. Extends u e)
    → LeadsInside m v x y → second_in m o e v x y ≡ second_sample m o v x y
second_same m None e v x y fine sizes is leads = refl
second_same m (Some up) e v x y fine sizes is leads = moved_same m up e v x y fine (sizes up refl).0 (sizes up refl).1 (is up refl) leads

-- what is asked of a plane and its extensions
record AreExtended (m : Compensation) (first second : HalfSamples) : Type 0 where
  motion : IsCompensation m
  one : Extends m.up1 first
  two : ForSome m.up2 (λ u. Extends u second)

-- by the references that a block has
by_references : (m : Compensation) (dc : ℤ) (r s : Bool) (a b c d : ℤ) → (r ≡ true → a ≡ c) → (s ≡ true → b ≡ d)
    → (if r then (if s then from_two m.prediction a b else from_one m.prediction a) else (if s then from_one m.prediction b else dc))
    ≡ (if r then (if s then from_two m.prediction c d else from_one m.prediction c) else (if s then from_one m.prediction d else dc))
by_references m dc true true a b c d f g = ap₂ (from_two m.prediction) (f refl) (g refl)
by_references m dc true false a b c d f g = ap (from_one m.prediction) (f refl)
by_references m dc false true a b c d f g = ap (from_one m.prediction) (g refl)
by_references m dc false false a b c d f g = refl

predicts_same : (m : Compensation) (first second : HalfSamples) (b : Block) (x y : ℕ) → AreExtended m first second
    → (b.ref1 ≡ true → LeadsInside m b.v1 x y) → (b.ref2 ≡ true → LeadsInside m b.v2 x y) → predicts_in m first second b x y ≡ predicts m b x y
unfolding predicts
predicts_same m first second b x y are leads1 leads2 =
    by_references m (component_dc m.component b) b.ref1 b.ref2 (moved_in m first b.v1 x y) (second_in m m.up2 second b.v2 x y) (moved_sample m m.up1 b.v1 x y) (second_sample m m.up2 b.v2 x y)
    (λ e. moved_same m m.up1 first b.v1 x y are.motion.precision are.motion.first.0 are.motion.first.1 are.one (leads1 e))
    (λ e. second_same m m.up2 second b.v2 x y are.motion.precision are.motion.second are.two (leads2 e))

-- what a block adds
term_same : (p : PictureBlocks) (m : Compensation) (first second : HalfSamples) (x y j i : ℕ) → AreExtended m first second → IsPlaneOf p m → VectorsKeepInside p m.prediction.precision m.blocks
    → i < blocks_across m → j < blocks_down m → x < m.width → y < m.height → term_in m first second x y j i ≡ term m x y j i
unfolding term
term_same p m first second x y j i are is keep column row l k =
    let b = block_at m.blocks i j in
    elim (cases_eq (weight_of m x y j i) 0) [
      | inl none ↦ ap (λ (w : ℕ). pos w *ℤ predicts_in m first second b x y) none ∙ zero-*ℤ (predicts_in m first second b x y)
          ∙ sym (ap (λ (w : ℕ). pos w *ℤ predicts m b x y) none ∙ zero-*ℤ (predicts m b x y))
      | inr some ↦
          let leads = positions_inside p m is keep i j x y column row l k (omega arith) in
          ap (λ (z : ℤ). pos (weight_of m x y j i) *ℤ z) (predicts_same m first second b x y are leads.0 leads.1)
    ]

total_same : (f g : ℕ → ℤ) (n : ℕ) → ((i : ℕ) → i < n → f i ≡ g i) → signed_total f n ≡ signed_total g n
total_same f g zero h = refl
total_same f g (suc n) h = ap₂ (λ (a b : ℤ). a +ℤ b) (total_same f g n (λ i l. h i (omega arith))) (h n (omega arith))

predicted_same : (p : PictureBlocks) (m : Compensation) (first second : HalfSamples) (x y : ℕ) → AreExtended m first second → IsPlaneOf p m → VectorsKeepInside p m.prediction.precision m.blocks
    → x < m.width → y < m.height → predicted_in m first second x y ≡ predicted_at m x y
predicted_same p m first second x y are is keep l k =
    ap (λ (z : ℤ). int_shr (z +ℤ pos 32) 6)
    (total_same (λ j. signed_total (term_in m first second x y j) (blocks_across m)) (λ j. signed_total (term m x y j) (blocks_across m)) (blocks_down m)
    (λ j row. total_same (term_in m first second x y j) (term m x y j) (blocks_across m) (λ i column. term_same p m first second x y j i are is keep column row l k)))

-- tables of the same values
filled_same : (w h : ℕ) (f g : ℕ → ℕ → ℤ) → ((x y : ℕ) → x < w → y < h → f x y ≡ g x y) → filled w h f ≡ filled w h g
unfolding filled
filled_same w h f g e =
    fill_by_all (λ p. g (p % w) (p / w)) (filled w h f) (w * h) (pos 0) (length-map-range_with_len (λ p. f (p % w) (p / w)) 0 (w * h))
    (λ p l. let some = some_left w h p l in
    get_or-map-range_with_len (λ p. f (p % w) (p / w)) 0 (w * h) p p (pos 0) l (omega arith)
    ∙ e (p % w) (p / w) (mod_below p w some) (div_below p w h some (omega (arith, l, mul_comm w h))))
  where
    some_left : (a b n : ℕ) → n < a * b → 0 < a
    some_left zero b n l = omega (arith, l)
    some_left (suc a) b n l = omega arith

pub planes_alike : ExtensionsPredictAlike
planes_alike p m first second motion is keep one two =
    ap (λ (vs : List ℤ). record { width = m.width; height = m.height; values = vs })
    (filled_same m.width m.height (predicted_in m first second) (predicted_at m) (λ x y l k. predicted_same p m first second x y (record { motion = motion; one = one; two = two }) is keep l k))

-- clamped positions
clamped_second_is : (m : Compensation) (o : Option Up) (v : Vector) (x y : ℕ) → second_in m o (clamped_second o) v x y ≡ second_sample m o v x y
unfolding moved_sample part_sample
clamped_second_is m None v x y = refl
clamped_second_is m (Some up) v x y = refl

clamped_first_is : (m : Compensation) (up : Up) (v : Vector) (x y : ℕ) → moved_in m (clamped up) v x y ≡ moved_sample m up v x y
unfolding moved_sample part_sample
clamped_first_is m up v x y = refl

clamped_predicts : (m : Compensation) (b : Block) (x y : ℕ) → predicts_in m (clamped m.up1) (clamped_second m.up2) b x y ≡ predicts m b x y
unfolding predicts
clamped_predicts m b x y =
    by_references m (component_dc m.component b) b.ref1 b.ref2 (moved_in m (clamped m.up1) b.v1 x y) (second_in m m.up2 (clamped_second m.up2) b.v2 x y) (moved_sample m m.up1 b.v1 x y) (second_sample m m.up2 b.v2 x y)
    (λ e. clamped_first_is m m.up1 b.v1 x y) (λ e. clamped_second_is m m.up2 b.v2 x y)

clamped_term : (m : Compensation) (x y j i : ℕ) → term_in m (clamped m.up1) (clamped_second m.up2) x y j i ≡ term m x y j i
unfolding term
clamped_term m x y j i = ap (λ (z : ℤ). pos (weight_of m x y j i) *ℤ z) (clamped_predicts m (block_at m.blocks i j) x y)

pub clamped_extends : ClampingExtends
clamped_extends m =
    ap (λ (vs : List ℤ). record { width = m.width; height = m.height; values = vs })
    (filled_same m.width m.height (predicted_in m (clamped m.up1) (clamped_second m.up2)) (predicted_at m) (λ x y l k.
    ap (λ (z : ℤ). int_shr (z +ℤ pos 32) 6)
    (total_same (λ j. signed_total (term_in m (clamped m.up1) (clamped_second m.up2) x y j) (blocks_across m)) (λ j. signed_total (term m x y j) (blocks_across m)) (blocks_down m)
    (λ j row. total_same (term_in m (clamped m.up1) (clamped_second m.up2) x y j) (term m x y j) (blocks_across m) (λ i column. clamped_term m x y j i)))))
