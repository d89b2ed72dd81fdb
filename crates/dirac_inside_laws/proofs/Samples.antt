-- A sample at a position that takes nothing outside is the same in every extension.
use Rattle.std.proofs.Common.{◌≡◌, ℕ, zero, suc, ℤ, pos, negsuc, ◌+◌, ◌-◌, ◌*◌, ◌^◌, ◌<◌, ◌≤◌, ◌+ℤ◌, ◌*ℤ◌, Bool, true, ◌&&◌, if◌then◌else◌, ◌⊎◌, inl, inr, arith, refl, ap, ap₂, sym, ◌∙◌}
use Rattle.std.specs.Prelude.{◌-ℤ◌, int_le, int_lt, ◌≤ℤ◌}
use Rattle.std.proofs.Math.IntN.{zero-*ℤ}
use Rattle.std.proofs.lemmas.Bool.{and_parts}
use Rattle.std.proofs.lemmas.Int.{ints}
use Rattle.dirac_common.specs.Table.{Table, clamped_at}
use Rattle.dirac_upconvert.specs.SubSamples.{Up, bilinear, part_sample, place_at, product, rest_at, rounded, sub_sample}
use Rattle.dirac_inside.specs.Inside.{is_inside, last_taken}
use Rattle.dirac_inside.proofs.Below.{both_tells, le_tells}
use Rattle.dirac_inside_laws.specs.Extended.{Extends, HalfSamples, four_in, sample_in}

-- a corner that has no weight, or is the same
data Corner (a b : ℤ) (z w : ℤ) : Type 0 where
  none_across : a ≡ pos 0 → Corner a b z w
  none_down : b ≡ pos 0 → Corner a b z w
  same : z ≡ w → Corner a b z w

corner : (a b z w : ℤ) → Corner a b z w → product a b z ≡ product a b w
corner a b z w (none_across e) = rw e (ap (λ t. b *ℤ t) (zero-*ℤ z ∙ sym (zero-*ℤ w)))
corner a b z w (none_down e) = rw e (zero-*ℤ (a *ℤ z) ∙ sym (zero-*ℤ (a *ℤ w)))
corner a b z w (same e) = ap (product a b) e

-- the place of a position, and the next one where it has a weight
record Taken (last : ℕ) (h r : ℤ) : Type 0 where
  place : ℕ
  place_is : h ≡ pos place
  inside : place ≤ last
  next : (r ≡ pos 0) ⊎ (place + 1 ≤ last)

taken : (h r : ℤ) (last : ℕ) → pos 0 ≤ℤ h → pos 0 ≤ℤ r → (h +ℤ (if int_lt (pos 0) r then pos 1 else pos 0)) ≤ℤ pos last → Taken last h r
taken (negsuc n) r last a b c = absurd (omega (arith, ints, a))
taken (pos n) (negsuc r) last a b c = absurd (omega (arith, ints, b))
taken (pos n) (pos zero) last a b c = record { place = n; place_is = refl; inside = grind (arith, ints, c); next = inl refl }
taken (pos n) (pos (suc r)) last a b c = record { place = n; place_is = refl; inside = grind (arith, ints, c); next = inr (grind (arith, ints, c)) }

rest_some : (bits : ℕ) (p : ℤ) → bits ≤ 2 → pos 0 ≤ℤ rest_at p bits
rest_some zero (pos n) l = omega (arith, ints)
rest_some zero (negsuc n) l = omega (arith, ints)
rest_some (suc zero) (pos n) l = omega (arith, ints)
rest_some (suc zero) (negsuc n) l = omega (arith, ints)
rest_some (suc (suc zero)) (pos n) l = omega (arith, ints)
rest_some (suc (suc zero)) (negsuc n) l = omega (arith, ints)
rest_some (suc (suc (suc bits))) p l = absurd (omega arith)

taken_at : (bits size : ℕ) (p : ℤ) → bits ≤ 2 → (int_le (pos 0) (place_at p bits) && int_le (last_taken bits p) (pos (2 * size - 2))) ≡ true → Taken (2 * size - 2) (place_at p bits) (rest_at p bits)
taken_at bits size p fine e =
    let parts = and_parts (int_le (pos 0) (place_at p bits)) (int_le (last_taken bits p) (pos (2 * size - 2))) e in
    taken (place_at p bits) (rest_at p bits) (2 * size - 2) (le_tells (pos 0) (place_at p bits) parts.0) (rest_some bits p fine) (le_tells (last_taken bits p) (pos (2 * size - 2)) parts.1)

-- the four round a position
four_at : (up : Up) (e : HalfSamples) (scale x y : ℕ) (r b : ℤ) → Extends up e → x ≤ 2 * up.width - 2 → y ≤ 2 * up.height - 2
    → (r ≡ pos 0) ⊎ (x + 1 ≤ 2 * up.width - 2) → (b ≡ pos 0) ⊎ (y + 1 ≤ 2 * up.height - 2)
    → four_in e scale (pos x) (pos y) r b ≡ bilinear up.table scale (pos x) (pos y) r b
four_at up e scale x y r b is l m next_x next_y =
    ap₂ (λ (p q : ℤ). p +ℤ q)
    (ap₂ (λ (p q : ℤ). p +ℤ q) (corner (pos scale -ℤ r) (pos scale -ℤ b) (e (pos x) (pos y)) (clamped_at up.table (pos x) (pos y)) (same (is x y l m)))
    (corner r (pos scale -ℤ b) (e (pos x +ℤ pos 1) (pos y)) (clamped_at up.table (pos x +ℤ pos 1) (pos y)) (right next_x)))
    (ap₂ (λ (p q : ℤ). p +ℤ q) (corner (pos scale -ℤ r) b (e (pos x) (pos y +ℤ pos 1)) (clamped_at up.table (pos x) (pos y +ℤ pos 1)) (below next_y))
    (corner r b (e (pos x +ℤ pos 1) (pos y +ℤ pos 1)) (clamped_at up.table (pos x +ℤ pos 1) (pos y +ℤ pos 1)) (both next_x next_y)))
  where
    right : (r ≡ pos 0) ⊎ (x + 1 ≤ 2 * up.width - 2) → Corner r (pos scale -ℤ b) (e (pos x +ℤ pos 1) (pos y)) (clamped_at up.table (pos x +ℤ pos 1) (pos y))
    right (inl none) = none_across none
    right (inr some) = same (is (x + 1) y some m)

    below : (b ≡ pos 0) ⊎ (y + 1 ≤ 2 * up.height - 2) → Corner (pos scale -ℤ r) b (e (pos x) (pos y +ℤ pos 1)) (clamped_at up.table (pos x) (pos y +ℤ pos 1))
    below (inl none) = none_down none
    below (inr some) = same (is x (y + 1) l some)

    both : (r ≡ pos 0) ⊎ (x + 1 ≤ 2 * up.width - 2) → (b ≡ pos 0) ⊎ (y + 1 ≤ 2 * up.height - 2)
        → Corner r b (e (pos x +ℤ pos 1) (pos y +ℤ pos 1)) (clamped_at up.table (pos x +ℤ pos 1) (pos y +ℤ pos 1))
    both (inl none) next = none_across none
    both (inr some) (inl none) = none_down none
    both (inr some) (inr also) = same (is (x + 1) (y + 1) some also)

four_taken : (up : Up) (e : HalfSamples) (scale : ℕ) (h k r b : ℤ) → Extends up e → Taken (2 * up.width - 2) h r → Taken (2 * up.height - 2) k b
    → four_in e scale h k r b ≡ bilinear up.table scale h k r b
four_taken up e scale h k r b is across down =
    rw (across.place_is, down.place_is) (four_at up e scale across.place down.place r b is across.inside down.inside across.next down.next)

part_same : (up : Up) (e : HalfSamples) (bits : ℕ) (px py : ℤ) → Extends up e → bits ≤ 2
    → (int_le (pos 0) (place_at px bits) && int_le (last_taken bits px) (pos (2 * up.width - 2))) ≡ true
    → (int_le (pos 0) (place_at py bits) && int_le (last_taken bits py) (pos (2 * up.height - 2))) ≡ true
    → rounded (2 * bits) (four_in e (2 ^ bits) (place_at px bits) (place_at py bits) (rest_at px bits) (rest_at py bits)) ≡ part_sample up.table bits px py
unfolding part_sample
part_same up e bits px py is fine across down =
    ap (rounded (2 * bits)) (four_taken up e (2 ^ bits) (place_at px bits) (place_at py bits) (rest_at px bits) (rest_at py bits) is
    (taken_at bits up.width px fine across) (taken_at bits up.height py fine down))

whole_same : (up : Up) (e : HalfSamples) (px py : ℤ) → Extends up e → (pos 0 ≤ℤ px) → px ≤ℤ pos (up.width - 1) → (pos 0 ≤ℤ py) → py ≤ℤ pos (up.height - 1)
    → e (pos 2 *ℤ px) (pos 2 *ℤ py) ≡ clamped_at up.table (pos 2 *ℤ px) (pos 2 *ℤ py)
whole_same up e (negsuc x) py is a b c d = absurd (omega (arith, ints, a))
whole_same up e (pos x) (negsuc y) is a b c d = absurd (omega (arith, ints, c))
whole_same up e (pos x) (pos y) is a b c d = is (2 * x) (2 * y) (omega (arith, ints, b)) (omega (arith, ints, d))

pub sample_same : (up : Up) (e : HalfSamples) (q : ℕ) (px py : ℤ) → Extends up e → q ≤ 3 → is_inside q up.width px ≡ true → is_inside q up.height py ≡ true
    → sample_in e q px py ≡ sub_sample up q px py
sample_same up e zero px py is fine across down =
    let x = both_tells (pos 0) px px (pos (up.width - 1)) across in
    let y = both_tells (pos 0) py py (pos (up.height - 1)) down in
    whole_same up e px py is x.0 x.1 y.0 y.1
sample_same up e (suc zero) px py is fine across down = part_same up e 0 px py is (omega arith) across down
sample_same up e (suc (suc zero)) px py is fine across down = part_same up e 1 px py is (omega arith) across down
sample_same up e (suc (suc (suc zero))) px py is fine across down = part_same up e 2 px py is (omega arith) across down
sample_same up e (suc (suc (suc (suc q)))) px py is fine across down = absurd (omega arith)
