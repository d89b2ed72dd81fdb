-- The vector of no motion keeps inside, and vectors once.
use Rattle.std.proofs.Common.{◌≡◌, ℕ, zero, suc, ℤ, pos, negsuc, ◌+◌, ◌-◌, ◌*◌, ◌/◌, ◌^◌, ◌<◌, ◌≤◌, ◌*ℤ◌, ◌&&◌, Bool, true, arith, refl, ap, ap₂, subst, sym, ◌∙◌}
use Rattle.std.specs.Int.{int_div_euclid}
use Rattle.std.proofs.lemmas.Bool.{and_from}
use Rattle.std.proofs.lemmas.Int.{ints}
use Rattle.std.proofs.lemmas.Nat.{mul-le}
use Rattle.dirac_common.specs.declared.formats.Vector.{Vector}
use Rattle.dirac_inside.specs.Inside.{is_inside, keeps_inside, plane_keeps, position, vector_times}
use Rattle.dirac_inside.specs.Ranges.{AreBlocks}
use Rattle.dirac_inside.specs.declared.picture_blocks.PictureBlocks.{PictureBlocks}
use Rattle.dirac_inside.proofs.Planes.{plane_from}
use Rattle.dirac_inside.proofs.Positions.{inside_from}

abbrev nowhere : Vector
nowhere = record { x = pos 0; y = pos 0 }

no_part : (ratio : ℕ) → 1 ≤ ratio → ratio ≤ 2 → int_div_euclid (pos 0) (pos ratio) ≡ pos 0
no_part zero some few = absurd (omega arith)
no_part (suc zero) some few = refl
no_part (suc (suc zero)) some few = refl
no_part (suc (suc (suc r))) some few = absurd (omega arith)

stays_inside : (q size ratio x : ℕ) → q ≤ 3 → 1 ≤ ratio → ratio ≤ 2 → x < size → is_inside q size (position q ratio x (pos 0)) ≡ true
stays_inside q size ratio x fine some few l =
    let on : 2 ^ q * x ≤ 2 ^ q * (size - 1) = mul-le (2 ^ q) x (2 ^ q) (size - 1) (omega arith) (omega arith) in
    inside_from q size (position q ratio x (pos 0)) (omega arith) fine (record { least = omega (arith, ints, no_part ratio some few); most = omega (arith, ints, on, no_part ratio some few) })

plane_zero : (p : PictureBlocks) (across down q i j : ℕ) → q ≤ 3 → (1 ≤ across) × (across ≤ 2) → (1 ≤ down) × (down ≤ 2) → plane_keeps p across down q i j nowhere ≡ true
plane_zero p across down q i j fine a d =
    plane_from p across down q i j nowhere (λ x y l m held.
    and_from (is_inside q (p.width / across) (position q across x (pos 0))) (is_inside q (p.height / down) (position q down y (pos 0)))
    (stays_inside q (p.width / across) across x fine a.0 a.1 l) (stays_inside q (p.height / down) down y fine d.0 d.1 m))

pub zero_keeps : (p : PictureBlocks) (q i j : ℕ) → AreBlocks p → q ≤ 3 → keeps_inside p q i j nowhere ≡ true
unfolding keeps_inside
zero_keeps p q i j are fine =
    and_from (plane_keeps p 1 1 q i j nowhere) (plane_keeps p p.across_ratio p.down_ratio q i j nowhere)
    (plane_zero p 1 1 q i j fine (omega arith, omega arith) (omega arith, omega arith)) (plane_zero p p.across_ratio p.down_ratio q i j fine are.across_ratio are.down_ratio)

times_part : (n : ℕ) → pos n *ℤ pos 0 ≡ pos 0
times_part n = omega (arith, ints)

-- any number of times
pub times_zero : (n : ℕ) → vector_times n nowhere ≡ nowhere
times_zero n = ap₂ (λ (a b : ℤ). vector a b) (times_part n) (times_part n) where
  vector : ℤ → ℤ → Vector
  vector a b = record { x = a; y = b }

one_part : (z : ℤ) → pos 1 *ℤ z ≡ z
one_part (pos n) = omega (arith, ints)
one_part (negsuc n) = omega (arith, ints)

pub times_one : (v : Vector) → vector_times 1 v ≡ v
times_one v = ap₂ (λ (a b : ℤ). vector a b) (one_part v.x) (one_part v.y) where
  vector : ℤ → ℤ → Vector
  vector a b = record { x = a; y = b }
