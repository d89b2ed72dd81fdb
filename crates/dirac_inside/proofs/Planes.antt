-- The range of the vectors that keep inside in a plane.
use Rattle.std.proofs.Common.{◌≡◌, ℕ, zero, suc, ℤ, pos, ◌+◌, ◌-◌, ◌*◌, ◌/◌, ◌^◌, ◌<◌, ◌≤◌, neg_ℤ, Bool, true, false, not, ◌&&◌, ◌||◌, ◌*ℤ◌, to_z, of_z, unsigned_abs, arith, refl, ap, inl, inr, sym, subst, ◌∙◌}
use Rattle.std.specs.Int.{w32, w64}
use Rattle.std.specs.Prelude.{int_le, ◌≤ℤ◌}
use Rattle.std.proofs.lemmas.Bool.{and_from, and_parts, cases_Bool, cases_lt, true≢false}
use Rattle.std.proofs.lemmas.Int.{ints, unsigned_abs-mul}
use Rattle.std.proofs.lemmas.Nat.{mul-le}
use Rattle.dirac_common.specs.declared.formats.Vector.{Vector}
use Rattle.dirac_inside.specs.Inside.{all_below, has_sample, holds, is_inside, plane_keeps, position, sample_keeps}
use Rattle.dirac_inside.specs.Ranges.{ArePlaces, IsComponentSpan, is_in}
use Rattle.dirac_inside.specs.declared.picture_blocks.PictureBlocks.{PictureBlocks}
use Rattle.dirac_inside.specs.declared.range.VectorRange.{VectorRange}
use Rattle.dirac_inside.proofs.Below.{all_from, all_tells, both_from, both_tells, le_from, le_tells, same_test}
use Rattle.dirac_inside.proofs.Places.{LiesIn, held_from, held_tells, span_from, span_tells}

-- what is asked of a sample that the block has
asked : (h k : Bool) → (not h || k) ≡ true → h ≡ true → k ≡ true
asked true k e is = e
asked false k e is = absurd (true≢false (sym is))

asks : (h k : Bool) → (h ≡ true → k ≡ true) → (not h || k) ≡ true
asks true k f = f refl
asks false k f = refl

-- what each sample of the block asks
pub plane_tells : (p : PictureBlocks) (across down q i j : ℕ) (v : Vector) → plane_keeps p across down q i j v ≡ true → (x y : ℕ) → x < p.width / across → y < p.height / down
    → has_sample p across down i j x y ≡ true → sample_keeps p across down q v x y ≡ true
plane_tells p across down q i j v e x y l m held =
    asked (has_sample p across down i j x y) (sample_keeps p across down q v x y)
    (all_tells (λ a. not (has_sample p across down i j a y) || sample_keeps p across down q v a y) (p.width / across)
    (all_tells (λ b. all_below (λ a. not (has_sample p across down i j a b) || sample_keeps p across down q v a b) (p.width / across)) (p.height / down) e y m) x l) held

pub plane_from : (p : PictureBlocks) (across down q i j : ℕ) (v : Vector)
    → ((x y : ℕ) → x < p.width / across → y < p.height / down → has_sample p across down i j x y ≡ true → sample_keeps p across down q v x y ≡ true) → plane_keeps p across down q i j v ≡ true
plane_from p across down q i j v h =
    all_from (λ b. all_below (λ a. not (has_sample p across down i j a b) || sample_keeps p across down q v a b) (p.width / across)) (p.height / down)
    (λ y m. all_from (λ a. not (has_sample p across down i j a y) || sample_keeps p across down q v a y) (p.width / across)
    (λ x l. asks (has_sample p across down i j x y) (sample_keeps p across down q v x y) (h x y l m)))

-- the places of block i of row j in a plane
pub record AreBlockPlaces (p : PictureBlocks) (across down i j left right top bottom : ℕ) : Type 0 where
  pub columns : ArePlaces i (p.grid.xblen / across) (p.grid.xbsep / across) (p.width / across) left right
  pub rows : ArePlaces j (p.grid.yblen / down) (p.grid.ybsep / down) (p.height / down) top bottom

-- where there are none, each vector keeps inside
pub none_keeps : (p : PictureBlocks) (across down q i j left right top bottom : ℕ) (v : Vector) → AreBlockPlaces p across down i j left right top bottom
    → (left < right → top < bottom → ⊥) → plane_keeps p across down q i j v ≡ true
none_keeps p across down q i j left right top bottom v are none =
    plane_from p across down q i j v (λ x y l m held.
    let parts = and_parts (holds i (p.grid.xblen / across) (p.grid.xbsep / across) x) (holds j (p.grid.yblen / down) (p.grid.ybsep / down) y) held in
    let column = held_tells i (p.grid.xblen / across) (p.grid.xbsep / across) (p.width / across) left right x are.columns l parts.0 in
    let row = held_tells j (p.grid.yblen / down) (p.grid.ybsep / down) (p.height / down) top bottom y are.rows m parts.1 in
    absurd (none (omega (arith, column.0, column.1)) (omega (arith, row.0, row.1))))

-- a component between two numbers
between_tells : (least most v : ℤ) (q ratio size first end : ℕ) → IsComponentSpan q ratio size first end least most → (int_le least v && int_le v most) ≡ true → LiesIn q ratio size first end v
between_tells least most v q ratio size first end is e =
    let are = both_tells least v v most e in
    record { least = subst (λ (z : ℤ). z ≤ℤ v) is.back are.0; most = subst (λ (z : ℤ). v ≤ℤ z) is.on are.1 }

between_from : (least most v : ℤ) (q ratio size first end : ℕ) → IsComponentSpan q ratio size first end least most → LiesIn q ratio size first end v → (int_le least v && int_le v most) ≡ true
between_from least most v q ratio size first end is lies =
    both_from least v v most (subst (λ (z : ℤ). z ≤ℤ v) (sym is.back) lies.least) (subst (λ (z : ℤ). v ≤ℤ z) (sym is.on) lies.most)

-- what is asked of ratios and precision
pub record IsFine (a d q : ℕ) : Type 0 where
  pub across : (1 ≤ a) × (a ≤ 2)
  pub down : (1 ≤ d) × (d ≤ 2)
  pub precision : q ≤ 3

-- where there are some, those keep inside that lie in the range
pub some_keep : (p : PictureBlocks) (across down q i j left right top bottom : ℕ) (r : VectorRange) (v : Vector) → IsFine across down q → AreBlockPlaces p across down i j left right top bottom
    → left < right → top < bottom → right ≤ p.width / across → bottom ≤ p.height / down
    → IsComponentSpan q across (p.width / across) left right r.left r.right → IsComponentSpan q down (p.height / down) top bottom r.top r.bottom → is_in r v ≡ plane_keeps p across down q i j v
some_keep p across down q i j left right top bottom r v fine are some_columns some_rows fits_across fits_down columns rows =
    same_test (is_in r v) (plane_keeps p across down q i j v) tells from
  where
    tells : is_in r v ≡ true → plane_keeps p across down q i j v ≡ true
    tells e =
        let parts = and_parts (int_le r.left v.x && int_le v.x r.right) (int_le r.top v.y && int_le v.y r.bottom) e in
        let lies_across = between_tells r.left r.right v.x q across (p.width / across) left right columns parts.0 in
        let lies_down = between_tells r.top r.bottom v.y q down (p.height / down) top bottom rows parts.1 in
        plane_from p across down q i j v (λ x y l m held.
        let both = and_parts (holds i (p.grid.xblen / across) (p.grid.xbsep / across) x) (holds j (p.grid.yblen / down) (p.grid.ybsep / down) y) held in
        let column = held_tells i (p.grid.xblen / across) (p.grid.xbsep / across) (p.width / across) left right x are.columns l both.0 in
        let row = held_tells j (p.grid.yblen / down) (p.grid.ybsep / down) (p.height / down) top bottom y are.rows m both.1 in
        and_from (is_inside q (p.width / across) (position q across x v.x)) (is_inside q (p.height / down) (position q down y v.y))
        (span_from q across (p.width / across) left right v.x fine.precision fine.across.0 fine.across.1 fits_across lies_across x column.0 column.1)
        (span_from q down (p.height / down) top bottom v.y fine.precision fine.down.0 fine.down.1 fits_down lies_down y row.0 row.1))

    held : (x y : ℕ) → left ≤ x → x < right → top ≤ y → y < bottom → has_sample p across down i j x y ≡ true
    held x y a b c d =
        and_from (holds i (p.grid.xblen / across) (p.grid.xbsep / across) x) (holds j (p.grid.yblen / down) (p.grid.ybsep / down) y)
        (held_from i (p.grid.xblen / across) (p.grid.xbsep / across) (p.width / across) left right x are.columns a b)
        (held_from j (p.grid.yblen / down) (p.grid.ybsep / down) (p.height / down) top bottom y are.rows c d)

    sample : plane_keeps p across down q i j v ≡ true → (x y : ℕ) → left ≤ x → x < right → top ≤ y → y < bottom → (is_inside q (p.width / across) (position q across x v.x) ≡ true) × (is_inside q (p.height / down) (position q down y v.y) ≡ true)
    sample e x y a b c d =
        and_parts (is_inside q (p.width / across) (position q across x v.x)) (is_inside q (p.height / down) (position q down y v.y))
        (plane_tells p across down q i j v e x y (omega arith) (omega arith) (held x y a b c d))

    from : plane_keeps p across down q i j v ≡ true → is_in r v ≡ true
    from e =
        and_from (int_le r.left v.x && int_le v.x r.right) (int_le r.top v.y && int_le v.y r.bottom)
        (between_from r.left r.right v.x q across (p.width / across) left right columns
        (span_tells q across (p.width / across) left right v.x fine.precision fine.across.0 fine.across.1 some_columns fits_across (λ x a b. (sample e x top a b (omega arith) some_rows).0)))
        (between_from r.top r.bottom v.y q down (p.height / down) top bottom rows
        (span_tells q down (p.height / down) top bottom v.y fine.precision fine.down.0 fine.down.1 some_rows fits_down (λ y c d. (sample e left y (omega arith) some_columns c d).1)))

-- ranges that are asked together
regrouped : (a b c d e f g h : Bool) → (((a && e) && (b && f)) && ((c && g) && (d && h))) ≡ (((a && b) && (c && d)) && ((e && f) && (g && h)))
regrouped a b c d e f g h =
    same_test (((a && e) && (b && f)) && ((c && g) && (d && h))) (((a && b) && (c && d)) && ((e && f) && (g && h)))
    (λ is.
    let across = and_parts ((a && e) && (b && f)) ((c && g) && (d && h)) is in
    let x = and_parts (a && e) (b && f) across.0 in
    let y = and_parts (c && g) (d && h) across.1 in
    let ae = and_parts a e x.0 in
    let bf = and_parts b f x.1 in
    let cg = and_parts c g y.0 in
    let dh = and_parts d h y.1 in
    and_from ((a && b) && (c && d)) ((e && f) && (g && h))
    (and_from (a && b) (c && d) (and_from a b ae.0 bf.0) (and_from c d cg.0 dh.0)) (and_from (e && f) (g && h) (and_from e f ae.1 bf.1) (and_from g h cg.1 dh.1)))
    (λ is.
    let both = and_parts ((a && b) && (c && d)) ((e && f) && (g && h)) is in
    let x = and_parts (a && b) (c && d) both.0 in
    let y = and_parts (e && f) (g && h) both.1 in
    let ab = and_parts a b x.0 in
    let cd = and_parts c d x.1 in
    let ef = and_parts e f y.0 in
    let gh = and_parts g h y.1 in
    and_from ((a && e) && (b && f)) ((c && g) && (d && h))
    (and_from (a && e) (b && f) (and_from a e ab.0 ef.0) (and_from b f ab.1 ef.1)) (and_from (c && g) (d && h) (and_from c g cd.0 gh.0) (and_from d h cd.1 gh.1)))

pub common_is : (a b r : VectorRange) (v : Vector) → int_le r.left v.x ≡ (int_le a.left v.x && int_le b.left v.x) → int_le v.x r.right ≡ (int_le v.x a.right && int_le v.x b.right)
    → int_le r.top v.y ≡ (int_le a.top v.y && int_le b.top v.y) → int_le v.y r.bottom ≡ (int_le v.y a.bottom && int_le v.y b.bottom) → is_in r v ≡ (is_in a v && is_in b v)
common_is a b r v left right top bottom =
    rw (left, right, top, bottom)
    (regrouped (int_le a.left v.x) (int_le v.x a.right) (int_le a.top v.y) (int_le v.y a.bottom) (int_le b.left v.x) (int_le v.x b.right) (int_le b.top v.y) (int_le v.y b.bottom))

-- values that pass through 64 bits, and through 32
pub plain : (z : ℤ) → unsigned_abs z ≤ 2 ^ 40 → to_z w64 (of_z w64 z) ≡ z
plain z few = omega (arith, ints)

pub plain_part : (z : ℤ) → unsigned_abs z ≤ 2 ^ 24 → to_z w32 (of_z w32 z) ≡ z
plain_part z few = omega (arith, ints)

pub between_as : (l x r l' x' r' : ℤ) → l ≡ l' → x ≡ x' → r ≡ r' → (int_le l x && int_le x r) ≡ (int_le l' x' && int_le x' r')
between_as l x r l' x' r' e f g = rw (e, f, g) refl

pub multiple_small : (n : ℕ) (z : ℤ) → n ≤ 256 → unsigned_abs z ≤ 2 ^ 24 → unsigned_abs (pos n *ℤ z) ≤ 2 ^ 32
multiple_small n z few small = omega (arith, unsigned_abs-mul (pos n) z, mul-le n (unsigned_abs z) 256 (2 ^ 24) few small)
