-- Predictions read neighbours alone.
use Rattle.std.proofs.Common.{◌≡◌, ℕ, ℤ, ◌+◌, ◌-◌, ◌*◌, inl, inr, refl, sym, ap, arith, subst, length, Option, Some, None, Bool, true, false}
use Rattle.std.specs.Prelude.{option_map}
use Rattle.std.proofs.lemmas.Bool.{cases_eq, cases_lt, eq-eqb, ne_eqb}
use Rattle.std.proofs.lemmas.List.{get_or_past}
use Rattle.dirac_common.specs.declared.formats.Vector.{Vector}
use Rattle.dirac_common.specs.Samples.{mean_of_three}
use Rattle.dirac_vectors.proofs.Means.{mean_of_two_short, mean_of_three_short, median_short}
use Rattle.dirac_vectors.specs.Neighbours.{IsShort, median}
use Rattle.dirac_vectors.specs.Predictions.{IsShortVector, of_neighbours, vector_of, dc_of, mode_of}
use Rattle.dirac_block_table.specs.declared.block.Block.{Block}
use Rattle.dirac_common.specs.declared.formats.Component.{Component}
use Rattle.dirac_common.specs.declared.formats.Component.TheVariants as components
use Rattle.dirac_block_table.specs.declared.reference.Reference.{Reference}
use Rattle.dirac_block_table.specs.declared.reference.Reference.TheVariants as references
use Rattle.dirac_blocks.specs.Decisions.{left_of, above_of, corner_of, predicted, counted, ref1_at, ref2_at, is_dc_at}
use Rattle.dirac_blocks.specs.Grammar.{block_using, is_dc}
use Rattle.dirac_blocks.specs.Parts.{vector_at, dc_at}
use Rattle.dirac_block_table.specs.Tables.{BlockTable, IsBlock, IsBlockTable, block_at, grey}
pub use Rattle.dirac_block_table.proofs.Empty.{grey_lawful}
use Rattle.dirac_block_table.proofs.Empty.{none_short, zero_short}
use Rattle.dirac_blocks.proofs.Going.{Same}

-- what two tables have in common left, above and above and left of a place
pub record Near (t u : BlockTable) (i j : ℕ) : Type 0 where
  pub left : (i ≡ 0 → ⊥) → block_at t (i - 1) j ≡ block_at u (i - 1) j
  pub above : (j ≡ 0 → ⊥) → block_at t i (j - 1) ≡ block_at u i (j - 1)
  pub corner : (i ≡ 0 → ⊥) → (j ≡ 0 → ⊥) → block_at t (i - 1) (j - 1) ≡ block_at u (i - 1) (j - 1)

-- the same blocks left of column `right` and above row `bottom`
abbrev pub SameWithin : BlockTable → BlockTable → ℕ → ℕ → Type 0
SameWithin t u right bottom = Same block_at t u right bottom

pub near_within : (t u : BlockTable) (i j : ℕ) → SameWithin t u i (j + 1) → SameWithin t u (i + 1) j → Near t u i j
near_within t u i j before over =
    record {
      left = λ some. before.each (i - 1) j (omega arith) (omega arith);
      above = λ some. over.each i (j - 1) (omega arith) (omega arith);
      corner = λ some more. before.each (i - 1) (j - 1) (omega arith) (omega arith);
    }

-- what holds of the neighbours of two places, where there are none too
pub left_holds : {A B : Type 0} (R : Option A → Option B → Type 0) (f : ℕ → ℕ → Option A) (g : ℕ → ℕ → Option B) (i j : ℕ)
    → R None None → ((i ≡ 0 → ⊥) → R (f (i - 1) j) (g (i - 1) j)) → R (left_of f i j) (left_of g i j)
left_holds R f g i j none some =
    elim (cases_eq i 0) [
      | inl e ↦ rw (eq-eqb i 0 e) none
      | inr n ↦ rw (ne_eqb i 0 n) (some n)
    ]

pub above_holds : {A B : Type 0} (R : Option A → Option B → Type 0) (f : ℕ → ℕ → Option A) (g : ℕ → ℕ → Option B) (i j : ℕ)
    → R None None → ((j ≡ 0 → ⊥) → R (f i (j - 1)) (g i (j - 1))) → R (above_of f i j) (above_of g i j)
above_holds R f g i j none some = left_holds R (λ y x. f x y) (λ y x. g x y) j i none some

pub corner_holds : {A B : Type 0} (R : Option A → Option B → Type 0) (f : ℕ → ℕ → Option A) (g : ℕ → ℕ → Option B) (i j : ℕ)
    → R None None → ((i ≡ 0 → ⊥) → (j ≡ 0 → ⊥) → R (f (i - 1) (j - 1)) (g (i - 1) (j - 1))) → R (corner_of f i j) (corner_of g i j)
corner_holds R f g i j none some =
    left_holds R (above_of f) (above_of g) i j none (λ n. above_holds R f g (i - 1) j none (some n))

pub predicted_same : {A B : Type 0} (prediction : Option A → Option A → Option A → B) (f g : ℕ → ℕ → Option A) (i j : ℕ)
    → ((i ≡ 0 → ⊥) → f (i - 1) j ≡ g (i - 1) j) → ((j ≡ 0 → ⊥) → f i (j - 1) ≡ g i (j - 1)) → ((i ≡ 0 → ⊥) → (j ≡ 0 → ⊥) → f (i - 1) (j - 1) ≡ g (i - 1) (j - 1))
    → predicted prediction f i j ≡ predicted prediction g i j
predicted_same {A = A} prediction f g i j left above corner =
    let same = λ (o p : Option A). o ≡ p in
    rw (left_holds same f g i j refl left, above_holds same f g i j refl above, corner_holds same f g i j refl corner) refl

-- a prediction from what each block shows
view_near : {A B : Type 0} (prediction : Option A → Option A → Option A → B) (view : Block → Option A) (t u : BlockTable) (i j : ℕ) → Near t u i j
    → predicted prediction (λ x y. view (block_at t x y)) i j ≡ predicted prediction (λ x y. view (block_at u x y)) i j
view_near prediction view t u i j near =
    predicted_same prediction (λ x y. view (block_at t x y)) (λ x y. view (block_at u x y)) i j (λ p. ap view (near.left p)) (λ p. ap view (near.above p)) (λ p q. ap view (near.corner p q))

-- which references a block uses
pub ref1_near : (t u : BlockTable) (i j : ℕ) → Near t u i j → predicted mode_of (ref1_at t) i j ≡ predicted mode_of (ref1_at u) i j
ref1_near t u i j near = view_near mode_of (λ b. Some b.ref1) t u i j near

pub ref2_near : (t u : BlockTable) (i j : ℕ) → Near t u i j → predicted mode_of (ref2_at t) i j ≡ predicted mode_of (ref2_at u) i j
ref2_near t u i j near = view_near mode_of (λ b. Some b.ref2) t u i j near

pub vector_near : (k : Reference) (t u : BlockTable) (i j : ℕ) → Near t u i j → predicted vector_of (vector_at k t) i j ≡ predicted vector_of (vector_at k u) i j
vector_near references.First t u i j near = view_near vector_of (λ b. counted b.ref1 b.v1) t u i j near
vector_near references.Second t u i j near = view_near vector_of (λ b. counted b.ref2 b.v2) t u i j near

pub dc_near : (k : Component) (t u : BlockTable) (i j : ℕ) → Near t u i j → predicted dc_of (dc_at k t) i j ≡ predicted dc_of (dc_at k u) i j
dc_near components.Y t u i j near = view_near dc_of (λ b. counted (is_dc b) b.dc_y) t u i j near
dc_near components.U t u i j near = view_near dc_of (λ b. counted (is_dc b) b.dc_u) t u i j near
dc_near components.V t u i j near = view_near dc_of (λ b. counted (is_dc b) b.dc_v) t u i j near

-- a block all of whose values are 0
pub using_lawful : (refs : ℕ) (a b : Bool) → (refs ≡ 1 → b ≡ false) → IsBlock refs (block_using a b)
using_lawful refs a b single =
    record { second = single; v1 = none_short; v2 = none_short; dc_y = zero_short; dc_u = zero_short; dc_v = zero_short; no_v1 = λ e. refl; no_v2 = λ e. refl; no_dc = λ e. (refl, refl, refl) }

pub block_lawful : (t : BlockTable) (i j : ℕ) → IsBlockTable t → IsBlock t.refs (block_at t i j)
block_lawful t i j inv =
    let place = j * (4 * t.across) + i in
    elim (cases_lt place (length t.blocks)) [
      | inl inside ↦ inv.blocks place grey inside
      | inr past ↦ subst (IsBlock t.refs) (sym (get_or_past t.blocks place grey past)) (grey_lawful t.refs)
    ]

-- what holds of a value, where there is one
abbrev pub OfSome : {A : Type 0} → (A → Type 0) → Option A → Type 0
OfSome P None = Unit {0}
OfSome P (Some x) = P x

-- predictions of values of 16 bits have 16 bits
of_neighbours_short : (three : ℤ → ℤ → ℤ → ℤ) → ((a b c : ℤ) → IsShort a → IsShort b → IsShort c → IsShort (three a b c)) → (l a c : Option ℤ)
    → OfSome IsShort l → OfSome IsShort a → OfSome IsShort c → IsShort (of_neighbours three l a c)
of_neighbours_short three of_three None None None p q r = zero_short
of_neighbours_short three of_three (Some l) None None p q r = p
of_neighbours_short three of_three None (Some a) None p q r = q
of_neighbours_short three of_three None None (Some c) p q r = r
of_neighbours_short three of_three (Some l) (Some a) None p q r = mean_of_two_short l a p q
of_neighbours_short three of_three (Some l) None (Some c) p q r = mean_of_two_short l c p r
of_neighbours_short three of_three None (Some a) (Some c) p q r = mean_of_two_short a c q r
of_neighbours_short three of_three (Some l) (Some a) (Some c) p q r = of_three l a c p q r

counted_short : {A : Type 0} (P : A → Type 0) (b : Bool) (v : A) → P v → OfSome P (counted b v)
counted_short P true v p = p
counted_short P false v p = tt

x_short : (v : Option Vector) → OfSome IsShortVector v → OfSome IsShort (option_map (λ w. w.x) v)
x_short None p = tt
x_short (Some v) p = p.x

y_short : (v : Option Vector) → OfSome IsShortVector v → OfSome IsShort (option_map (λ w. w.y) v)
y_short None p = tt
y_short (Some v) p = p.y

vectors_short : (k : Reference) (t : BlockTable) → IsBlockTable t → (x y : ℕ) → OfSome IsShortVector (vector_at k t x y)
vectors_short references.First t inv x y = counted_short IsShortVector (block_at t x y).ref1 (block_at t x y).v1 (block_lawful t x y inv).v1
vectors_short references.Second t inv x y = counted_short IsShortVector (block_at t x y).ref2 (block_at t x y).v2 (block_lawful t x y inv).v2

pub vector_short : (k : Reference) (t : BlockTable) (i j : ℕ) → IsBlockTable t → IsShortVector (predicted vector_of (vector_at k t) i j)
vector_short k t i j inv =
    let f = vector_at k t in
    let R = λ (o p : Option Vector). OfSome IsShortVector o in
    let l = left_holds R f f i j tt (λ n. vectors_short k t inv (i - 1) j) in
    let a = above_holds R f f i j tt (λ n. vectors_short k t inv i (j - 1)) in
    let c = corner_holds R f f i j tt (λ n n'. vectors_short k t inv (i - 1) (j - 1)) in
    record {
      x = of_neighbours_short median median_short _ _ _ (x_short (left_of f i j) l) (x_short (above_of f i j) a) (x_short (corner_of f i j) c);
      y = of_neighbours_short median median_short _ _ _ (y_short (left_of f i j) l) (y_short (above_of f i j) a) (y_short (corner_of f i j) c);
    }

dcs_short : (k : Component) (t : BlockTable) → IsBlockTable t → (x y : ℕ) → OfSome IsShort (dc_at k t x y)
dcs_short components.Y t inv x y = counted_short IsShort (is_dc_at t x y) (block_at t x y).dc_y (block_lawful t x y inv).dc_y
dcs_short components.U t inv x y = counted_short IsShort (is_dc_at t x y) (block_at t x y).dc_u (block_lawful t x y inv).dc_u
dcs_short components.V t inv x y = counted_short IsShort (is_dc_at t x y) (block_at t x y).dc_v (block_lawful t x y inv).dc_v

pub dc_short : (k : Component) (t : BlockTable) (i j : ℕ) → IsBlockTable t → IsShort (predicted dc_of (dc_at k t) i j)
dc_short k t i j inv =
    let f = dc_at k t in
    let R = λ (o p : Option ℤ). OfSome IsShort o in
    of_neighbours_short mean_of_three mean_of_three_short (left_of f i j) (above_of f i j) (corner_of f i j)
    (left_holds R f f i j tt (λ n. dcs_short k t inv (i - 1) j)) (above_holds R f f i j tt (λ n. dcs_short k t inv i (j - 1))) (corner_holds R f f i j tt (λ n n'. dcs_short k t inv (i - 1) (j - 1)))
