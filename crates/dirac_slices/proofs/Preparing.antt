-- The rows of the call that prepares an inter picture, by planes.
use Rattle.std.proofs.Common.{◌≡◌, refl, subst, Option, ℕ, ◌+◌, ◌*◌, ◌/◌, ◌%◌, ◌<◌, List, None, Some, ap, sym, ◌∙◌, arith}
use Rattle.std.specs.Option.{ForSome}
use Rattle.dirac_sequence_header.specs.declared.sequence.Sequence.{Sequence}
use Rattle.dirac_content.specs.Predicting.{IsUpOfPart}
use Rattle.dirac_content.proofs.Covering.{lent_size}
use Rattle.std.specs.Prelude.{Err, IfOk, Ok, Result, slice_index_or, option_map}
use Rattle.dirac_common.specs.declared.formats.Component.{Component}
use Rattle.dirac_common.specs.declared.formats.Kind.TheVariants.{Inter}
use Rattle.dirac_common.specs.declared.picture.Picture.{Picture}
use Rattle.dirac_common.specs.Table.{Table}
use Rattle.dirac_upconvert.specs.SubSamples.{Up}
use Rattle.dirac_content.specs.Content.{IsPicture, plane_of, residual_among, up_of}
use Rattle.dirac_slices.specs.declared.prepared.Prepared.{Prepared}
use Rattle.dirac_slices.specs.Given.{Lent}
use Rattle.dirac_slices.specs.Places.{component_at}
use Rattle.dirac_slices.specs.Prepared.{residual_in, up_in, ArePrepared, IsPreparedAt}

-- the row of a plane's residual
pub prepared_residual : (g : Lent) (r : ℕ) (c : Component) (p : Prepared) → r % 3 ≡ 0 → c ≡ component_at (r / 3) → p.residual ≡ Some (residual_among g.sequence Inter c g.residual) → p.up ≡ None
    → IsPreparedAt g r p
prepared_residual g r c p place e residual up = record {
  residual = residual ∙ ap (λ d. residual_in g 0 d) e ∙ ap (λ n. residual_in g n (component_at (r / 3))) (sym place);
  up = up ∙ ap (λ n. up_in g n (component_at (r / 3))) (sym place);
}

-- that of its part of the first reference
pub prepared_first : (g : Lent) (r : ℕ) (c : Component) (p : Prepared) → r % 3 ≡ 1 → c ≡ component_at (r / 3) → p.residual ≡ None → p.up ≡ Some (up_of (plane_of g.first c))
    → IsPreparedAt g r p
prepared_first g r c p place e residual up = record {
  residual = residual ∙ ap (λ n. residual_in g n (component_at (r / 3))) (sym place);
  up = up ∙ ap (λ d. up_in g 1 d) e ∙ ap (λ n. up_in g n (component_at (r / 3))) (sym place);
}

-- that of its part of the second reference
pub prepared_second : (g : Lent) (r : ℕ) (c : Component) (p : Prepared) → r % 3 ≡ 2 → c ≡ component_at (r / 3) → p.residual ≡ None
    → p.up ≡ option_map (λ (s : Picture). up_of (plane_of s c)) g.second → IsPreparedAt g r p
prepared_second g r c p place e residual up = record {
  residual = residual ∙ ap (λ n. residual_in g n (component_at (r / 3))) (sym place);
  up = up ∙ ap (λ d. up_in g 2 d) e ∙ ap (λ n. up_in g n (component_at (r / 3))) (sym place);
}

-- what the rows of a plane made
pub residual_row : (g : Lent) (plane r : ℕ) (items : List Prepared) (d : Prepared) → plane < 3 → r ≡ 3 * plane → ArePrepared g items
    → (slice_index_or items r d).residual ≡ Some (residual_among g.sequence Inter (component_at plane) g.residual)
residual_row g plane r items d few is are =
    let at : IsPreparedAt g r (slice_index_or items r d) = are.1 r d (omega (arith, few, is)) in
    let place : r % 3 ≡ 0 = omega (arith, is) in
    let number : r / 3 ≡ plane = omega (arith, is) in
    at.residual ∙ ap (λ n. residual_in g n (component_at (r / 3))) place ∙ ap (λ n. residual_in g 0 (component_at n)) number

pub up_row : (g : Lent) (plane n r : ℕ) (items : List Prepared) (d : Prepared) → plane < 3 → n < 3 → r ≡ 3 * plane + n → ArePrepared g items
    → (slice_index_or items r d).up ≡ up_in g n (component_at plane)
up_row g plane n r items d few small is are =
    let at : IsPreparedAt g r (slice_index_or items r d) = are.1 r d (omega (arith, few, small, is)) in
    let place : r % 3 ≡ n = omega (arith, is, small) in
    let number : r / 3 ≡ plane = omega (arith, is, small) in
    at.up ∙ ap (λ m. up_in g m (component_at (r / 3))) place ∙ ap (λ m. up_in g n (component_at m)) number

-- the residual that a row made
pub residual_lent : (g : Lent) (plane r : ℕ) (items : List Prepared) (d : Prepared) (t : Table) → plane < 3 → r ≡ 3 * plane → ArePrepared g items
    → (slice_index_or items r d).residual ≡ Some t → t ≡ residual_among g.sequence Inter (component_at plane) g.residual
residual_lent g plane r items d t few is are some =
    let made : Some t ≡ Some (residual_among g.sequence Inter (component_at plane) g.residual) = sym some ∙ residual_row g plane r items d few is are in
    cc

pub residual_made : (g : Lent) (plane r : ℕ) (items : List Prepared) (d : Prepared) → plane < 3 → r ≡ 3 * plane → ArePrepared g items → (slice_index_or items r d).residual ≡ None → ⊥
residual_made g plane r items d few is are none =
    let made : None ≡ Some (residual_among g.sequence Inter (component_at plane) g.residual) = sym none ∙ residual_row g plane r items d few is are in
    cc

-- the plane of the first reference that a row made
pub up_lent : (g : Lent) (plane r : ℕ) (items : List Prepared) (d : Prepared) (u : Up) → plane < 3 → r ≡ 3 * plane + 1 → ArePrepared g items → (slice_index_or items r d).up ≡ Some u → u ≡ up_of (plane_of g.first (component_at plane))
up_lent g plane r items d u few is are some =
    let made : Some u ≡ Some (up_of (plane_of g.first (component_at plane))) = sym some ∙ up_row g plane 1 r items d few (omega arith) is are in
    cc

pub up_made : (g : Lent) (plane r : ℕ) (items : List Prepared) (d : Prepared) → plane < 3 → r ≡ 3 * plane + 1 → ArePrepared g items → (slice_index_or items r d).up ≡ None → ⊥
up_made g plane r items d few is are none =
    let made : None ≡ Some (up_of (plane_of g.first (component_at plane))) = sym none ∙ up_row g plane 1 r items d few (omega arith) is are in
    cc

-- a plane of the second reference has its size
second_lent : (s : Sequence) (second : Option Picture) (c : Component) → ForSome second (IsPicture s) → ForSome (option_map (λ (p : Picture). up_of (plane_of p c)) second) (IsUpOfPart s c)
second_lent s None c fits = λ u e. let both : None ≡ Some u = e in cc
second_lent s (Some p) c fits = λ u e. lent_size s p c (up_of (plane_of p c)) u (fits p refl) refl e

pub second_size : (s : Sequence) (second : Option Picture) (c : Component) (up : Option Up) → ForSome second (IsPicture s) → up ≡ option_map (λ (p : Picture). up_of (plane_of p c)) second → ForSome up (IsUpOfPart s c)
second_size s second c up fits is = subst (λ (o : Option Up). ForSome o (IsUpOfPart s c)) (sym is) (second_lent s second c fits)

-- what has two properties has a third
pub both_ok : {A E : Type 0} (P Q W : A → Type 0) (r : Result A E) → ((a : A) → P a → Q a → W a) → IfOk r P → IfOk r Q → IfOk r W
both_ok P Q W (Ok a) f p q = f a p q
both_ok P Q W (Err e) f p q = tt
