-- What the tests of zeros decide, and that a test of a codeblock's values is the test of its definition.
use Rattle.std.proofs.Common.{◌≡◌, ℕ, zero, suc, ℤ, pos, negsuc, ◌+◌, ◌<◌, Bool, true, false, List, [], ◌∷◌, length, replicate, Decides, refl, sym, ap, ◌∙◌, arith, inl, inr}
use Rattle.std.specs.List.{list_all}
use Rattle.std.proofs.lemmas.Bool.{cases_Bool, cases_eq, and_parts, false≢true}
use Rattle.std.proofs.lemmas.Bool.Decides.{Decides-below_and, same_from_decides}
use Rattle.dirac_bands.specs.Geometry.{edge_of}
use Rattle.dirac_coeffs.specs.declared.layout.BandLayout.{BandLayout}
use Rattle.dirac_coeffs.specs.Carried.{IsZeroBlock}
use Rattle.dirac_coeffs.specs.Contexts.{band_value, is_zero}
use Rattle.dirac_coeffs.specs.Layouts.{codeblock_extent}
use Rattle.dirac_coeffs.specs.Written.{all_below, is_zero_block}

-- what the tests decide
all_decides : (p : ℕ → Bool) (P : ℕ → Type 0) → ((k : ℕ) → Decides (p k) (P k)) → (n : ℕ) → Decides (all_below p n) ((k : ℕ) → k < n → P k)
unfolding all_below
all_decides p P each n = Decides-below_and p P (all_below p) each refl (λ m. refl) n

pub zero_decides : (v : ℤ) → Decides (is_zero v) (v ≡ pos 0)
zero_decides (pos zero) = (λ e. refl, λ e. refl)
zero_decides (pos (suc n)) = (λ e. absurd (false≢true e), λ e. let none : suc n ≡ zero = cc in absurd (omega arith))
zero_decides (negsuc n) = (λ e. absurd (false≢true e), λ e. absurd (cc))

-- one more value is zero
pub zero_more : (f : ℕ → ℤ) (n : ℕ) → ((k : ℕ) → k < n → f k ≡ pos 0) → is_zero (f n) ≡ true → (k : ℕ) → k < n + 1 → f k ≡ pos 0
zero_more f n before e k l = elim (cases_eq k n) [
  | inl last ↦ rw last ((zero_decides (f n)).0 e)
  | inr other ↦ before k (omega (arith, l, other))
]

pub zero_block_decides : (layout : BandLayout) (xs : List ℤ) (cy cx : ℕ) → Decides (is_zero_block layout xs cy cx) (IsZeroBlock layout xs cy cx)
zero_block_decides layout xs cy cx =
    let left = edge_of layout.width layout.across cx in
    let top = edge_of layout.height layout.down cy in
    let at : ℕ → ℕ → ℤ = λ i j. band_value layout.width xs (left + i) (top + j) in
    let columns = codeblock_extent layout.width layout.across cx in
    let rows = codeblock_extent layout.height layout.down cy in
    let d =
    all_decides (λ i. all_below (λ j. is_zero (at i j)) rows) (λ i. (j : ℕ) → j < rows → at i j ≡ pos 0)
    (λ i. all_decides (λ j. is_zero (at i j)) (λ j. at i j ≡ pos 0) (λ j. zero_decides (at i j)) rows) columns in
    (λ e i j p q. d.0 e i p j q, λ z. d.1 (λ i p j q. z i j p q))

-- a test of a rectangle whose edges are the codeblock's
pub tests_block : (b : Bool) (layout : BandLayout) (xs : List ℤ) (cy cx left columns top rows : ℕ)
    → left ≡ edge_of layout.width layout.across cx → columns ≡ codeblock_extent layout.width layout.across cx → top ≡ edge_of layout.height layout.down cy → rows ≡ codeblock_extent layout.height layout.down cy
    → (b ≡ true → (i j : ℕ) → i < columns → j < rows → band_value layout.width xs (left + i) (top + j) ≡ pos 0)
    → (b ≡ false → ((i j : ℕ) → i < columns → j < rows → band_value layout.width xs (left + i) (top + j) ≡ pos 0) → ⊥)
    → b ≡ is_zero_block layout xs cy cx
tests_block b layout xs cy cx left columns top rows el ec et er zeros others =
    let Z = IsZeroBlock layout xs cy cx in
    let zeros' : b ≡ true → Z = rw (sym ec, sym er, sym el, sym et) zeros in
    let others' : b ≡ false → Z → ⊥ = rw (sym ec, sym er, sym el, sym et) others in
    same_from_decides b (is_zero_block layout xs cy cx) (zeros', λ z. elim (cases_Bool b) [ inl holds ↦ holds | inr fails ↦ absurd (others' fails z) ]) (zero_block_decides layout xs cy cx)

-- a list of zeros
pub all_zeros : (xs : List ℤ) → list_all is_zero xs ≡ true → xs ≡ replicate (length xs) (pos 0)
all_zeros [] h = refl
all_zeros (x ∷ xs) h =
    let both = and_parts (is_zero x) (list_all is_zero xs) h in
    let here : x ≡ pos 0 = (zero_decides x).0 both.0 in
    ap (λ z. z ∷ xs) here ∙ ap (λ l. pos 0 ∷ l) (all_zeros xs both.1)
