-- One band more in a chain.
use Rattle.std.proofs.Common.{◌≡◌, ℕ, zero, suc, ◌+◌, ◌-◌, ◌*◌, ◌<◌, ◌≤◌, inl, inr, List, [], ◌∷◌, ◌++◌, length, length-append, Option, Some, Ok, refl, ap, sym, subst, ◌∙◌, arith}
use Rattle.std.specs.Prelude.{slice_get}
use Rattle.std.proofs.lemmas.Option.{slice_get_within}
use Rattle.dirac_parameters.specs.declared.transform.Transform.{Transform}
use Rattle.dirac_coeffs.specs.declared.layout.CodedBand.{CodedBand}
use Rattle.dirac_coeffs.specs.Grammar.{IsCodedBand}
use Rattle.dirac_coeffs.specs.Sites.{Found, band_at}
use Rattle.dirac_picture.specs.Bands.{layout_of, values_among}
use Rattle.dirac_picture.specs.Chains.{chain_length, values_before, AreBandsOfOrientation, IsChain}
use Rattle.dirac_picture.proofs.Lengths.{parent_length}
use Rattle.dirac_picture.proofs.Listed.{last_or_before}

get_before : {X : Type 0} (xs : List X) (y : X) (i : ℕ) → i < length xs → slice_get (xs ++ y ∷ []) i ≡ slice_get xs i
get_before [] y i l = absurd (omega arith)
get_before (x ∷ xs) y zero l = refl
get_before (x ∷ xs) y (suc i) l = get_before xs y i (omega arith)

pub some_same : {X : Type 0} (x y : X) → Some x ≡ Some y → x ≡ y
some_same x y e = cc

-- the band behind has twice the sizes
pub next_twice : (t : Transform) (width height first k : ℕ) (b : CodedBand) → 1 ≤ first → first + 3 * (k + 1) ≤ 3 * t.depth
    → IsCodedBand (layout_of t width height (first + 3 * k)) b
    → ((layout_of t width height (first + 3 * (k + 1))).width ≡ 2 * b.table.width) × ((layout_of t width height (first + 3 * (k + 1))).height ≡ 2 * b.table.height)
unfolding layout_of
next_twice t width height first k b some inside is =
    let n : ℕ = first + 3 * (k + 1) in
    let low : n - 3 ≡ first + 3 * k = omega arith in
    let wide = parent_length width t.depth n (omega (arith, some)) inside in
    let high = parent_length height t.depth n (omega (arith, some)) inside in (
      rw low at wide ∙ ap (λ w. 2 * w) (sym is.width),
      rw low at high ∙ ap (λ w. 2 * w) (sym is.height),
    )

-- bands that are what their places ask for, with one more
pub lawful_more : (t : Transform) (width height first k : ℕ) (bands new : List CodedBand) (b : CodedBand) → length bands ≡ k → new ≡ bands ++ b ∷ []
    → IsCodedBand (layout_of t width height (first + 3 * k)) b → AreBandsOfOrientation t width height first bands → AreBandsOfOrientation t width height first new
lawful_more t width height first k bands new b count e one all j a isa =
    elim (last_or_before bands b j a (ap (λ (l : List CodedBand). slice_get l j) (sym e) ∙ isa)) [
      | inl before ↦ all j a before
      | inr last ↦
          let at : k ≡ j = sym count ∙ sym last.0 in
          subst (λ (y : CodedBand). IsCodedBand (layout_of t width height (first + 3 * j)) y) last.1
          (subst (λ i. IsCodedBand (layout_of t width height (first + 3 * i)) b) at one)
    ]

before_same : (bands : List CodedBand) (b : CodedBand) (k : ℕ) → k ≤ length bands → values_before (bands ++ b ∷ []) k ≡ values_before bands k
before_same bands b zero l = refl
before_same bands b (suc i) l = ap values_among (get_before bands b i (omega arith))

-- a chain with one more
pub chain_more : (t : Transform) (width height : ℕ) (sites : List (Option Found)) (first k : ℕ) (bands now new : List CodedBand) (b : CodedBand) (x : Option Found)
    → length bands ≡ k → now ≡ bands → new ≡ bands ++ b ∷ []
    → band_at (layout_of t width height (first + 3 * length now)) (values_before now (length now)) x ≡ Ok b
    → slice_get sites (first + 3 * k) ≡ Some x
    → IsChain t width height sites first bands → IsChain t width height sites first new
chain_more t width height sites first k bands now new b x count still e one isx chain j y a isy isa =
    let isa' : slice_get (bands ++ b ∷ []) j ≡ Some a = ap (λ (l : List CodedBand). slice_get l j) (sym e) ∙ isa in
    let within : j < length (bands ++ b ∷ []) = slice_get_within (bands ++ b ∷ []) j a isa' in
    let up : values_before new j ≡ values_before bands j =
    ap (λ (l : List CodedBand). values_before l j) e ∙ before_same bands b j (omega (arith, within, length-append bands (b ∷ []))) in
    subst (λ p. band_at (layout_of t width height (first + 3 * j)) p y ≡ Ok a) (sym up)
    (elim (last_or_before bands b j a isa') [
      | inl before ↦ chain j y a isy before
      | inr last ↦
          let at : j ≡ k = last.0 ∙ count in
          let site : x ≡ y = some_same x y (sym isx ∙ ap (λ i. slice_get sites (first + 3 * i)) (sym at) ∙ isy) in
          let here : band_at (layout_of t width height (first + 3 * length bands)) (values_before bands (length bands)) x ≡ Ok b =
          subst (λ (l : List CodedBand). band_at (layout_of t width height (first + 3 * length l)) (values_before l (length l)) x ≡ Ok b) still one in
          let moved : band_at (layout_of t width height (first + 3 * j)) (values_before bands j) x ≡ Ok b =
          subst (λ i. band_at (layout_of t width height (first + 3 * i)) (values_before bands i) x ≡ Ok b) (sym last.0) here in
          let placed : band_at (layout_of t width height (first + 3 * j)) (values_before bands j) y ≡ Ok b =
          subst (λ (q : Option Found). band_at (layout_of t width height (first + 3 * j)) (values_before bands j) q ≡ Ok b) site moved in
          placed ∙ ap Ok last.1
    ])

-- the bands of an orientation are among those of the plane
pub chain_inside : (t : Transform) (first k : ℕ) → first ≤ 3 → k < chain_length t first → first + 3 * k ≤ 3 * t.depth
chain_inside t zero k few inside = omega (arith, inside)
chain_inside t (suc first) k few inside = omega (arith, few, inside)

-- the others have a band before the one behind another
pub first_some : (first n : ℕ) → (first ≡ 0 → n ≡ 0) → 0 < n → 1 ≤ first
first_some zero n none some = let empty = none refl in absurd (omega (arith, empty, some))
first_some (suc first) n none some = omega arith
