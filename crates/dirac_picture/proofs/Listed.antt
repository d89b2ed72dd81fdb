-- The bands of a plane, one more each time.
use Rattle.std.proofs.Common.{◌≡◌, ℕ, ◌<◌, List, [], ◌∷◌, ◌++◌, length, get_or, length-append, arith, ap, sym, ◌∙◌, subst, inl, inr, ◌⊎◌, Some}
use Rattle.std.specs.Prelude.{slice_get}
use Rattle.std.proofs.lemmas.Option.{slice_get_within, get_or_from_slice_get, slice_get-get_or}
use Rattle.std.proofs.lemmas.Bool.{cases_lt}
use Rattle.std.proofs.lemmas.List.{get_or_append_left}
use Rattle.std.proofs.Math.Seq.{get_or-append_seam}
use Rattle.dirac_parameters.specs.declared.transform.Transform.{Transform}
use Rattle.dirac_coeffs.specs.declared.layout.CodedBand.{CodedBand}
use Rattle.dirac_coeffs.specs.Grammar.{IsCodedBand}
use Rattle.dirac_picture.specs.Bands.{layout_of}
use Rattle.dirac_picture.specs.Fits.{AreBands}

-- what stands at a place of a list that is longer by one
pub last_or_before : {X : Type 0} (xs : List X) (y : X) (n : ℕ) (x : X) → slice_get (xs ++ y ∷ []) n ≡ Some x → (slice_get xs n ≡ Some x) ⊎ ((n ≡ length xs) × (y ≡ x))
last_or_before xs y n x is =
    let within : n < length (xs ++ y ∷ []) = slice_get_within (xs ++ y ∷ []) n x is in
    let there : get_or (xs ++ y ∷ []) n x ≡ x = get_or_from_slice_get (xs ++ y ∷ []) n x x is in
    elim (cases_lt n (length xs)) [
      | inl before ↦
          inl (slice_get-get_or xs n x before ∙ ap Some (sym (get_or_append_left xs (y ∷ []) x n before) ∙ there))
      | inr behind ↦
          let at : n ≡ length xs = omega (arith, length-append xs (y ∷ [])) in
          inr (at, sym (get_or-append_seam xs y [] x) ∙ ap (λ k. get_or (xs ++ y ∷ []) k x) (sym at) ∙ there)
    ]

-- a band more, as its place asks for
pub bands_more : (t : Transform) (width height : ℕ) (bands : List CodedBand) (b : CodedBand) → AreBands t width height bands
    → IsCodedBand (layout_of t width height (length bands)) b → AreBands t width height (bands ++ b ∷ [])
bands_more t width height bands b all one n x is =
    elim (last_or_before bands b n x is) [
      | inl before ↦ all n x before
      | inr last ↦
          let here : IsCodedBand (layout_of t width height n) b = subst (λ k. IsCodedBand (layout_of t width height k) b) (sym last.0) one in
          subst (λ y. IsCodedBand (layout_of t width height n) y) last.1 here
    ]
