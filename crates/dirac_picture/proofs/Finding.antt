-- One block more is found.
use Rattle.std.proofs.Common.{◌≡◌, ℕ, ◌+◌, ◌<◌, ◌≤◌, List, [], ◌∷◌, ◌++◌, length, length-append, Option, Some, Ok, inl, inr, refl, ap, sym, subst, ◌∙◌, arith}
use Rattle.std.specs.Prelude.{IfSome, slice_index_or}
use Rattle.std.specs.List.{All}
use Rattle.std.proofs.lemmas.Bool.{cases_lt}
use Rattle.std.proofs.lemmas.List.{get_or_append_left}
use Rattle.std.proofs.Math.Seq.{get_or-append_seam}
use Rattle.dirac_common.specs.Limits.{IsIndex}
use Rattle.dirac_bits.specs.Cursor.{Cursor}
use Rattle.dirac_bits.specs.Syntax.{read}
use Rattle.dirac_coeffs.specs.Sites.{Found, site}
use Rattle.dirac_picture.specs.Chains.{AreSites, IsMissing}

-- each block that is coded has an index of a quantiser
abbrev pub AreIndexed : List (Option Found) → Type 0
AreIndexed sites = All (λ x. IfSome x (λ s. IsIndex s.index)) sites

sites_behind : (c d e : Cursor) (xs : List (Option Found)) (y : Option Found) → AreSites c xs d → read site d ≡ Ok (y, e) → AreSites c (xs ++ y ∷ []) e
sites_behind c d e [] y same is = (e, ap (read site) same ∙ is, refl)
sites_behind c d e (x ∷ xs) y are is = (are.0, are.1, sites_behind are.0 d e xs y are.2 is)

-- what holds where there is one, of this one
pub some_found : {A : Type 0} (o : Option A) (x : A) (P : A → Type 0) → o ≡ Some x → IfSome o P → P x
some_found o x P is holds = subst (λ p. IfSome p P) is holds

sites_append : (c d e : Cursor) (xs ys : List (Option Found)) → AreSites c xs d → AreSites d ys e → AreSites c (xs ++ ys) e
sites_append c d e [] ys same are = subst (λ (x : Cursor). AreSites x ys e) (sym same) are
sites_append c d e (x ∷ xs) ys first second = (first.0, first.1, sites_append first.0 d e xs ys first.2 second)

-- a block that isn't found behind these isn't found among more
pub missing_behind : (c d : Cursor) (xs : List (Option Found)) (few more : ℕ) → AreSites c xs d → length xs + few ≤ more → IsMissing few d → IsMissing more c
missing_behind c d xs few more first inside m = record {
  before = xs ++ m.before;
  behind = m.behind;
  refusal = m.refusal;
  found = sites_append c d m.behind xs m.before first m.found;
  fewer = omega (arith, inside, m.fewer, length-append xs m.before);
  refused = m.refused;
}

pub sites_more : (c d e : Cursor) (xs new : List (Option Found)) (y : Option Found) → new ≡ xs ++ y ∷ [] → AreSites c xs d → read site d ≡ Ok (y, e) → AreSites c new e
sites_more c d e xs new y same are is = subst (λ (l : List (Option Found)). AreSites c l e) (sym same) (sites_behind c d e xs y are is)

pub indexed_more : (xs new : List (Option Found)) (y : Option Found) → new ≡ xs ++ y ∷ [] → IfSome y (λ s. IsIndex s.index) → AreIndexed xs → AreIndexed new
indexed_more xs new y same one all k d l =
    let within : k < length (xs ++ y ∷ []) = subst (λ (q : List (Option Found)). k < length q) same l in
    let moved : slice_index_or new k d ≡ slice_index_or (xs ++ y ∷ []) k d = ap (λ (q : List (Option Found)). slice_index_or q k d) same in
    elim (cases_lt k (length xs)) [
      | inl before ↦
          subst (λ (q : Option Found). IfSome q (λ s. IsIndex s.index)) (sym (moved ∙ get_or_append_left xs (y ∷ []) d k before)) (all k d before)
      | inr behind ↦
          let at : k ≡ length xs = omega (arith, within, length-append xs (y ∷ [])) in
          subst (λ (q : Option Found). IfSome q (λ s. IsIndex s.index)) (sym (moved ∙ ap (λ i. slice_index_or (xs ++ y ∷ []) i d) at ∙ get_or-append_seam xs y [] d)) one
    ]
