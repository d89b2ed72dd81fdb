-- What may be written of bytes, where some of those left are read too, computed on a small case; and what a call may
-- not take.
use Rattle.std.proofs.Common.{◌≡◌, ◌∙◌, ℕ, List, [], ◌∷◌, ◌++◌, Option, Some, sym, ap, subst}
use Rattle.std.proofs.lemmas.List.{append-nil}
use Rattle.dirac_common.specs.declared.faults.Fault.{Fault}
use Rattle.dirac_common.specs.declared.picture.Picture.{Picture}
use Rattle.dirac_units.specs.Cut.{IsCut, UnitText, first_unit_place}
use Rattle.dirac_content.specs.Leaving.{leaving}
use Rattle.dirac_content.specs.Raw.{raws}
use Rattle.dirac_content.specs.Shown.{IsShown, Outcome, outcome}
use Rattle.dirac_content.specs.StreamState.{stream_begun}
use Rattle.dirac_decode.specs.declared.answers.Next.{Next}
use Rattle.dirac_decode.specs.Decoded.{IsFrontOfMore}
use Rattle.dirac_decode.specs.Decoding.{Decoding}
use Rattle.dirac_decode.specs.Stepping.{TakesUpTo}

-- no bytes show no picture
none_shown : (o : Outcome) (units : List UnitText) (end : Option Fault) → IsCut first_unit_place [] units end → outcome stream_begun first_unit_place units end ≡ o → o.shown ≡ []
unfolding outcome
none_shown o [] end cut is = sym (ap (λ (x : Outcome). x.shown) is)
none_shown o (unit ∷ units) end cut is = absurd cc

-- so a sink that took a byte of them is refused
taker_refused : IsFrontOfMore [] (Some []) (Some []) (Some (7 ∷ [])) → ⊥
taker_refused m =
    let left : m.rest ≡ [] = let is : Some [] ≡ Some m.rest = m.holds in cc in
    let front = m.shows [] [] left in
    let read : m.read ++ [] ≡ [] = sym (m.parts ∙ ap (λ (l : List ℕ). m.read ++ l) left) in
    let shows : IsShown [] front.0 = subst (λ (l : List ℕ). IsShown l front.0) read front.1 in
    let shown = none_shown front.0 shows.units shows.end shows.cut shows.same in
    none_taken front.2.0 front.2.1 (ap raws (sym shown) ∙ front.2.2) front.2.3
  where
    none_taken : (front rest : List ℕ) → [] ≡ front ++ rest → (7 ∷ []) ≡ front → ⊥
    none_taken [] rest parts took = absurd cc
    none_taken (x ∷ front) rest parts took = absurd cc

none_behind : (due : List Picture) (p : Picture) (ps : List Picture) → due ++ p ∷ ps ≡ [] → ⊥
none_behind [] p ps is = cc
none_behind (x ∷ due) p ps is = cc

-- a unit taken, or the end or a fault told, behind a unit with which a picture left
further_refused : (answer : Option Next) (old new : Decoding) (bytes : List ℕ) (held' : Option (List ℕ)) (takes : TakesUpTo answer old new (Some bytes) held') (unit : UnitText) (p : Picture) (ps : List Picture) → takes.passed.units ≡ unit ∷ [] → leaving old.state (unit ∷ []) ≡ p ∷ ps → ⊥
unfolding leaving
further_refused answer old new bytes held' takes unit p ps taken left =
    let front : old.due ++ leaving old.state (unit ∷ []) ≡ old.due ++ leaving old.state (takes.passed.units ++ []) =
    ap (λ (us : List UnitText). old.due ++ leaving old.state (us ++ [])) (sym taken) in
    none_behind old.due p ps
    (ap (λ (xs : List Picture). old.due ++ xs) (sym left) ∙ front ∙ takes.passed.leaves [] ∙ append-nil takes.before.due ∙ takes.none_due)
