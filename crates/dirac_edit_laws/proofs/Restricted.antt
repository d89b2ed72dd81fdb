-- The list of a part is the list of the whole, restricted.
use Rattle.std.proofs.Common.{◌≡◌, ◌≤◌, ◌==◌, List, [], ◌∷◌, ◌++◌, Option, None, Some, length, drop, ℕ, nat_le, Bool, true, false, if◌then◌else◌, not, refl, sym, ◌∙◌, ap, subst, arith, length-append, append_assoc, append-nil}
use Rattle.std.specs.List.{filter}
use Rattle.std.proofs.lemmas.List.Elements.{filter-append}
use Rattle.dirac_common.specs.declared.picture.Picture.{Picture}
use Rattle.dirac_refs.specs.References.{Commit, listed, without, retire, append, appended, committed, refs_from, refs_of}
use Rattle.dirac_refs.proofs.Listed.{few_committed, few_without, refs_few}
use Rattle.dirac_edit_laws.specs.Restricted.{IsRestricted, PartsKeepTheirLists}

-- what isn't listed isn't listed among fewer
none_front : (q : Picture) (list : List Picture) (n : ℕ) → listed (q ∷ list) n ≡ None → (q.number == n) ≡ false
none_front q list n is =
    elim (q.number == n) as (λ b. (if b then Some q else listed list n) ≡ None → b ≡ false) [
      | true ↦ λ e. absurd cc
      | false ↦ λ e. refl
    ] is

none_rest : (q : Picture) (list : List Picture) (n : ℕ) → listed (q ∷ list) n ≡ None → listed list n ≡ None
none_rest q list n is =
    elim (q.number == n) as (λ b. (if b then Some q else listed list n) ≡ None → listed list n ≡ None) [
      | true ↦ λ e. absurd cc
      | false ↦ λ e. e
    ] is

none_with : (q : Picture) (list : List Picture) (n : ℕ) → (q.number == n) ≡ false → listed list n ≡ None → listed (q ∷ list) n ≡ None
none_with q list n other none = ap (λ (b : Bool). if b then Some q else listed list n) other ∙ none

none_filtered : (test : Picture → Bool) (list : List Picture) (n : ℕ) → listed list n ≡ None → listed (filter test list) n ≡ None
none_filtered test [] n none = refl
none_filtered test (q ∷ list) n none =
    let later = none_filtered test list n (none_rest q list n none) in
    elim (test q) as (λ b. listed (if b then q ∷ filter test list else filter test list) n ≡ None) [
      | true ↦ none_with q (filter test list) n (none_front q list n none) later
      | false ↦ later
    ]

-- the number that was taken out
none_without : (n : ℕ) (list : List Picture) → listed (without n list) n ≡ None
none_without n [] = refl
none_without n (q ∷ list) =
    elim (q.number == n) as (λ b. (q.number == n) ≡ b → listed (if not b then q ∷ without n list else without n list) n ≡ None) [
      | true ↦ λ e. none_without n list
      | false ↦ λ e. none_with q (without n list) n e (none_without n list)
    ] refl

-- no number of the part is among those outside
abbrev Apart : List Picture → List Picture → Type 0
Apart outside part = (number : ℕ) (p : Picture) → listed part number ≡ Some p → listed outside number ≡ None

apart_filtered : (test : Picture → Bool) (outside part : List Picture) → Apart outside part → Apart (filter test outside) (filter test part)
apart_filtered test outside part apart number p is =
    elim (listed part number) as (λ o. listed part number ≡ o → listed (filter test outside) number ≡ None) [
      | None ↦ λ e. let none : listed (filter test part) number ≡ None = none_filtered test part number e in absurd cc
      | Some q ↦ λ e. none_filtered test outside number (apart number q e)
    ] refl

pub keeps_without : (n : ℕ) (whole part : List Picture) → IsRestricted whole part → IsRestricted (without n whole) (without n part)
keeps_without n whole part r =
    let test : Picture → Bool = λ p. not (p.number == n) in
    record {
      outside = without n r.outside;
      split = ap (without n) r.split ∙ filter-append test r.outside part;
      apart = apart_filtered test r.outside part r.apart;
    }

keeps_retire : (retired : Option ℕ) (whole part : List Picture) → IsRestricted whole part → IsRestricted (retire whole retired) (retire part retired)
keeps_retire None whole part r = r
keeps_retire (Some n) whole part r = keeps_without n whole part r

-- a picture goes to the end
abbrev with_last : Picture → Bool → List Picture → List Picture
with_last p b list = (if b then drop 1 list else list) ++ p ∷ []

-- what is listed behind pictures that have not its number
listed_last : (part : List Picture) (p : Picture) (number : ℕ) (q : Picture) → listed part number ≡ None → listed (part ++ p ∷ []) number ≡ Some q → (p.number == number) ≡ true
listed_last [] p number q none is =
    elim (p.number == number) as (λ b. (if b then Some p else None) ≡ Some q → b ≡ true) [
      | true ↦ λ e. refl
      | false ↦ λ e. absurd cc
    ] is
listed_last (x ∷ part) p number q none is =
    let other = none_front x part number none in
    let rest : listed (part ++ p ∷ []) number ≡ Some q = sym (ap (λ (b : Bool). if b then Some x else listed (part ++ p ∷ []) number) other) ∙ is in
    listed_last part p number q (none_rest x part number none) rest

apart_last : (outside part : List Picture) (p : Picture) → listed outside p.number ≡ None → Apart outside part → Apart outside (part ++ p ∷ [])
apart_last outside part p none apart number q is =
    elim (listed part number) as (λ o. listed part number ≡ o → listed outside number ≡ None) [
      | None ↦ λ e.
          let test : (p.number == number) ≡ true = listed_last part p number q e is in
          let same : p.number ≡ number = grind arith in
          subst (λ (n : ℕ). listed outside n ≡ None) same none
      | Some x ↦ λ e. apart number x e
    ] refl

keeps_last : (outside part : List Picture) (p : Picture) (b c : Bool) → nat_le 8 (length (outside ++ part)) ≡ b → nat_le 8 (length part) ≡ c → length (outside ++ part) ≤ 8
    → listed outside p.number ≡ None → Apart outside part → IsRestricted (with_last p b (outside ++ part)) (with_last p c part)
keeps_last [] part p b c is is' few none apart = record {
  outside = [];
  split = ap (λ (d : Bool). with_last p d part) (sym is ∙ is');
  apart = λ number q e. refl;
}
keeps_last (o ∷ outside) part p b true is is' few none apart =
    let many : 8 ≤ length part = grind arith in
    absurd (omega (arith, length-append outside part))
keeps_last (o ∷ outside) part p true false is is' few none apart = record {
  outside = outside;
  split = append_assoc outside part (p ∷ []);
  apart = apart_last outside part p (none_rest o outside p.number none) (λ number q e. none_rest o outside number (apart number q e));
}
keeps_last (o ∷ outside) part p false false is is' few none apart = record {
  outside = o ∷ outside;
  split = append_assoc (o ∷ outside) part (p ∷ []);
  apart = apart_last (o ∷ outside) part p none apart;
}

keeps_append : (whole part : List Picture) (p : Picture) → IsRestricted whole part → length whole ≤ 8 → listed whole p.number ≡ None → IsRestricted (append whole p) (append part p)
keeps_append whole part p r few none =
    let outside = r.outside in
    let few' : length (outside ++ part) ≤ 8 = subst (λ (l : List Picture). length l ≤ 8) r.split few in
    let none' : listed (outside ++ part) p.number ≡ None = subst (λ (l : List Picture). listed l p.number ≡ None) r.split none in
    subst (λ (l : List Picture). IsRestricted (append l p) (append part p)) (sym r.split)
    (keeps_last outside part p (nat_le 8 (length (outside ++ part))) (nat_le 8 (length part)) refl refl few' (none_before outside part p.number none') r.apart)
  where
    none_before : (outside part : List Picture) (n : ℕ) → listed (outside ++ part) n ≡ None → listed outside n ≡ None
    none_before [] part n none = refl
    none_before (q ∷ outside) part n none =
        none_with q outside n (none_front q (outside ++ part) n none) (none_before outside part n (none_rest q (outside ++ part) n none))

keeps_appended : (reference : Option Picture) (whole part : List Picture) → IsRestricted whole part → length whole ≤ 8 → IsRestricted (appended whole reference) (appended part reference)
keeps_appended None whole part r few = r
keeps_appended (Some p) whole part r few =
    keeps_append (without p.number whole) (without p.number part) p (keeps_without p.number whole part r) (omega (arith, few_without p.number whole)) (none_without p.number whole)

-- one coded picture more, in the whole and in the part
pub keeps_committed : (whole part : List Picture) (retired : Option ℕ) (reference : Option Picture) → IsRestricted whole part → length whole ≤ 8
    → IsRestricted (committed whole retired reference) (committed part retired reference)
keeps_committed whole part retired reference r few =
    keeps_appended reference (retire whole retired) (retire part retired) (keeps_retire retired whole part r) (few_committed whole retired None few)

pub keeps_from : (commits : List Commit) (whole part : List Picture) → IsRestricted whole part → length whole ≤ 8 → IsRestricted (refs_from whole commits) (refs_from part commits)
keeps_from [] whole part r few = r
keeps_from (c ∷ commits) whole part r few =
    keeps_from commits (committed whole c.retired c.reference) (committed part c.retired c.reference) (keeps_committed whole part c.retired c.reference r few) (few_committed whole c.retired c.reference few)

-- before the part nothing of it is listed
pub none_yet : (whole : List Picture) → IsRestricted whole []
none_yet whole = record { outside = whole; split = sym (append-nil whole); apart = λ number p is. absurd cc }

from_append : (xs ys : List Commit) (list : List Picture) → refs_from list (xs ++ ys) ≡ refs_from (refs_from list xs) ys
from_append [] ys list = refl
from_append (x ∷ xs) ys list = from_append xs ys (committed list x.retired x.reference)

-- the law: the list of a part is the list of the whole, restricted
pub parts_restricted : PartsKeepTheirLists
parts_restricted before part =
    subst (λ (l : List Picture). IsRestricted l (refs_of part)) (sym (from_append before part []))
    (keeps_from part (refs_of before) [] (none_yet (refs_of before)) (refs_few before))

-- what the part lists is what the whole lists
pub listed_in_whole : (whole part : List Picture) (n : ℕ) (p : Picture) → IsRestricted whole part → listed part n ≡ Some p → listed whole n ≡ Some p
listed_in_whole whole part n p r is =
    ap (λ (l : List Picture). listed l n) r.split ∙ passes r.outside part n (r.apart n p is) ∙ is
  where
    passes : (outside part : List Picture) (n : ℕ) → listed outside n ≡ None → listed (outside ++ part) n ≡ listed part n
    passes [] part n none = refl
    passes (q ∷ outside) part n none =
        ap (λ (b : Bool). if b then Some q else listed (outside ++ part) n) (none_front q outside n none) ∙ passes outside part n (none_rest q outside n none)
