-- The list of reference pictures: its length, and how pictures leave it one after another.
use Rattle.std.proofs.Common.{◌≡◌, ◌<◌, ◌≤◌, ◌==◌, List, [], ◌∷◌, ◌++◌, Option, None, Some, length, take, drop, ℕ, nat_le, Bool, true, false, if◌then◌else◌, not, refl, arith, length-append, length-drop}
use Rattle.std.proofs.lemmas.List.Sums.{length-filter, count_by-le-length}
use Rattle.dirac_common.specs.declared.picture.Picture.{Picture}
use Rattle.dirac_refs.specs.References.{without, retire, append, appended, committed, Commit, refs_from, RefsAreFew}

-- the list without a number is no longer
pub few_without : (n : ℕ) (list : List Picture) → length (without n list) ≤ length list
few_without n list =
    let test : Picture → Bool = λ p. not (p.number == n) in
    omega (arith, length-filter test list, count_by-le-length test list)

few_retired : (list : List Picture) (retired : Option ℕ) → length (retire list retired) ≤ length list
few_retired list None = omega arith
few_retired list (Some n) = few_without n list

few_with : (list : List Picture) (p : Picture) (b : Bool) → nat_le 8 (length list) ≡ b → length list ≤ 8 → length ((if b then drop 1 list else list) ++ p ∷ []) ≤ 8
few_with list p true e h = omega (arith, length-append (drop 1 list) (p ∷ []), length-drop 1 list)
few_with list p false e h = let below : length list < 8 = grind arith in omega (arith, length-append list (p ∷ []))

pub few_append : (list : List Picture) (p : Picture) → length list ≤ 8 → length (append list p) ≤ 8
few_append list p h = few_with list p (nat_le 8 (length list)) refl h

few_appended : (list : List Picture) (p : Option Picture) → length list ≤ 8 → length (appended list p) ≤ 8
few_appended list None h = h
few_appended list (Some p) h = few_append (without p.number list) p (omega (arith, few_without p.number list))

-- a coded picture leaves at most eight
pub few_committed : (list : List Picture) (retired : Option ℕ) (p : Option Picture) → length list ≤ 8 → length (committed list retired p) ≤ 8
few_committed list retired p h = few_appended (retire list retired) p (omega (arith, few_retired list retired))

few_from : (commits : List Commit) (list : List Picture) → length list ≤ 8 → length (refs_from list commits) ≤ 8
few_from [] list h = h
few_from (c ∷ commits) list h =
    few_from commits (committed list c.retired c.reference) (few_committed list c.retired c.reference h)

-- the law: there are at most eight
pub refs_few : RefsAreFew
refs_few commits = few_from commits [] (omega arith)

-- what is left of the list while its pictures are gone through
abbrev pub gone_through : ℕ → List Picture → ℕ → List Picture
gone_through n list i = take i list ++ without n (drop i list)
