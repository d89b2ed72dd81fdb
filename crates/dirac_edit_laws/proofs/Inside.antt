-- Pictures that refer to none before their part are closed: with nothing listed at first, they find what they refer to.
use Rattle.std.proofs.Common.{◌≡◌, ℕ, suc, ◌<◌, ◌≤◌, ◌==◌, ◌&&◌, nat_le, not, if◌then◌else◌, Bool, true, false, List, [], ◌∷◌, ◌++◌, Option, None, Some, length, map, drop, filter, is_some, refl, sym, ◌∙◌, ap, ap₂, subst, arith, append_assoc, append-nil, length-append, ne_eqb}
use Rattle.std.specs.Prelude.{IfSome}
use Rattle.std.specs.List.{AllByRecursion}
use Rattle.std.proofs.lemmas.Bool.{and_parts}
use Rattle.std.proofs.lemmas.List.Elements.{filter-append}
use Rattle.dirac_common.specs.declared.picture.Picture.{Picture}
use Rattle.dirac_types.specs.declared.settings.Settings.{Settings}
use Rattle.dirac_common.specs.Codes.{is_reference}
use Rattle.dirac_picture.specs.Grammar.{are_listed, is_listed}
use Rattle.dirac_plan.specs.declared.planned.Planned.{Planned}
use Rattle.dirac_refs.specs.References.{append, appended, as_reference, committed, listed, retire, without}
use Rattle.dirac_refs.proofs.Listed.{few_committed, few_without}
use Rattle.dirac_encode_laws.specs.Coding.{coded_under, job_of, made, refs_after}
use Rattle.dirac_encode_laws.specs.Laws.{AreMade}
use Rattle.dirac_edit_laws.specs.Cut.{open_from}
use Rattle.dirac_edit_laws.specs.Rebuilt.{list_behind}
use Rattle.dirac_edit_laws.proofs.EncodedMade.{all_rebuilt, coded_from, index_up, points_up, rebuilt_made, refs_behind}
use Rattle.dirac_edit_laws.proofs.PlannedParts.{IsFrom}

-- ---- lists of pictures below a number

-- pictures numbered below this
abbrev pub AreBelow : ℕ → List Picture → Type 0
AreBelow low list = AllByRecursion (λ (p : Picture). p.number < low) list

below_filtered : (low : ℕ) (test : Picture → Bool) (list : List Picture) → AreBelow low list → AreBelow low (filter test list)
below_filtered low test [] all = tt
below_filtered low test (p ∷ list) all =
    let rest = below_filtered low test list all.1 in
    elim (test p) as (λ b. AreBelow low (if b then p ∷ filter test list else filter test list)) [
      | true ↦ (all.0, rest)
      | false ↦ rest
    ]

below_last : (low : ℕ) (list : List Picture) (p : Picture) → AreBelow low list → p.number < low → AreBelow low (list ++ p ∷ [])
below_last low [] p all less = (less, tt)
below_last low (q ∷ list) p all less = (all.0, below_last low list p all.1 less)

below_dropped : (low : ℕ) (list : List Picture) → AreBelow low list → AreBelow low (drop 1 list)
below_dropped low [] all = tt
below_dropped low (q ∷ list) all = all.1

below_retired : (low : ℕ) (retired : Option ℕ) (list : List Picture) → AreBelow low list → AreBelow low (retire list retired)
below_retired low None list all = all
below_retired low (Some n) list all = below_filtered low (λ p. not (p.number == n)) list all

below_appended : (low : ℕ) (list : List Picture) (p : Picture) → AreBelow low list → p.number < low → AreBelow low (append list p)
below_appended low list p all less =
    elim (nat_le 8 (length list)) as (λ b. AreBelow low ((if b then drop 1 list else list) ++ p ∷ [])) [
      | true ↦ below_last low (drop 1 list) p (below_dropped low list all) less
      | false ↦ below_last low list p all less
    ]

below_committed : (low : ℕ) (list : List Picture) (retired : Option ℕ) (code : ℕ) (p : Picture) → AreBelow low list → p.number < low → AreBelow low (committed list retired (as_reference code p))
below_committed low list retired code p all less =
    let left = below_retired low retired list all in
    elim (is_reference code) as (λ b. AreBelow low (appended (retire list retired) (if b then Some p else None))) [
      | true ↦ below_appended low (without p.number (retire list retired)) p (below_filtered low (λ q. not (q.number == p.number)) (retire list retired) left) less
      | false ↦ left
    ]

-- the list behind planned pictures of such numbers has such numbers, and at most eight
pub below_behind : (t : Settings) (pictures : List Picture) (low : ℕ) (qs : List Planned) (refs : List Picture) → AllByRecursion (λ (q : Planned). q.number < low) qs → AreBelow low refs → AreBelow low (refs_behind t pictures refs qs)
below_behind t pictures low [] refs all below = below
below_behind t pictures low (q ∷ qs) refs all below =
    let m = made t refs (job_of pictures q) in
    below_behind t pictures low qs (refs_after refs m) all.1 (below_committed low refs m.coded.header.retire m.coded.code m.shown below all.0)

pub few_behind : (t : Settings) (pictures : List Picture) (qs : List Planned) (refs : List Picture) → length refs ≤ 8 → length (refs_behind t pictures refs qs) ≤ 8
few_behind t pictures [] refs few = few
few_behind t pictures (q ∷ qs) refs few =
    let m = made t refs (job_of pictures q) in
    few_behind t pictures qs (refs_after refs m) (few_committed refs m.coded.header.retire (as_reference m.coded.code m.shown) few)

-- ---- the list of a part behind older pictures

-- the list of a part, behind pictures numbered below this
pub record IsBehind (low : ℕ) (whole part : List Picture) : Type 0 where
  pub older : List Picture
  pub split : whole ≡ older ++ part
  pub below : AreBelow low older

behind_without : (low n : ℕ) (whole part : List Picture) → IsBehind low whole part → IsBehind low (without n whole) (without n part)
behind_without low n whole part is = record {
  older = without n is.older;
  split = ap (without n) is.split ∙ filter-append (λ p. not (p.number == n)) is.older part;
  below = below_filtered low (λ p. not (p.number == n)) is.older is.below;
}

behind_retired : (low : ℕ) (retired : Option ℕ) (whole part : List Picture) → IsBehind low whole part → IsBehind low (retire whole retired) (retire part retired)
behind_retired low None whole part is = is
behind_retired low (Some n) whole part is = behind_without low n whole part is

-- a picture goes to the end
abbrev with_last : Picture → Bool → List Picture → List Picture
with_last p b list = (if b then drop 1 list else list) ++ p ∷ []

behind_last : (low : ℕ) (older part : List Picture) (p : Picture) (b c : Bool) → nat_le 8 (length (older ++ part)) ≡ b → nat_le 8 (length part) ≡ c → length (older ++ part) ≤ 8 → AreBelow low older
    → IsBehind low (with_last p b (older ++ part)) (with_last p c part)
behind_last low [] part p b c is is' few below = record { older = []; split = ap (λ (d : Bool). with_last p d part) (sym is ∙ is'); below = tt }
behind_last low (o ∷ older) part p b true is is' few below =
    let many : 8 ≤ length part = grind arith in
    absurd (omega (arith, length-append older part))
behind_last low (o ∷ older) part p true false is is' few below = record { older = older; split = append_assoc older part (p ∷ []); below = below.1 }
behind_last low (o ∷ older) part p false false is is' few below = record { older = o ∷ older; split = append_assoc (o ∷ older) part (p ∷ []); below = below }

behind_appended : (low : ℕ) (whole part : List Picture) (p : Picture) → length whole ≤ 8 → IsBehind low whole part → IsBehind low (append whole p) (append part p)
behind_appended low whole part p few is =
    subst (λ (l : List Picture). IsBehind low (append l p) (append part p)) (sym is.split)
    (behind_last low is.older part p (nat_le 8 (length (is.older ++ part))) (nat_le 8 (length part)) refl refl (subst (λ (l : List Picture). length l ≤ 8) is.split few) is.below)

behind_committed : (low : ℕ) (whole part : List Picture) (retired : Option ℕ) (reference : Option Picture) → length whole ≤ 8 → IsBehind low whole part
    → IsBehind low (committed whole retired reference) (committed part retired reference)
behind_committed low whole part retired None few is = behind_retired low retired whole part is
behind_committed low whole part retired (Some p) few is =
    let left = behind_retired low retired whole part is in
    behind_appended low (without p.number (retire whole retired)) (without p.number (retire part retired)) p
    (omega (arith, few, few_without p.number (retire whole retired), few_retired retired)) (behind_without low p.number (retire whole retired) (retire part retired) left)
  where
    few_retired : (r : Option ℕ) → length (retire whole r) ≤ length whole
    few_retired None = omega arith
    few_retired (Some n) = few_without n whole

-- what isn't older is found in the part's list
found_behind : (low n : ℕ) (older part : List Picture) → AreBelow low older → low ≤ n → is_listed (older ++ part) (Some n) ≡ true → is_listed part (Some n) ≡ true
found_behind low n [] part below up found = found
found_behind low n (o ∷ older) part below up found =
    let other : (o.number == n) ≡ false = ne_eqb o.number n (λ e. omega (arith, below.0, up, e)) in
    found_behind low n older part below.1 up (sym (ap (λ (b : Bool). is_some (if b then Some o else listed (older ++ part) n)) other) ∙ found)

found_inside : (low : ℕ) (whole part : List Picture) (o : Option ℕ) → IsBehind low whole part → IfSome o (λ r. low ≤ r) → is_listed whole o ≡ true → is_listed part o ≡ true
found_inside low whole part None is up found = refl
found_inside low whole part (Some n) is up found = found_behind low n is.older part is.below up (sym (ap (λ l. is_listed l (Some n)) is.split) ∙ found)

-- ---- the part is closed

pub closed_part : (t : Settings) (pictures : List Picture) (low : ℕ) (qs : List Planned) (refs list : List Picture) (index points : ℕ) → AreMade t refs (coded_from t refs (map (job_of pictures) qs)) → AllByRecursion (IsFrom low) qs
    → length refs ≤ 8 → IsBehind low refs list → open_from list (all_rebuilt index points (coded_from t refs (map (job_of pictures) qs))) ≡ None
unfolding coded_under open_from
closed_part t pictures low [] refs list index points all from few is = refl
closed_part t pictures low (q ∷ qs) refs list index points all from few is =
    let m = made t refs (job_of pictures q) in
    let r = rebuilt_made index points m in
    let rest = all_rebuilt (suc (index_up index m)) (points_up points m) (coded_from t (refs_after refs m) (map (job_of pictures) qs)) in
    let both = and_parts (is_listed refs q.ref1) (is_listed refs q.ref2) all.0.found in
    let found : are_listed list r.coded.header ≡ true =
    ap₂ (λ (a b : Bool). a && b) (found_inside low refs list q.ref1 is from.0.ref1 both.0) (found_inside low refs list q.ref2 is from.0.ref2 both.1) in
    ap (λ (b : Bool). if b then open_from (list_behind list r) rest else Some r.text.index) found
    ∙ closed_part t pictures low qs (refs_after refs m) (list_behind list r) (suc (index_up index m)) (points_up points m) all.1 from.1
    (few_committed refs m.coded.header.retire (as_reference m.coded.code m.shown) few)
    (behind_committed low refs list m.coded.header.retire (as_reference m.coded.code m.shown) few is)

-- with nothing listed before it
pub alone_behind : (low : ℕ) (refs : List Picture) → AreBelow low refs → IsBehind low refs []
alone_behind low refs below = record { older = refs; split = sym (append-nil refs); below = below }

-- ---- what is made of parts of a plan

pub made_front : (t : Settings) (pictures : List Picture) (xs ys : List Planned) (refs : List Picture) → AreMade t refs (coded_from t refs (map (job_of pictures) (xs ++ ys))) → AreMade t refs (coded_from t refs (map (job_of pictures) xs))
unfolding coded_under
made_front t pictures [] ys refs all = tt
made_front t pictures (x ∷ xs) ys refs all = (all.0, made_front t pictures xs ys (refs_after refs (made t refs (job_of pictures x))) all.1)

pub made_back : (t : Settings) (pictures : List Picture) (xs ys : List Planned) (refs : List Picture) → AreMade t refs (coded_from t refs (map (job_of pictures) (xs ++ ys)))
    → AreMade t (refs_behind t pictures refs xs) (coded_from t (refs_behind t pictures refs xs) (map (job_of pictures) ys))
unfolding coded_under
made_back t pictures [] ys refs all = all
made_back t pictures (x ∷ xs) ys refs all = made_back t pictures xs ys (refs_after refs (made t refs (job_of pictures x))) all.1
