-- The references of the next planned picture are listed, whatever the bytes are.
use Rattle.std.proofs.Common.{◌≡◌, ℕ, zero, suc, ◌<◌, ◌≤◌, ◌^◌, Bool, true, false, List, [], ◌∷◌, ◌++◌, length, map, refl, sym, ap, ap₂, ◌∙◌, subst, arith, append_assoc, length-append, Option, Some, inl, inr}
use Rattle.std.specs.Prelude.{slice_get}
use Rattle.std.specs.List.{AllByRecursion}
use Rattle.std.proofs.lemmas.Bool.{cases_Bool}
use Rattle.std.proofs.lemmas.List.{length-map, map-append}
use Rattle.dirac_common.specs.declared.picture.Picture.{Picture}
use Rattle.dirac_types.specs.declared.settings.Settings.{Settings}
use Rattle.dirac_types.specs.Settings.{IsAccepted}
use Rattle.dirac_picture.specs.Grammar.{are_listed}
use Rattle.dirac_refs.specs.References.{committed}
use Rattle.dirac_content.specs.StreamState.{as_reference}
use Rattle.dirac_plan.specs.declared.planned.Planned.{Planned}
use Rattle.dirac_encode_laws.specs.Coded.{IsSource}
use Rattle.dirac_encode_laws.specs.Coding.{IndexRule, blank, made_under}
use Rattle.dirac_encode_laws.specs.Steps.{IsCoded, Progress}
use Rattle.dirac_encode_laws.proofs.Encodings.{all_more}
use Rattle.dirac_encode_laws.proofs.Sourcing.{all_committed, shown_source}
use Rattle.dirac_encode_progress.proofs.Going.{taken}
use Rattle.dirac_plan_laws.specs.References.{ReferencesAreFound, planned_number}
use Rattle.dirac_plan_laws.specs.Plans.{PlansCanBeCoded}
use Rattle.dirac_plan_laws.specs.Headers.{IsPlanned, header_of}
use Rattle.dirac_plan.specs.Waiting.{number_of}
use Rattle.dirac_plan.specs.Planning.{Planning, Takes, with_end, with_picture}
use Rattle.dirac_plan.specs.Plan.{plan}
use Rattle.dirac_encode_progress.specs.Going.{PlanIsListed, list_behind_all}
use Rattle.dirac_plan_laws.proofs.Each.{each_at}

-- a list behind others that has an item first
split_at : {X : Type 0} (xs rest : List X) (n : ℕ) (x : X) → n ≡ length xs → slice_get (xs ++ rest) n ≡ Some x → (more : List X) × (rest ≡ x ∷ more)
split_at [] [] n x e is = absurd (none n is)
  where
    none : (n : ℕ) → slice_get [] n ≡ Some x → ⊥
    none zero is = absurd cc
    none (suc n) is = absurd cc
split_at [] (y ∷ rest) zero x e is = let same : y ≡ x = cc in (rest, ap (λ z. z ∷ rest) same)
split_at [] (y ∷ rest) (suc n) x e is = absurd (omega (arith, e))
split_at (y ∷ xs) rest zero x e is = absurd (omega (arith, e))
split_at (y ∷ xs) rest (suc n) x e is = split_at xs rest n x (omega (arith, e)) is

-- any picture of a number
named_so : Planned → Picture
named_so q = record blank { number = q.number }

numbers_so : (qs : List Planned) → map number_of (map named_so qs) ≡ map planned_number qs
unfolding named_so
numbers_so [] = refl
numbers_so (q ∷ qs) = ap (λ ns. q.number ∷ ns) (numbers_so qs)

found_at : (refs : List Picture) (qs rest : List Planned) (q : Planned) (ps more : List Picture) (p : Picture) → length ps ≡ length qs → ReferencesAreFound refs (qs ++ q ∷ rest) (ps ++ p ∷ more) → are_listed (list_behind_all refs qs ps) (header_of q) ≡ true
found_at refs [] rest q [] more p e is = is.0
found_at refs [] rest q (x ∷ ps) more p e is = absurd (omega (arith, e))
found_at refs (r ∷ qs) rest q [] more p e is = absurd (omega (arith, e))
found_at refs (r ∷ qs) rest q (x ∷ ps) more p e is = found_at (committed refs r.retire (as_reference r.code x)) qs rest q ps more p (omega (arith, e)) is.1

refs_more : (refs : List Picture) (qs : List Planned) (q : Planned) (ps : List Picture) (p : Picture) → length ps ≡ length qs → list_behind_all refs (qs ++ q ∷ []) (ps ++ p ∷ []) ≡ committed (list_behind_all refs qs ps) q.retire (as_reference q.code p)
refs_more refs [] q [] p e = refl
refs_more refs [] q (x ∷ ps) p e = absurd (omega (arith, e))
refs_more refs (r ∷ qs) q [] p e = absurd (omega (arith, e))
refs_more refs (r ∷ qs) q (x ∷ ps) p e = refs_more (committed refs r.retire (as_reference r.code x)) qs q ps p (omega (arith, e))

-- the item that was given, of each plan that may come
item : (t : Settings) (ended : Bool) (p p' : Planning) (c : Progress) (q : Planned) (s : Picture) → p.settings ≡ t → p.given ≡ c.count → Takes ended p p' q s → (m : ℕ) → p.accepted ≤ m → (ended ≡ true → m ≡ p.accepted) → slice_get (plan m t) c.count ≡ Some q
item t ended p p' c q s same given takes m behind last =
    let at : slice_get (plan m t) c.count ≡ slice_get (plan m p.settings) p.given = ap₂ (λ (x : Settings) (n : ℕ). slice_get (plan m x) n) (sym same) (sym given) in
    elim (cases_Bool ended) [
      | inl is ↦ at ∙ ap (λ k. slice_get (plan k p.settings) p.given) (last is) ∙ takes.next
      | inr not ↦ at ∙ takes.lasting not m behind
    ]

same_length : (qs : List Planned) (ps : List Picture) → map number_of ps ≡ map planned_number qs → length ps ≡ length qs
same_length qs ps e = sym (length-map ps number_of) ∙ ap length e ∙ length-map qs planned_number

-- the given picture can be coded
pub lists_found : PlansCanBeCoded → (t : Settings) (ended : Bool) (p p' : Planning) (c : Progress) (q : Planned) (s : Picture) → IsAccepted t → p.settings ≡ t → PlanIsListed t ended p c → Takes ended p p' q s → (are_listed c.refs (header_of q) ≡ true) × IsPlanned q × IsSource t s × AllByRecursion (IsSource t) c.refs
lists_found plans t ended p p' c q s accepted same l takes =
    let m = p.accepted in
    let there = item t ended p p' c q s same l.given takes m (omega arith) (λ e. refl) in
    let b = l.begins m (omega arith) l.in_range (λ e. refl) in
    let rest = split_at l.qs b.0 c.count q (sym l.count) (ap (λ qs. slice_get qs c.count) (sym b.1) ∙ there) in
    let law = plans t m accepted l.in_range in
    let whole : plan m t ≡ l.qs ++ q ∷ rest.0 = b.1 ∙ ap (λ r. l.qs ++ r) rest.1 in
    let pictures = l.shown ++ map named_so (q ∷ rest.0) in
    let numbers : map number_of pictures ≡ map planned_number (plan m t) =
    map-append number_of l.shown (map named_so (q ∷ rest.0)) ∙ ap₂ (λ (a b : List ℕ). a ++ b) l.numbers (numbers_so (q ∷ rest.0)) ∙ sym (map-append planned_number l.qs (q ∷ rest.0)) ∙ ap (map planned_number) (sym whole) in
    let found : ReferencesAreFound [] (l.qs ++ q ∷ rest.0) pictures = subst (λ (qs : List Planned). ReferencesAreFound [] qs pictures) whole (law.found pictures numbers) in (
      ap (λ r. are_listed r (header_of q)) l.refs ∙ found_at [] l.qs rest.0 q l.shown (map named_so rest.0) (named_so q) (same_length l.qs l.shown l.numbers) found,
      each_at IsPlanned (plan m t) c.count q law.each there,
      (taken (IsSource t) takes.before takes.after s (subst (λ (ws : List Picture). AllByRecursion (IsSource t) ws) takes.waited l.sources)).0,
      l.listed,
    )

-- and those that wait behind it too
pub lists_behind : (t : Settings) (ended : Bool) (p p' : Planning) (c : Progress) (q : Planned) (s : Picture) → PlanIsListed t ended p c → Takes ended p p' q s → AllByRecursion (IsSource t) p'.waiting
lists_behind t ended p p' c q s l takes =
    subst (λ (ws : List Picture). AllByRecursion (IsSource t) ws) (sym takes.waiting) (taken (IsSource t) takes.before takes.after s (subst (λ (ws : List Picture). AllByRecursion (IsSource t) ws) takes.waited l.sources)).1

pub lists_more : (f : IndexRule) (t : Settings) (ended : Bool) (p p' : Planning) (c c' : Progress) (q : Planned) (s : Picture) (out out' side side' : Option (List ℕ)) → p.settings ≡ t → PlanIsListed t ended p c → Takes ended p p' q s
    → IsCoded t (made_under f t c.refs (record { planned = q; source = s })) c c' out out' side side' → PlanIsListed t ended p' c'
lists_more f t ended p p' c c' q s out out' side side' same l takes coded =
    let shown = (made_under f t c.refs (record { planned = q; source = s })).shown in
    record {
      qs = l.qs ++ q ∷ [];
      shown = l.shown ++ shown ∷ [];
      begins = λ m behind few last.
          let behind' : p.accepted ≤ m = omega (arith, behind, takes.accepted) in
          let last' : ended ≡ true → m ≡ p.accepted = λ e. last e ∙ takes.accepted in
          let b = l.begins m behind' few last' in
          let rest = split_at l.qs b.0 c.count q (sym l.count) (ap (λ qs. slice_get qs c.count) (sym b.1) ∙ item t ended p p' c q s same l.given takes m behind' last') in
          (rest.0, b.1 ∙ ap (λ r. l.qs ++ r) rest.1 ∙ sym (append_assoc l.qs (q ∷ []) rest.0));
      numbers = map-append number_of l.shown (shown ∷ []) ∙ ap (λ a. a ++ q.number ∷ []) l.numbers ∙ sym (map-append planned_number l.qs (q ∷ []));
      count = omega (arith, length-append l.qs (q ∷ []), l.count, coded.count);
      given = omega (arith, takes.given, l.given, coded.count);
      refs = coded.refs ∙ ap (λ r. committed r q.retire (as_reference q.code shown)) l.refs ∙ sym (refs_more [] l.qs q l.shown shown (same_length l.qs l.shown l.numbers));
      listed = subst (λ (r : List Picture). AllByRecursion (IsSource t) r) (sym coded.refs) (all_committed (IsSource t) c.refs q.retire q.code shown l.listed (shown_source f t c.refs (record { planned = q; source = s })));
      sources = lists_behind t ended p p' c q s l takes;
      in_range = omega (arith, takes.accepted, l.in_range);
    }

pub lists_first : (t : Settings) (p : Planning) (c : Progress) → p.accepted ≡ 0 → p.given ≡ 0 → c.count ≡ 0 → c.refs ≡ [] → p.waiting ≡ [] → PlanIsListed t false p c
lists_first t p c accepted given count refs waiting = record {
  qs = [];
  shown = [];
  begins = λ m behind few last. (plan m t, refl);
  numbers = refl;
  count = sym count;
  given = given ∙ sym count;
  refs = refs;
  listed = subst (λ (r : List Picture). AllByRecursion (IsSource t) r) (sym refs) tt;
  sources = subst (λ (r : List Picture). AllByRecursion (IsSource t) r) (sym waiting) tt;
  in_range = omega (arith, accepted);
}

pub lists_last : (t : Settings) (ended : Bool) (p : Planning) (c : Progress) → PlanIsListed t false p c → PlanIsListed t ended p c
lists_last t ended p c l = record {
  qs = l.qs;
  shown = l.shown;
  begins = λ m behind few last. l.begins m behind few (λ e. absurd cc);
  numbers = l.numbers;
  count = l.count;
  given = l.given;
  refs = l.refs;
  listed = l.listed;
  sources = l.sources;
  in_range = l.in_range;
}

pub lists_pushed : (t : Settings) (p q : Planning) (c : Progress) (s : Picture) → PlanIsListed t false p c → IsSource t s → q ≡ with_picture p s → p.accepted < 2 ^ 31 → PlanIsListed t false q c
lists_pushed t p q c s l source is few = subst (λ (x : Planning). PlanIsListed t false x c) (sym is) (record {
  qs = l.qs;
  shown = l.shown;
  begins = λ m behind small last. l.begins m (omega (arith, behind)) small (λ e. absurd cc);
  numbers = l.numbers;
  count = l.count;
  given = l.given;
  refs = l.refs;
  listed = l.listed;
  sources = all_more (IsSource t) p.waiting s l.sources source;
  in_range = omega (arith, few);
})

pub lists_told : (t : Settings) (ended told : Bool) (p p' : Planning) (c : Progress) → p' ≡ with_end p told → PlanIsListed t ended p c → PlanIsListed t ended p' c
lists_told t ended told p p' c is l = subst (λ (q : Planning). PlanIsListed t ended q c) (sym is) (record {
  qs = l.qs;
  shown = l.shown;
  begins = l.begins;
  numbers = l.numbers;
  count = l.count;
  given = l.given;
  refs = l.refs;
  listed = l.listed;
  sources = l.sources;
  in_range = l.in_range;
})
