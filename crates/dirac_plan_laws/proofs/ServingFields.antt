-- Plans are served: those of frames, and those of fields.
use Rattle.std.proofs.Common.{◌≡◌, ℕ, zero, suc, ◌+◌, ◌-◌, ◌*◌, ◌/◌, ◌<◌, ◌≤◌, ◌==◌, ◌&&◌, true, if◌then◌else◌, nat_le, nat_lt, List, [], ◌∷◌, ◌++◌, Option, None, Some, map, length, min, option_map, refl, ap, subst, sym, ◌∙◌, arith, div-add-mod', div-mul-le_self, mul-le-mul_right, inl, inr}
use Rattle.std.specs.Prelude.{IfSome, ⊤}
use Rattle.std.specs.List.{flat_map, range_with_len}
use Rattle.std.proofs.lemmas.Bool.{cases_lt, cond-false, cond-true, le-ltb, lt-ltb}
use Rattle.std.proofs.lemmas.Nat.{mod_below}
use Rattle.std.proofs.lemmas.List.Concat.{flat_map-append}
use Rattle.std.proofs.lemmas.Option.{IfSome_then}
use Rattle.dirac_common.specs.declared.picture.Picture.{Picture}
use Rattle.dirac_types.specs.declared.settings.Settings.{Settings}
use Rattle.dirac_refs.specs.References.{committed, is_listed, refs_from}
use Rattle.dirac_plan.specs.declared.planned.Planned.{Planned}
use Rattle.dirac_plan.specs.Plan.{anchor_of, between_of, anchors_behind, field_of, field_or_first, fields_of, opening_of, second_of_anchor, retired_of, retired_of_former, step, group, group_at, group_count, frames_plan, plan}
use Rattle.dirac_plan.proofs.Anchors.{anchor_is, anchor_rises}
use Rattle.dirac_plan.proofs.Items.{former_below}
use Rattle.dirac_plan.proofs.Numbers.{either}
use Rattle.dirac_plan.specs.Waiting.{number_of}
use Rattle.dirac_plan_laws.specs.References.{ReferencesAreFound, AreListed, ArePlanned, AreServed, ReferencesAreKept, ReferencesAreListed, commits, list_with, planned_number}
use Rattle.dirac_plan_laws.proofs.Fields.{of_plan}
use Rattle.dirac_plan_laws.proofs.Listing.{EndsWith, anything, found, has, has_first, keeps, left_numbers, other_numbers}
use Rattle.dirac_plan_laws.proofs.ListingFields.{both_fields, ends_with, frame_appended, has_appended, has_fields, has_still, length-both_fields, length-numbers_with, numbers_with}
use Rattle.dirac_plan_laws.proofs.Serving.{ServedThen, both_listed, has_before, has_frames, has_last, has_opening, frames_plan_served, kept, next_kept, none_left, number, served_all, served_append}

none_more : (t : ℕ) → 2 * t + 0 ≡ 2 * t
none_more t = omega arith

-- the field of a frame that another one refers to
first_referred : (n t : ℕ) → field_or_first n 0 t ≡ 2 * t
first_referred n t =
    let P : ℕ → Type 0 = λ m. m ≡ 2 * t in
    either (nat_lt (2 * t + 0) n) P (2 * t + 0) (2 * t) (none_more t) refl

second_referred : (n t : ℕ) → 2 * t + 1 < n → field_or_first n 1 t ≡ 2 * t + 1
second_referred n t there = cond-true (nat_lt (2 * t + 1) n) (2 * t + 1) (2 * t) (lt-ltb (2 * t + 1) n there)

missing_referred : (n t : ℕ) → n ≤ 2 * t + 1 → field_or_first n 1 t ≡ 2 * t
missing_referred n t missing = cond-false (nat_lt (2 * t + 1) n) (2 * t + 1) (2 * t) (le-ltb (2 * t + 1) n missing)

listed_as : (list : List Picture) (m k : ℕ) → m ≡ k → is_listed list (Some k) ≡ true → is_listed list (Some m) ≡ true
listed_as list m k e h = ap (λ i. is_listed list (Some i)) e ∙ h

-- a field of a frame of which the second may be missing
second_served : (n t : ℕ) (x : Planned) (list : List Picture) (K : List Picture → Type 0)
    → (2 * t + 1 < n → AreListed list x × ((coded : Picture) → coded.number ≡ x.number → K (list_with list x coded)))
    → (n ≤ 2 * t + 1 → K list) → ServedThen list (if nat_lt (2 * t + 1) n then x ∷ [] else []) K
second_served n t x list K there missing = elim (cases_lt (2 * t + 1) n) [
  | inl two ↦ subst (λ xs. ServedThen list xs K) (sym (cond-true (nat_lt (2 * t + 1) n) (x ∷ []) [] (lt-ltb (2 * t + 1) n two))) (there two)
  | inr one ↦ subst (λ xs. ServedThen list xs K) (sym (cond-false (nat_lt (2 * t + 1) n) (x ∷ []) [] (le-ltb (2 * t + 1) n one))) (missing one)
]

-- both fields of a frame are listed, as another frame refers to them
record AreReferred (n t : ℕ) (list : List Picture) : Type 0 where
  pub first : is_listed list (Some (field_or_first n 0 t)) ≡ true
  pub second : is_listed list (Some (field_or_first n 1 t)) ≡ true

-- the fields between two anchors change nothing
between_fields_served : (n references before after : ℕ) (list : List Picture) (K : List Picture → Type 0) (numbers : List ℕ)
    → AreReferred n before list → AreReferred n after list → K list → ServedThen list (flat_map (fields_of n) (map (between_of references before after) numbers)) K
between_fields_served n references before after list K [] b a k = k
between_fields_served n references before after list K (m ∷ numbers) b a k =
    let rest = flat_map (fields_of n) (map (between_of references before after) numbers) in
    let more = between_fields_served n references before after list K numbers b a k in
    let P : Planned → Type 0 = λ f. ServedThen list (fields_of n f) (λ l. ServedThen l rest K) in
    let two : Planned = record { number = m; code = 0x0A; ref1 = Some before; ref2 = Some after; retire = None } in
    let one : Planned = record { number = m; code = 0x09; ref1 = Some before; ref2 = None; retire = None } in
    served_append (fields_of n (between_of references before after m)) rest list K
    (either (references == 2) P two one
    (both_listed list (field_of n 0 two) b.first a.first, λ coded e. second_served n m (field_of n 1 two) list (λ l. ServedThen l rest K) (λ _. (both_listed list (field_of n 1 two) b.second a.second, λ coded e. more)) (λ _. more))
    (both_listed list (field_of n 0 one) b.first refl, λ coded e. second_served n m (field_of n 1 one) list (λ l. ServedThen l rest K) (λ _. (both_listed list (field_of n 1 one) b.second refl, λ coded e. more)) (λ _. more)))

-- the list once the first field of an anchor is coded, and once the second one is
abbrev with_first : List Picture → Option ℕ → Picture → List Picture
with_first list retired coded = committed list (option_map (λ r. 2 * r + 0) retired) (Some coded)

abbrev with_second : List Picture → Option ℕ → Picture → List Picture
with_second list retired coded = committed list (option_map (λ r. 2 * r + 1) retired) (Some coded)

-- what the second field of an anchor needs, and what then holds
record SecondIsServed (n t before : ℕ) (second retired : Option ℕ) (list : List Picture) (K : List Picture → Type 0) : Type 0 where
  pub before_listed : is_listed list (Some (field_or_first n 1 before)) ≡ true
  pub second_listed : is_listed list (option_map (field_or_first n 1) second) ≡ true
  pub goes_on : (coded : Picture) → coded.number ≡ 2 * t + 1 → K (with_second list retired coded)

-- the fields of an anchor join the list
anchor_fields_served : (n t before : ℕ) (second retired : Option ℕ) (list : List Picture) (K : List Picture → Type 0)
    → is_listed list (Some (field_or_first n 0 before)) ≡ true → is_listed list (option_map (field_or_first n 0) second) ≡ true
    → ((coded : Picture) → coded.number ≡ 2 * t → 2 * t + 1 < n → SecondIsServed n t before second retired (with_first list retired coded) K)
    → ((coded : Picture) → coded.number ≡ 2 * t → n ≤ 2 * t + 1 → K (with_first list retired coded))
    → ServedThen list (fields_of n (anchor_of t before second retired)) K
anchor_fields_served n t before None retired list K b s there missing =
    let f : Planned = anchor_of t before None retired in (
      both_listed list (field_of n 0 f) b refl,
      λ coded e.
          let l = with_first list retired coded in
          second_served n t (field_of n 1 f) l K
          (λ two. let is = there coded (e ∙ none_more t) two in (both_listed l (field_of n 1 f) is.before_listed refl, is.goes_on))
          (missing coded (e ∙ none_more t)),
    )
anchor_fields_served n t before (Some second) retired list K b s there missing =
    let f : Planned = anchor_of t before (Some second) retired in (
      both_listed list (field_of n 0 f) b s,
      λ coded e.
          let l = with_first list retired coded in
          second_served n t (field_of n 1 f) l K
          (λ two. let is = there coded (e ∙ none_more t) two in (both_listed l (field_of n 1 f) is.before_listed is.second_listed, is.goes_on))
          (missing coded (e ∙ none_more t)),
    )

-- a second field that goes leaves a first one
other_left : (r : Option ℕ) (t : ℕ) → left_numbers (option_map (λ n. 2 * n + 1) r) (2 * t ∷ []) ≡ 2 * t ∷ []
other_left None t = refl
other_left (Some n) t = keeps (2 * n + 1) (2 * t) [] [] (λ e. omega arith) refl

-- the fields of a group's first frame do too
opening_fields_served : (s : Settings) (n first : ℕ) (list : List Picture) (K : List Picture → Type 0)
    → ((l : List Picture) → (2 * first + 1 < n → EndsWith l (both_fields (first ∷ []))) → K l) → ServedThen list (fields_of n (opening_of s first)) K
opening_fields_served s n first list K more = (
  refl,
  λ coded e.
      let retired = option_map (λ t. 2 * t + 0) (retired_of_former s first 0) in
      let l = committed list retired (Some coded) in
      let now : EndsWith l (2 * first ∷ []) =
      subst (λ (ns : List ℕ). EndsWith l (other_numbers (2 * first) ns ++ 2 * first ∷ [])) (none_left retired) (ends_with retired (2 * first) coded list [] (e ∙ none_more first) (omega arith) (anything list)) in
      second_served n first (field_of n 1 (opening_of s first)) l K
      (λ two. (
        both_listed l (field_of n 1 (opening_of s first)) (found (2 * first) l (2 * first ∷ []) now (has_first (2 * first) [])) refl,
        λ second same.
            let other = option_map (λ t. 2 * t + 1) (retired_of_former s first 0) in
            let numbers : numbers_with other (2 * first + 1) (2 * first ∷ []) ≡ both_fields (first ∷ []) =
            ap (λ m. other_numbers (2 * first + 1) m ++ (2 * first + 1) ∷ []) (other_left (retired_of_former s first 0) first)
            ∙ ap (λ m. m ++ (2 * first + 1) ∷ []) (keeps (2 * first + 1) (2 * first) [] [] (λ e. omega arith) refl) in
            more (committed l other (Some second)) (λ _. subst (EndsWith (committed l other (Some second))) numbers (ends_with other (2 * first + 1) second l (2 * first ∷ []) same (omega arith) now)),
      ))
      (λ one. more l (λ two. absurd (omega arith))),
)

-- an anchor retires one that was coded before the anchor that it refers to
retired_before : (s : Settings) (len first k : ℕ) → 0 < s.gop → k < anchors_behind s len → IfSome (retired_of s len first k) (λ r. r < number s len first k)
retired_before s len first zero some h = IfSome_then (retired_of_former s first 1) (former_below s first 1 some) (λ r below. omega arith)
retired_before s len first (suc zero) some h = IfSome_then (retired_of_former s first 2) (former_below s first 2 some) (λ r below. omega arith)
retired_before s len first (suc (suc k)) some h = let rises = anchor_rises s len (suc k) (omega arith) in omega arith

other_first : (retired : Option ℕ) (a : ℕ) → IfSome retired (λ r. r < a) → IfSome (option_map (λ r. 2 * r + 0) retired) (λ m. 2 * a ≡ m → ⊥)
other_first None a h = tt
other_first (Some r) a h = λ e. omega arith

other_parity : (retired : Option ℕ) (a : ℕ) → IfSome (option_map (λ r. 2 * r + 0) retired) (λ m. 2 * a + 1 ≡ m → ⊥)
other_parity None a = tt
other_parity (Some r) a = λ e. omega arith

-- a frame whose fields are listed
referred_whole : (n t : ℕ) (list : List Picture) (ns : List ℕ) → 2 * t + 1 < n → EndsWith list (both_fields ns) → has t ns ≡ true → AreReferred n t list
referred_whole n t list ns there ends h =
    let fields = has_fields t ns h in
    record {
      first = listed_as list (field_or_first n 0 t) (2 * t) (first_referred n t) (found (2 * t) list (both_fields ns) ends fields.0);
      second = listed_as list (field_or_first n 1 t) (2 * t + 1) (second_referred n t there) (found (2 * t + 1) list (both_fields ns) ends fields.1);
    }

-- the end of the list once the first field of anchor b is coded
abbrev EndsWithFirst : Option ℕ → ℕ → List ℕ → List Picture → Type 0
EndsWithFirst retired b ns list = EndsWith list (numbers_with (option_map (λ r. 2 * r + 0) retired) (2 * b) (both_fields ns))

ends_with_first : (retired : Option ℕ) (b : ℕ) (ns : List ℕ) (list : List Picture) (coded : Picture) → length ns < 4 → coded.number ≡ 2 * b → EndsWith list (both_fields ns)
    → EndsWithFirst retired b ns (with_first list retired coded)
ends_with_first retired b ns list coded few e ends = ends_with (option_map (λ r. 2 * r + 0) retired) (2 * b) coded list (both_fields ns) e (omega (arith, length-both_fields ns)) ends

second_listed : (n b first : ℕ) (retired : Option ℕ) (ns : List ℕ) (list : List Picture) → 2 * first + 1 < n → has first ns ≡ true → EndsWithFirst retired b ns list
    → is_listed list (Some (field_or_first n 1 first)) ≡ true
second_listed n b first retired ns list there h ends =
    listed_as list (field_or_first n 1 first) (2 * first + 1) (second_referred n first there)
    (found (2 * first + 1) list (numbers_with (option_map (λ r. 2 * r + 0) retired) (2 * b) (both_fields ns)) ends
    (has_still (2 * first + 1) (option_map (λ r. 2 * r + 0) retired) (2 * b) (both_fields ns) (λ e. omega arith) (other_parity retired first) (has_fields first ns h).1))

referred_still : (n a b : ℕ) (retired : Option ℕ) (ns : List ℕ) (list : List Picture) → 2 * a + 1 < n → a < b → IfSome retired (λ r. r < a) → has a ns ≡ true → EndsWithFirst retired b ns list
    → AreReferred n a list
referred_still n a b retired ns list there less before h ends = record {
  first =
      listed_as list (field_or_first n 0 a) (2 * a) (first_referred n a)
      (found (2 * a) list (numbers_with (option_map (λ r. 2 * r + 0) retired) (2 * b) (both_fields ns)) ends
      (has_still (2 * a) (option_map (λ r. 2 * r + 0) retired) (2 * b) (both_fields ns) (λ e. omega arith) (other_first retired a before) (has_fields a ns h).0));
  second = second_listed n b a retired ns list there h ends;
}

-- a last frame of one field
referred_alone : (n b : ℕ) (retired : Option ℕ) (ns : List ℕ) (list : List Picture) → n ≤ 2 * b + 1 → EndsWithFirst retired b ns list → AreReferred n b list
referred_alone n b retired ns list missing ends =
    let r = option_map (λ r. 2 * r + 0) retired in
    let first = found (2 * b) list (numbers_with r (2 * b) (both_fields ns)) ends (has_appended (2 * b) (other_numbers (2 * b) (left_numbers r (both_fields ns)))) in
    record {
      first = listed_as list (field_or_first n 0 b) (2 * b) (first_referred n b) first;
      second = listed_as list (field_or_first n 1 b) (2 * b) (missing_referred n b missing) first;
    }

-- the end of the list once the second field is coded too
ends_with_second : (retired : Option ℕ) (b : ℕ) (ns next : List ℕ) (list : List Picture) (coded : Picture) → length ns < 4 → coded.number ≡ 2 * b + 1 → numbers_with retired b ns ≡ next
    → EndsWithFirst retired b ns list → EndsWith (with_second list retired coded) (both_fields next)
ends_with_second retired b ns next list coded few e same ends =
    let r = option_map (λ r. 2 * r + 0) retired in
    let numbers : List ℕ = numbers_with r (2 * b) (both_fields ns) in
    subst (EndsWith (with_second list retired coded)) (frame_appended retired b ns ∙ ap both_fields same)
    (ends_with (option_map (λ r. 2 * r + 1) retired) (2 * b + 1) coded list numbers e (omega (arith, length-both_fields ns, length-numbers_with r (2 * b) (both_fields ns))) ends)

few_frames : (s : Settings) (len first k : ℕ) → length (kept s len first k) < 4
few_frames s len first zero = omega arith
few_frames s len first (suc zero) = omega arith
few_frames s len first (suc (suc k)) = omega arith

-- the first frame of a group isn't behind its anchors
opens_before : (s : Settings) (len first k : ℕ) → first ≤ number s len first k
opens_before s len first k = omega arith

step_fields_served : (s : Settings) (n len first k : ℕ) (list : List Picture) (K : List Picture → Type 0) → len ≤ s.gop → k < anchors_behind s len → 2 * number s len first (suc k) < n
    → EndsWith list (both_fields (kept s len first k))
    → ((l : List Picture) → (2 * number s len first (suc k) + 1 < n → EndsWith l (both_fields (kept s len first (suc k)))) → K l)
    → ServedThen list (flat_map (fields_of n) (step s len first k)) K
step_fields_served s n len first k list K short h inside ends more =
    let a : ℕ = number s len first k in
    let b : ℕ = number s len first (suc k) in
    let ns : List ℕ = kept s len first k in
    let retired : Option ℕ = retired_of s len first k in
    let rest : List Planned = flat_map (fields_of n) (map (between_of s.references a b) (range_with_len (a + 1) (b - a - 1))) in
    let rises = anchor_rises s len k h in
    let some = has_frames s len k h short in
    let opens = opens_before s len first k in
    let few = few_frames s len first k in
    let last = has_last s len first k in
    let start = has_opening s len first k in
    let whole : AreReferred n a list = referred_whole n a list ns (omega arith) ends last in
    let from : AreReferred n first list = referred_whole n first list ns (omega arith) ends start in
    let P : ℕ → List Picture → Option ℕ → Type 0 = λ p l o. is_listed l (option_map (field_or_first n p) o) ≡ true in
    served_append (fields_of n (anchor_of b a (second_of_anchor s first k) retired)) rest list K
    (anchor_fields_served n b a (second_of_anchor s first k) retired list (λ l. ServedThen l rest K)
    whole.first (either (s.references == 2 && nat_le 1 k) (P 0 list) (Some first) None from.first refl)
    (λ coded e two.
    let l = with_first list retired coded in
    let now = ends_with_first retired b ns list coded few e ends in
    record {
      before_listed = second_listed n b a retired ns l (omega arith) last now;
      second_listed = either (s.references == 2 && nat_le 1 k) (P 1 l) (Some first) None (second_listed n b first retired ns l (omega arith) start now) refl;
      goes_on = λ second same.
          let m = with_second l retired second in
          let both : EndsWith m (both_fields (kept s len first (suc k))) = ends_with_second retired b ns (kept s len first (suc k)) l second few same (next_kept s len first k some h) now in
          between_fields_served n s.references a b m K (range_with_len (a + 1) (b - a - 1))
          (referred_whole n a m (kept s len first (suc k)) (omega arith) both (has_before s len first k))
          (referred_whole n b m (kept s len first (suc k)) two both (has_last s len first (suc k)))
          (more m (λ _. both));
    })
    (λ coded e one.
    let l = with_first list retired coded in
    let now = ends_with_first retired b ns list coded few e ends in
    between_fields_served n s.references a b l K (range_with_len (a + 1) (b - a - 1))
    (referred_still n a b retired ns l (omega arith) (omega arith) (retired_before s len first k some h) last now)
    (referred_alone n b retired ns l one now)
    (more l (λ two. absurd (omega arith)))))

-- an anchor behind the first frame of a group is one of its frames
anchor_within : (s : Settings) (len first k : ℕ) → k < anchors_behind s len → number s len first (suc k) < first + len
anchor_within s len first k h =
    let rises = anchor_rises s len k h in
    let here = anchor_is s len (suc k) in
    omega arith

steps_fields_served : (s : Settings) (n len first m k : ℕ) (list : List Picture) (K : List Picture → Type 0) → len ≤ s.gop → k + m ≤ anchors_behind s len → 2 * (first + len) ≤ n + 1
    → (2 * number s len first k + 1 < n → EndsWith list (both_fields (kept s len first k))) → ((l : List Picture) → K l)
    → ServedThen list (flat_map (fields_of n) (flat_map (step s len first) (range_with_len k m))) K
steps_fields_served s n len first zero k list K short h within ends more = more list
steps_fields_served s n len first (suc m) k list K short h within ends more =
    let one : suc k ≡ k + 1 = omega arith in
    let rises = anchor_rises s len k (omega arith) in
    let inside = anchor_within s len first k (omega arith) in
    let steps = flat_map (step s len first) (range_with_len (k + 1) m) in
    let rest = flat_map (fields_of n) steps in
    let Then : List Picture → ℕ → Type 0 = λ l j. 2 * number s len first j + 1 < n → EndsWith l (both_fields (kept s len first j)) in
    subst (λ xs. ServedThen list xs K) (sym (flat_map-append (fields_of n) (step s len first k) steps))
    (served_append (flat_map (fields_of n) (step s len first k)) rest list K
    (step_fields_served s n len first k list (λ l. ServedThen l rest K) short (omega arith) (omega arith) (ends (omega arith))
    (λ l now. steps_fields_served s n len first m (k + 1) l K short (omega arith) within (subst (Then l) one now) more)))

group_fields_served : (s : Settings) (n len first : ℕ) (list : List Picture) (K : List Picture → Type 0) → len ≤ s.gop → 2 * (first + len) ≤ n + 1 → ((l : List Picture) → K l)
    → ServedThen list (flat_map (fields_of n) (group s len first)) K
group_fields_served s n len first list K short within more =
    let same : first ≡ number s len first 0 = omega arith in
    let rest = flat_map (fields_of n) (flat_map (step s len first) (range_with_len 0 (anchors_behind s len))) in
    let Then : List Picture → ℕ → Type 0 = λ l t. 2 * t + 1 < n → EndsWith l (both_fields (t ∷ [])) in
    served_append (fields_of n (opening_of s first)) rest list K
    (opening_fields_served s n first list (λ l. ServedThen l rest K)
    (λ l now. steps_fields_served s n len first (anchors_behind s len) 0 l K short (omega arith) within (subst (Then l) same now) more))

-- no group begins behind the last frame
group_begins : (s : Settings) (frames i : ℕ) → i < group_count s frames → i * s.gop ≤ frames
group_begins s frames i h =
    let most = div-mul-le_self (frames + (s.gop - 1)) s.gop in
    let less = mul-le-mul_right s.gop h in
    omega arith

groups_fields_served : (s : Settings) (n frames m i : ℕ) (list : List Picture) → 2 * frames ≤ n + 1 → i + m ≤ group_count s frames
    → ServedThen list (flat_map (fields_of n) (flat_map (group_at s frames) (range_with_len i m))) (λ _. ⊤)
groups_fields_served s n frames zero i list all h = tt
groups_fields_served s n frames (suc m) i list all h =
    let begins = group_begins s frames i (omega arith) in
    let groups = flat_map (group_at s frames) (range_with_len (i + 1) m) in
    let rest = flat_map (fields_of n) groups in
    subst (λ xs. ServedThen list xs (λ _. ⊤)) (sym (flat_map-append (fields_of n) (group_at s frames i) groups))
    (served_append (flat_map (fields_of n) (group_at s frames i)) rest list (λ _. ⊤)
    (group_fields_served s n (min s.gop (frames - i * s.gop)) (i * s.gop) list (λ l. ServedThen l rest (λ _. ⊤)) (omega arith) (omega arith)
    (λ l. groups_fields_served s n frames m (i + 1) l all (omega arith))))

-- each plan of fields is served
fields_plan_served : (s : Settings) (n : ℕ) → AreServed [] (flat_map (fields_of n) (frames_plan ((n + 1) / 2) s))
unfolding frames_plan
fields_plan_served s n =
    let frames : ℕ = (n + 1) / 2 in
    let half = div-add-mod' (n + 1) 2 in
    let rest = mod_below (n + 1) 2 (omega arith) in
    served_all (flat_map (fields_of n) (frames_plan frames s)) [] (groups_fields_served s n frames (group_count s frames) 0 [] (omega arith) (omega arith))

-- each plan is served
pub plans_served : ReferencesAreListed
plans_served s n = of_plan (AreServed []) n s (frames_plan_served s n) (fields_plan_served s n)

-- one picture of it
served_at : (before after : List Planned) (p : Planned) (coded list : List Picture) → AreServed list (before ++ p ∷ after) → ArePlanned before coded
    → AreListed (refs_from list (commits before coded)) p
served_at [] after p coded list h e = h.0
served_at (b ∷ before) after p [] list h e = let s : [] ≡ b.number ∷ map planned_number before = e in cc
served_at (b ∷ before) after p (c ∷ coded) list h e =
    let same : c.number ∷ map number_of coded ≡ b.number ∷ map planned_number before = e in
    let here : c.number ≡ b.number = cc in
    let rest : map number_of coded ≡ map planned_number before = cc in
    served_at before after p coded (list_with list b c) (h.1 c here) rest

pub references_kept : ReferencesAreKept
references_kept s n before after p coded e numbers = served_at before after p coded [] (subst (AreServed []) e (plans_served s n)) numbers

-- where the pictures before it become these
found_of : (planned : List Planned) (pictures list : List Picture) → AreServed list planned → ArePlanned planned pictures → ReferencesAreFound list planned pictures
found_of [] pictures list h e = tt
found_of (p ∷ planned) [] list h e = tt
found_of (p ∷ planned) (c ∷ pictures) list h e =
    let same : c.number ∷ map number_of pictures ≡ p.number ∷ map planned_number planned = e in
    let here : c.number ≡ p.number = cc in
    let rest : map number_of pictures ≡ map planned_number planned = cc in
    (h.0, found_of planned pictures (list_with list p c) (h.1 c here) rest)

pub plans_found : (s : Settings) (n : ℕ) (pictures : List Picture) → ArePlanned (plan n s) pictures → ReferencesAreFound [] (plan n s) pictures
plans_found s n pictures e = found_of (plan n s) pictures [] (plans_served s n) e
