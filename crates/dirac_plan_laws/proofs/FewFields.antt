-- Where streams are to be shown alike, and pictures are fields, no more than six are listed.
use Rattle.std.proofs.Common.{◌≡◌, ℕ, zero, suc, ◌+◌, ◌-◌, ◌*◌, ◌/◌, ◌<◌, ◌≤◌, ◌==◌, nat_lt, if◌then◌else◌, List, [], ◌∷◌, ◌++◌, Option, None, Some, option_map, map, length, min, refl, ap, subst, sym, ◌∙◌, arith, length-append, div-add-mod', inl, inr}
use Rattle.std.specs.Prelude.{⊤}
use Rattle.std.specs.List.{flat_map, range_with_len}
use Rattle.std.proofs.lemmas.Bool.{cases_eq, cases_lt, cond-false, cond-true, le-ltb, lt-ltb}
use Rattle.std.proofs.lemmas.Nat.{mod_below}
use Rattle.std.proofs.lemmas.List.Concat.{flat_map-append}
use Rattle.dirac_common.specs.declared.picture.Picture.{Picture}
use Rattle.dirac_types.specs.declared.settings.Settings.{Settings}
use Rattle.dirac_refs.specs.References.{committed}
use Rattle.dirac_plan.specs.declared.planned.Planned.{Planned}
use Rattle.dirac_plan.specs.Plan.{anchor_of, anchors_behind, between_of, field_of, fields_of, frames_plan, group, group_at, group_count, opening_of, retired_of, retired_of_former, second_of_anchor, step}
use Rattle.dirac_plan.proofs.Accepted.{paced}
use Rattle.dirac_plan.proofs.Anchors.{anchor_is, anchor_rises, last_anchor, uncovered}
use Rattle.dirac_plan.proofs.Fields.{plan_of_fields}
use Rattle.dirac_plan.proofs.Numbers.{either}
use Rattle.dirac_plan_laws.specs.References.{SixAreListed, list_with}
use Rattle.dirac_plan_laws.proofs.Few.{FewThen, Holds, begins, few_append, few_at, few_begins, few_kept, few_listed, holds_committed, left, length_held, listed_by, next_listed, opening_there, there, whole_left}
use Rattle.dirac_plan_laws.proofs.Listing.{keeps, other_numbers}
use Rattle.dirac_plan_laws.proofs.ListingFields.{both_fields, frame_appended, goes, length-both_fields, numbers_with}
use Rattle.dirac_plan_laws.proofs.Serving.{kept, next_kept, none_left, number}

-- ---- how many there are between both fields of a frame

-- of the fields of frames one that is coded takes no second one away
one_gone : (b : ℕ) (ts : List ℕ) → length (other_numbers (2 * b) (both_fields ts)) ≡ length (other_numbers b ts) + length ts
one_gone b [] = refl
one_gone b (t ∷ ts) =
    let rest : List ℕ = both_fields ts in
    let gone : List ℕ = other_numbers (2 * b) rest in
    let more : length gone ≡ length (other_numbers b ts) + length ts = one_gone b ts in
    let second : other_numbers (2 * b) ((2 * t + 1) ∷ rest) ≡ (2 * t + 1) ∷ gone = keeps (2 * b) (2 * t + 1) rest gone (λ e. omega arith) refl in
    elim (cases_eq t b) [
      | inl same ↦
          let count : length ((2 * t + 1) ∷ gone) ≡ length (other_numbers b ts) + length (t ∷ ts) = omega (arith, more) in
          ap length (goes (2 * b) (2 * t) ((2 * t + 1) ∷ rest) (omega (arith, same)) ∙ second) ∙ count
          ∙ ap (λ k. k + length (t ∷ ts)) (sym (ap length (goes b t ts same)))
      | inr other ↦
          let count : length (2 * t ∷ (2 * t + 1) ∷ gone) ≡ length (t ∷ other_numbers b ts) + length (t ∷ ts) = omega (arith, more) in
          ap length (keeps (2 * b) (2 * t) ((2 * t + 1) ∷ rest) ((2 * t + 1) ∷ gone) (λ e. omega (arith, other)) second) ∙ count
          ∙ ap (λ k. k + length (t ∷ ts)) (sym (ap length (keeps b t ts (other_numbers b ts) other refl)))
    ]

-- nor does one that is retired too
two_gone : (b r : ℕ) (ts : List ℕ) → length (other_numbers (2 * b) (other_numbers (2 * r) (both_fields ts))) ≡ length (other_numbers b (other_numbers r ts)) + length ts
two_gone b r [] = refl
two_gone b r (t ∷ ts) =
    let rest : List ℕ = both_fields ts in
    let left : List ℕ = other_numbers (2 * r) rest in
    let gone : List ℕ = other_numbers (2 * b) left in
    let frames : List ℕ = other_numbers b (other_numbers r ts) in
    let more : length gone ≡ length frames + length ts = two_gone b r ts in
    let second : other_numbers (2 * r) ((2 * t + 1) ∷ rest) ≡ (2 * t + 1) ∷ left = keeps (2 * r) (2 * t + 1) rest left (λ e. omega arith) refl in
    let stays : other_numbers (2 * b) ((2 * t + 1) ∷ left) ≡ (2 * t + 1) ∷ gone = keeps (2 * b) (2 * t + 1) left gone (λ e. omega arith) refl in
    let one_less : length ((2 * t + 1) ∷ gone) ≡ length frames + length (t ∷ ts) = omega (arith, more) in
    let none_less : length (2 * t ∷ (2 * t + 1) ∷ gone) ≡ length (t ∷ frames) + length (t ∷ ts) = omega (arith, more) in
    elim (cases_eq t r) [
      | inl same ↦
          ap length (ap (other_numbers (2 * b)) (goes (2 * r) (2 * t) ((2 * t + 1) ∷ rest) (omega (arith, same)) ∙ second) ∙ stays) ∙ one_less
          ∙ ap (λ k. k + length (t ∷ ts)) (sym (ap (λ l. length (other_numbers b l)) (goes r t ts same)))
      | inr other ↦
          let both = keeps (2 * r) (2 * t) ((2 * t + 1) ∷ rest) ((2 * t + 1) ∷ left) (λ e. omega (arith, other)) second in
          let frame = ap (λ l. length (other_numbers b l)) (keeps r t ts (other_numbers r ts) other refl) in
          elim (cases_eq t b) [
            | inl same ↦
                ap length (ap (other_numbers (2 * b)) both ∙ goes (2 * b) (2 * t) ((2 * t + 1) ∷ left) (omega (arith, same)) ∙ stays) ∙ one_less
                ∙ ap (λ k. k + length (t ∷ ts)) (sym (frame ∙ ap length (goes b t (other_numbers r ts) same)))
            | inr third ↦
                ap length (ap (other_numbers (2 * b)) both ∙ keeps (2 * b) (2 * t) ((2 * t + 1) ∷ left) ((2 * t + 1) ∷ gone) (λ e. omega (arith, third)) stays) ∙ none_less
                ∙ ap (λ k. k + length (t ∷ ts)) (sym (frame ∙ ap length (keeps b t (other_numbers r ts) frames third refl)))
          ]
    ]

-- the numbers once the first field of a frame is coded
abbrev first_numbers : Option ℕ → ℕ → List ℕ → List ℕ
first_numbers retired b ns = numbers_with (option_map (λ r. 2 * r + 0) retired) (2 * b) (both_fields ns)

few_first : (retired : Option ℕ) (b : ℕ) (ns next : List ℕ) → length ns ≤ 3 → length next ≤ 3 → numbers_with retired b ns ≡ next → length (first_numbers retired b ns) ≤ 6
few_first None b ns next few few_next same =
    let gone : List ℕ = other_numbers (2 * b) (both_fields ns) in
    let all : length (gone ++ 2 * b ∷ []) ≡ length gone + 1 = length-append gone (2 * b ∷ []) in
    let frames : length (other_numbers b ns) + 1 ≡ length next = sym (length-append (other_numbers b ns) (b ∷ [])) ∙ ap length same in
    let count : length gone ≡ length (other_numbers b ns) + length ns = one_gone b ns in
    let fits : length (gone ++ 2 * b ∷ []) ≤ 6 = omega (arith, all, count, frames, few, few_next) in
    fits
few_first (Some r) b ns next few few_next same =
    let gone : List ℕ = other_numbers (2 * b) (other_numbers (2 * r) (both_fields ns)) in
    let even : 2 * r + 0 ≡ 2 * r = omega arith in
    let all : length (gone ++ 2 * b ∷ []) ≡ length gone + 1 = length-append gone (2 * b ∷ []) in
    let frames : length (other_numbers b (other_numbers r ns)) + 1 ≡ length next = sym (length-append (other_numbers b (other_numbers r ns)) (b ∷ [])) ∙ ap length same in
    let count : length gone ≡ length (other_numbers b (other_numbers r ns)) + length ns = two_gone b r ns in
    let fits : length (gone ++ 2 * b ∷ []) ≤ 6 = omega (arith, all, count, frames, few, few_next) in
    subst (λ m. length (numbers_with (Some m) (2 * b) (both_fields ns)) ≤ 6) (sym even) fits

-- ---- the list once each field of a frame is coded

abbrev with_first : List Picture → Option ℕ → Picture → List Picture
with_first list retired coded = committed list (option_map (λ r. 2 * r + 0) retired) (Some coded)

abbrev with_second : List Picture → Option ℕ → Picture → List Picture
with_second list retired coded = committed list (option_map (λ r. 2 * r + 1) retired) (Some coded)

holds_first : (retired : Option ℕ) (b : ℕ) (ns : List ℕ) (list : List Picture) (coded : Picture) → length ns ≤ 3 → coded.number ≡ 2 * b + 0 → Holds list (both_fields ns)
    → Holds (with_first list retired coded) (first_numbers retired b ns)
holds_first retired b ns list coded few e holds =
    let r = option_map (λ r. 2 * r + 0) retired in
    let same : coded.number ≡ 2 * b = e ∙ omega arith in
    holds_committed r coded list (both_fields ns) (omega (arith, length-both_fields ns, few)) holds
    ∙ ap (λ n. numbers_with r n (both_fields ns)) same

holds_second : (retired : Option ℕ) (b : ℕ) (ns next : List ℕ) (list : List Picture) (coded : Picture) → length (first_numbers retired b ns) ≤ 6 → coded.number ≡ 2 * b + 1 → numbers_with retired b ns ≡ next
    → Holds list (first_numbers retired b ns) → Holds (with_second list retired coded) (both_fields next)
holds_second retired b ns next list coded few e same holds =
    let r = option_map (λ r. 2 * r + 1) retired in
    holds_committed r coded list (first_numbers retired b ns) (omega (arith, few)) holds
    ∙ ap (λ n. numbers_with r n (first_numbers retired b ns)) e ∙ frame_appended retired b ns ∙ ap both_fields same

-- ---- the fields

-- a field of a frame of which the second may be missing
few_second : (n t : ℕ) (x : Planned) (list : List Picture) (K : List Picture → Type 0) → length list ≤ 6
    → (2 * t + 1 < n → (coded : Picture) → coded.number ≡ x.number → (length (list_with list x coded) ≤ 6) × K (list_with list x coded))
    → (n ≤ 2 * t + 1 → K list) → FewThen 6 list (if nat_lt (2 * t + 1) n then x ∷ [] else []) K
few_second n t x list K few there missing = elim (cases_lt (2 * t + 1) n) [
  | inl two ↦ subst (λ xs. FewThen 6 list xs K) (sym (cond-true (nat_lt (2 * t + 1) n) (x ∷ []) [] (lt-ltb (2 * t + 1) n two))) (few, there two)
  | inr one ↦ subst (λ xs. FewThen 6 list xs K) (sym (cond-false (nat_lt (2 * t + 1) n) (x ∷ []) [] (le-ltb (2 * t + 1) n one))) (few, missing one)
]

-- the fields between two anchors change nothing
few_between_fields : (n references before after : ℕ) (list : List Picture) (K : List Picture → Type 0) (numbers : List ℕ) → length list ≤ 6 → K list
    → FewThen 6 list (flat_map (fields_of n) (map (between_of references before after) numbers)) K
few_between_fields n references before after list K [] few k = (few, k)
few_between_fields n references before after list K (m ∷ numbers) few k =
    let rest = flat_map (fields_of n) (map (between_of references before after) numbers) in
    let more = few_between_fields n references before after list K numbers few k in
    let P : Planned → Type 0 = λ f. FewThen 6 list (fields_of n f) (λ l. FewThen 6 l rest K) in
    let two : Planned = record { number = m; code = 0x0A; ref1 = Some before; ref2 = Some after; retire = None } in
    let one : Planned = record { number = m; code = 0x09; ref1 = Some before; ref2 = None; retire = None } in
    few_append 6 (fields_of n (between_of references before after m)) rest list K
    (either (references == 2) P two one
    (few, λ coded e. few_second n m (field_of n 1 two) list (λ l. FewThen 6 l rest K) few (λ _ second same. (few, more)) (λ _. more))
    (few, λ coded e. few_second n m (field_of n 1 one) list (λ l. FewThen 6 l rest K) few (λ _ second same. (few, more)) (λ _. more)))

-- the numbers of the list before a frame of this number that retires this one, and behind it
record IsTaken (retired : Option ℕ) (t : ℕ) (ns next : List ℕ) : Type 0 where
  pub few : length ns ≤ 3
  pub few_next : length next ≤ 3
  pub same : numbers_with retired t ns ≡ next

-- what holds once its fields are coded, of which the second may be missing
abbrev Behind : ℕ → ℕ → List ℕ → (List Picture → Type 0) → Type 0
Behind n t next K = (l : List Picture) → length l ≤ 6 → (2 * t + 1 < n → Holds l (both_fields next)) → K l

-- the second field of an anchor
few_coded : (n t : ℕ) (retired : Option ℕ) (x : Planned) (list : List Picture) (K : List Picture → Type 0) (ns next : List ℕ) (coded : Picture) → IsTaken retired t ns next → Holds list (both_fields ns)
    → coded.number ≡ 2 * t + 0 → x.number ≡ 2 * t + 1 → ((l : List Picture) (p : Picture) → list_with l x p ≡ with_second l retired p) → Behind n t next K
    → FewThen 6 (with_first list retired coded) (if nat_lt (2 * t + 1) n then x ∷ [] else []) K
few_coded n t retired x list K ns next coded taken holds e number is more =
    let l : List Picture = with_first list retired coded in
    let now : Holds l (first_numbers retired t ns) = holds_first retired t ns list coded taken.few e holds in
    let few_numbers = few_first retired t ns next taken.few taken.few_next taken.same in
    let few : length l ≤ 6 = omega (arith, length_held l (first_numbers retired t ns) now, few_numbers) in
    few_second n t x l K few
    (λ two second same.
    let m : List Picture = with_second l retired second in
    let whole : Holds m (both_fields next) = holds_second retired t ns next l second few_numbers (same ∙ number) taken.same now in
    let size : length m ≤ 6 = omega (arith, length_held m (both_fields next) whole, length-both_fields next, taken.few_next) in
    subst (λ (z : List Picture). (length z ≤ 6) × K z) (sym (is l second)) (size, more m size (λ _. whole)))
    (λ one. more l few (λ two. absurd (omega arith)))

few_anchor_fields : (n t before : ℕ) (second retired : Option ℕ) (list : List Picture) (K : List Picture → Type 0) (ns next : List ℕ) → IsTaken retired t ns next → Holds list (both_fields ns)
    → Behind n t next K → FewThen 6 list (fields_of n (anchor_of t before second retired)) K
few_anchor_fields n t before None retired list K ns next taken holds more = (
  omega (arith, length_held list (both_fields ns) holds, length-both_fields ns, taken.few),
  λ coded e. few_coded n t retired (field_of n 1 (anchor_of t before None retired)) list K ns next coded taken holds e refl (λ l p. refl) more,
)
few_anchor_fields n t before (Some second) retired list K ns next taken holds more = (
  omega (arith, length_held list (both_fields ns) holds, length-both_fields ns, taken.few),
  λ coded e. few_coded n t retired (field_of n 1 (anchor_of t before (Some second) retired)) list K ns next coded taken holds e refl (λ l p. refl) more,
)

few_opening_fields : (s : Settings) (n first : ℕ) (list : List Picture) (K : List Picture → Type 0) (ns next : List ℕ) → IsTaken (retired_of_former s first 0) first ns next → Holds list (both_fields ns)
    → Behind n first next K → FewThen 6 list (fields_of n (opening_of s first)) K
few_opening_fields s n first list K ns next taken holds more = (
  omega (arith, length_held list (both_fields ns) holds, length-both_fields ns, taken.few),
  λ coded e. few_coded n first (retired_of_former s first 0) (field_of n 1 (opening_of s first)) list K ns next coded taken holds e refl (λ l p. refl) more,
)

-- ---- the steps of a group

few_step_fields : (s : Settings) (n len first k : ℕ) (list : List Picture) (K : List Picture → Type 0) (ns next : List ℕ) → IsTaken (retired_of s len first k) (number s len first (suc k)) ns next
    → Holds list (both_fields ns) → Behind n (number s len first (suc k)) next K → FewThen 6 list (flat_map (fields_of n) (step s len first k)) K
few_step_fields s n len first k list K ns next taken holds more =
    let a : ℕ = number s len first k in
    let b : ℕ = number s len first (suc k) in
    let rest : List Planned = flat_map (fields_of n) (map (between_of s.references a b) (range_with_len (a + 1) (b - a - 1))) in
    few_append 6 (fields_of n (anchor_of b a (second_of_anchor s first k) (retired_of s len first k))) rest list K
    (few_anchor_fields n b a (second_of_anchor s first k) (retired_of s len first k) list (λ l. FewThen 6 l rest K) ns next taken holds
    (λ l few now. few_between_fields n s.references a b l K (range_with_len (a + 1) (b - a - 1)) few (more l few now)))

-- what is listed behind each anchor of a group
record AreTaken (s : Settings) (len first : ℕ) (st : ℕ → List ℕ) : Type 0 where
  pub few : (j : ℕ) → length (st j) ≤ 3
  pub same : (j : ℕ) → j < anchors_behind s len → numbers_with (retired_of s len first j) (number s len first (suc j)) (st j) ≡ st (suc j)

few_steps_fields : (s : Settings) (n len first m k : ℕ) (list : List Picture) (K : List Picture → Type 0) (st : ℕ → List ℕ) → k + m ≡ anchors_behind s len → 2 * (first + len) ≤ n + 1 → AreTaken s len first st
    → length list ≤ 6 → (2 * number s len first k + 1 < n → Holds list (both_fields (st k))) → Behind n (number s len first (anchors_behind s len)) (st (anchors_behind s len)) K
    → FewThen 6 list (flat_map (fields_of n) (flat_map (step s len first) (range_with_len k m))) K
few_steps_fields s n len first zero k list K st all within taken few holds more =
    let at : k ≡ anchors_behind s len = omega (arith, all) in
    (few, more list few (subst (λ j. 2 * number s len first j + 1 < n → Holds list (both_fields (st j))) at holds))
few_steps_fields s n len first (suc m) k list K st all within taken few holds more =
    let one : suc k ≡ k + 1 = omega arith in
    let inside : k < anchors_behind s len = omega (arith, all) in
    let rises = anchor_rises s len k inside in
    let here = anchor_is s len (suc k) in
    let steps = flat_map (step s len first) (range_with_len (k + 1) m) in
    let rest = flat_map (fields_of n) steps in
    let Then : List Picture → ℕ → Type 0 = λ l j. 2 * number s len first j + 1 < n → Holds l (both_fields (st j)) in
    subst (λ xs. FewThen 6 list xs K) (sym (flat_map-append (fields_of n) (step s len first k) steps))
    (few_append 6 (flat_map (fields_of n) (step s len first k)) rest list K
    (few_step_fields s n len first k list (λ l. FewThen 6 l rest K) (st k) (st (suc k)) (record { few = taken.few k; few_next = taken.few (suc k); same = taken.same k inside }) (holds (omega arith))
    (λ l fits now. few_steps_fields s n len first m (k + 1) l K st (omega (arith, all)) within taken fits (subst (Then l) one now) more)))

few_group_fields : (s : Settings) (n len first : ℕ) (list : List Picture) (K : List Picture → Type 0) (old : List ℕ) (st : ℕ → List ℕ) → 2 * (first + len) ≤ n + 1
    → IsTaken (retired_of_former s first 0) first old (st 0) → AreTaken s len first st → Holds list (both_fields old) → Behind n (number s len first (anchors_behind s len)) (st (anchors_behind s len)) K
    → FewThen 6 list (flat_map (fields_of n) (group s len first)) K
few_group_fields s n len first list K old st within opens taken holds more =
    let same : first ≡ number s len first 0 = omega arith in
    let rest = flat_map (fields_of n) (flat_map (step s len first) (range_with_len 0 (anchors_behind s len))) in
    let Then : List Picture → ℕ → Type 0 = λ l t. 2 * t + 1 < n → Holds l (both_fields (st 0)) in
    few_append 6 (fields_of n (opening_of s first)) rest list K
    (few_opening_fields s n first list (λ l. FewThen 6 l rest K) old (st 0) opens holds
    (λ l few now. few_steps_fields s n len first (anchors_behind s len) 0 l K st (omega arith) within taken few (subst (Then l) same now) more))

-- ---- the groups

-- what holds behind group i, of len frames; where it is whole, and all its fields are there, the next one begins
abbrev BehindGroup : Settings → ℕ → ℕ → ℕ → (List Picture → Type 0) → Type 0
BehindGroup s n len i K =
    (l : List Picture) → length l ≤ 6 → (len ≡ s.gop → 2 * (i * s.gop + len) ≤ n → Holds l (both_fields (begins s (suc i)))) → K l

few_at_group_fields : (s : Settings) (n len i : ℕ) (list : List Picture) (K : List Picture → Type 0) → len ≤ s.gop → 2 * (i * s.gop + len) ≤ n + 1 → s.alike ≡ 1 → 0 < s.gop → Holds list (both_fields (begins s i))
    → BehindGroup s n len i K → FewThen 6 list (flat_map (fields_of n) (group s len (i * s.gop))) K
few_at_group_fields s n len zero list K short within alike some holds more =
    let first : ℕ = 0 * s.gop in
    let opens : first ≡ number s len first 0 = omega arith in
    let last = last_anchor s len in
    few_group_fields s n len first list K [] (kept s len first) within
    (record {
      few = omega arith;
      few_next = few_kept s len first 0;
      same = ap (λ ns. other_numbers first ns ++ first ∷ []) (none_left (retired_of_former s first 0)) ∙ ap (λ m. m ∷ []) opens;
    })
    (record { few = few_kept s len first; same = λ j h. next_kept s len first j some h }) holds
    (λ l few held. more l few
    (λ whole there. subst (λ m. Holds l (both_fields (kept s m first (anchors_behind s m)))) whole (held (omega (arith, whole, there, last, some)))))
few_at_group_fields s n len (suc i) list K short within alike some holds more =
    let first : ℕ = suc i * s.gop in
    let former : first - s.gop ≡ i * s.gop = omega arith in
    let behind : s.gop ≤ first = omega arith in
    let opens : first ≡ number s len first 0 = omega arith in
    let last = last_anchor s len in
    few_group_fields s n len first list K (left s (first - s.gop)) (listed_by s len first) within
    (record {
      few = few_kept s s.gop (first - s.gop) (anchors_behind s s.gop);
      few_next = few_listed s len first 0;
      same = opening_there s first first (anchors_behind s s.gop) refl alike some behind refl ∙ ap (λ m. there 1 (left s (first - s.gop)) (m ∷ [])) opens;
    })
    (record { few = few_listed s len first; same = λ j h. next_listed s len first j short alike some behind h })
    (subst (λ f. Holds list (both_fields (left s f))) (sym former) holds)
    (λ l few held. more l few
    (λ whole there.
    subst (λ m. Holds l (both_fields (listed_by s m first (anchors_behind s m)))) whole (held (omega (arith, whole, there, last, some)))
    ∙ ap both_fields (whole_left s first (anchors_behind s s.gop) refl)))

few_groups_fields : (s : Settings) (n frames m i : ℕ) (list : List Picture) → 2 * frames ≤ n + 1 → s.alike ≡ 1 → 0 < s.gop → i + m ≡ group_count s frames → Holds list (both_fields (begins s i))
    → FewThen 6 list (flat_map (fields_of n) (flat_map (group_at s frames) (range_with_len i m))) (λ _. ⊤)
few_groups_fields s n frames zero i list within alike some all holds =
    (omega (arith, length_held list (both_fields (begins s i)) holds, length-both_fields (begins s i), few_begins s i), tt)
few_groups_fields s n frames (suc zero) i list within alike some all holds =
    let inside : i * s.gop < frames = uncovered frames s.gop i some (omega (arith, all)) in
    subst (λ xs. FewThen 6 list xs (λ _. ⊤)) (sym (flat_map-append (fields_of n) (group_at s frames i) []))
    (few_append 6 (flat_map (fields_of n) (group_at s frames i)) [] list (λ _. ⊤)
    (few_at_group_fields s n (min s.gop (frames - i * s.gop)) i list (λ l. FewThen 6 l [] (λ _. ⊤)) (omega arith) (omega (arith, inside, within)) alike some holds
    (λ l few next. (few, tt))))
few_groups_fields s n frames (suc (suc m)) i list within alike some all holds =
    let groups = flat_map (group_at s frames) (range_with_len (i + 1) (suc m)) in
    let rest = flat_map (fields_of n) groups in
    let one : suc i ≡ i + 1 = omega arith in
    let inside : (i + 1) * s.gop < frames = uncovered frames s.gop (i + 1) some (omega (arith, all)) in
    subst (λ xs. FewThen 6 list xs (λ _. ⊤)) (sym (flat_map-append (fields_of n) (group_at s frames i) groups))
    (few_append 6 (flat_map (fields_of n) (group_at s frames i)) rest list (λ _. ⊤)
    (few_at_group_fields s n (min s.gop (frames - i * s.gop)) i list (λ l. FewThen 6 l rest (λ _. ⊤)) (omega arith) (omega (arith, inside, within)) alike some holds
    (λ l few next. few_groups_fields s n frames (suc m) (i + 1) l within alike some (omega (arith, all))
    (subst (λ j. Holds l (both_fields (begins s j))) one (next (omega arith) (omega (arith, inside, within)))))))

pub six_listed : SixAreListed
unfolding frames_plan
six_listed s n before after pictures accepted alike fields e are =
    let some = (paced s accepted).gop_least in
    let frames : ℕ = (n + 1) / 2 in
    let half = div-add-mod' (n + 1) 2 in
    let rest = mod_below (n + 1) 2 (omega arith) in
    let whole : before ++ after ≡ flat_map (fields_of n) (frames_plan frames s) = sym e ∙ plan_of_fields n s (λ none. omega (arith, none, fields)) in
    few_at 6 before after pictures [] (λ _. ⊤) (subst (λ ps. FewThen 6 [] ps (λ _. ⊤)) (sym whole) (few_groups_fields s n frames (group_count s frames) 0 [] (omega arith) alike some (omega arith) refl)) are
