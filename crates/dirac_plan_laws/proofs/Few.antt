-- Where streams are to be shown alike, and pictures are frames, no more than three are listed.
use Rattle.std.proofs.Common.{◌≡◌, ℕ, zero, suc, ◌+◌, ◌-◌, ◌*◌, ◌<◌, ◌≤◌, ◌==◌, ◌||◌, Bool, if◌then◌else◌, List, [], ◌∷◌, ◌++◌, Option, None, Some, map, length, drop, min, max, refl, ap, ap₂, sym, subst, ◌∙◌, arith, append_assoc, length-append, length-drop, mul-le-mul_right, inl, inr}
use Rattle.std.specs.Prelude.{⊤}
use Rattle.std.specs.List.{AllByRecursion, flat_map, range_with_len}
use Rattle.std.proofs.lemmas.Bool.{cases_lt, le-ltb, lt-leb}
use Rattle.std.proofs.lemmas.List.{map-append, length-map}
use Rattle.dirac_common.specs.declared.picture.Picture.{Picture}
use Rattle.dirac_types.specs.declared.settings.Settings.{Settings}
use Rattle.dirac_refs.specs.References.{append, committed, refs_from, retire, without}
use Rattle.dirac_plan.specs.declared.planned.Planned.{Planned}
use Rattle.dirac_plan.specs.Plan.{anchor_of, anchors_behind, between_of, frames_plan, group, group_at, group_count, left_anchor, retired_of, retired_of_former, second_of_anchor, step}
use Rattle.dirac_plan.specs.Waiting.{number_of}
use Rattle.dirac_plan.proofs.Accepted.{paced}
use Rattle.dirac_plan.proofs.Anchors.{anchor_is, anchor_rises, last_anchor, not_last, uncovered}
use Rattle.dirac_plan.proofs.Fields.{plan_of_frames}
use Rattle.dirac_plan.proofs.Numbers.{either}
use Rattle.dirac_plan_laws.specs.References.{ArePlanned, ThreeAreListed, commits, list_with, planned_number}
use Rattle.dirac_plan_laws.proofs.Listing.{fewer, fewer_left, keeps, leaves, left_numbers, numbers_without, other_numbers}
use Rattle.dirac_plan_laws.proofs.Serving.{behind_first, kept, next_kept, none_left, number}

-- no more than so many are listed before each of these planned pictures and behind the last, and what holds of the list then
abbrev pub FewThen : ℕ → List Picture → List Planned → (List Picture → Type 0) → Type 0
FewThen most list [] K = (length list ≤ most) × K list
FewThen most list (p ∷ planned) K = (length list ≤ most) × ((coded : Picture) → coded.number ≡ p.number → FewThen most (list_with list p coded) planned K)

pub few_append : (most : ℕ) (xs ys : List Planned) (list : List Picture) (K : List Picture → Type 0) → FewThen most list xs (λ l. FewThen most l ys K) → FewThen most list (xs ++ ys) K
few_append most [] ys list K h = h.1
few_append most (x ∷ xs) ys list K h = (h.0, λ coded e. few_append most xs ys (list_with list x coded) K (h.1 coded e))

-- wherever they are cut
pub few_at : (most : ℕ) (before after : List Planned) (coded list : List Picture) (K : List Picture → Type 0) → FewThen most list (before ++ after) K → ArePlanned before coded → length (refs_from list (commits before coded)) ≤ most
few_at most [] [] coded list K h e = h.0
few_at most [] (p ∷ after) coded list K h e = h.0
few_at most (b ∷ before) after [] list K h e = h.0
few_at most (b ∷ before) after (c ∷ coded) list K h e =
    let same : c.number ∷ map number_of coded ≡ b.number ∷ map planned_number before = e in
    let here : c.number ≡ b.number = cc in
    let rest : map number_of coded ≡ map planned_number before = cc in
    few_at most before after coded (list_with list b c) K (h.1 c here) rest

-- ---- the numbers of the list

abbrev pub Holds : List Picture → List ℕ → Type 0
Holds list numbers = map number_of list ≡ numbers

numbers_retired : (list : List Picture) (r : Option ℕ) → map number_of (retire list r) ≡ left_numbers r (map number_of list)
numbers_retired list None = refl
numbers_retired list (Some n) = numbers_without n list

holds_append : (l : List Picture) (p : Picture) → length l < 8 → map number_of (append l p) ≡ map number_of l ++ p.number ∷ []
holds_append l p few =
    ap (λ (b : Bool). map number_of ((if b then drop 1 l else l) ++ p ∷ [])) (lt-leb 8 (length l) few)
    ∙ map-append number_of l (p ∷ [])

pub holds_committed : (r : Option ℕ) (p : Picture) (list : List Picture) (numbers : List ℕ) → length numbers < 8 → Holds list numbers
    → Holds (committed list r (Some p)) (other_numbers p.number (left_numbers r numbers) ++ p.number ∷ [])
holds_committed r p list numbers few is =
    let l = retire list r in
    let w = without p.number l in
    let inner : map number_of w ≡ other_numbers p.number (left_numbers r numbers) =
    numbers_without p.number l ∙ ap (other_numbers p.number) (numbers_retired list r ∙ ap (left_numbers r) is) in
    holds_append w p (omega (arith, length-map w number_of, ap length inner, fewer p.number (left_numbers r numbers), fewer_left r numbers))
    ∙ ap (λ ns. ns ++ p.number ∷ []) inner

pub length_held : (list : List Picture) (numbers : List ℕ) → Holds list numbers → length list ≡ length numbers
length_held list numbers is = sym (length-map list number_of) ∙ ap length is

-- ---- what a group leaves, and what goes of it

-- the anchors that the group from this frame on leaves
abbrev pub left : Settings → ℕ → List ℕ
left s first = kept s s.gop first (anchors_behind s s.gop)

-- what is there while the first of its anchors are listed: of the group before less and less, and its own
abbrev pub there : ℕ → List ℕ → List ℕ → List ℕ
there j old own = drop j old ++ own

-- a number that isn't there
absent : (n : ℕ) (numbers : List ℕ) → AllByRecursion (λ m. m ≡ n → ⊥) numbers → other_numbers n numbers ≡ numbers
absent n [] all = refl
absent n (m ∷ numbers) all = keeps n m numbers numbers all.0 (absent n numbers all.1)

-- the oldest goes, and another comes
next_there : (x a : ℕ) (rest own : List ℕ) → AllByRecursion (λ m. m ≡ x → ⊥) (rest ++ own) → AllByRecursion (λ m. m ≡ a → ⊥) (rest ++ own)
    → other_numbers a (left_numbers (Some x) (x ∷ (rest ++ own))) ++ a ∷ [] ≡ rest ++ (own ++ a ∷ [])
next_there x a rest own apart new =
    ap (λ l. other_numbers a l ++ a ∷ []) (leaves x (rest ++ own) (rest ++ own) (absent x (rest ++ own) apart))
    ∙ ap (λ l. l ++ a ∷ []) (absent a (rest ++ own) new) ∙ append_assoc rest own (a ∷ [])

-- anchor j of a group retires the anchor of this number of the group before
retires_left : (s : Settings) (first j : ℕ) → s.alike ≡ 1 → s.gop ≤ first
    → retired_of_former s first j ≡ Some (number s s.gop (first - s.gop) (left_anchor (anchors_behind s s.gop) j))
unfolding retired_of_former
retires_left s first j alike behind =
    ap₂ (λ (a : ℕ) (b : Bool). if a == 0 || b then None else Some (number s s.gop (first - s.gop) (left_anchor (anchors_behind s s.gop) j))) alike (le-ltb first s.gop behind)

-- an anchor of the group before stands before this group
former_number : (s : Settings) (first k : ℕ) → 0 < s.gop → s.gop ≤ first → number s s.gop (first - s.gop) k < first
former_number s first k some behind = let is = anchor_is s s.gop k in omega arith

-- the first anchor of a group comes
pub opening_there : (s : Settings) (first a m : ℕ) → anchors_behind s s.gop ≡ m → s.alike ≡ 1 → 0 < s.gop → s.gop ≤ first → a ≡ first
    → other_numbers a (left_numbers (retired_of_former s first 0) (kept s s.gop (first - s.gop) m)) ++ a ∷ [] ≡ there 1 (kept s s.gop (first - s.gop) m) (a ∷ [])
opening_there s first a zero e alike some behind same =
    let x : ℕ = number s s.gop (first - s.gop) 0 in
    ap (λ r. other_numbers a (left_numbers r (x ∷ [])) ++ a ∷ []) (retires_left s first 0 alike behind) ∙ next_there x a [] [] tt tt
opening_there s first a (suc zero) e alike some behind same =
    let f : ℕ = first - s.gop in
    let x : ℕ = number s s.gop f 0 in
    let y : ℕ = number s s.gop f 1 in
    let rises = behind_first s s.gop 0 (omega (arith, e)) in
    let below = former_number s first 1 some behind in
    ap (λ r. other_numbers a (left_numbers r (x ∷ y ∷ [])) ++ a ∷ []) (retires_left s first 0 alike behind)
    ∙ next_there x a (y ∷ []) [] ((λ c. omega arith), tt) ((λ c. omega arith), tt)
opening_there s first a (suc (suc k)) e alike some behind same =
    let f : ℕ = first - s.gop in
    let x : ℕ = number s s.gop f 0 in
    let y : ℕ = number s s.gop f (suc k) in
    let z : ℕ = number s s.gop f (suc (suc k)) in
    let rises = behind_first s s.gop k (omega (arith, e)) in
    let later = anchor_rises s s.gop (suc k) (omega (arith, e)) in
    let below = former_number s first (suc (suc k)) some behind in
    ap (λ r. other_numbers a (left_numbers r (x ∷ y ∷ z ∷ [])) ++ a ∷ []) (retires_left s first 0 alike behind)
    ∙ next_there x a (y ∷ z ∷ []) [] ((λ c. omega arith), ((λ c. omega arith), tt)) ((λ c. omega arith), ((λ c. omega arith), tt))

-- the second one
second_there : (s : Settings) (first a b m : ℕ) → anchors_behind s s.gop ≡ m → 0 < m → s.alike ≡ 1 → 0 < s.gop → s.gop ≤ first → first ≤ a → a < b
    → other_numbers b (left_numbers (retired_of_former s first 1) (there 1 (kept s s.gop (first - s.gop) m) (a ∷ []))) ++ b ∷ []
    ≡ there 2 (kept s s.gop (first - s.gop) m) (a ∷ b ∷ [])
second_there s first a b zero e one alike some behind near far = absurd (omega arith)
second_there s first a b (suc zero) e one alike some behind near far =
    let y : ℕ = number s s.gop (first - s.gop) 1 in
    let oldest : max 1 (anchors_behind s s.gop - 1) ≡ 1 = omega (arith, e) in
    let below = former_number s first 1 some behind in
    ap (λ r. other_numbers b (left_numbers r (y ∷ a ∷ [])) ++ b ∷ []) (retires_left s first 1 alike behind ∙ ap (λ k. Some (number s s.gop (first - s.gop) k)) oldest)
    ∙ next_there y b [] (a ∷ []) ((λ c. omega arith), tt) ((λ c. omega arith), tt)
second_there s first a b (suc (suc k)) e one alike some behind near far =
    let f : ℕ = first - s.gop in
    let y : ℕ = number s s.gop f (suc k) in
    let z : ℕ = number s s.gop f (suc (suc k)) in
    let oldest : max 1 (anchors_behind s s.gop - 1) ≡ suc k = omega (arith, e) in
    let later = anchor_rises s s.gop (suc k) (omega (arith, e)) in
    let below = former_number s first (suc (suc k)) some behind in
    ap (λ r. other_numbers b (left_numbers r (y ∷ z ∷ a ∷ [])) ++ b ∷ []) (retires_left s first 1 alike behind ∙ ap (λ j. Some (number s s.gop f j)) oldest)
    ∙ next_there y b (z ∷ []) (a ∷ []) ((λ c. omega arith), ((λ c. omega arith), tt)) ((λ c. omega arith), ((λ c. omega arith), tt))

-- the third one
third_there : (s : Settings) (first a b c m : ℕ) → anchors_behind s s.gop ≡ m → 1 < m → s.alike ≡ 1 → 0 < s.gop → s.gop ≤ first → first ≤ a → a < b → b < c
    → other_numbers c (left_numbers (retired_of_former s first 2) (there 2 (kept s s.gop (first - s.gop) m) (a ∷ b ∷ []))) ++ c ∷ [] ≡ a ∷ b ∷ c ∷ []
third_there s first a b c zero e two alike some behind near far last = absurd (omega arith)
third_there s first a b c (suc zero) e two alike some behind near far last = absurd (omega arith)
third_there s first a b c (suc (suc k)) e two alike some behind near far last =
    let z : ℕ = number s s.gop (first - s.gop) (suc (suc k)) in
    let below = former_number s first (suc (suc k)) some behind in
    ap (λ r. other_numbers c (left_numbers r (z ∷ a ∷ b ∷ [])) ++ c ∷ []) (retires_left s first 2 alike behind ∙ ap (λ j. Some (number s s.gop (first - s.gop) j)) e)
    ∙ next_there z c [] (a ∷ b ∷ []) ((λ d. omega arith), ((λ d. omega arith), tt)) ((λ d. omega arith), ((λ d. omega arith), tt))

-- what is listed once anchor k of a group behind the first is coded
abbrev pub listed_by : Settings → ℕ → ℕ → ℕ → List ℕ
listed_by s len first zero = there 1 (left s (first - s.gop)) (kept s len first 0)
listed_by s len first (suc zero) = there 2 (left s (first - s.gop)) (kept s len first 1)
listed_by s len first (suc (suc k)) = kept s len first (suc (suc k))

-- no group that isn't whole has more anchors
no_more : (s : Settings) (len k : ℕ) → len ≤ s.gop → k < anchors_behind s len → k < anchors_behind s s.gop
no_more s len k short h =
    let before : k * (s.between + 1) < len - 1 = not_last s len k h in
    elim (cases_lt k (anchors_behind s s.gop)) [
      | inl there ↦ there
      | inr late ↦
          let whole = last_anchor s s.gop in
          let is = anchor_is s s.gop (anchors_behind s s.gop) in
          let more = mul-le-mul_right (s.between + 1) late in
          absurd (omega arith)
    ]

pub next_listed : (s : Settings) (len first k : ℕ) → len ≤ s.gop → s.alike ≡ 1 → 0 < s.gop → s.gop ≤ first → k < anchors_behind s len
    → other_numbers (number s len first (suc k)) (left_numbers (retired_of s len first k) (listed_by s len first k)) ++ number s len first (suc k) ∷ [] ≡ listed_by s len first (suc k)
next_listed s len first zero short alike some behind h =
    let far = behind_first s len 0 h in
    second_there s first (number s len first 0) (number s len first 1) (anchors_behind s s.gop) refl (no_more s len 0 short h) alike some behind (omega arith) (omega arith)
next_listed s len first (suc zero) short alike some behind h =
    let far = behind_first s len 0 (omega arith) in
    let near = anchor_rises s len 1 h in
    third_there s first (number s len first 0) (number s len first 1) (number s len first 2) (anchors_behind s s.gop) refl (no_more s len 1 short h) alike some behind (omega arith) (omega arith) (omega arith)
next_listed s len first (suc (suc k)) short alike some behind h = next_kept s len first (suc (suc k)) some h

-- there are few of them
pub few_kept : (s : Settings) (len first k : ℕ) → length (kept s len first k) ≤ 3
few_kept s len first zero = omega arith
few_kept s len first (suc zero) = omega arith
few_kept s len first (suc (suc k)) = omega arith

few_dropped : (s : Settings) (f m j : ℕ) → length (drop j (kept s s.gop f m)) ≤ 3 - j
few_dropped s f m j = omega (arith, length-drop j (kept s s.gop f m), few_kept s s.gop f m)

pub few_listed : (s : Settings) (len first k : ℕ) → length (listed_by s len first k) ≤ 3
few_listed s len first zero =
    let old : List ℕ = drop 1 (left s (first - s.gop)) in
    omega (arith, length-append old (kept s len first 0), few_dropped s (first - s.gop) (anchors_behind s s.gop) 1)
few_listed s len first (suc zero) =
    let old : List ℕ = drop 2 (left s (first - s.gop)) in
    omega (arith, length-append old (kept s len first 1), few_dropped s (first - s.gop) (anchors_behind s s.gop) 2)
few_listed s len first (suc (suc k)) = omega arith

-- behind a whole group just its own are
pub whole_left : (s : Settings) (first m : ℕ) → anchors_behind s s.gop ≡ m → listed_by s s.gop first m ≡ kept s s.gop first m
whole_left s first zero e = ap (λ k. drop 1 (kept s s.gop (first - s.gop) k) ++ kept s s.gop first 0) e
whole_left s first (suc zero) e = ap (λ k. drop 2 (kept s s.gop (first - s.gop) k) ++ kept s s.gop first 1) e
whole_left s first (suc (suc k)) e = refl

-- ---- the pictures

few_between : (references before after : ℕ) (list : List Picture) (K : List Picture → Type 0) (numbers : List ℕ) → length list ≤ 3 → K list → FewThen 3 list (map (between_of references before after) numbers) K
few_between references before after list K [] few k = (few, k)
few_between references before after list K (n ∷ numbers) few k =
    let more = few_between references before after list K numbers few k in
    let P : Planned → Type 0 = λ p. FewThen 3 list (p ∷ map (between_of references before after) numbers) K in
    either (references == 2) P _ _ (few, λ coded e. more) (few, λ coded e. more)

few_anchor : (number before : ℕ) (second retired : Option ℕ) (list : List Picture) (rest : List Planned) (K : List Picture → Type 0) → length list ≤ 3
    → ((coded : Picture) → coded.number ≡ number → FewThen 3 (committed list retired (Some coded)) rest K) → FewThen 3 list (anchor_of number before second retired ∷ rest) K
few_anchor number before None retired list rest K few more = (few, more)
few_anchor number before (Some second) retired list rest K few more = (few, more)

-- a step, where the list has these numbers before it and those behind its anchor
few_step : (s : Settings) (len first k : ℕ) (list : List Picture) (K : List Picture → Type 0) (now next : List ℕ) → length now ≤ 3 → length next ≤ 3 → Holds list now
    → other_numbers (number s len first (suc k)) (left_numbers (retired_of s len first k) now) ++ number s len first (suc k) ∷ [] ≡ next
    → ((l : List Picture) → Holds l next → K l) → FewThen 3 list (step s len first k) K
few_step s len first k list K now next few few_next holds same more =
    let a : ℕ = number s len first k in
    let b : ℕ = number s len first (suc k) in
    let retired : Option ℕ = retired_of s len first k in
    few_anchor b a (second_of_anchor s first k) retired list _ K (omega (arith, length_held list now holds, few))
    (λ coded e.
    let l = committed list retired (Some coded) in
    let numbers : ℕ → List ℕ = λ n. other_numbers n (left_numbers retired now) ++ n ∷ [] in
    let held : Holds l next = holds_committed retired coded list now (omega (arith, few)) holds ∙ ap numbers e ∙ same in
    few_between s.references a b l K _ (omega (arith, length_held l next held, few_next)) (more l held))

few_steps : (s : Settings) (len first m k : ℕ) (list : List Picture) (K : List Picture → Type 0) (st : ℕ → List ℕ) → k + m ≡ anchors_behind s len → ((j : ℕ) → length (st j) ≤ 3)
    → ((j : ℕ) → j < anchors_behind s len → other_numbers (number s len first (suc j)) (left_numbers (retired_of s len first j) (st j)) ++ number s len first (suc j) ∷ [] ≡ st (suc j))
    → Holds list (st k) → ((l : List Picture) → Holds l (st (anchors_behind s len)) → K l) → FewThen 3 list (flat_map (step s len first) (range_with_len k m)) K
few_steps s len first zero k list K st all few next holds more =
    let at : k ≡ anchors_behind s len = omega (arith, all) in
    (omega (arith, length_held list (st k) holds, few k), more list (subst (λ j. Holds list (st j)) at holds))
few_steps s len first (suc m) k list K st all few next holds more =
    let one : suc k ≡ k + 1 = omega arith in
    let rest = flat_map (step s len first) (range_with_len (k + 1) m) in
    few_append 3 (step s len first k) rest list K
    (few_step s len first k list (λ l. FewThen 3 l rest K) (st k) (st (suc k)) (few k) (few (suc k)) holds (next k (omega (arith, all)))
    (λ l now. few_steps s len first m (k + 1) l K st (omega (arith, all)) few next (subst (λ j. Holds l (st j)) one now) more))

few_group : (s : Settings) (len first : ℕ) (list : List Picture) (K : List Picture → Type 0) (old : List ℕ) (st : ℕ → List ℕ) → length old ≤ 3 → ((j : ℕ) → length (st j) ≤ 3)
    → ((a : ℕ) → a ≡ first → a ≡ number s len first 0 → other_numbers a (left_numbers (retired_of_former s first 0) old) ++ a ∷ [] ≡ st 0)
    → ((j : ℕ) → j < anchors_behind s len → other_numbers (number s len first (suc j)) (left_numbers (retired_of s len first j) (st j)) ++ number s len first (suc j) ∷ [] ≡ st (suc j))
    → Holds list old → ((l : List Picture) → Holds l (st (anchors_behind s len)) → K l) → FewThen 3 list (group s len first) K
few_group s len first list K old st few_old few opens next holds more = (
  omega (arith, length_held list old holds, few_old),
  λ coded e.
      let retired = retired_of_former s first 0 in
      let l = committed list retired (Some coded) in
      let held : Holds l (st 0) = holds_committed retired coded list old (omega (arith, few_old)) holds ∙ opens coded.number e (e ∙ omega arith) in
      few_steps s len first (anchors_behind s len) 0 l K st (omega arith) few next held more,
)

-- ---- the groups

-- what is listed where group i begins
abbrev pub begins : Settings → ℕ → List ℕ
begins s zero = []
begins s (suc i) = left s (i * s.gop)

pub few_begins : (s : Settings) (i : ℕ) → length (begins s i) ≤ 3
few_begins s zero = omega arith
few_begins s (suc i) = few_kept s s.gop (i * s.gop) (anchors_behind s s.gop)

-- group i, of len frames; where it is whole the next one begins behind it
few_at_group : (s : Settings) (len i : ℕ) (list : List Picture) (K : List Picture → Type 0) → len ≤ s.gop → s.alike ≡ 1 → 0 < s.gop → Holds list (begins s i)
    → ((l : List Picture) → length l ≤ 3 → (len ≡ s.gop → Holds l (begins s (suc i))) → K l) → FewThen 3 list (group s len (i * s.gop)) K
few_at_group s len zero list K short alike some holds more =
    let first : ℕ = 0 * s.gop in
    few_group s len first list K [] (kept s len first) (omega arith) (few_kept s len first)
    (λ a e same. ap (λ ns. other_numbers a ns ++ a ∷ []) (none_left (retired_of_former s first 0)) ∙ ap (λ n. n ∷ []) same)
    (λ j h. next_kept s len first j some h) holds
    (λ l held. more l (omega (arith, length_held l _ held, few_kept s len first (anchors_behind s len)))
    (λ whole. subst (λ m. Holds l (kept s m first (anchors_behind s m))) whole held))
few_at_group s len (suc i) list K short alike some holds more =
    let first : ℕ = suc i * s.gop in
    let former : first - s.gop ≡ i * s.gop = omega arith in
    let behind : s.gop ≤ first = omega arith in
    few_group s len first list K (left s (first - s.gop)) (listed_by s len first) (few_kept s s.gop (first - s.gop) (anchors_behind s s.gop)) (few_listed s len first)
    (λ a e same.
    opening_there s first a (anchors_behind s s.gop) refl alike some behind e
    ∙ ap (λ n. there 1 (left s (first - s.gop)) (n ∷ [])) same)
    (λ j h. next_listed s len first j short alike some behind h) (subst (λ f. Holds list (left s f)) (sym former) holds)
    (λ l held. more l (omega (arith, length_held l _ held, few_listed s len first (anchors_behind s len)))
    (λ whole. subst (λ m. Holds l (listed_by s m first (anchors_behind s m))) whole held ∙ whole_left s first (anchors_behind s s.gop) refl))

few_groups : (s : Settings) (n m i : ℕ) (list : List Picture) → s.alike ≡ 1 → 0 < s.gop → i + m ≡ group_count s n → Holds list (begins s i)
    → FewThen 3 list (flat_map (group_at s n) (range_with_len i m)) (λ _. ⊤)
few_groups s n zero i list alike some all holds = (omega (arith, length_held list (begins s i) holds, few_begins s i), tt)
few_groups s n (suc zero) i list alike some all holds =
    few_append 3 (group_at s n i) [] list (λ _. ⊤)
    (few_at_group s (min s.gop (n - i * s.gop)) i list (λ l. FewThen 3 l [] (λ _. ⊤)) (omega arith) alike some holds (λ l few next. (few, tt)))
few_groups s n (suc (suc m)) i list alike some all holds =
    let rest = flat_map (group_at s n) (range_with_len (i + 1) (suc m)) in
    let one : suc i ≡ i + 1 = omega arith in
    let inside : (i + 1) * s.gop < n = uncovered n s.gop (i + 1) some (omega (arith, all)) in
    few_append 3 (group_at s n i) rest list (λ _. ⊤)
    (few_at_group s (min s.gop (n - i * s.gop)) i list (λ l. FewThen 3 l rest (λ _. ⊤)) (omega arith) alike some holds
    (λ l few next. few_groups s n (suc m) (i + 1) l alike some (omega (arith, all)) (subst (λ j. Holds l (begins s j)) one (next (omega arith)))))

pub three_listed : ThreeAreListed
unfolding frames_plan
three_listed s n before after pictures accepted alike frames e are =
    let some = (paced s accepted).gop_least in
    let whole : before ++ after ≡ frames_plan n s = sym e ∙ plan_of_frames n s frames in
    few_at 3 before after pictures [] (λ _. ⊤) (subst (λ ps. FewThen 3 [] ps (λ _. ⊤)) (sym whole) (few_groups s n (group_count s n) 0 [] alike some (omega arith) refl)) are
