-- Plans of frames are served.
use Rattle.std.proofs.Common.{◌≡◌, ℕ, zero, suc, ◌+◌, ◌-◌, ◌*◌, ◌<◌, ◌≤◌, ◌==◌, ◌&&◌, Bool, true, nat_le, List, [], ◌∷◌, ◌++◌, Option, None, Some, map, length, min, refl, ap, ap₂, subst, ◌∙◌, arith}
use Rattle.std.specs.Prelude.{IfSome, ⊤}
use Rattle.std.specs.List.{AllByRecursion, flat_map, range_with_len}
use Rattle.dirac_common.specs.declared.picture.Picture.{Picture}
use Rattle.dirac_types.specs.declared.settings.Settings.{Settings}
use Rattle.dirac_refs.specs.References.{committed}
use Rattle.dirac_plan.specs.declared.planned.Planned.{Planned}
use Rattle.dirac_plan.specs.Plan.{anchor_of, between_of, anchor_offset, anchors_behind, second_of_anchor, retired_of, retired_of_former, step, group, group_at, group_count, frames_plan}
use Rattle.dirac_plan.proofs.Anchors.{anchor_is, anchor_rises}
use Rattle.dirac_plan.proofs.Items.{former_below}
use Rattle.dirac_plan.proofs.Numbers.{either}
use Rattle.dirac_picture.specs.Grammar.{is_listed}
use Rattle.dirac_plan_laws.specs.References.{AreListed, AreServed, list_with}
use Rattle.dirac_plan_laws.proofs.Listing.{EndsWith, anything, ends_committed, found, has, has_first, has_later, keeps, leaves, left_numbers, other_numbers}

-- these planned pictures are served, and what holds of the list then
abbrev pub ServedThen : List Picture → List Planned → (List Picture → Type 0) → Type 0
ServedThen list [] K = K list
ServedThen list (p ∷ planned) K =
    AreListed list p × ((coded : Picture) → coded.number ≡ p.number → ServedThen (list_with list p coded) planned K)

pub served_append : (xs ys : List Planned) (list : List Picture) (K : List Picture → Type 0) → ServedThen list xs (λ l. ServedThen l ys K) → ServedThen list (xs ++ ys) K
served_append [] ys list K h = h
served_append (x ∷ xs) ys list K h = (h.0, λ coded e. served_append xs ys (list_with list x coded) K (h.1 coded e))

pub served_all : (xs : List Planned) (list : List Picture) → ServedThen list xs (λ _. ⊤) → AreServed list xs
served_all [] list h = tt
served_all (x ∷ xs) list h = (h.0, λ coded e. served_all xs (list_with list x coded) (h.1 coded e))

-- both references of a planned picture are listed
pub both_listed : (list : List Picture) (p : Planned) → is_listed list p.ref1 ≡ true → is_listed list p.ref2 ≡ true → AreListed list p
both_listed list p one two = ap₂ (λ (a b : Bool). a && b) one two

-- the pictures between two anchors change nothing
served_between : (references before after : ℕ) (list : List Picture) (K : List Picture → Type 0) (numbers : List ℕ)
    → is_listed list (Some before) ≡ true → is_listed list (Some after) ≡ true → K list → ServedThen list (map (between_of references before after) numbers) K
served_between references before after list K [] b a k = k
served_between references before after list K (n ∷ numbers) b a k =
    let more = served_between references before after list K numbers b a k in
    let P : Planned → Type 0 = λ p. ServedThen list (p ∷ map (between_of references before after) numbers) K in
    either (references == 2) P _ _
    (both_listed list (record { number = n; code = 0x0A; ref1 = Some before; ref2 = Some after; retire = None }) b a, λ coded e. more)
    (both_listed list (record { number = n; code = 0x09; ref1 = Some before; ref2 = None; retire = None }) b refl, λ coded e. more)

-- an anchor joins the list
served_anchor : (number before : ℕ) (second retired : Option ℕ) (list : List Picture) (rest : List Planned) (K : List Picture → Type 0)
    → is_listed list (Some before) ≡ true → is_listed list second ≡ true
    → ((coded : Picture) → coded.number ≡ number → ServedThen (committed list retired (Some coded)) rest K) → ServedThen list (anchor_of number before second retired ∷ rest) K
served_anchor number before None retired list rest K b s more = (both_listed list (anchor_of number before None retired) b refl, more)
served_anchor number before (Some second) retired list rest K b s more = (both_listed list (anchor_of number before (Some second) retired) b s, more)

-- the number of anchor k
abbrev pub number : Settings → ℕ → ℕ → ℕ → ℕ
number s len first k = first + anchor_offset s len k

-- the anchors of a group that are listed once anchor k is coded: the first one, and up to two before the next
abbrev pub kept : Settings → ℕ → ℕ → ℕ → List ℕ
kept s len first zero = number s len first 0 ∷ []
kept s len first (suc zero) = number s len first 0 ∷ number s len first 1 ∷ []
kept s len first (suc (suc k)) = number s len first 0 ∷ number s len first (suc k) ∷ number s len first (suc (suc k)) ∷ []

pub has_last : (s : Settings) (len first k : ℕ) → has (number s len first k) (kept s len first k) ≡ true
has_last s len first zero = has_first (number s len first 0) []
has_last s len first (suc zero) = has_later (number s len first 1) (number s len first 0) (number s len first 1 ∷ []) (has_first (number s len first 1) [])
has_last s len first (suc (suc k)) =
    let a : ℕ = number s len first (suc (suc k)) in
    has_later a (number s len first 0) (number s len first (suc k) ∷ a ∷ []) (has_later a (number s len first (suc k)) (a ∷ []) (has_first a []))

pub has_before : (s : Settings) (len first k : ℕ) → has (number s len first k) (kept s len first (suc k)) ≡ true
has_before s len first zero = has_first (number s len first 0) (number s len first 1 ∷ [])
has_before s len first (suc k) =
    let a : ℕ = number s len first (suc k) in
    let b : ℕ = number s len first (suc (suc k)) in
    has_later a (number s len first 0) (a ∷ b ∷ []) (has_first a (b ∷ []))

pub has_opening : (s : Settings) (len first k : ℕ) → has first (kept s len first k) ≡ true
has_opening s len first k =
    let same : number s len first 0 ≡ first = omega arith in
    subst (λ n. has n (kept s len first k) ≡ true) same (by_step k)
  where
    by_step : (k : ℕ) → has (number s len first 0) (kept s len first k) ≡ true
    by_step zero = has_first (number s len first 0) []
    by_step (suc zero) = has_first (number s len first 0) (number s len first 1 ∷ [])
    by_step (suc (suc k)) = has_first (number s len first 0) (number s len first (suc k) ∷ number s len first (suc (suc k)) ∷ [])

few_kept : (s : Settings) (len first k : ℕ) → length (kept s len first k) < 8
few_kept s len first zero = omega arith
few_kept s len first (suc zero) = omega arith
few_kept s len first (suc (suc k)) = omega arith

-- the anchors behind the first one stand behind it
pub behind_first : (s : Settings) (len k : ℕ) → k < anchors_behind s len → anchor_offset s len 0 < anchor_offset s len (suc k)
behind_first s len zero h = anchor_rises s len 0 h
behind_first s len (suc k) h =
    let before = behind_first s len k (omega arith) in
    let rises = anchor_rises s len (suc k) h in
    omega arith

-- a group in which an anchor follows has frames
pub has_frames : (s : Settings) (len k : ℕ) → k < anchors_behind s len → len ≤ s.gop → 0 < s.gop
has_frames s len k h within =
    let behind = behind_first s len k h in
    let is = anchor_is s len (suc k) in
    omega arith

-- a number below these leaves them
left_above : (r : Option ℕ) (first : ℕ) (numbers : List ℕ) → IfSome r (λ n. n < first) → AllByRecursion (λ m. first ≤ m) numbers → left_numbers r numbers ≡ numbers
left_above None first numbers below all = refl
left_above (Some n) first [] below all = refl
left_above (Some n) first (m ∷ numbers) below all = keeps n m numbers numbers (λ e. omega (arith, below, all.0)) (left_above (Some n) first numbers below all.1)

-- what is kept of them when the next one is coded
pub next_kept : (s : Settings) (len first k : ℕ) → 0 < s.gop → k < anchors_behind s len
    → other_numbers (number s len first (suc k)) (left_numbers (retired_of s len first k) (kept s len first k)) ++ number s len first (suc k) ∷ [] ≡ kept s len first (suc k)
next_kept s len first zero some h =
    let a : ℕ = number s len first 1 in
    let far = behind_first s len 0 h in
    ap (λ l. other_numbers a l ++ a ∷ []) (left_above (retired_of_former s first 1) first (number s len first 0 ∷ []) (former_below s first 1 some) (omega arith, tt))
    ∙ ap (λ l. l ++ a ∷ []) (keeps a (number s len first 0) [] [] (λ e. omega arith) refl)
next_kept s len first (suc zero) some h =
    let a : ℕ = number s len first 2 in
    let far = behind_first s len 1 h in
    let near = anchor_rises s len 1 h in
    ap (λ l. other_numbers a l ++ a ∷ []) (left_above (retired_of_former s first 2) first (number s len first 0 ∷ number s len first 1 ∷ []) (former_below s first 2 some) (omega arith, (omega arith, tt)))
    ∙ ap (λ l. l ++ a ∷ []) (keeps a (number s len first 0) (number s len first 1 ∷ []) (number s len first 1 ∷ []) (λ e. omega arith) (keeps a (number s len first 1) [] [] (λ e. omega arith) refl))
next_kept s len first (suc (suc k)) some h =
    let a : ℕ = number s len first (suc (suc (suc k))) in
    let r : ℕ = number s len first (suc k) in
    let b : ℕ = number s len first (suc (suc k)) in
    let far = behind_first s len (suc (suc k)) h in
    let low = behind_first s len k (omega arith) in
    let near = anchor_rises s len (suc (suc k)) h in
    let rises = anchor_rises s len (suc k) (omega arith) in
    ap (λ l. other_numbers a l ++ a ∷ [])
    (keeps r (number s len first 0) (r ∷ b ∷ []) (b ∷ []) (λ e. omega arith) (leaves r (b ∷ []) (b ∷ []) (keeps r b [] [] (λ e. omega arith) refl)))
    ∙ ap (λ l. l ++ a ∷ []) (keeps a (number s len first 0) (b ∷ []) (b ∷ []) (λ e. omega arith) (keeps a b [] [] (λ e. omega arith) refl))

served_step : (s : Settings) (len first k : ℕ) (list : List Picture) (K : List Picture → Type 0) → len ≤ s.gop → k < anchors_behind s len → EndsWith list (kept s len first k)
    → ((l : List Picture) → EndsWith l (kept s len first (suc k)) → K l) → ServedThen list (step s len first k) K
served_step s len first k list K within h ends more =
    let a : ℕ = number s len first k in
    let b : ℕ = number s len first (suc k) in
    let P : Option ℕ → Type 0 = λ o. is_listed list o ≡ true in
    let before = found a list (kept s len first k) ends (has_last s len first k) in
    let second = either (s.references == 2 && nat_le 1 k) P (Some first) None (found first list (kept s len first k) ends (has_opening s len first k)) refl in
    served_anchor b a (second_of_anchor s first k) (retired_of s len first k) list _ K before second
    (λ coded e.
    let l = committed list (retired_of s len first k) (Some coded) in
    let numbers : ℕ → List ℕ = λ n. other_numbers n (left_numbers (retired_of s len first k) (kept s len first k)) ++ n ∷ [] in
    let now : EndsWith l (kept s len first (suc k)) =
    subst (EndsWith l) (ap numbers e ∙ next_kept s len first k (has_frames s len k h within) h) (ends_committed (retired_of s len first k) coded list (kept s len first k) (few_kept s len first k) ends) in
    served_between s.references a b l K _
    (found a l (kept s len first (suc k)) now (has_before s len first k))
    (found b l (kept s len first (suc k)) now (has_last s len first (suc k)))
    (more l now))

served_steps : (s : Settings) (len first m k : ℕ) (list : List Picture) (K : List Picture → Type 0) → len ≤ s.gop → k + m ≤ anchors_behind s len → EndsWith list (kept s len first k)
    → ((l : List Picture) → K l) → ServedThen list (flat_map (step s len first) (range_with_len k m)) K
served_steps s len first zero k list K within h ends more = more list
served_steps s len first (suc m) k list K within h ends more =
    let one : suc k ≡ k + 1 = omega arith in
    let rest = flat_map (step s len first) (range_with_len (k + 1) m) in
    served_append (step s len first k) rest list K
    (served_step s len first k list (λ l. ServedThen l rest K) within (omega arith) ends
    (λ l now. served_steps s len first m (k + 1) l K within (omega arith) (subst (λ j. EndsWith l (kept s len first j)) one now) more))

-- of no number none is left
pub none_left : (r : Option ℕ) → left_numbers r [] ≡ []
none_left None = refl
none_left (Some n) = refl

served_group : (s : Settings) (len first : ℕ) (list : List Picture) (K : List Picture → Type 0) → len ≤ s.gop → ((l : List Picture) → K l) → ServedThen list (group s len first) K
served_group s len first list K within more = (
  refl,
  λ coded e.
      let retired = retired_of_former s first 0 in
      let l = committed list retired (Some coded) in
      let same : coded.number ≡ number s len first 0 = e ∙ omega arith in
      let now : EndsWith l (kept s len first 0) =
      subst (λ n. EndsWith l (n ∷ [])) same
      (subst (λ (ns : List ℕ). EndsWith l (other_numbers coded.number ns ++ coded.number ∷ [])) (none_left retired) (ends_committed retired coded list [] (omega arith) (anything list))) in
      served_steps s len first (anchors_behind s len) 0 l K within (omega arith) now more,
)

pub served_groups : (s : Settings) (n m i : ℕ) (list : List Picture) → ServedThen list (flat_map (group_at s n) (range_with_len i m)) (λ _. ⊤)
served_groups s n zero i list = tt
served_groups s n (suc m) i list =
    let rest = flat_map (group_at s n) (range_with_len (i + 1) m) in
    served_append (group_at s n i) rest list (λ _. ⊤)
    (served_group s (min s.gop (n - i * s.gop)) (i * s.gop) list (λ l. ServedThen l rest (λ _. ⊤)) (omega arith) (λ l. served_groups s n m (i + 1) l))

-- each plan of frames is served
pub frames_plan_served : (s : Settings) (n : ℕ) → AreServed [] (frames_plan n s)
unfolding frames_plan
frames_plan_served s n = served_all (frames_plan n s) [] (served_groups s n (group_count s n) 0 [])
