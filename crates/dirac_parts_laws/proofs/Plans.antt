-- The plan of whole groups and of what stands behind them.
use Rattle.std.proofs.Common.{◌≡◌, ◌==◌, ◌&&◌, ◌<◌, ◌≤◌, ◌+◌, ◌-◌, ◌*◌, ◌/◌, inl, inr, if◌then◌else◌, Bool, true, false, ℕ, zero, suc, min, List, [], ◌∷◌, ◌++◌, map, Option, None, Some, option_map, nat_le, nat_lt, refl, sym, ◌∙◌, ap, ap₂, subst, arith, mul-le-mul_right}
use Rattle.std.specs.Prelude.{IfSome, slice_get}
use Rattle.std.specs.List.{AllByRecursion, flat_map, range_with_len}
use Rattle.std.proofs.lemmas.Bool.{cases_lt, le-ltb, lt-ltb}
use Rattle.std.proofs.lemmas.Grind.{flat_map-append}
use Rattle.std.proofs.lemmas.List.{map-append}
use Rattle.std.proofs.lemmas.Nat.{div-mul-add}
use Rattle.std.proofs.Math.Nat.{mul-add-div}
use Rattle.dirac_common.specs.declared.codes.TheConstants.{INTRA_REFERENCE}
use Rattle.dirac_types.specs.declared.settings.Settings.{Settings}
use Rattle.dirac_plan.specs.declared.planned.Planned.{Planned}
use Rattle.dirac_plan.specs.Frames.{IsBelow}
use Rattle.dirac_plan.specs.Plan.{anchor_of, anchor_offset, anchors_behind, between_of, field_of, field_or_first, fields_of, frames_plan, group, group_at, group_count, opening_of, plan, retired_of, retired_of_former, second_of_anchor, step}
use Rattle.dirac_plan.proofs.Items.{none_asked}
use Rattle.dirac_plan.proofs.Lists.{range_split}
use Rattle.dirac_plan.proofs.Places.{frames_below}
use Rattle.dirac_parts_laws.specs.Plans.{PlansGoOn, planned_behind}

-- ---- lists

-- pieces of numbers that lie in a range, each moved on
pieces_behind : (h : Planned → Planned) (f g : ℕ → List Planned) (m : ℕ) (k i : ℕ) → ((j : ℕ) → f (m + j) ≡ map h (g j)) → flat_map f (range_with_len (m + i) k) ≡ map h (flat_map g (range_with_len i k))
pieces_behind h f g m zero i same = refl
pieces_behind h f g m (suc k) i same =
    let next : m + i + 1 ≡ m + (i + 1) = omega arith in
    ap₂ (λ (x y : List Planned). x ++ y) (same i) (ap (λ n. flat_map f (range_with_len n k)) next ∙ pieces_behind h f g m k (i + 1) same)
    ∙ sym (map-append h (g i) (flat_map g (range_with_len (i + 1) k)))

-- the same pieces
pieces_within : (f g : ℕ → List Planned) (k i top : ℕ) → i + k ≤ top → ((j : ℕ) → j < top → f j ≡ g j) → flat_map f (range_with_len i k) ≡ flat_map g (range_with_len i k)
pieces_within f g zero i top few same = refl
pieces_within f g (suc k) i top few same =
    ap₂ (λ (x y : List Planned). x ++ y) (same i (omega arith)) (pieces_within f g k (i + 1) top (omega arith) same)

-- ---- a group that stands behind

behind_anchor : (d number before : ℕ) (second retired : Option ℕ)
    → anchor_of (number + d) (before + d) (option_map (λ n. n + d) second) (option_map (λ n. n + d) retired) ≡ planned_behind d (anchor_of number before second retired)
behind_anchor d number before None retired = refl
behind_anchor d number before (Some second) retired = refl

behind_second : (s : Settings) (first d k : ℕ) → second_of_anchor s (first + d) k ≡ option_map (λ n. n + d) (second_of_anchor s first k)
behind_second s first d k =
    elim (s.references == 2 && nat_le 1 k) as (λ b. (if b then Some (first + d) else None) ≡ option_map (λ n. n + d) (if b then Some first else None)) [
      | true ↦ refl
      | false ↦ refl
    ]

moved : (first d off : ℕ) → first + d + off ≡ first + off + d
moved first d off = omega arith

behind_former : (s : Settings) (first d j : ℕ) → s.alike ≡ 0 → retired_of_former s (first + d) j ≡ option_map (λ n. n + d) (retired_of_former s first j)
behind_former s first d j none = none_asked s (first + d) j none ∙ sym (ap (option_map (λ n. n + d)) (none_asked s first j none))

behind_retired : (s : Settings) (len first d k : ℕ) → s.alike ≡ 0 → retired_of s len (first + d) k ≡ option_map (λ n. n + d) (retired_of s len first k)
behind_retired s len first d zero none = behind_former s first d 1 none
behind_retired s len first d (suc zero) none = behind_former s first d 2 none
behind_retired s len first d (suc (suc k)) none = ap Some (moved first d (anchor_offset s len (suc k)))

behind_opening : (s : Settings) (first d : ℕ) → s.alike ≡ 0 → opening_of s (first + d) ≡ planned_behind d (opening_of s first)
behind_opening s first d none =
    let make : Option ℕ → Planned = λ o. record { number = first + d; code = INTRA_REFERENCE; ref1 = None; ref2 = None; retire = o } in
    ap make (behind_former s first d 0 none)

-- what stands between two anchors
abbrev anchor_like : ℕ → ℕ → ℕ → Option ℕ → Planned
anchor_like code number before second = record { number = number; code = code; ref1 = Some before; ref2 = second; retire = None }

behind_between : (d references before after number : ℕ) → between_of references (before + d) (after + d) (number + d) ≡ planned_behind d (between_of references before after number)
behind_between d references before after number =
    elim (references == 2) as (λ b. (if b then anchor_like 0x0A (number + d) (before + d) (Some (after + d)) else anchor_like 0x09 (number + d) (before + d) None)
    ≡ planned_behind d (if b then anchor_like 0x0A number before (Some after) else anchor_like 0x09 number before None)) [
      | true ↦ refl
      | false ↦ refl
    ]

all_between : (len d references before after first : ℕ) → map (between_of references (before + d) (after + d)) (range_with_len (first + d) len) ≡ map (planned_behind d) (map (between_of references before after) (range_with_len first len))
all_between zero d references before after first = refl
all_between (suc len) d references before after first =
    let next : first + d + 1 ≡ first + 1 + d = omega arith in
    ap₂ (λ (x : Planned) (l : List Planned). x ∷ l) (behind_between d references before after first)
    (ap (λ n. map (between_of references (before + d) (after + d)) (range_with_len n len)) next ∙ all_between len d references before after (first + 1))

behind_step : (s : Settings) (len first d k : ℕ) → s.alike ≡ 0 → step s len (first + d) k ≡ map (planned_behind d) (step s len first k)
behind_step s len first d k none =
    let before = first + anchor_offset s len k in
    let after = first + anchor_offset s len (suc k) in
    let from : first + d + anchor_offset s len k ≡ before + d = moved first d (anchor_offset s len k) in
    let to : first + d + anchor_offset s len (suc k) ≡ after + d = moved first d (anchor_offset s len (suc k)) in
    let start : before + d + 1 ≡ before + 1 + d = omega arith in
    let span : after + d - (before + d) - 1 ≡ after - before - 1 = omega arith in
    let make : ℕ → ℕ → Option ℕ → Option ℕ → ℕ → ℕ → List Planned = λ x y second retired z len'. anchor_of y x second retired ∷ map (between_of s.references x y) (range_with_len z len') in
    let seconds = second_of_anchor s (first + d) k in
    let retires = retired_of s len (first + d) k in
    ap₂ (λ (x y : ℕ). make x y seconds retires (x + 1) (y - x - 1)) from to
    ∙ ap₂ (λ (z l : ℕ). make (before + d) (after + d) seconds retires z l) start span
    ∙ ap₂ (λ (o r : Option ℕ). make (before + d) (after + d) o r (before + 1 + d) (after - before - 1)) (behind_second s first d k) (behind_retired s len first d k none)
    ∙ ap₂ (λ (x : Planned) (l : List Planned). x ∷ l) (behind_anchor d after before (second_of_anchor s first k) (retired_of s len first k)) (all_between (after - before - 1) d s.references before after (before + 1))

all_steps : (s : Settings) (len first d n i : ℕ) → s.alike ≡ 0 → flat_map (step s len (first + d)) (range_with_len i n) ≡ map (planned_behind d) (flat_map (step s len first) (range_with_len i n))
all_steps s len first d zero i none = refl
all_steps s len first d (suc n) i none =
    ap₂ (λ (x y : List Planned). x ++ y) (behind_step s len first d i none) (all_steps s len first d n (i + 1) none)
    ∙ sym (map-append (planned_behind d) (step s len first i) (flat_map (step s len first) (range_with_len (i + 1) n)))

behind_group : (s : Settings) (len first d : ℕ) → s.alike ≡ 0 → group s len (first + d) ≡ map (planned_behind d) (group s len first)
behind_group s len first d none = ap₂ (λ (x : Planned) (l : List Planned). x ∷ l) (behind_opening s first d none) (all_steps s len first d (anchors_behind s len) 0 none)

-- ---- frames

group_here : (s : Settings) (m n i : ℕ) → i < m → group_at s (m * s.gop + n) i ≡ group_at s (m * s.gop) i
group_here s m n i less =
    let up : (i + 1) * s.gop ≤ m * s.gop = mul-le-mul_right s.gop (let few : i + 1 ≤ m = omega arith in few) in
    let one : (i + 1) * s.gop ≡ i * s.gop + s.gop = omega arith in
    let same : min s.gop (m * s.gop + n - i * s.gop) ≡ min s.gop (m * s.gop - i * s.gop) = omega (arith, up, one) in
    ap (λ len. group s len (i * s.gop)) same

group_behind : (s : Settings) (m n j : ℕ) → s.alike ≡ 0 → group_at s (m * s.gop + n) (m + j) ≡ map (planned_behind (m * s.gop)) (group_at s n j)
group_behind s m n j none =
    let first : (m + j) * s.gop ≡ j * s.gop + m * s.gop = omega arith in
    let left : m * s.gop + n - (j * s.gop + m * s.gop) ≡ n - j * s.gop = omega arith in
    ap (λ x. group s (min s.gop (m * s.gop + n - x)) x) first ∙ ap (λ x. group s (min s.gop x) (j * s.gop + m * s.gop)) left
    ∙ behind_group s (min s.gop (n - j * s.gop)) (j * s.gop) (m * s.gop) none

count_on : (s : Settings) (m n : ℕ) → 0 < s.gop → group_count s (m * s.gop + n) ≡ m + group_count s n
count_on s m n some =
    let same : m * s.gop + n + (s.gop - 1) ≡ s.gop * m + (n + (s.gop - 1)) = omega arith in
    ap (λ x. x / s.gop) same ∙ mul-add-div some m (n + (s.gop - 1))

count_whole : (s : Settings) (m : ℕ) → 0 < s.gop → group_count s (m * s.gop) ≡ m
count_whole s m some =
    let zero_more : m * s.gop ≡ m * s.gop + 0 = omega arith in
    ap (group_count s) zero_more ∙ count_on s m 0 some ∙ ap (λ x. m + x) (none s.gop some) ∙ (let same : m + 0 ≡ m = omega arith in same)
  where
    none : (g : ℕ) → 0 < g → (0 + (g - 1)) / g ≡ 0
    none g some = (let e : 0 ≡ 0 * g = omega arith in ap (λ x. (x + (g - 1)) / g) e) ∙ div-mul-add 0 g (g - 1) (omega arith)

pub frames_on : (s : Settings) (m n : ℕ) → s.alike ≡ 0 → 0 < s.gop → frames_plan (m * s.gop + n) s ≡ frames_plan (m * s.gop) s ++ map (planned_behind (m * s.gop)) (frames_plan n s)
unfolding frames_plan
frames_on s m n none some =
    let all = m * s.gop + n in
    let k = group_count s n in
    ap (λ c. flat_map (group_at s all) (range_with_len 0 c)) (count_on s m n some)
    ∙ ap (flat_map (group_at s all)) (range_split 0 m k m (omega arith))
    ∙ flat_map-append (group_at s all) (range_with_len 0 m) (range_with_len m k)
    ∙ ap₂ (λ (x y : List Planned). x ++ y)
    (pieces_within (group_at s all) (group_at s (m * s.gop)) m 0 m (omega arith) (λ i less. group_here s m n i less) ∙ ap (λ c. flat_map (group_at s (m * s.gop)) (range_with_len 0 c)) (sym (count_whole s m some)))
    (ap (λ x. flat_map (group_at s all) (range_with_len x k)) (let same : m ≡ m + 0 = omega arith in same)
    ∙ pieces_behind (planned_behind (m * s.gop)) (group_at s all) (group_at s n) m k 0 (λ j. group_behind s m n j none))

-- ---- fields

-- what holds of each item of a list
each_item : {X : Type 0} (P : X → Type 0) (xs : List X) → ((i : ℕ) (x : X) → slice_get xs i ≡ Some x → P x) → AllByRecursion P xs
each_item P [] all = tt
each_item P (x ∷ xs) all = (all 0 x refl, each_item P xs (λ i y at. all (suc i) y at))

same_test : (x y d : ℕ) → nat_lt (x + d) (y + d) ≡ nat_lt x y
same_test x y d = elim (cases_lt x y) [
  | inl less ↦ lt-ltb (x + d) (y + d) (omega arith) ∙ sym (lt-ltb x y less)
  | inr more ↦ le-ltb (x + d) (y + d) (omega arith) ∙ sym (le-ltb x y more)
]

-- the number of a field of a frame that stands behind M frames
field_behind : (M n p t : ℕ) → field_or_first (2 * M + n) p (t + M) ≡ field_or_first n p t + 2 * M
field_behind M n p t =
    let here : 2 * (t + M) + p ≡ 2 * t + p + 2 * M = omega arith in
    let first : 2 * (t + M) ≡ 2 * t + 2 * M = omega arith in
    let all : 2 * M + n ≡ n + 2 * M = omega arith in
    let test : nat_lt (2 * (t + M) + p) (2 * M + n) ≡ nat_lt (2 * t + p) n = ap₂ (λ (x y : ℕ). nat_lt x y) here all ∙ same_test (2 * t + p) n (2 * M) in
    ap (λ (b : Bool). if b then 2 * (t + M) + p else 2 * (t + M)) test
    ∙ ap₂ (λ (x y : ℕ). if nat_lt (2 * t + p) n then x else y) here first
    ∙ (elim (nat_lt (2 * t + p) n) as (λ b. (if b then 2 * t + p + 2 * M else 2 * t + 2 * M) ≡ (if b then 2 * t + p else 2 * t) + 2 * M) [
      | true ↦ refl
      | false ↦ refl
    ])

reference_behind : (M n p : ℕ) (o : Option ℕ) → option_map (field_or_first (2 * M + n) p) (option_map (λ x. x + M) o) ≡ option_map (λ x. x + 2 * M) (option_map (field_or_first n p) o)
reference_behind M n p None = refl
reference_behind M n p (Some t) = ap Some (field_behind M n p t)

retired_behind : (M p : ℕ) (o : Option ℕ) → option_map (λ t. 2 * t + p) (option_map (λ x. x + M) o) ≡ option_map (λ x. x + 2 * M) (option_map (λ t. 2 * t + p) o)
retired_behind M p None = refl
retired_behind M p (Some t) = ap Some (let same : 2 * (t + M) + p ≡ 2 * t + p + 2 * M = omega arith in same)

one_field_behind : (M n p : ℕ) (f : Planned) → field_of (2 * M + n) p (planned_behind M f) ≡ planned_behind (2 * M) (field_of n p f)
one_field_behind M n p f =
    let code = f.code in
    let here : 2 * (f.number + M) + p ≡ 2 * f.number + p + 2 * M = omega arith in
    let one : 2 * (f.number + M) + 1 ≡ 2 * f.number + 1 + 2 * M = omega arith in
    let first : 2 * (f.number + M) ≡ 2 * f.number + 2 * M = omega arith in
    let make : ℕ → Option ℕ → Option ℕ → Option ℕ → Planned = λ number ref1 ref2 retire. record { number = number; code = code; ref1 = ref1; ref2 = ref2; retire = retire } in
    let other : make (2 * (f.number + M) + p) (option_map (field_or_first (2 * M + n) p) (option_map (λ x. x + M) f.ref1)) (option_map (field_or_first (2 * M + n) p) (option_map (λ x. x + M) f.ref2)) (option_map (λ t. 2 * t + p) (option_map (λ x. x + M) f.retire))
    ≡ planned_behind (2 * M) (make (2 * f.number + p) (option_map (field_or_first n p) f.ref1) (option_map (field_or_first n p) f.ref2) (option_map (λ t. 2 * t + p) f.retire)) =
    ap (λ number. make number (option_map (field_or_first (2 * M + n) p) (option_map (λ x. x + M) f.ref1)) (option_map (field_or_first (2 * M + n) p) (option_map (λ x. x + M) f.ref2)) (option_map (λ t. 2 * t + p) (option_map (λ x. x + M) f.retire))) here
    ∙ ap₂ (λ (a b : Option ℕ). make (2 * f.number + p + 2 * M) a b (option_map (λ t. 2 * t + p) (option_map (λ x. x + M) f.retire))) (reference_behind M n p f.ref1) (reference_behind M n p f.ref2)
    ∙ ap (make (2 * f.number + p + 2 * M) (option_map (λ x. x + 2 * M) (option_map (field_or_first n p) f.ref1)) (option_map (λ x. x + 2 * M) (option_map (field_or_first n p) f.ref2))) (retired_behind M p f.retire) in
    elim (code == INTRA_REFERENCE && p == 1) as (λ b. (if b then anchor_of (2 * (f.number + M) + 1) (2 * (f.number + M)) None (option_map (λ t. 2 * t + p) (option_map (λ x. x + M) f.retire))
    else make (2 * (f.number + M) + p) (option_map (field_or_first (2 * M + n) p) (option_map (λ x. x + M) f.ref1)) (option_map (field_or_first (2 * M + n) p) (option_map (λ x. x + M) f.ref2)) (option_map (λ t. 2 * t + p) (option_map (λ x. x + M) f.retire)))
    ≡ planned_behind (2 * M) (if b then anchor_of (2 * f.number + 1) (2 * f.number) None (option_map (λ t. 2 * t + p) f.retire) else make (2 * f.number + p) (option_map (field_or_first n p) f.ref1) (option_map (field_or_first n p) f.ref2) (option_map (λ t. 2 * t + p) f.retire))) [
      | true ↦
          ap₂ (λ (x y : ℕ). anchor_of x y None (option_map (λ t. 2 * t + p) (option_map (λ x. x + M) f.retire))) one first
          ∙ ap (anchor_of (2 * f.number + 1 + 2 * M) (2 * f.number + 2 * M) None) (retired_behind M p f.retire)
      | false ↦ other
    ]

both_behind : (M n : ℕ) (f : Planned) → fields_of (2 * M + n) (planned_behind M f) ≡ map (planned_behind (2 * M)) (fields_of n f)
both_behind M n f =
    let one : 2 * (f.number + M) + 1 ≡ 2 * f.number + 1 + 2 * M = omega arith in
    let all : 2 * M + n ≡ n + 2 * M = omega arith in
    let test : nat_lt (2 * (f.number + M) + 1) (2 * M + n) ≡ nat_lt (2 * f.number + 1) n = ap₂ (λ (x y : ℕ). nat_lt x y) one all ∙ same_test (2 * f.number + 1) n (2 * M) in
    let g = planned_behind M f in
    let N = 2 * M + n in
    ap (λ (b : Bool). field_of N 0 g ∷ (if b then field_of N 1 g ∷ [] else [])) test
    ∙ ap₂ (λ (x y : Planned). x ∷ (if nat_lt (2 * f.number + 1) n then y ∷ [] else [])) (one_field_behind M n 0 f) (one_field_behind M n 1 f)
    ∙ (elim (nat_lt (2 * f.number + 1) n) as (λ b. planned_behind (2 * M) (field_of n 0 f) ∷ (if b then planned_behind (2 * M) (field_of n 1 f) ∷ [] else []) ≡ map (planned_behind (2 * M)) (field_of n 0 f ∷ (if b then field_of n 1 f ∷ [] else []))) [
      | true ↦ refl
      | false ↦ refl
    ])

all_behind : (M n : ℕ) (fs : List Planned) → flat_map (fields_of (2 * M + n)) (map (planned_behind M) fs) ≡ map (planned_behind (2 * M)) (flat_map (fields_of n) fs)
all_behind M n [] = refl
all_behind M n (f ∷ fs) =
    ap₂ (λ (x y : List Planned). x ++ y) (both_behind M n f) (all_behind M n fs) ∙ sym (map-append (planned_behind (2 * M)) (fields_of n f) (flat_map (fields_of n) fs))

-- frames before the end have the same fields, however many follow
field_there : (M n p t : ℕ) → p ≤ 1 → t < M → field_or_first (2 * M + n) p t ≡ field_or_first (2 * M) p t
field_there M n p t few less =
    ap (λ (b : Bool). if b then 2 * t + p else 2 * t) (lt-ltb (2 * t + p) (2 * M + n) (omega arith) ∙ sym (lt-ltb (2 * t + p) (2 * M) (omega arith)))

reference_there : (M n p : ℕ) (o : Option ℕ) → p ≤ 1 → IfSome o (λ t. t < M) → option_map (field_or_first (2 * M + n) p) o ≡ option_map (field_or_first (2 * M) p) o
reference_there M n p None few is = refl
reference_there M n p (Some t) few is = ap Some (field_there M n p t few is)

one_field_there : (M n p : ℕ) (f : Planned) → p ≤ 1 → IsBelow M f → field_of (2 * M + n) p f ≡ field_of (2 * M) p f
one_field_there M n p f few below =
    ap₂ (λ (a b : Option ℕ). if f.code == INTRA_REFERENCE && p == 1 then anchor_of (2 * f.number + 1) (2 * f.number) None (option_map (λ t. 2 * t + p) f.retire)
    else (let q : Planned = record { number = 2 * f.number + p; code = f.code; ref1 = a; ref2 = b; retire = option_map (λ t. 2 * t + p) f.retire } in q))
    (reference_there M n p f.ref1 few below.ref1) (reference_there M n p f.ref2 few below.ref2)

both_there : (M n : ℕ) (f : Planned) → IsBelow M f → fields_of (2 * M + n) f ≡ fields_of (2 * M) f
both_there M n f below =
    let number : f.number < M = below.number in
    let test : nat_lt (2 * f.number + 1) (2 * M + n) ≡ nat_lt (2 * f.number + 1) (2 * M) = lt-ltb (2 * f.number + 1) (2 * M + n) (omega arith) ∙ sym (lt-ltb (2 * f.number + 1) (2 * M) (omega arith)) in
    ap (λ (b : Bool). field_of (2 * M + n) 0 f ∷ (if b then field_of (2 * M + n) 1 f ∷ [] else [])) test
    ∙ ap₂ (λ (x y : Planned). x ∷ (if nat_lt (2 * f.number + 1) (2 * M) then y ∷ [] else [])) (one_field_there M n 0 f (omega arith) below) (one_field_there M n 1 f (omega arith) below)

all_there : (M n : ℕ) (fs : List Planned) → AllByRecursion (IsBelow M) fs → flat_map (fields_of (2 * M + n)) fs ≡ flat_map (fields_of (2 * M)) fs
all_there M n [] all = refl
all_there M n (f ∷ fs) all = ap₂ (λ (x y : List Planned). x ++ y) (both_there M n f all.0) (all_there M n fs all.1)

fields_on : (s : Settings) (m n : ℕ) → s.alike ≡ 0 → 0 < s.gop → flat_map (fields_of (m * (2 * s.gop) + n)) (frames_plan ((m * (2 * s.gop) + n + 1) / 2) s)
    ≡ flat_map (fields_of (m * (2 * s.gop))) (frames_plan ((m * (2 * s.gop) + 1) / 2) s) ++ map (planned_behind (m * (2 * s.gop))) (flat_map (fields_of n) (frames_plan ((n + 1) / 2) s))
fields_on s m n none some =
    let M : ℕ = m * s.gop in
    let k : ℕ = (n + 1) / 2 in
    let twice : m * (2 * s.gop) ≡ 2 * M = omega arith in
    let frames : (2 * M + n + 1) / 2 ≡ M + k = omega arith in
    let half : (2 * M + 1) / 2 ≡ M = omega arith in
    let below = each_item (IsBelow M) (frames_plan M s) (λ i f at. frames_below M s i f some at) in
    let whole : flat_map (fields_of (2 * M + n)) (frames_plan ((2 * M + n + 1) / 2) s) ≡ flat_map (fields_of (2 * M)) (frames_plan ((2 * M + 1) / 2) s) ++ map (planned_behind (2 * M)) (flat_map (fields_of n) (frames_plan k s)) =
    ap (λ x. flat_map (fields_of (2 * M + n)) (frames_plan x s)) frames
    ∙ ap (flat_map (fields_of (2 * M + n))) (frames_on s m k none some)
    ∙ flat_map-append (fields_of (2 * M + n)) (frames_plan M s) (map (planned_behind M) (frames_plan k s))
    ∙ ap₂ (λ (x y : List Planned). x ++ y) (all_there M n (frames_plan M s) below ∙ ap (λ x. flat_map (fields_of (2 * M)) (frames_plan x s)) (sym half)) (all_behind M n (frames_plan k s)) in
    ap (λ x. flat_map (fields_of (x + n)) (frames_plan ((x + n + 1) / 2) s)) twice ∙ whole
    ∙ ap (λ x. flat_map (fields_of x) (frames_plan ((x + 1) / 2) s) ++ map (planned_behind x) (flat_map (fields_of n) (frames_plan k s))) (sym twice)

-- ---- the law

on_by : (b : Bool) (s : Settings) (m n : ℕ) → s.alike ≡ 0 → 0 < s.gop
    → (if b then frames_plan (m * ((if b then 1 else 2) * s.gop) + n) s else flat_map (fields_of (m * ((if b then 1 else 2) * s.gop) + n)) (frames_plan ((m * ((if b then 1 else 2) * s.gop) + n + 1) / 2) s))
    ≡ (if b then frames_plan (m * ((if b then 1 else 2) * s.gop)) s else flat_map (fields_of (m * ((if b then 1 else 2) * s.gop))) (frames_plan ((m * ((if b then 1 else 2) * s.gop) + 1) / 2) s))
    ++ map (planned_behind (m * ((if b then 1 else 2) * s.gop))) (if b then frames_plan n s else flat_map (fields_of n) (frames_plan ((n + 1) / 2) s))
on_by true s m n none some =
    let once : s.gop ≡ 1 * s.gop = omega arith in
    subst (λ (g : ℕ). frames_plan (m * g + n) s ≡ frames_plan (m * g) s ++ map (planned_behind (m * g)) (frames_plan n s)) once (frames_on s m n none some)
on_by false s m n none some = fields_on s m n none some

pub plans_on : PlansGoOn
unfolding plan
plans_on s m n none some = on_by (s.fields == 0) s m n none some
