-- The fields of planned frames.
use Rattle.std.proofs.Common.{◌≡◌, ℕ, zero, suc, ◌+◌, ◌-◌, ◌*◌, ◌/◌, ◌%◌, ◌<◌, ◌≤◌, ◌==◌, min, nat_lt, if◌then◌else◌, Bool, true, false, List, [], ◌∷◌, Option, None, Some, option_map, length, take, slice_get, refl, ap, ◌∙◌, sym, arith, sum_by, inl, inr, lt-ltb, ne_eqb, eq-eqb, div-add-mod', length-take}
use Rattle.std.specs.List.{flat_map, range_with_len}
use Rattle.std.proofs.lemmas.Bool.{cases_eq, ltb-true}
use Rattle.std.proofs.lemmas.List.Sums.{sum_by-cons, sum_by-take-le}
use Rattle.std.proofs.lemmas.List.Concat.{length-flat_map}
use Rattle.std.proofs.lemmas.Nat.{mod_below}
use Rattle.std.proofs.lemmas.Option.{slice_get_within}
use Rattle.dirac_types.specs.declared.settings.Settings.{Settings}
use Rattle.dirac_plan.specs.declared.planned.Planned.{Planned}
use Rattle.dirac_plan.specs.Frames.{planned_number}
use Rattle.dirac_plan.specs.Plan.{fields_of, field_of, frames_plan, plan}
use Rattle.dirac_plan.proofs.Lists.{get_piece, sum_around, sum_fronts, sum_ranges}
use Rattle.dirac_plan.proofs.Numbers.{of_number, sum_frames, anchor_number}
use Rattle.dirac_plan.proofs.Items.{IsPlace, coded_anchor, length_frames}

-- one field isn't there, or none
abbrev one_unless : Bool → ℕ
one_unless there = if there then 0 else 1

-- of n fields, how many of frame t aren't there
abbrev pub missing : ℕ → ℕ → ℕ
missing n t = one_unless (nat_lt (2 * t + 1) n)

length_fields : (n : ℕ) (f : Planned) → length (fields_of n f) + missing n f.number ≡ 2
length_fields n f = by_test (field_of n 0 f) (field_of n 1 f) (nat_lt (2 * f.number + 1) n)
  where
    by_test : (x y : Planned) (b : Bool) → length (x ∷ (if b then y ∷ [] else [])) + one_unless b ≡ 2
    by_test x y true = refl
    by_test x y false = refl

none_missing : (n t : ℕ) → 2 * t + 1 < n → missing n t ≡ 0
none_missing n t h = ap one_unless (lt-ltb (2 * t + 1) n h)

one_missing : (n t : ℕ) → n ≤ 2 * t + 1 → missing n t ≡ 1
one_missing n t h = by_test (nat_lt (2 * t + 1) n) (λ e. let less = ltb-true (2 * t + 1) n e in omega arith)
  where
    by_test : (b : Bool) → (b ≡ true → ⊥) → one_unless b ≡ 1
    by_test true never = absurd (never refl)
    by_test false never = refl

both_there : (n t : ℕ) → missing n t ≡ 0 → 2 * t + 1 < n
both_there n t = by_test (nat_lt (2 * t + 1) n) (λ e. ltb-true (2 * t + 1) n e)
  where
    by_test : (b : Bool) → (b ≡ true → 2 * t + 1 < n) → one_unless b ≡ 0 → 2 * t + 1 < n
    by_test true less e = less refl
    by_test false less e = absurd (omega arith)

lengths_of_fields : (n : ℕ) (xs : List Planned) → sum_by (λ f. length (fields_of n f)) xs + sum_by (of_number (missing n)) xs ≡ 2 * length xs
lengths_of_fields n [] = refl
lengths_of_fields n (x ∷ xs) =
    let rest = lengths_of_fields n xs in
    let one = length_fields n x in
    let fields = sum_by-cons (λ (f : Planned). length (fields_of n f)) x xs in
    let gaps = sum_by-cons (of_number (missing n)) x xs in
    omega arith

-- no frame but the last has a field alone
range_full : (n a m : ℕ) → 2 * (a + m) ≤ n → sum_by (missing n) (range_with_len a m) ≡ 0
range_full n a zero h = refl
range_full n a (suc m) h =
    let rest = range_full n (a + 1) m (omega arith) in
    let here = none_missing n a (omega arith) in
    let whole = sum_by-cons (missing n) a (range_with_len (a + 1) m) in
    omega arith

-- how many fields of all frames aren't there
missing_in_all : (n : ℕ) → sum_by (missing n) (range_with_len 0 ((n + 1) / 2)) ≡ n % 2
missing_in_all n = elim (cases_eq (n % 2) 0) [
  | inl even ↦ omega (arith, range_full n 0 ((n + 1) / 2) (omega arith))
  | inr other ↦
      let odd : n % 2 ≡ 1 = omega (arith, other) in
      let frames : ℕ = (n + 1) / 2 in
      let full = range_full n 0 (frames - 1) (omega arith) in
      let last = one_missing n (frames - 1) (omega arith) in
      let one = sum_by-cons (missing n) (frames - 1) [] in
      let both = sum_ranges (missing n) 0 (frames - 1) 1 (frames - 1) frames (omega arith) (omega arith) in
      omega arith
]

missing_in_plan : (n : ℕ) (s : Settings) → 0 < s.gop → sum_by (of_number (missing n)) (frames_plan ((n + 1) / 2) s) ≡ n % 2
missing_in_plan n s some = sum_frames (missing n) ((n + 1) / 2) s some ∙ missing_in_all n

-- with fields the plan has those of each frame
pub plan_of_fields : (n : ℕ) (s : Settings) → (s.fields ≡ 0 → ⊥) → plan n s ≡ flat_map (fields_of n) (frames_plan ((n + 1) / 2) s)
unfolding plan
plan_of_fields n s fields =
    ap (λ (b : Bool). if b then frames_plan n s else flat_map (fields_of n) (frames_plan ((n + 1) / 2) s)) (ne_eqb s.fields 0 fields)

pub plan_of_frames : (n : ℕ) (s : Settings) → s.fields ≡ 0 → plan n s ≡ frames_plan n s
unfolding plan
plan_of_frames n s none =
    ap (λ (b : Bool). if b then frames_plan n s else flat_map (fields_of n) (frames_plan ((n + 1) / 2) s)) (eq-eqb s.fields 0 none)

-- how many pictures a plan has
pub length_plan : (n : ℕ) (s : Settings) → 0 < s.gop → length (plan n s) ≡ n
length_plan n s some = elim (cases_eq s.fields 0) [
  | inl none ↦ ap length (plan_of_frames n s none) ∙ length_frames n s some
  | inr fields ↦
      let frames : List Planned = frames_plan ((n + 1) / 2) s in
      let all = length-flat_map (fields_of n) frames in
      let both = lengths_of_fields n frames in
      let gaps = missing_in_plan n s some in
      let count = length_frames ((n + 1) / 2) s some in
      ap length (plan_of_fields n s fields) ∙ omega arith
]

-- field p of the frame at place q: each field that isn't there before it moves it one place to the front
pub field_item : (n : ℕ) (s : Settings) (q p place : ℕ) (x : Planned) → (s.fields ≡ 0 → ⊥) → slice_get (frames_plan ((n + 1) / 2) s) q ≡ Some x → p ≤ 1 → 2 * x.number + p < n
    → place + sum_by (of_number (missing n)) (take q (frames_plan ((n + 1) / 2) s)) ≡ 2 * q + p → slice_get (plan n s) place ≡ Some (field_of n p x)
field_item n s q p place x fields at few there e =
    let frames : List Planned = frames_plan ((n + 1) / 2) s in
    let count = lengths_of_fields n (take q frames) in
    let within = slice_get_within frames q x at in
    let long = length-take q frames in
    ap (λ (l : List Planned). slice_get l place) (plan_of_fields n s fields)
    ∙ get_piece (fields_of n) frames q p place x (field_of n p x) at (field_at p few there) (omega arith)
  where
    field_at : (p : ℕ) → p ≤ 1 → 2 * x.number + p < n → slice_get (fields_of n x) p ≡ Some (field_of n p x)
    field_at zero few there = refl
    field_at (suc zero) few there = ap (λ (b : Bool). slice_get (field_of n 0 x ∷ (if b then field_of n 1 x ∷ [] else [])) 1) (lt-ltb (2 * x.number + 1) n there)
    field_at (suc (suc p)) few there = absurd (omega arith)

-- ---- the last frame

-- its place in coding order
abbrev pub last_place : ℕ → Settings → ℕ
last_place frames s =
    if (frames - 1) % s.gop == 0 then frames - 1
    else frames - 1 - (frames - 1) % s.gop + ((frames - 1) % s.gop - 1) / (s.between + 1) * (s.between + 1) + 1

-- it stands behind the anchor k of the last group
pub last_is : (frames : ℕ) (s : Settings) → 0 < frames → 0 < s.gop → 0 < (frames - 1) % s.gop
    → option_map planned_number (slice_get (frames_plan frames s) (frames - 1 - (frames - 1) % s.gop + ((frames - 1) % s.gop - 1) / (s.between + 1) * (s.between + 1) + 1)) ≡ Some (frames - 1)
last_is frames s some group inside =
    let gap : ℕ = s.between + 1 in
    let o : ℕ = (frames - 1) % s.gop in
    let first : ℕ = frames - 1 - o in
    let k : ℕ = (o - 1) / gap in
    let whole = div-add-mod' (frames - 1) s.gop in
    let low = mod_below (frames - 1) s.gop group in
    let steps = div-add-mod' (o - 1) gap in
    let short = mod_below (o - 1) gap (omega arith) in
    let place : ℕ = first + k * gap + 1 in
    let len : ℕ = min s.gop (frames - first) in
    let is : IsPlace frames s place first len k 0 = record {
      in_plan = omega arith;
      group = ((frames - 1) / s.gop, omega arith);
      len_is = refl;
      in_step = omega arith;
      place = omega arith;
      in_group = omega arith;
    } in
    let last : first + min (k * gap + gap) (len - 1) ≡ frames - 1 = omega arith in
    ap (option_map planned_number) (coded_anchor frames s place first len k is)
    ∙ ap Some (anchor_number (first + min (k * gap + gap) (len - 1)) _ _ _ ∙ last)

-- the frame of the last number
pub record IsLast (frames : ℕ) (s : Settings) (last : ℕ) : Type 0 where
  pub item : Planned
  pub at : slice_get (frames_plan frames s) last ≡ Some item
  pub number : item.number ≡ frames - 1

pub last_from : (frames : ℕ) (s : Settings) (last : ℕ) → option_map planned_number (slice_get (frames_plan frames s) last) ≡ Some (frames - 1) → IsLast frames s last
last_from frames s last e = of_item (slice_get (frames_plan frames s) last) refl e
  where
    of_item : (o : Option Planned) → slice_get (frames_plan frames s) last ≡ o → option_map planned_number o ≡ Some (frames - 1) → IsLast frames s last
    of_item None at number = absurd (cc)
    of_item (Some x) at number = let same : x.number ≡ frames - 1 = cc in record { item = x; at = at; number = same }

-- how many fields aren't there of the frames before a place
abbrev pub missing_before : ℕ → Settings → ℕ → ℕ
missing_before n s q = sum_by (of_number (missing n)) (take q (frames_plan ((n + 1) / 2) s))

-- none, if all fields are there
pub even_before : (n : ℕ) (s : Settings) (q : ℕ) → 0 < s.gop → n % 2 ≡ 0 → missing_before n s q ≡ 0
even_before n s q some even =
    let all = missing_in_plan n s some in
    let front = sum_by-take-le (of_number (missing n)) (frames_plan ((n + 1) / 2) s) q in
    omega arith

last_alone : (n : ℕ) (s : Settings) (last : ℕ) → 0 < s.gop → n % 2 ≡ 1 → IsLast ((n + 1) / 2) s last
    → (missing_before n s last ≡ 0) × (missing_before n s (suc last) ≡ 1)
last_alone n s last some odd is =
    let all = missing_in_plan n s some in
    let around = sum_around (of_number (missing n)) (frames_plan ((n + 1) / 2) s) last is.item is.at in
    let one = one_missing n is.item.number (omega (arith, is.number)) in
    (omega (arith, around.0, around.1), omega (arith, around.0, around.1))

-- else none before the last frame
pub odd_before : (n : ℕ) (s : Settings) (q last : ℕ) → 0 < s.gop → n % 2 ≡ 1 → IsLast ((n + 1) / 2) s last → q ≤ last → missing_before n s q ≡ 0
odd_before n s q last some odd is front =
    let alone = last_alone n s last some odd is in
    let shorter = sum_fronts (of_number (missing n)) (frames_plan ((n + 1) / 2) s) q last front in
    omega (arith, alone.0)

-- and one behind it
pub odd_behind : (n : ℕ) (s : Settings) (q last : ℕ) → 0 < s.gop → n % 2 ≡ 1 → IsLast ((n + 1) / 2) s last → last < q → missing_before n s q ≡ 1
odd_behind n s q last some odd is back =
    let alone = last_alone n s last some odd is in
    let longer = sum_fronts (of_number (missing n)) (frames_plan ((n + 1) / 2) s) (suc last) q (omega arith) in
    let all = missing_in_plan n s some in
    let front = sum_by-take-le (of_number (missing n)) (frames_plan ((n + 1) / 2) s) q in
    omega (arith, alone.1)

-- all other frames have both fields
pub both_fields : (n : ℕ) (s : Settings) (q : ℕ) (x : Planned) → 0 < s.gop → slice_get (frames_plan ((n + 1) / 2) s) q ≡ Some x → missing_before n s (suc q) ≡ missing_before n s q → 2 * x.number + 1 < n
both_fields n s q x some at same =
    let around = sum_around (of_number (missing n)) (frames_plan ((n + 1) / 2) s) q x at in
    both_there n x.number (omega (arith, around.0))

-- ---- the field at a place, where it would stand if all frames had both fields

same_item : (o : Option Planned) (x y : Planned) → o ≡ Some x → o ≡ Some y → x.number ≡ y.number
same_item o x y first second = let clash : Some x ≡ Some y = sym first ∙ second in let e : x ≡ y = cc in ap planned_number e

pub even_place : (n : ℕ) (s : Settings) (place : ℕ) (x : Planned) → (s.fields ≡ 0 → ⊥) → 0 < s.gop → n % 2 ≡ 0
    → slice_get (frames_plan ((n + 1) / 2) s) (place / 2) ≡ Some x → slice_get (plan n s) place ≡ Some (field_of n (place % 2) x)
even_place n s place x fields some even at =
    let q : ℕ = place / 2 in
    let here = even_before n s q some even in
    let both = both_fields n s q x some at (even_before n s (suc q) some even ∙ sym here) in
    field_item n s q (place % 2) place x fields at (omega arith) (omega arith) (omega arith)

pub front_place : (n : ℕ) (s : Settings) (place last : ℕ) (x : Planned) → (s.fields ≡ 0 → ⊥) → 0 < s.gop → n % 2 ≡ 1 → IsLast ((n + 1) / 2) s last → place ≤ 2 * last
    → slice_get (frames_plan ((n + 1) / 2) s) (place / 2) ≡ Some x → slice_get (plan n s) place ≡ Some (field_of n (place % 2) x)
front_place n s place last x fields some odd is front at =
    let q : ℕ = place / 2 in
    let here = odd_before n s q last some odd is (omega arith) in
    let there : 2 * x.number + place % 2 < n = elim (cases_eq q last) [
      | inl same ↦
          let number = same_item (slice_get (frames_plan ((n + 1) / 2) s) q) x is.item at (ap (slice_get (frames_plan ((n + 1) / 2) s)) same ∙ is.at) in
          omega (arith, is.number)
      | inr other ↦
          let both = both_fields n s q x some at (odd_before n s (suc q) last some odd is (omega (arith, other)) ∙ sym here) in
          omega arith
    ] in
    field_item n s q (place % 2) place x fields at (omega arith) there (omega arith)

pub back_place : (n : ℕ) (s : Settings) (place last : ℕ) (x : Planned) → (s.fields ≡ 0 → ⊥) → 0 < s.gop → n % 2 ≡ 1 → IsLast ((n + 1) / 2) s last → 2 * last < place
    → slice_get (frames_plan ((n + 1) / 2) s) ((place + 1) / 2) ≡ Some x → slice_get (plan n s) place ≡ Some (field_of n ((place + 1) % 2) x)
back_place n s place last x fields some odd is back at =
    let q : ℕ = (place + 1) / 2 in
    let here = odd_behind n s q last some odd is (omega arith) in
    let both = both_fields n s q x some at (odd_behind n s (suc q) last some odd is (omega arith) ∙ sym here) in
    field_item n s q ((place + 1) % 2) place x fields at (omega arith) (omega arith) (omega arith)

-- the last frame's place is in the plan
pub last_within : (frames : ℕ) (s : Settings) (last : ℕ) → 0 < s.gop → IsLast frames s last → last < frames
last_within frames s last some is = omega (arith, slice_get_within (frames_plan frames s) last is.item is.at, length_frames frames s some)
