-- Some groups of a plan of frames or of fields: how many pictures they are, their numbers, their intra pictures, and what they refer to.
use Rattle.std.proofs.Common.{◌≡◌, ℕ, zero, suc, ◌+◌, ◌-◌, ◌*◌, ◌/◌, ◌<◌, ◌≤◌, ◌==◌, ◌&&◌, min, nat_le, nat_lt, if◌then◌else◌, Bool, true, false, List, [], ◌∷◌, ◌++◌, length, Option, None, Some, option_map, refl, sym, ◌∙◌, ap, subst, arith, sum_by, inl, inr, length-append, div-add-mod', mul-le-mul_right}
use Rattle.std.specs.Prelude.{IfSome}
use Rattle.std.specs.List.{AllByRecursion, flat_map, range_with_len}
use Rattle.std.proofs.lemmas.Bool.{cases_lt, le-ltb, lt-ltb, ltb-true}
use Rattle.std.proofs.lemmas.Grind.{flat_map-append}
use Rattle.std.proofs.lemmas.List.Sums.{sum_by-cons}
use Rattle.std.proofs.lemmas.Nat.{mod_below}
use Rattle.dirac_types.specs.declared.settings.Settings.{Settings}
use Rattle.dirac_common.specs.declared.codes.TheConstants.{INTRA_REFERENCE}
use Rattle.dirac_plan.specs.declared.planned.Planned.{Planned}
use Rattle.dirac_plan.specs.Plan.{anchor_of, anchor_offset, anchors_behind, between_of, field_of, field_or_first, fields_of, frames_plan, group, group_at, group_count, opening_of, plan, retired_of, second_of_anchor, step}
use Rattle.dirac_plan.specs.Planning.{group_pictures}
use Rattle.dirac_plan.proofs.Anchors.{uncovered}
use Rattle.dirac_plan.proofs.Lists.{range_split}
use Rattle.dirac_plan.proofs.Numbers.{either, of_number, sum_groups}
use Rattle.dirac_plan_laws.proofs.Each.{each_append, each_joined, each_mapped}
use Rattle.dirac_plan_laws.proofs.Fields.{fields_weight, first_number, second_number}
use Rattle.dirac_edit_laws.specs.Encoded.{groups_in}
use Rattle.dirac_edit_laws.proofs.Grouping.{BeginIntra, IsInter, LiesIn, groups_at, groups_begin, groups_lie, length_groups, planned_points, points_append, points_groups, points_inter, steps_inter}

-- by whether pictures are frames: how many pictures a group has, how many frames n pictures are, and m groups of their plan from group i on
abbrev pub size_by : Bool → Settings → ℕ
size_by frames s = (if frames then 1 else 2) * s.gop

abbrev pub frames_by : Bool → ℕ → ℕ
frames_by frames n = if frames then n else (n + 1) / 2

abbrev pub part_by : Bool → Settings → ℕ → ℕ → ℕ → List Planned
part_by frames s n i m = if frames then groups_at s n i m else flat_map (fields_of n) (groups_at s ((n + 1) / 2) i m)

-- m groups of the plan of n pictures, from group i on
abbrev pub part_at : Settings → ℕ → ℕ → ℕ → List Planned
part_at s n i m = part_by (s.fields == 0) s n i m

-- none of no group
pub part_none : (s : Settings) (n i : ℕ) → part_at s n i 0 ≡ []
part_none s n i = by_test (s.fields == 0)
  where
    by_test : (b : Bool) → part_by b s n i 0 ≡ []
    by_test true = refl
    by_test false = refl

-- ---- the plan

plan_by : (b : Bool) (s : Settings) (n : ℕ) → (if b then frames_plan n s else flat_map (fields_of n) (frames_plan ((n + 1) / 2) s)) ≡ part_by b s n 0 (group_count s (frames_by b n))
unfolding frames_plan
plan_by true s n = refl
plan_by false s n = refl

pub plan_is : (s : Settings) (n : ℕ) → plan n s ≡ part_at s n 0 (groups_in s n)
unfolding plan
plan_is s n = plan_by (s.fields == 0) s n

groups_split : (s : Settings) (n i m k j : ℕ) → i + m ≡ j → groups_at s n i (m + k) ≡ groups_at s n i m ++ groups_at s n j k
groups_split s n i m k j is = ap (flat_map (group_at s n)) (range_split i m k j is) ∙ flat_map-append (group_at s n) (range_with_len i m) (range_with_len j k)

split_by : (b : Bool) (s : Settings) (n i m k j : ℕ) → i + m ≡ j → part_by b s n i (m + k) ≡ part_by b s n i m ++ part_by b s n j k
split_by true s n i m k j is = groups_split s n i m k j is
split_by false s n i m k j is =
    let frames : ℕ = (n + 1) / 2 in
    ap (flat_map (fields_of n)) (groups_split s frames i m k j is) ∙ flat_map-append (fields_of n) (groups_at s frames i m) (groups_at s frames j k)

pub part_split : (s : Settings) (n i m k j : ℕ) → i + m ≡ j → part_at s n i (m + k) ≡ part_at s n i m ++ part_at s n j k
part_split s n i m k j is = split_by (s.fields == 0) s n i m k j is

-- ---- frames and fields

-- what holds of the fields of each frame
fields_each : (n : ℕ) (P Q : Planned → Type 0) (xs : List Planned) → ((f : Planned) → P f → Q (field_of n 0 f)) → ((f : Planned) → P f → 2 * f.number + 1 < n → Q (field_of n 1 f))
    → AllByRecursion P xs → AllByRecursion Q (flat_map (fields_of n) xs)
fields_each n P Q [] first second all = tt
fields_each n P Q (f ∷ fs) first second all =
    each_append Q (fields_of n f) (flat_map (fields_of n) fs) (by_test (nat_lt (2 * f.number + 1) n) refl) (fields_each n P Q fs first second all.1)
  where
    by_test : (b : Bool) → nat_lt (2 * f.number + 1) n ≡ b → AllByRecursion Q (field_of n 0 f ∷ (if b then field_of n 1 f ∷ [] else []))
    by_test true e = (first f all.0, (second f all.0 (ltb-true (2 * f.number + 1) n e), tt))
    by_test false e = (first f all.0, tt)

-- so many frames hold n fields, and one field less doesn't need them
record IsHalf (n frames : ℕ) : Type 0 where
  pub most : 2 * frames ≤ n + 1
  pub least : n ≤ 2 * frames

half_is : (n : ℕ) → IsHalf n ((n + 1) / 2)
half_is n =
    let half = div-add-mod' (n + 1) 2 in
    let rest = mod_below (n + 1) 2 (omega arith) in
    record { most = omega arith; least = omega arith }

one_time : (g : ℕ) → g ≡ 1 * g
one_time g = omega arith

-- ---- where groups begin

begins_by : (b : Bool) (s : Settings) (n k : ℕ) → 0 < s.gop → k < group_count s (frames_by b n) → k * size_by b s < n
begins_by true s n k some h = subst (λ g. k * g < n) (one_time s.gop) (uncovered n s.gop k some h)
begins_by false s n k some h =
    let half = half_is n in
    let frame = uncovered ((n + 1) / 2) s.gop k some h in
    twice (k * s.gop) k s.gop n ((n + 1) / 2) refl frame half.most
  where
    twice : (x k g n frames : ℕ) → k * g ≡ x → x < frames → 2 * frames ≤ n + 1 → k * (2 * g) < n
    twice x k g n frames is few most = let whole : k * (2 * g) ≡ 2 * (k * g) = omega arith in omega (arith, whole, is, few, most)

pub part_begins : (s : Settings) (n k : ℕ) → 0 < s.gop → k < groups_in s n → k * group_pictures s < n
part_begins s n k some h = begins_by (s.fields == 0) s n k some h

-- a group has pictures
some_by : (b : Bool) (s : Settings) → 0 < s.gop → 0 < size_by b s
some_by true s some = omega (arith, some)
some_by false s some = omega (arith, some)

pub some_pictures : (s : Settings) → 0 < s.gop → 0 < group_pictures s
some_pictures s some = some_by (s.fields == 0) s some

-- ---- how many they are

length_fields : (n : ℕ) (f : Planned) → length (fields_of n f) ≡ fields_weight n (λ _. 1) f.number
length_fields n f = by_test (field_of n 0 f) (field_of n 1 f) (nat_lt (2 * f.number + 1) n)
  where
    by_test : (x y : Planned) (b : Bool) → length (x ∷ (if b then y ∷ [] else [])) ≡ 1 + (if b then 1 else 0)
    by_test x y true = refl
    by_test x y false = refl

lengths_of_fields : (n : ℕ) (xs : List Planned) → length (flat_map (fields_of n) xs) ≡ sum_by (of_number (fields_weight n (λ _. 1))) xs
lengths_of_fields n [] = refl
lengths_of_fields n (x ∷ xs) =
    omega (arith, length-append (fields_of n x) (flat_map (fields_of n) xs), length_fields n x, sum_by-cons (of_number (fields_weight n (λ _. 1))) x xs, lengths_of_fields n xs)

-- so many fields have k frames from frame a on
count_fields : (n a k : ℕ) → 2 * (a + k) ≤ n + 1 → sum_by (fields_weight n (λ _. 1)) (range_with_len a k) ≡ min n (2 * (a + k)) - 2 * a
count_fields n a zero h = none_more (2 * a) n (a + 0) (omega arith)
  where
    none_more : (x n y : ℕ) → x ≡ 2 * y → 0 ≡ min n (2 * y) - x
    none_more x n y e = omega arith
count_fields n a (suc k) h =
    let here = sum_by-cons (fields_weight n (λ _. 1)) a (range_with_len (a + 1) k) in
    let rest = count_fields n (a + 1) k (omega arith) in
    elim (cases_lt (2 * a + 1) n) [
      | inl both ↦
          let weight : fields_weight n (λ _. 1) a ≡ 2 = ap (λ (b : Bool). 1 + (if b then 1 else 0)) (lt-ltb (2 * a + 1) n both) in
          omega arith
      | inr alone ↦
          let weight : fields_weight n (λ _. 1) a ≡ 1 = ap (λ (b : Bool). 1 + (if b then 1 else 0)) (le-ltb (2 * a + 1) n alone) in
          omega arith
    ]

-- the fields of frames from x up to, and without, y
fields_up : (n frames x y : ℕ) → IsHalf n frames → x ≤ frames → x ≤ y → min n (2 * (x + (min frames y - x))) - 2 * x ≡ min n (2 * y) - 2 * x
fields_up n frames x y half low up = omega (arith, half.most, half.least)

fields_top : (n frames x y : ℕ) → IsHalf n frames → x ≤ frames → 2 * (x + (min frames y - x)) ≤ n + 1
fields_top n frames x y half low = omega (arith, half.most, half.least)

-- twice a group's frames are its fields
doubled : (n i m g : ℕ) → min n (2 * ((i + m) * g)) - 2 * (i * g) ≡ min n ((i + m) * (2 * g)) - i * (2 * g)
doubled n i m g =
    let more : (i + m) * (2 * g) ≡ 2 * ((i + m) * g) = omega arith in
    let from : i * (2 * g) ≡ 2 * (i * g) = omega arith in
    omega (arith, more, from)

none_between : (n i g : ℕ) → 0 ≡ min n ((i + 0) * g) - i * g
none_between n i g = let same : (i + 0) * g ≡ i * g = omega arith in omega (arith, same)

length_by : (b : Bool) (s : Settings) (n i m : ℕ) → 0 < s.gop → i + m ≤ group_count s (frames_by b n) → length (part_by b s n i m) ≡ min n ((i + m) * size_by b s) - i * size_by b s
length_by true s n i m some h = length_groups s n i m some h ∙ ap (λ g. min n ((i + m) * g) - i * g) (one_time s.gop)
length_by false s n i zero some h = none_between n i (2 * s.gop)
length_by false s n i (suc m) some h =
    let frames : ℕ = (n + 1) / 2 in
    let half = half_is n in
    let low = uncovered frames s.gop i some (omega (arith, h)) in
    let up : i * s.gop ≤ (i + suc m) * s.gop = omega arith in
    lengths_of_fields n (groups_at s frames i (suc m)) ∙ sum_groups (fields_weight n (λ _. 1)) s frames i (suc m) some h
    ∙ count_fields n (i * s.gop) (min frames ((i + suc m) * s.gop) - i * s.gop) (fields_top n frames (i * s.gop) ((i + suc m) * s.gop) half (omega (arith, low)))
    ∙ fields_up n frames (i * s.gop) ((i + suc m) * s.gop) half (omega (arith, low)) up ∙ doubled n i (suc m) s.gop

pub length_part : (s : Settings) (n i m : ℕ) → 0 < s.gop → i + m ≤ groups_in s n → length (part_at s n i m) ≡ min n ((i + m) * group_pictures s) - i * group_pictures s
length_part s n i m some h = length_by (s.fields == 0) s n i m some h

-- ---- their numbers

lie_by : (b : Bool) (s : Settings) (n i m : ℕ) → 0 < s.gop → i + m ≤ group_count s (frames_by b n)
    → AllByRecursion (LiesIn (i * size_by b s) (min n ((i + m) * size_by b s) - i * size_by b s)) (part_by b s n i m)
lie_by true s n i m some h = subst (λ g. AllByRecursion (LiesIn (i * g) (min n ((i + m) * g) - i * g)) (groups_at s n i m)) (one_time s.gop) (groups_lie s n i m some h)
lie_by false s n i zero some h = tt
lie_by false s n i (suc m) some h =
    let frames : ℕ = (n + 1) / 2 in
    let half = half_is n in
    let x : ℕ = i * s.gop in
    let y : ℕ = (i + suc m) * s.gop in
    let low : x < frames = uncovered frames s.gop i some (omega (arith, h)) in
    let from : i * (2 * s.gop) ≡ 2 * x = omega arith in
    let more : (i + suc m) * (2 * s.gop) ≡ 2 * y = omega arith in
    let lies : (q t p : ℕ) → q ≡ 2 * t + p → p ≤ 1 → 2 * t + p < n → x ≤ t → t < x + (min frames y - x) → (2 * x ≤ q) × (q < 2 * x + (min n (2 * y) - 2 * x)) =
    λ q t p e few there a b. (omega (arith, e, a), omega (arith, e, few, there, a, b)) in
    let first : (f : Planned) → LiesIn x (min frames y - x) f → LiesIn (2 * x) (min n (2 * y) - 2 * x) (field_of n 0 f) = λ f is.
    let both = lies (field_of n 0 f).number f.number 0 (omega (arith, first_number n f)) (omega arith) (omega (arith, half.most, is.high)) is.low is.high in
    record { low = both.0; high = both.1 } in
    let second : (f : Planned) → LiesIn x (min frames y - x) f → 2 * f.number + 1 < n → LiesIn (2 * x) (min n (2 * y) - 2 * x) (field_of n 1 f) = λ f is there.
    let both = lies (field_of n 1 f).number f.number 1 (second_number n f) (omega arith) there is.low is.high in
    record { low = both.0; high = both.1 } in
    let xs = flat_map (fields_of n) (groups_at s frames i (suc m)) in
    let all : AllByRecursion (LiesIn (2 * x) (min n (2 * y) - 2 * x)) xs =
    fields_each n (LiesIn x (min frames y - x)) (LiesIn (2 * x) (min n (2 * y) - 2 * x)) (groups_at s frames i (suc m)) first second (groups_lie s frames i (suc m) some h) in
    subst (λ lo. AllByRecursion (LiesIn lo (min n ((i + suc m) * (2 * s.gop)) - lo)) xs) (sym from) (subst (λ hi. AllByRecursion (LiesIn (2 * x) (min n hi - 2 * x)) xs) (sym more) all)

pub part_lies : (s : Settings) (n i m : ℕ) → 0 < s.gop → i + m ≤ groups_in s n
    → AllByRecursion (LiesIn (i * group_pictures s) (min n ((i + m) * group_pictures s) - i * group_pictures s)) (part_at s n i m)
part_lies s n i m some h = lie_by (s.fields == 0) s n i m some h

-- the number of the first of planned pictures
abbrev pub first_planned : List Planned → Option ℕ
first_planned [] = None
first_planned (p ∷ planned) = Some p.number

first_by : (b : Bool) (s : Settings) (n i m : ℕ) → first_planned (part_by b s n i (suc m)) ≡ Some (i * size_by b s)
first_by true s n i m = ap (λ g. Some (i * g)) (one_time s.gop)
first_by false s n i m = let same : 2 * (i * s.gop) + 0 ≡ i * (2 * s.gop) = omega arith in ap Some same

pub part_first : (s : Settings) (n i m : ℕ) → first_planned (part_at s n i (suc m)) ≡ Some (i * group_pictures s)
part_first s n i m = first_by (s.fields == 0) s n i m

-- ---- their intra pictures

field_inter : (n p : ℕ) (f : Planned) → IsInter f → IsInter (field_of n p f)
field_inter n p f is = either (f.code == INTRA_REFERENCE && p == 1) IsInter (anchor_of (2 * f.number + 1) (2 * f.number) None (option_map (λ t. 2 * t + p) f.retire)) _ refl is

-- the first field of a group is an intra picture, the others aren't
fields_points : (s : Settings) (n len first points : ℕ) → planned_points points (flat_map (fields_of n) (group s len first)) ≡ suc points
fields_points s n len first points =
    let steps = flat_map (step s len first) (range_with_len 0 (anchors_behind s len)) in
    let later = fields_each n IsInter IsInter steps (λ f is. field_inter n 0 f is) (λ f is there. field_inter n 1 f is) (steps_inter s len first) in
    by_test (nat_lt (2 * first + 1) n) (flat_map (fields_of n) steps) later
  where
    by_test : (b : Bool) (rest : List Planned) → AllByRecursion IsInter rest → planned_points points ((field_of n 0 (opening_of s first) ∷ (if b then field_of n 1 (opening_of s first) ∷ [] else [])) ++ rest) ≡ suc points
    by_test true rest later = points_inter (field_of n 1 (opening_of s first) ∷ rest) (suc points) (refl, later)
    by_test false rest later = points_inter rest (suc points) later

points_by : (b : Bool) (s : Settings) (n m i points : ℕ) → planned_points points (part_by b s n i m) ≡ points + m
points_by true s n m i points = points_groups s n m i points
points_by false s n zero i points = omega arith
points_by false s n (suc m) i points =
    let frames : ℕ = (n + 1) / 2 in
    let one = group_at s frames i in
    let rest = groups_at s frames (i + 1) m in
    ap (planned_points points) (flat_map-append (fields_of n) one rest)
    ∙ points_append (flat_map (fields_of n) one) (flat_map (fields_of n) rest) points
    ∙ ap (λ p. planned_points p (flat_map (fields_of n) rest)) (fields_points s n (min s.gop (frames - i * s.gop)) (i * s.gop) points)
    ∙ points_by false s n m (i + 1) (suc points) ∙ omega arith

pub part_points : (s : Settings) (n m i points : ℕ) → planned_points points (part_at s n i m) ≡ points + m
part_points s n m i points = points_by (s.fields == 0) s n m i points

begin_by : (b : Bool) (s : Settings) (n m i : ℕ) → BeginIntra (part_by b s n i m)
unfolding BeginIntra
begin_by true s n m i = groups_begin s n m i
begin_by false s n zero i = tt
begin_by false s n (suc m) i = refl

pub part_begins_intra : (s : Settings) (n m i : ℕ) → BeginIntra (part_at s n i m)
part_begins_intra s n m i = begin_by (s.fields == 0) s n m i

-- ---- what they refer to

-- a planned picture and all that it refers to are numbered from this one on
pub record IsFrom (low : ℕ) (p : Planned) : Type 0 where
  pub number : low ≤ p.number
  pub ref1 : IfSome p.ref1 (λ r. low ≤ r)
  pub ref2 : IfSome p.ref2 (λ r. low ≤ r)

anchor_from : (low number before : ℕ) (second retired : Option ℕ) → low ≤ number → low ≤ before → IfSome second (λ r. low ≤ r) → IsFrom low (anchor_of number before second retired)
anchor_from low number before None retired here there other = record { number = here; ref1 = there; ref2 = tt }
anchor_from low number before (Some second) retired here there other = record { number = here; ref1 = there; ref2 = other }

between_from : (low references before after number : ℕ) → low ≤ number → low ≤ before → low ≤ after → IsFrom low (between_of references before after number)
between_from low references before after number here one two =
    either (references == 2) (IsFrom low) _ _ (record { number = here; ref1 = one; ref2 = two }) (record { number = here; ref1 = one; ref2 = tt })

steps_from : (s : Settings) (len first low : ℕ) → low ≤ first → AllByRecursion (IsFrom low) (flat_map (step s len first) (range_with_len 0 (anchors_behind s len)))
steps_from s len first low up =
    each_joined (IsFrom low) (step s len first) 0 (anchors_behind s len) (λ k least most.
    let before = first + anchor_offset s len k in
    let after = first + anchor_offset s len (suc k) in (
      anchor_from low after before (second_of_anchor s first k) (retired_of s len first k) (omega (arith, up)) (omega (arith, up))
          (either (s.references == 2 && nat_le 1 k) (λ o. IfSome o (λ r. low ≤ r)) (Some first) None up tt),
      each_mapped (IsFrom low) (between_of s.references before after) (before + 1) (after - before - 1)
          (λ m least' most'. between_from low s.references before after m (omega (arith, up, least')) (omega (arith, up)) (omega (arith, up))),
    ))

groups_from : (s : Settings) (n i m : ℕ) → AllByRecursion (IsFrom (i * s.gop)) (groups_at s n i m)
groups_from s n i m =
    each_joined (IsFrom (i * s.gop)) (group_at s n) i m (λ k least most.
    let up : i * s.gop ≤ k * s.gop = mul-le-mul_right s.gop least in
    (record { number = up; ref1 = tt; ref2 = tt }, steps_from s (min s.gop (n - k * s.gop)) (k * s.gop) (i * s.gop) up))

referred_from : (n p low : ℕ) (o : Option ℕ) → IfSome o (λ r. low ≤ r) → IfSome (option_map (field_or_first n p) o) (λ r. 2 * low ≤ r)
referred_from n p low None is = tt
referred_from n p low (Some r) is = either (nat_lt (2 * r + p) n) (λ m. 2 * low ≤ m) (2 * r + p) (2 * r) (omega (arith, is)) (omega (arith, is))

field_from : (n p low : ℕ) (f : Planned) → IsFrom low f → IsFrom (2 * low) (field_of n p f)
field_from n p low f is =
    either (f.code == INTRA_REFERENCE && p == 1) (IsFrom (2 * low)) (anchor_of (2 * f.number + 1) (2 * f.number) None (option_map (λ t. 2 * t + p) f.retire)) _
    (record { number = omega (arith, is.number); ref1 = omega (arith, is.number); ref2 = tt })
    (record { number = omega (arith, is.number); ref1 = referred_from n p low f.ref1 is.ref1; ref2 = referred_from n p low f.ref2 is.ref2 })

from_by : (b : Bool) (s : Settings) (n i m : ℕ) → AllByRecursion (IsFrom (i * size_by b s)) (part_by b s n i m)
from_by true s n i m = subst (λ g. AllByRecursion (IsFrom (i * g)) (groups_at s n i m)) (one_time s.gop) (groups_from s n i m)
from_by false s n i m =
    let frames : ℕ = (n + 1) / 2 in
    let low : ℕ = i * s.gop in
    let twice : i * (2 * s.gop) ≡ 2 * low = omega arith in
    rw twice (fields_each n (IsFrom low) (IsFrom (2 * low)) (groups_at s frames i m) (λ f is. field_from n 0 low f is) (λ f is there. field_from n 1 low f is) (groups_from s frames i m))

-- they need no picture of a group before them
pub part_from : (s : Settings) (n i m : ℕ) → AllByRecursion (IsFrom (i * group_pictures s)) (part_at s n i m)
part_from s n i m = from_by (s.fields == 0) s n i m
