-- What a planner of fields gives.
use Rattle.std.proofs.Common.{◌≡◌, ℕ, zero, suc, ◌+◌, ◌-◌, ◌*◌, ◌/◌, ◌%◌, ◌<◌, ◌≤◌, ◌==◌, ◌&&◌, not, inl, inr, min, nat_lt, if◌then◌else◌, Bool, true, false, Option, None, Some, IfSome, option_map, slice_get, refl, ap, ap₂, subst, ◌∙◌, sym, arith, div-add-mod', eq-eqb, ne_eqb, lt-ltb, mul-le-mul_right}
use Rattle.std.proofs.lemmas.Nat.{mod_below, mod-mul-add, le-div}
use Rattle.std.proofs.lemmas.Bool.{cases_eq, cases_lt}
use Rattle.dirac_types.specs.declared.settings.Settings.{Settings}
use Rattle.dirac_common.specs.declared.codes.TheConstants.{INTRA_REFERENCE}
use Rattle.dirac_plan.specs.declared.planned.Planned.{Planned}
use Rattle.dirac_plan.specs.Frames.{IsBelow}
use Rattle.dirac_plan.specs.Plan.{opening_of, anchor_of, between_of, field_of, field_or_first, second_of_anchor, plan}
use Rattle.dirac_plan.specs.Planning.{frame_pictures, group_offset, group_pictures, must_be_taken_first, refers_elsewhere, step_pictures}
use Rattle.dirac_plan.specs.Waiting.{anchor_at, step_offset, whole_anchor_at, whole_frames}
use Rattle.dirac_plan.proofs.Numbers.{either}
use Rattle.dirac_plan.proofs.Items.{IsPlace, opening_item}
use Rattle.dirac_plan.proofs.Places.{anchor_here, anchor_here_below, anchor_is_at, behind, between_here, between_here_below, between_is_at, retirement, whole_behind}
use Rattle.dirac_plan.proofs.Fields.{IsLast, even_before, field_item, last_from, last_is, last_place, missing_before, odd_before, odd_behind}
use Rattle.dirac_plan.proofs.Giving.{IsReady, Next, anchor_ready, at_anchor, at_between, at_opening, opening_ready, step_opens}
use Rattle.dirac_plan.proofs.Steps.{offset_steps}

-- ---- the place of the last frame

pub is_last : (frames : ℕ) (s : Settings) → 0 < frames → 0 < s.gop → IsLast frames s (last_place frames s)
is_last frames s some group = elim (cases_eq ((frames - 1) % s.gop) 0) [
  | inl e ↦
      let at : last_place frames s ≡ frames - 1 = ap (λ (b : Bool). if b then frames - 1 else inside) (eq-eqb ((frames - 1) % s.gop) 0 e) in
      subst (IsLast frames s) (sym at) (record { item = opening_of s (frames - 1); at = opening_item frames s (frames - 1) (omega arith) group e; number = refl })
  | inr other ↦
      let at : last_place frames s ≡ inside = ap (λ (b : Bool). if b then frames - 1 else inside) (ne_eqb ((frames - 1) % s.gop) 0 other) in
      subst (IsLast frames s) (sym at) (last_from frames s inside (last_is frames s some group (omega (arith, other))))
]
  where
    inside : ℕ
    inside = frames - 1 - (frames - 1) % s.gop + ((frames - 1) % s.gop - 1) / (s.between + 1) * (s.between + 1) + 1

-- it isn't before its group
pub last_in_group : (frames : ℕ) (s : Settings) → (frames - 1) / s.gop * s.gop ≤ last_place frames s
last_in_group frames s = by_test ((frames - 1) % s.gop == 0)
  where
    by_test : (b : Bool) → (frames - 1) / s.gop * s.gop ≤ (if b then frames - 1 else frames - 1 - (frames - 1) % s.gop + ((frames - 1) % s.gop - 1) / (s.between + 1) * (s.between + 1) + 1)
    by_test true = let whole = div-add-mod' (frames - 1) s.gop in omega arith
    by_test false = let whole = div-add-mod' (frames - 1) s.gop in omega arith

-- a place whose anchor isn't the last frame stands before that one's place; and the last frame as an anchor stands at the anchor's place
pub place_of_last : (frames : ℕ) (s : Settings) (q first len k j : ℕ) → 0 < s.gop → IsPlace frames s q first len k j
    → (behind s first len k < frames - 1 → q < last_place frames s) × (behind s first len k ≡ frames - 1 → last_place frames s ≡ first + k * (s.between + 1) + 1)
place_of_last frames s q first len k j group is =
    let gap : ℕ = s.between + 1 in
    let l : ℕ = frames - 1 in
    let i = is.group.0 in
    let o : ℕ = l % s.gop in
    let m : ℕ = l / s.gop in
    let whole = div-add-mod' l s.gop in
    let low = mod_below l s.gop group in
    let below : i ≤ m = le-div i l s.gop group (omega (arith, is.group.1, is.place, is.in_plan)) in
    elim (cases_lt i m) [
      | inl other ↦
          let far = mul-le-mul_right s.gop other in
          let start : first + s.gop ≤ m * s.gop = omega (arith, is.group.1) in
          let late = last_in_group frames s in
          (λ _. omega (arith, is.place, is.in_group), λ same. absurd (omega (arith, same, is.len_is, is.place, is.in_group)))
      | inr last ↦
          let equal : m ≡ i = omega arith in
          let start : m * s.gop ≡ first = ap (λ n. n * s.gop) equal ∙ sym is.group.1 in
          let some : o ≡ 0 → ⊥ = λ e. omega (arith, is.place, is.in_plan) in
          let at = at_inside some in
          let steps = div-add-mod' (o - 1) gap in
          let short = mod_below (o - 1) gap (omega arith) in (
            λ early.
                let later : suc k ≤ (o - 1) / gap = le-div (suc k) (o - 1) gap (omega arith) (omega (arith, early, is.len_is)) in
                let far = mul-le-mul_right gap later in
                omega (arith, is.place, is.in_step),
            λ same.
                let upto : (o - 1) / gap * gap ≡ k * gap = equal_products ((o - 1) / gap) k gap (omega arith) (omega (arith, same, is.len_is)) (omega (arith, is.place, is.in_plan)) in
                omega arith,
          )
    ]
  where
    inside : ℕ
    inside = frames - 1 - (frames - 1) % s.gop + ((frames - 1) % s.gop - 1) / (s.between + 1) * (s.between + 1) + 1

    at_inside : ((frames - 1) % s.gop ≡ 0 → ⊥) → last_place frames s ≡ inside
    at_inside ne = ap (λ (b : Bool). if b then frames - 1 else inside) (ne_eqb ((frames - 1) % s.gop) 0 ne)

    -- two multiples less than one step apart
    equal_products : (a b w : ℕ) → 0 < w → a * w < b * w + w → b * w < a * w + w → a * w ≡ b * w
    equal_products a b w some above under = elim (cases_lt a b) [
      | inl less ↦ let far = mul-le-mul_right w less in absurd (omega arith)
      | inr not_less ↦ elim (cases_lt b a) [
        | inl more ↦ let far = mul-le-mul_right w more in absurd (omega arith)
        | inr not_more ↦ let same : a ≡ b = omega arith in ap (λ n. n * w) same
      ]
    ]

-- ---- the kinds of fields

two_pictures : (s : Settings) → (s.fields ≡ 0 → ⊥) → frame_pictures s ≡ 2
two_pictures s fields = ap (λ (b : Bool). if b then 1 else 2) (ne_eqb s.fields 0 fields)

and_none : (b : Bool) → (b && false) ≡ false
and_none true = refl
and_none false = refl

-- a first field stands at an even number
first_kind : (s : Settings) (t : ℕ) (ref : Option ℕ) → (not (s.fields == 0) && (2 * t + 0) % 2 == 1 && refers_elsewhere (2 * t + 0) ref) ≡ false
first_kind s t ref =
    let even : (2 * t + 0) % 2 ≡ 1 → ⊥ = λ e. omega arith in
    ap (λ (b : Bool). not (s.fields == 0) && b && refers_elsewhere (2 * t + 0) ref) (ne_eqb ((2 * t + 0) % 2) 1 even)
    ∙ ap (λ (b : Bool). b && refers_elsewhere (2 * t + 0) ref) (and_none (not (s.fields == 0)))

second_kind : (s : Settings) (t : ℕ) (ref : Option ℕ) → (s.fields ≡ 0 → ⊥) → (not (s.fields == 0) && (2 * t + 1) % 2 == 1 && refers_elsewhere (2 * t + 1) ref) ≡ refers_elsewhere (2 * t + 1) ref
second_kind s t ref fields =
    let odd : (2 * t + 1) % 2 ≡ 1 = omega arith in
    ap₂ (λ (a b : Bool). not a && b && refers_elsewhere (2 * t + 1) ref) (ne_eqb s.fields 0 fields) (eq-eqb ((2 * t + 1) % 2) 1 odd)

opening_field_kind : (n : ℕ) (s : Settings) (p t : ℕ) → (s.fields ≡ 0 → ⊥) → p ≤ 1 → must_be_taken_first s (Some (field_of n p (opening_of s t))) ≡ false
opening_field_kind n s zero t fields few = first_kind s t None
opening_field_kind n s (suc zero) t fields few =
    second_kind s t (Some (2 * t)) fields ∙ ap not (eq-eqb (2 * t + 1) (2 * t + 1) refl)
opening_field_kind n s (suc (suc p)) t fields few = absurd (omega arith)

elsewhere : (n number before : ℕ) → before < number → not (field_or_first n 1 before + 1 == 2 * number + 1) ≡ true
elsewhere n number before less =
    let P : ℕ → Type 0 = λ m. m ≤ 2 * before + 1 in
    let small : field_or_first n 1 before ≤ 2 * before + 1 = either (nat_lt (2 * before + 1) n) P (2 * before + 1) (2 * before) (omega arith) (omega arith) in
    ap not (ne_eqb (field_or_first n 1 before + 1) (2 * number + 1) (λ e. omega arith))

pub anchor_field_kind : (n : ℕ) (s : Settings) (p number before : ℕ) (second retired : Option ℕ) → (s.fields ≡ 0 → ⊥) → p ≤ 1 → before < number
    → must_be_taken_first s (Some (field_of n p (anchor_of number before second retired))) ≡ nat_lt 0 p
anchor_field_kind n s zero number before None retired fields few less = first_kind s number (Some (field_or_first n 0 before))
anchor_field_kind n s zero number before (Some second) retired fields few less = first_kind s number (Some (field_or_first n 0 before))
anchor_field_kind n s (suc zero) number before None retired fields few less = second_kind s number (Some (field_or_first n 1 before)) fields ∙ elsewhere n number before less
anchor_field_kind n s (suc zero) number before (Some second) retired fields few less = second_kind s number (Some (field_or_first n 1 before)) fields ∙ elsewhere n number before less
anchor_field_kind n s (suc (suc p)) number before second retired fields few less = absurd (omega arith)

pub between_field_kind : (n : ℕ) (s : Settings) (p references before after number : ℕ) → must_be_taken_first s (Some (field_of n p (between_of references before after number))) ≡ true
between_field_kind n s p references before after number =
    let P : Planned → Type 0 = λ f. must_be_taken_first s (Some (field_of n p f)) ≡ true in
    either (references == 2) P _ _ refl refl

-- ---- their numbers

opening_field_number : (n : ℕ) (s : Settings) (p t : ℕ) → p ≤ 1 → (field_of n p (opening_of s t)).number ≡ 2 * t + p
opening_field_number n s zero t few = refl
opening_field_number n s (suc zero) t few = refl
opening_field_number n s (suc (suc p)) t few = absurd (omega arith)

anchor_field_number : (n p number before : ℕ) (second retired : Option ℕ) → (field_of n p (anchor_of number before second retired)).number ≡ 2 * number + p
anchor_field_number n p number before None retired = refl
anchor_field_number n p number before (Some second) retired = refl

between_field_number : (n p references before after number : ℕ) → (field_of n p (between_of references before after number)).number ≡ 2 * number + p
between_field_number n p references before after number =
    let P : Planned → Type 0 = λ f. (field_of n p f).number ≡ 2 * number + p in
    either (references == 2) P _ _ refl refl

-- ---- places of fields

-- a place in a step of fields: r places behind its anchor's first field, of the step behind anchor k of the group from frame first on
record FieldStep (n : ℕ) (s : Settings) (g first k r : ℕ) : Type 0 where
  pub in_plan : g < n
  pub group : (i : ℕ) × (first ≡ i * s.gop)
  pub place : 2 * (first + 1 + k * (s.between + 1)) + r ≡ g
  pub in_step : r < 2 * (s.between + 1)
  pub in_group : 2 + 2 * (k * (s.between + 1)) + r < 2 * s.gop
  pub step : step_offset s g ≡ r
  pub anchor : anchor_at n s g ≡ 2 * behind s first (min s.gop ((n + 1) / 2 - first)) k
  pub whole : whole_anchor_at s g ≡ 2 * whole_behind s first k

two_frames : (n whole gop first : ℕ) → whole ≡ n + n % 2 → min (2 * gop) (whole - 2 * first) ≡ 2 * min gop ((n + 1) / 2 - first)
two_frames n whole gop first e = omega arith

two_least : (a b l : ℕ) → min (2 * a + 2 * b) (2 * l - 2) ≡ 2 * min (a + b) (l - 1)
two_least a b l = omega arith

two_anchor : (f group step o r g gap gop k first len : ℕ) → f ≡ 2 → step ≡ 2 * gap → group ≡ 2 * len → o ≡ 2 + 2 * (k * gap) + r → 2 * first + o ≡ g
    → g - o + min (o - f - r + step) (group - f) ≡ 2 * (first + min (k * gap + gap) (len - 1))
two_anchor f group step o r g gap gop k first len two ew eg eo er =
    let start : g - o ≡ 2 * first = omega arith in
    let d : o - f - r ≡ 2 * (k * gap) = omega arith in
    let of : ℕ → ℕ → ℕ → ℕ → ℕ = λ a b c e. a + min (b + c) (e - f) in
    let last : ℕ → ℕ = λ e. 2 * first + min (2 * (k * gap) + 2 * gap) (2 * len - e) in
    ap₂ (λ a b. of a b step group) start d ∙ ap₂ (of (2 * first) (2 * (k * gap))) ew eg ∙ ap last two
    ∙ ap (λ m. 2 * first + m) (two_least (k * gap) gap len) ∙ omega arith

field_step : (n : ℕ) (s : Settings) (g : ℕ) → (s.fields ≡ 0 → ⊥) → g < n → 0 < s.gop → frame_pictures s ≤ group_offset s g
    → FieldStep n s g (g / group_pictures s * s.gop) ((group_offset s g - 2) / step_pictures s) (step_offset s g)
unfolding step_offset anchor_at whole_anchor_at
field_step n s g fields within some late =
    let f : ℕ = frame_pictures s in
    let o : ℕ = group_offset s g in
    let r : ℕ = step_offset s g in
    let gap : ℕ = s.between + 1 in
    let i : ℕ = g / group_pictures s in
    let k : ℕ = (o - 2) / step_pictures s in
    let two = two_pictures s fields in
    let group : group_pictures s ≡ 2 * s.gop = ap (λ m. m * s.gop) two in
    let wide : step_pictures s ≡ 2 * gap = ap (λ m. m * gap) two in
    let whole : whole_frames s n ≡ n + n % 2 = ap (λ (b : Bool). if b then n else n + n % 2) (ne_eqb s.fields 0 fields) in
    let groups = div-add-mod' g (group_pictures s) in
    let low = mod_below g (group_pictures s) (omega arith) in
    let first_two : i * group_pictures s ≡ i * (2 * s.gop) = ap (λ m. i * m) group in
    let steps = div-add-mod' (o - 2) (step_pictures s) in
    let short = mod_below (o - 2) (step_pictures s) (omega arith) in
    let d_two : k * step_pictures s ≡ k * (2 * gap) = ap (λ m. k * m) wide in
    let step : r ≡ (o - 2) % step_pictures s = offset_steps f (step_pictures s) o late ∙ ap (λ m. (o - m) % step_pictures s) two in
    let offset : o ≡ 2 + 2 * (k * gap) + r = omega arith in
    let start : 2 * (i * s.gop) + o ≡ g = omega arith in
    let first : ℕ = i * s.gop in
    let before : g - o ≡ 2 * first = omega arith in
    let length : min (group_pictures s) (whole_frames s n - (g - o)) ≡ 2 * min s.gop ((n + 1) / 2 - first) =
    ap₂ (λ a b. min a (whole_frames s n - b)) group before ∙ two_frames n (whole_frames s n) s.gop first whole in
    record {
      in_plan = within;
      group = (i, refl);
      place = omega arith;
      in_step = omega arith;
      in_group = omega arith;
      step = refl;
      anchor = two_anchor f (min (group_pictures s) (whole_frames s n - (g - o))) (step_pictures s) o r g gap s.gop k first (min s.gop ((n + 1) / 2 - first)) two wide length offset start;
      whole = two_anchor f (group_pictures s) (step_pictures s) o r g gap s.gop k first s.gop two wide group offset start;
    }

-- the frame of its anchor
field_anchor_place : (n : ℕ) (s : Settings) (g first k r : ℕ) → FieldStep n s g first k r
    → IsPlace ((n + 1) / 2) s (first + 1 + k * (s.between + 1)) first (min s.gop ((n + 1) / 2 - first)) k 0
field_anchor_place n s g first k r is = record {
  in_plan = omega (arith, is.place, is.in_plan);
  group = is.group;
  len_is = refl;
  in_step = omega arith;
  place = omega arith;
  in_group = omega (arith, is.in_group);
}

-- field r of the anchor
field_anchor : (n : ℕ) (s : Settings) (g first k r : ℕ) → (s.fields ≡ 0 → ⊥) → 0 < s.gop → FieldStep n s g first k r → r < min 2 (n - 2 * behind s first (min s.gop ((n + 1) / 2 - first)) k)
    → slice_get (plan n s) g ≡ Some (field_of n r (anchor_here s first k (behind s first (min s.gop ((n + 1) / 2 - first)) k)))
unfolding anchor_here
field_anchor n s g first k r fields some is inside =
    let frames : ℕ = (n + 1) / 2 in
    let len : ℕ = min s.gop (frames - first) in
    let b : ℕ = behind s first len k in
    let q : ℕ = first + 1 + k * (s.between + 1) in
    let at = field_anchor_place n s g first k r is in
    let last = is_last frames s (omega (arith, is.in_plan)) some in
    let where_last = place_of_last frames s q first len k 0 some at in
    let front : q ≤ last_place frames s = elim (cases_lt b (frames - 1)) [
      | inl early ↦ omega (arith, where_last.0 early)
      | inr late ↦ omega (arith, where_last.1 (omega (arith, at.in_plan, at.len_is, at.place, at.in_group)))
    ] in
    let gone : missing_before n s q ≡ 0 = elim (cases_eq (n % 2) 0) [
      | inl even ↦ even_before n s q some even
      | inr odd ↦ odd_before n s q (last_place frames s) some (omega (arith, odd)) last front
    ] in
    let number = plain_number b (first + k * (s.between + 1)) (second_of_anchor s first k) (retirement s first k) in
    field_item n s q r g (anchor_here s first k b) fields (anchor_is_at frames s q first len k at) (omega arith) (omega arith) (omega (arith, is.place))
  where
    plain_number : (number before : ℕ) (second retired : Option ℕ) → (anchor_of number before second retired).number ≡ number
    plain_number number before None retired = refl
    plain_number number before (Some second) retired = refl

-- a field of a frame between two anchors: t places behind those of the anchor
field_between : (n : ℕ) (s : Settings) (g first k r t : ℕ) → (s.fields ≡ 0 → ⊥) → 0 < s.gop → FieldStep n s g first k r → r ≡ min 2 (n - 2 * behind s first (min s.gop ((n + 1) / 2 - first)) k) + t
    → slice_get (plan n s) g ≡ Some (field_of n (t % 2) (between_here s (first + 1 + k * (s.between + 1) + (t / 2 + 1)) first k (behind s first (min s.gop ((n + 1) / 2 - first)) k)))
unfolding between_here
field_between n s g first k r t fields some is behind_anchor =
    let frames : ℕ = (n + 1) / 2 in
    let len : ℕ = min s.gop (frames - first) in
    let b : ℕ = behind s first len k in
    let j : ℕ = t / 2 + 1 in
    let q : ℕ = first + 1 + k * (s.between + 1) + j in
    let anchor = field_anchor_place n s g first k r is in
    let low : b < frames = omega (arith, anchor.in_plan, anchor.place, anchor.len_is, anchor.in_group) in
    let at : IsPlace frames s q first len k j = record {
      in_plan = omega (arith, is.place, is.in_plan, low);
      group = is.group;
      len_is = refl;
      in_step = omega (arith, is.place, is.in_plan, is.in_step, low);
      place = omega arith;
      in_group = omega (arith, is.place, is.in_plan, is.in_group, low);
    } in
    let last = is_last frames s (omega (arith, is.in_plan)) some in
    let where_last = place_of_last frames s q first len k j some at in
    let gone : missing_before n s q + min 2 (n - 2 * b) ≡ 2 = elim (cases_eq (n % 2) 0) [
      | inl even ↦ omega (arith, even_before n s q some even, low, even)
      | inr odd ↦ elim (cases_lt b (frames - 1)) [
        | inl early ↦ omega (arith, odd_before n s q (last_place frames s) some (omega (arith, odd)) last (omega (arith, where_last.0 early)), early, odd)
        | inr late ↦
            let same : b ≡ frames - 1 = omega (arith, low, late) in
            omega (arith, odd_behind n s q (last_place frames s) some (omega (arith, odd)) last (omega (arith, where_last.1 same)), same, odd)
      ]
    ] in
    let number = plain_number s.references (first + k * (s.between + 1)) b (q - 1) in
    field_item n s q (t % 2) g (between_here s q first k b) fields (between_is_at frames s q first len k j at (omega arith)) (omega arith)
    (omega (arith, is.place, is.in_plan, number)) (omega (arith, is.place))
  where
    plain_number : (references before after number : ℕ) → (between_of references before after number).number ≡ number
    plain_number references before after number =
        let P : Planned → Type 0 = λ p. p.number ≡ number in
        either (references == 2) P _ _ refl refl

-- field p of a frame that opens a group
field_opening : (n : ℕ) (s : Settings) (g i p : ℕ) → (s.fields ≡ 0 → ⊥) → 0 < s.gop → p ≤ 1 → 2 * (i * s.gop) + p ≡ g → g < n → slice_get (plan n s) g ≡ Some (field_of n p (opening_of s (i * s.gop)))
field_opening n s g i p fields some few place within =
    let frames : ℕ = (n + 1) / 2 in
    let t : ℕ = i * s.gop in
    let opens_group : t % s.gop ≡ 0 = ap (λ m. m % s.gop) (let e : t ≡ i * s.gop + 0 = omega arith in e) ∙ mod-mul-add i s.gop 0 some in
    let at = opening_item frames s t (omega arith) some opens_group in
    let last = is_last frames s (omega arith) some in
    let group : i ≤ (frames - 1) / s.gop = le-div i (frames - 1) s.gop some (omega arith) in
    let far = mul-le-mul_right s.gop group in
    let gone : missing_before n s t ≡ 0 = elim (cases_eq (n % 2) 0) [
      | inl even ↦ even_before n s t some even
      | inr odd ↦ odd_before n s t (last_place frames s) some (omega (arith, odd)) last (omega (arith, last_in_group frames s))
    ] in
    field_item n s t p g (opening_of s t) fields at few (omega arith) (omega arith)

opening_place : (n : ℕ) (s : Settings) (g : ℕ) → (s.fields ≡ 0 → ⊥) → 0 < s.gop → g < n → group_offset s g < frame_pictures s
    → slice_get (plan n s) g ≡ Some (field_of n (group_offset s g) (opening_of s (g / group_pictures s * s.gop)))
opening_place n s g fields some within early =
    let two = two_pictures s fields in
    let groups = div-add-mod' g (group_pictures s) in
    let group : group_pictures s ≡ 2 * s.gop = ap (λ m. m * s.gop) two in
    let first_two : g / group_pictures s * group_pictures s ≡ g / group_pictures s * (2 * s.gop) = ap (λ m. g / group_pictures s * m) group in
    field_opening n s g (g / group_pictures s) (group_offset s g) fields some (omega arith) (omega arith) within

next_opening : (n : ℕ) (s : Settings) (g : ℕ) → (s.fields ≡ 0 → ⊥) → 0 < s.gop → g < n → group_offset s g < frame_pictures s → Next n s g
next_opening n s g fields some within early =
    let two = two_pictures s fields in
    let p : ℕ = group_offset s g in
    let t : ℕ = g / group_pictures s * s.gop in
    let groups = div-add-mod' g (group_pictures s) in
    let group : group_pictures s ≡ 2 * s.gop = ap (λ m. m * s.gop) two in
    let first_two : g / group_pictures s * group_pictures s ≡ g / group_pictures s * (2 * s.gop) = ap (λ m. g / group_pictures s * m) group in
    record {
      item = field_of n p (opening_of s t);
      at = opening_place n s g fields some within early;
      number = at_opening early (opening_field_number n s p t (omega arith) ∙ omega arith);
      kind = opening_field_kind n s p t fields (omega arith) ∙ sym (ap (nat_lt 0) (step_opens s g early));
    }

anchor_here_number : (n : ℕ) (s : Settings) (first k r b : ℕ) → (field_of n r (anchor_here s first k b)).number ≡ 2 * b + r
unfolding anchor_here
anchor_here_number n s first k r b = anchor_field_number n r b (first + k * (s.between + 1)) (second_of_anchor s first k) (retirement s first k)

anchor_here_kind : (n : ℕ) (s : Settings) (first k r b : ℕ) → (s.fields ≡ 0 → ⊥) → first + k * (s.between + 1) < b → r ≤ 1 → must_be_taken_first s (Some (field_of n r (anchor_here s first k b))) ≡ nat_lt 0 r
unfolding anchor_here
anchor_here_kind n s first k r b fields less few = anchor_field_kind n s r b (first + k * (s.between + 1)) (second_of_anchor s first k) (retirement s first k) fields few less

between_here_number : (n : ℕ) (s : Settings) (first k p q b : ℕ) → (field_of n p (between_here s q first k b)).number ≡ 2 * (q - 1) + p
unfolding between_here
between_here_number n s first k p q b = between_field_number n p s.references (first + k * (s.between + 1)) b (q - 1)

between_here_kind : (n : ℕ) (s : Settings) (first k p q b : ℕ) → must_be_taken_first s (Some (field_of n p (between_here s q first k b))) ≡ true
unfolding between_here
between_here_kind n s first k p q b = between_field_kind n s p s.references (first + k * (s.between + 1)) b (q - 1)

next_anchor : (n : ℕ) (s : Settings) (g first k r : ℕ) → (s.fields ≡ 0 → ⊥) → 0 < s.gop → frame_pictures s ≤ group_offset s g → FieldStep n s g first k r
    → r < min 2 (n - 2 * behind s first (min s.gop ((n + 1) / 2 - first)) k) → Next n s g
next_anchor n s g first k r fields some late is inside =
    let len : ℕ = min s.gop ((n + 1) / 2 - first) in
    let b : ℕ = behind s first len k in
    let two = two_pictures s fields in
    let at = field_anchor_place n s g first k r is in
    record {
      item = field_of n r (anchor_here s first k b);
      at = field_anchor n s g first k r fields some is inside;
      number = at_anchor late (omega (arith, two, is.step, is.anchor, inside)) (anchor_here_number n s first k r b ∙ omega (arith, is.step, is.anchor));
      kind = anchor_here_kind n s first k r b fields (omega (arith, at.in_plan, at.len_is, at.place, at.in_group)) (omega (arith, inside)) ∙ sym (ap (nat_lt 0) is.step);
    }

next_between : (n : ℕ) (s : Settings) (g first k r t : ℕ) → (s.fields ≡ 0 → ⊥) → 0 < s.gop → frame_pictures s ≤ group_offset s g → FieldStep n s g first k r
    → r ≡ min 2 (n - 2 * behind s first (min s.gop ((n + 1) / 2 - first)) k) + t → Next n s g
next_between n s g first k r t fields some late is behind_anchor =
    let len : ℕ = min s.gop ((n + 1) / 2 - first) in
    let b : ℕ = behind s first len k in
    let two = two_pictures s fields in
    let at = field_anchor_place n s g first k r is in
    let q : ℕ = first + 1 + k * (s.between + 1) + (t / 2 + 1) in
    let count : min (frame_pictures s) (n - anchor_at n s g) ≡ min 2 (n - 2 * b) = ap₂ (λ x y. min x (n - y)) two is.anchor in
    let begun : 0 < r = omega (arith, behind_anchor, at.in_plan, at.len_is, at.place, at.in_group) in
    record {
      item = field_of n (t % 2) (between_here s q first k b);
      at = field_between n s g first k r t fields some is behind_anchor;
      number = at_between late (omega (arith, count, is.step, behind_anchor)) (between_here_number n s first k (t % 2) q b ∙ omega (arith, count, is.place, behind_anchor));
      kind = between_here_kind n s first k (t % 2) q b ∙ sym (ap (nat_lt 0) is.step ∙ lt-ltb 0 r begun);
    }

pub next_field : (n : ℕ) (s : Settings) (g : ℕ) → (s.fields ≡ 0 → ⊥) → g < n → 0 < s.gop → Next n s g
next_field n s g fields within some = elim (cases_lt (group_offset s g) (frame_pictures s)) [
  | inl early ↦ next_opening n s g fields some within early
  | inr late ↦
      let first : ℕ = g / group_pictures s * s.gop in
      let k : ℕ = (group_offset s g - 2) / step_pictures s in
      let r : ℕ = step_offset s g in
      let c : ℕ = min 2 (n - 2 * behind s first (min s.gop ((n + 1) / 2 - first)) k) in
      let is = field_step n s g fields within some late in
      elim (cases_lt r c) [
        | inl inside ↦ next_anchor n s g first k r fields some late is inside
        | inr outside ↦ next_between n s g first k r (r - c) fields some late is (omega (arith, outside))
      ]
]

-- ---- items of longer plans

same_field : (n m h p t : ℕ) → n ≤ m → 2 * h ≤ n → p ≤ 1 → t < h → field_or_first n p t ≡ field_or_first m p t
same_field n m h p t more there few below =
    let of : Bool → ℕ = λ b. if b then 2 * t + p else 2 * t in
    ap of (lt-ltb (2 * t + p) n (omega arith)) ∙ sym (ap of (lt-ltb (2 * t + p) m (omega arith)))

same_fields : (n m h p : ℕ) (o : Option ℕ) → n ≤ m → 2 * h ≤ n → p ≤ 1 → IfSome o (λ t. t < h) → option_map (field_or_first n p) o ≡ option_map (field_or_first m p) o
same_fields n m h p None more there few below = refl
same_fields n m h p (Some t) more there few below = ap Some (same_field n m h p t more there few below)

-- a field whose frame and all that it names have both their fields
field_same : (n m h p : ℕ) (f : Planned) → n ≤ m → 2 * h ≤ n → p ≤ 1 → IsBelow h f → field_of n p f ≡ field_of m p f
field_same n m h p f more there few is =
    let of : Option ℕ → Option ℕ → Planned = λ a b.
    if f.code == INTRA_REFERENCE && p == 1 then anchor_of (2 * f.number + 1) (2 * f.number) None (option_map (λ t. 2 * t + p) f.retire)
    else record { number = 2 * f.number + p; code = f.code; ref1 = a; ref2 = b; retire = option_map (λ t. 2 * t + p) f.retire } in
    ap₂ of (same_fields n m h p f.ref1 more there few is.ref1) (same_fields n m h p f.ref2 more there few is.ref2)

lasting_step : (n m : ℕ) (s : Settings) (g first k r : ℕ) → (s.fields ≡ 0 → ⊥) → 0 < s.gop → n ≤ m → FieldStep n s g first k r → FieldStep m s g first k r → 2 * whole_behind s first k + 2 ≤ n
    → slice_get (plan m s) g ≡ slice_get (plan n s) g
lasting_step n m s g first k r fields some more here there ready =
    let b : ℕ = whole_behind s first k in
    let now : behind s first (min s.gop ((n + 1) / 2 - first)) k ≡ b = omega (arith, ready) in
    let later : behind s first (min s.gop ((m + 1) / 2 - first)) k ≡ b = omega (arith, ready, more) in
    let at = field_anchor_place n s g first k r here in
    let before : first + k * (s.between + 1) < b + 1 = omega (arith, at.in_plan, at.place, at.in_group) in
    elim (cases_lt r 2) [
      | inl inside ↦
          field_anchor m s g first k r fields some there (omega (arith, later, ready, more, inside))
          ∙ ap (λ x. Some (field_of m r (anchor_here s first k x))) later
          ∙ sym (
          field_anchor n s g first k r fields some here (omega (arith, now, ready, inside))
          ∙ ap (λ x. Some (field_of n r (anchor_here s first k x))) now
          ∙ ap Some (field_same n m (b + 1) r (anchor_here s first k b) more (omega (arith, ready)) (omega arith) (anchor_here_below (b + 1) s first k b some (omega arith) before)))
      | inr outside ↦
          let t : ℕ = r - 2 in
          let q : ℕ = first + 1 + k * (s.between + 1) + (t / 2 + 1) in
          let low : q - 1 < b + 1 = omega (arith, here.in_step, here.in_group, outside) in
          field_between m s g first k r t fields some there (omega (arith, later, ready, more, outside))
          ∙ ap (λ x. Some (field_of m (t % 2) (between_here s q first k x))) later
          ∙ sym (
          field_between n s g first k r t fields some here (omega (arith, now, ready, outside))
          ∙ ap (λ x. Some (field_of n (t % 2) (between_here s q first k x))) now
          ∙ ap Some (field_same n m (b + 1) (t % 2) (between_here s q first k b) more (omega (arith, ready)) (omega arith) (between_here_below (b + 1) s q first k b (omega arith) before low)))
    ]

pub lasting_field : (n m : ℕ) (s : Settings) (g : ℕ) → (s.fields ≡ 0 → ⊥) → 0 < s.gop → g < n → n ≤ m → IsReady n s g → slice_get (plan m s) g ≡ slice_get (plan n s) g
lasting_field n m s g fields some within more ready = elim (cases_lt (group_offset s g) (frame_pictures s)) [
  | inl early ↦
      let t : ℕ = g / group_pictures s * s.gop in
      opening_place m s g fields some (omega arith) early
      ∙ ap Some (sym (same_opening (group_offset s g) t (omega (arith, early, two_pictures s fields))))
      ∙ sym (opening_place n s g fields some within early)
  | inr late ↦ elim ready [
    | opening_ready early ↦ absurd (omega (arith, early, late))
    | anchor_ready there ↦
        let here = field_step n s g fields within some late in
        lasting_step n m s g (g / group_pictures s * s.gop) ((group_offset s g - 2) / step_pictures s) (step_offset s g) fields some more here
        (field_step m s g fields (omega arith) some late) (omega (arith, here.whole, there, two_pictures s fields))
  ]
]
  where
    same_opening : (p t : ℕ) → p ≤ 1 → field_of n p (opening_of s t) ≡ field_of m p (opening_of s t)
    same_opening zero t few = refl
    same_opening (suc zero) t few = refl
    same_opening (suc (suc p)) t few = absurd (omega arith)
