-- What a planner gives.
use Rattle.std.proofs.Common.{◌≡◌, ℕ, zero, suc, ◌+◌, ◌-◌, ◌*◌, ◌/◌, ◌%◌, ◌<◌, ◌≤◌, ◌==◌, ◌||◌, ◌&&◌, not, inl, inr, min, nat_lt, if◌then◌else◌, Bool, true, false, Option, None, Some, slice_get, refl, ap, ap₂, ◌∙◌, sym, arith, div-add-mod', eq-eqb, lt-ltb}
use Rattle.std.proofs.lemmas.Bool.{cases_eq}
use Rattle.dirac_types.specs.declared.settings.Settings.{Settings}
use Rattle.dirac_plan.specs.declared.planned.Planned.{Planned}
use Rattle.dirac_plan.specs.Plan.{opening_of, anchor_of, between_of, second_of_anchor, plan}
use Rattle.dirac_plan.specs.Planning.{frame_pictures, group_offset, group_pictures, must_be_taken_first, refers_elsewhere, stands_between, step_pictures}
use Rattle.dirac_plan.specs.Waiting.{anchor_at, step_anchor, step_offset, whole_anchor_at, whole_frames}
use Rattle.dirac_plan.proofs.Numbers.{anchor_number, between_number, either}
use Rattle.dirac_plan.proofs.Items.{IsPlace, place_of, opening_item}
use Rattle.dirac_plan.proofs.Places.{anchor_here, anchor_is_at, behind, between_here, between_is_at, whole_behind, retirement}
use Rattle.dirac_plan.proofs.Fields.{plan_of_frames}
use Rattle.dirac_plan.proofs.Steps.{offset_opens, offset_steps}

-- ---- which planned pictures are still to be taken

or_none : (b : Bool) → (b || false) ≡ b
or_none true = refl
or_none false = refl

-- with frames those between two anchors
left_frames : (s : Settings) (p : Planned) → s.fields ≡ 0 → must_be_taken_first s (Some p) ≡ stands_between p
left_frames s p frames =
    ap (λ (b : Bool). stands_between p || (not b && p.number % 2 == 1 && refers_elsewhere p.number p.ref1)) (eq-eqb s.fields 0 frames)
    ∙ or_none (stands_between p)

anchor_kind : (number before : ℕ) (second retired : Option ℕ) → stands_between (anchor_of number before second retired) ≡ false
anchor_kind number before None retired = refl
anchor_kind number before (Some second) retired = refl

between_kind : (references before after number : ℕ) → stands_between (between_of references before after number) ≡ true
between_kind references before after number =
    let P : Planned → Type 0 = λ p. stands_between p ≡ true in
    either (references == 2) P _ _ refl refl

-- ---- what is next

-- the number of what is next: in a frame that opens a group the next one; of an anchor its own; else the first that waits
pub data Number (n : ℕ) (s : Settings) (g : ℕ) (number : ℕ) : Type 0 where
  at_opening : group_offset s g < frame_pictures s → number ≡ g → Number n s g number
  at_anchor : frame_pictures s ≤ group_offset s g → step_offset s g < min (frame_pictures s) (n - anchor_at n s g) → number ≡ anchor_at n s g + step_offset s g → Number n s g number
  at_between : frame_pictures s ≤ group_offset s g → min (frame_pictures s) (n - anchor_at n s g) ≤ step_offset s g → number ≡ g - min (frame_pictures s) (n - anchor_at n s g) → Number n s g number

-- the next planned picture; it is still to be taken where its step has begun
pub record Next (n : ℕ) (s : Settings) (g : ℕ) : Type 0 where
  pub item : Planned
  pub at : slice_get (plan n s) g ≡ Some item
  pub number : Number n s g item.number
  pub kind : must_be_taken_first s (Some item) ≡ nat_lt 0 (step_offset s g)

-- the place is in a frame that opens a group, or an anchor was accepted with all its fields, and all frames up to it
pub data IsReady (n : ℕ) (s : Settings) (g : ℕ) : Type 0 where
  opening_ready : group_offset s g < frame_pictures s → IsReady n s g
  anchor_ready : whole_anchor_at s g + frame_pictures s ≤ n → IsReady n s g

pub step_opens : (s : Settings) (g : ℕ) → group_offset s g < frame_pictures s → step_offset s g ≡ 0
unfolding step_offset
step_opens s g early = offset_opens (frame_pictures s) (step_pictures s) (group_offset s g) early

-- ---- frames

one_picture : (s : Settings) → s.fields ≡ 0 → frame_pictures s ≡ 1
one_picture s frames = ap (λ (b : Bool). if b then 1 else 2) (eq-eqb s.fields 0 frames)

one_offset : (s : Settings) (g : ℕ) → s.fields ≡ 0 → group_offset s g ≡ g % s.gop
one_offset s g frames = ap (λ m. g % m) (ap (λ f. f * s.gop) (one_picture s frames) ∙ omega arith)

-- a place in a step of frames, j frames behind its anchor
record FrameStep (n : ℕ) (s : Settings) (g first len k j : ℕ) : Type 0 where
  pub place : IsPlace n s g first len k j
  pub step : step_offset s g ≡ j
  pub anchor : anchor_at n s g ≡ behind s first len k
  pub whole : whole_anchor_at s g ≡ whole_behind s first k

one_anchor : (f group step o r len g gap gop k j first : ℕ) → f ≡ 1 → step ≡ gap → group ≡ gop → o ≡ k * gap + j + 1 → r ≡ j → first + o ≡ g → g - o + min (o - f - r + step) (len - f) ≡ first + min (k * gap + gap) (len - 1)
one_anchor f group step o r len g gap gop k j first one ew eg eo er e = omega arith

frame_step : (n : ℕ) (s : Settings) (g : ℕ) → s.fields ≡ 0 → g < n → 0 < s.gop → 0 < g % s.gop
    → FrameStep n s g (g - g % s.gop) (min s.gop (n - (g - g % s.gop))) ((g % s.gop - 1) / (s.between + 1)) ((g % s.gop - 1) % (s.between + 1))
unfolding step_offset anchor_at whole_anchor_at
frame_step n s g frames within some opens =
    let f : ℕ = frame_pictures s in
    let o : ℕ = group_offset s g in
    let gap : ℕ = s.between + 1 in
    let first : ℕ = g - g % s.gop in
    let len : ℕ = min s.gop (n - first) in
    let k : ℕ = (g % s.gop - 1) / gap in
    let j : ℕ = (g % s.gop - 1) % gap in
    let one = one_picture s frames in
    let offset = one_offset s g frames in
    let group : group_pictures s ≡ s.gop = ap (λ m. m * s.gop) one ∙ omega arith in
    let wide : step_pictures s ≡ gap = ap (λ m. m * gap) one ∙ omega arith in
    let steps = div-add-mod' (g % s.gop - 1) gap in
    let whole = div-add-mod' g s.gop in
    let r : step_offset s g ≡ j = offset_steps f (step_pictures s) o (omega arith) ∙ ap₂ (λ a b. a % b) (let t : o - f ≡ g % s.gop - 1 = omega arith in t) wide in
    let all : whole_frames s n ≡ n = ap (λ (b : Bool). if b then n else n + n % 2) (eq-eqb s.fields 0 frames) in
    let start : g - o ≡ first = omega arith in
    let there : min (group_pictures s) (whole_frames s n - (g - o)) ≡ len = ap₂ min group (ap₂ (λ a b. a - b) all start) in
    let of : ℕ → ℕ = λ l. step_anchor s l g in
    record {
      place = place_of n s g len within some opens refl;
      step = r;
      anchor = ap of there ∙ one_anchor f (group_pictures s) (step_pictures s) o (step_offset s g) len g gap s.gop k j first one wide group (omega arith) r (omega arith);
      whole = ap of group ∙ one_anchor f (group_pictures s) (step_pictures s) o (step_offset s g) s.gop g gap s.gop k j first one wide group (omega arith) r (omega arith);
    }

frame_opening : (n : ℕ) (s : Settings) (g : ℕ) → s.fields ≡ 0 → g < n → 0 < s.gop → g % s.gop ≡ 0 → Next n s g
frame_opening n s g frames within some opening_place =
    let early : group_offset s g < frame_pictures s = omega (arith, one_offset s g frames, one_picture s frames) in
    record {
      item = opening_of s g;
      at = ap (λ l. slice_get l g) (plan_of_frames n s frames) ∙ opening_item n s g within some opening_place;
      number = at_opening early refl;
      kind = left_frames s (opening_of s g) frames ∙ sym (ap (nat_lt 0) (step_opens s g early));
    }

-- what stands at a place of a step
frame_here : (s : Settings) (g first k j b : ℕ) → Planned
frame_here s g first k zero b = anchor_here s first k b
frame_here s g first k (suc j) b = between_here s g first k b

frame_at : (n : ℕ) (s : Settings) (g first len k j : ℕ) → s.fields ≡ 0 → IsPlace n s g first len k j → slice_get (plan n s) g ≡ Some (frame_here s g first k j (behind s first len k))
unfolding frame_here
frame_at n s g first len k zero frames is = ap (λ l. slice_get l g) (plan_of_frames n s frames) ∙ anchor_is_at n s g first len k is
frame_at n s g first len k (suc j) frames is = ap (λ l. slice_get l g) (plan_of_frames n s frames) ∙ between_is_at n s g first len k (suc j) is (omega arith)

frame_in_step : (n : ℕ) (s : Settings) (g first len k j : ℕ) → s.fields ≡ 0 → 0 < s.gop → frame_pictures s ≤ group_offset s g → FrameStep n s g first len k j → Next n s g
unfolding frame_here anchor_here between_here
frame_in_step n s g first len k zero frames some late is =
    let b : ℕ = behind s first len k in
    let one = one_picture s frames in
    record {
      item = anchor_here s first k b;
      at = frame_at n s g first len k zero frames is.place;
      number = at_anchor late
          (omega (arith, one, is.step, is.anchor, is.place.in_plan, is.place.len_is, is.place.place, is.place.in_group))
          (anchor_number b (first + k * (s.between + 1)) (second_of_anchor s first k) (retirement s first k) ∙ omega (arith, is.step, is.anchor));
      kind = left_frames s (anchor_here s first k b) frames ∙ anchor_kind b (first + k * (s.between + 1)) (second_of_anchor s first k) (retirement s first k) ∙ sym (ap (nat_lt 0) is.step);
    }
frame_in_step n s g first len k (suc j) frames some late is =
    let b : ℕ = behind s first len k in
    let one = one_picture s frames in
    let count : min (frame_pictures s) (n - anchor_at n s g) ≡ 1 = omega (arith, one, is.anchor, is.place.in_plan, is.place.len_is, is.place.place, is.place.in_group) in
    record {
      item = between_here s g first k b;
      at = frame_at n s g first len k (suc j) frames is.place;
      number = at_between late (omega (arith, count, is.step))
          (between_number s.references (first + k * (s.between + 1)) b (g - 1) ∙ omega (arith, count));
      kind = left_frames s (between_here s g first k b) frames ∙ between_kind s.references (first + k * (s.between + 1)) b (g - 1) ∙ sym (ap (nat_lt 0) is.step ∙ lt-ltb 0 (suc j) (omega arith));
    }

pub next_frame : (n : ℕ) (s : Settings) (g : ℕ) → s.fields ≡ 0 → g < n → 0 < s.gop → Next n s g
next_frame n s g frames within some = elim (cases_eq (g % s.gop) 0) [
  | inl e ↦ frame_opening n s g frames within some e
  | inr other ↦
      frame_in_step n s g _ _ _ _ frames some (omega (arith, other, one_offset s g frames, one_picture s frames)) (frame_step n s g frames within some (omega (arith, other)))
]

-- an item that is ready is that of all longer plans
pub lasting_frame : (n m : ℕ) (s : Settings) (g : ℕ) → s.fields ≡ 0 → 0 < s.gop → g < n → n ≤ m → IsReady n s g → slice_get (plan m s) g ≡ slice_get (plan n s) g
lasting_frame n m s g frames some within more ready = elim (cases_eq (g % s.gop) 0) [
  | inl e ↦
      ap (λ l. slice_get l g) (plan_of_frames m s frames) ∙ opening_item m s g (omega arith) some e
      ∙ sym (ap (λ l. slice_get l g) (plan_of_frames n s frames) ∙ opening_item n s g within some e)
  | inr other ↦ elim ready [
    | opening_ready early ↦ absurd (omega (arith, early, other, one_offset s g frames, one_picture s frames))
    | anchor_ready there ↦
        let gap : ℕ = s.between + 1 in
        let first : ℕ = g - g % s.gop in
        let k : ℕ = (g % s.gop - 1) / gap in
        let j : ℕ = (g % s.gop - 1) % gap in
        let here = frame_step n s g frames within some (omega (arith, other)) in
        let longer = frame_step m s g frames (omega arith) some (omega (arith, other)) in
        let one = one_picture s frames in
        let now_whole : behind s first (min s.gop (n - first)) k ≡ whole_behind s first k = omega (arith, one, here.whole, there) in
        let then_whole : behind s first (min s.gop (m - first)) k ≡ whole_behind s first k = omega (arith, one, here.whole, there) in
        frame_at m s g first (min s.gop (m - first)) k j frames longer.place
        ∙ ap (λ b. Some (frame_here s g first k j b)) (then_whole ∙ sym now_whole)
        ∙ sym (frame_at n s g first (min s.gop (n - first)) k j frames here.place)
  ]
]
