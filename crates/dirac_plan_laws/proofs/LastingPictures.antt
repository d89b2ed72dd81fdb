-- Items of a plan that stay when more pictures come.
use Rattle.std.proofs.Common.{◌≡◌, ℕ, ◌+◌, ◌-◌, ◌*◌, ◌/◌, ◌%◌, ◌<◌, ◌≤◌, min, Bool, nat_lt, if◌then◌else◌, List, slice_get, ap, sym, ◌∙◌, arith, div-add-mod', eq-eqb, ne_eqb, subst, inl, inr}
use Rattle.std.specs.List.{flat_map}
use Rattle.std.proofs.lemmas.Bool.{cases_eq, cond-false, cond-true, le-ltb, lt-ltb}
use Rattle.std.proofs.lemmas.Nat.{mod-mul-add, mod_below}
use Rattle.dirac_types.specs.declared.settings.Settings.{Settings}
use Rattle.dirac_plan.specs.declared.planned.Planned.{Planned}
use Rattle.dirac_plan.specs.Plan.{fields_of, frames_plan, plan}
use Rattle.dirac_plan.specs.Planning.{frame_pictures, pictures_needed}
use Rattle.dirac_plan.proofs.Accepted.{paced}
use Rattle.dirac_plan.proofs.Fields.{plan_of_fields, plan_of_frames}
use Rattle.dirac_plan_laws.specs.Lasting.{ItemsLast, step_place}
use Rattle.dirac_plan_laws.proofs.Lasting.{end_opening, end_other, frames_last, step_end}
use Rattle.dirac_plan_laws.proofs.LastingFields.{opening_field_lasts, step_field_lasts}

-- where the step of a place begins, and what its anchor needs, with so many pictures in a frame, a group and a step
abbrev begin_in : ℕ → ℕ → ℕ → ℕ → ℕ
begin_in frame group step place = if nat_lt (place % group) frame then place else place - (place % group - frame) % step

abbrev needed_in : ℕ → ℕ → ℕ → ℕ → ℕ
needed_in frame group step place = if nat_lt (place % group) frame then 1 else min step (group - place % group)

-- where the step is whole
abbrev whole_in : ℕ → ℕ → ℕ → ℕ → ℕ
whole_in frame group step place = begin_in frame group step place + needed_in frame group step (begin_in frame group step place)

whole_opening : (frame group step place : ℕ) → place % group < frame → whole_in frame group step place ≡ place + 1
whole_opening frame group step place low =
    let test = lt-ltb (place % group) frame low in
    ap (λ m. m + needed_in frame group step m) (cond-true (nat_lt (place % group) frame) place (place - (place % group - frame) % step) test)
    ∙ ap (λ m. place + m) (cond-true (nat_lt (place % group) frame) 1 (min step (group - place % group)) test)

whole_other : (frame group step place offset back : ℕ) → place % group ≡ offset → (offset - frame) % step ≡ back → (place - back) % group ≡ offset - back → frame ≤ offset - back
    → whole_in frame group step place ≡ place - back + min step (group - (offset - back))
whole_other frame group step place offset back e f g high =
    let begin : begin_in frame group step place ≡ place - back =
    cond-false (nat_lt (place % group) frame) place (place - (place % group - frame) % step) (le-ltb (place % group) frame (omega arith))
    ∙ ap (λ m. place - (m - frame) % step) e ∙ ap (λ m. place - m) f in
    let need : needed_in frame group step (place - back) ≡ min step (group - (offset - back)) =
    cond-false (nat_lt ((place - back) % group) frame) 1 (min step (group - (place - back) % group)) (le-ltb ((place - back) % group) frame (omega arith))
    ∙ ap (λ m. min step (group - m)) g in
    ap (λ m. m + needed_in frame group step m) begin ∙ ap (λ m. place - back + m) need

-- so it is where the step of its frame ends
frame_whole : (s : Settings) (place : ℕ) → 0 < s.gop → whole_in 1 (1 * s.gop) (1 * (s.between + 1)) place ≡ step_end s place
frame_whole s place some =
    let gap : ℕ = s.between + 1 in
    let o : ℕ = place % s.gop in
    let i : ℕ = place / s.gop in
    let k : ℕ = (o - 1) / gap in
    let j : ℕ = (o - 1) % gap in
    let whole = div-add-mod' place s.gop in
    let low = mod_below place s.gop some in
    let steps = div-add-mod' (o - 1) gap in
    let rest = mod_below (o - 1) gap (omega arith) in
    let split : place ≡ i * (1 * s.gop) + o = omega arith in
    let offset : place % (1 * s.gop) ≡ o = ap (λ m. m % (1 * s.gop)) split ∙ mod-mul-add i (1 * s.gop) o (omega arith) in
    elim (cases_eq o 0) [
      | inl opens ↦ whole_opening 1 (1 * s.gop) (1 * gap) place (omega arith) ∙ omega (arith, end_opening s o opens)
      | inr other ↦
          let inside : o - 1 ≡ k * (1 * gap) + j = omega (arith, other) in
          let back : (o - 1) % (1 * gap) ≡ j = ap (λ m. m % (1 * gap)) inside ∙ mod-mul-add k (1 * gap) j (omega arith) in
          let begin : place - j ≡ i * (1 * s.gop) + (o - j) = omega (arith, other) in
          let begins : (place - j) % (1 * s.gop) ≡ o - j = ap (λ m. m % (1 * s.gop)) begin ∙ mod-mul-add i (1 * s.gop) (o - j) (omega arith) in
          whole_other 1 (1 * s.gop) (1 * gap) place o j offset back begins (omega (arith, other)) ∙ omega (arith, end_other s o other, other)
    ]

fields_whole : (s : Settings) (q p : ℕ) → 0 < s.gop → p ≤ 1 → (q % s.gop ≡ 0 → ⊥) → whole_in 2 (2 * s.gop) (2 * (s.between + 1)) (2 * q + p) ≡ 2 * step_end s q
fields_whole s q p some small other =
    let gap : ℕ = s.between + 1 in
    let o : ℕ = q % s.gop in
    let i : ℕ = q / s.gop in
    let k : ℕ = (o - 1) / gap in
    let j : ℕ = (o - 1) % gap in
    let whole = div-add-mod' q s.gop in
    let low = mod_below q s.gop some in
    let steps = div-add-mod' (o - 1) gap in
    let rest = mod_below (o - 1) gap (omega arith) in
    let split : 2 * q + p ≡ i * (2 * s.gop) + (2 * o + p) = omega arith in
    let offset : (2 * q + p) % (2 * s.gop) ≡ 2 * o + p = ap (λ m. m % (2 * s.gop)) split ∙ mod-mul-add i (2 * s.gop) (2 * o + p) (omega arith) in
    let inside : 2 * o + p - 2 ≡ k * (2 * gap) + (2 * j + p) = omega (arith, other) in
    let back : (2 * o + p - 2) % (2 * gap) ≡ 2 * j + p = ap (λ m. m % (2 * gap)) inside ∙ mod-mul-add k (2 * gap) (2 * j + p) (omega arith) in
    let begin : 2 * q + p - (2 * j + p) ≡ i * (2 * s.gop) + (2 * o + p - (2 * j + p)) = omega (arith, other) in
    let begins : (2 * q + p - (2 * j + p)) % (2 * s.gop) ≡ 2 * o + p - (2 * j + p) = ap (λ m. m % (2 * s.gop)) begin ∙ mod-mul-add i (2 * s.gop) (2 * o + p - (2 * j + p)) (omega arith) in
    whole_other 2 (2 * s.gop) (2 * gap) (2 * q + p) (2 * o + p) (2 * j + p) offset back begins (omega (arith, other)) ∙ omega (arith, end_other s o other, other)

-- the law's place, by the number of pictures in a frame
of_frame : (s : Settings) (place frame : ℕ) → frame_pictures s ≡ frame → step_place s place + pictures_needed s (step_place s place) ≡ whole_in frame (frame * s.gop) (frame * (s.between + 1)) place
of_frame s place frame e = ap (λ f. whole_in f (f * s.gop) (f * (s.between + 1)) place) e

fields_last : (s : Settings) (n m q p : ℕ) → 0 < s.gop → n ≤ m → p ≤ 1 → 2 * q + p < n → whole_in 2 (2 * s.gop) (2 * (s.between + 1)) (2 * q + p) ≤ n
    → slice_get (flat_map (fields_of m) (frames_plan ((m + 1) / 2) s)) (2 * q + p) ≡ slice_get (flat_map (fields_of n) (frames_plan ((n + 1) / 2) s)) (2 * q + p)
fields_last s n m q p some more small h ready = elim (cases_eq (q % s.gop) 0) [
  | inl opens ↦ opening_field_lasts s n m q p some more opens small h
  | inr other ↦
      let ends = fields_whole s q p some small other in
      step_field_lasts s n m q p some more small (subst (λ k. k ≤ n) ends ready)
]

pub items_last : ItemsLast
items_last s n m place accepted h more ready =
    let some = (paced s accepted).gop_least in
    let At : ℕ → ℕ → Type 0 = λ k g. slice_get (plan k s) g ≡ slice_get (plan n s) g in
    elim (cases_eq s.fields 0) [
      | inl none ↦
          let one : frame_pictures s ≡ 1 = ap (λ (b : Bool). if b then 1 else 2) (eq-eqb s.fields 0 none) in
          let whole = of_frame s place 1 one in
          let ends = frame_whole s place some in
          ap (λ (xs : List Planned). slice_get xs place) (plan_of_frames m s none)
          ∙ frames_last s n m place some more (subst (λ k. k ≤ n) (whole ∙ ends) ready)
          ∙ sym (ap (λ (xs : List Planned). slice_get xs place) (plan_of_frames n s none))
      | inr fields ↦
          let q : ℕ = place / 2 in
          let p : ℕ = place % 2 in
          let half = div-add-mod' place 2 in
          let rest = mod_below place 2 (omega arith) in
          let two : frame_pictures s ≡ 2 = ap (λ (b : Bool). if b then 1 else 2) (ne_eqb s.fields 0 fields) in
          let split : place ≡ 2 * q + p = omega arith in
          let whole = of_frame s place 2 two in
          let same = ap (whole_in 2 (2 * s.gop) (2 * (s.between + 1))) split in
          let last = fields_last s n m q p some more (omega arith) (omega arith) (subst (λ k. k ≤ n) (whole ∙ same) ready) in
          subst (At m) (sym split)
          (ap (λ (xs : List Planned). slice_get xs (2 * q + p)) (plan_of_fields m s fields) ∙ last ∙ sym (ap (λ (xs : List Planned). slice_get xs (2 * q + p)) (plan_of_fields n s fields)))
    ]
