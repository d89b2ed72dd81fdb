-- What holds of a planner.
use Rattle.std.proofs.Common.{◌≡◌, ℕ, ltb-false, ltb-true, lt-ltb, ne_eqb, ◌||◌, nat_lt, not, ◌&&◌, zero, suc, ◌+◌, ◌-◌, ◌*◌, ◌%◌, ◌<◌, ◌≤◌, ◌==◌, inl, inr, min, if◌then◌else◌, Bool, true, false, List, [], ◌∷◌, ◌++◌, None, Some, option_map, map, length, take, drop, remove, slice_get, refl, ap, ap₂, subst, ◌∙◌, sym, arith, length-append, length-take, length-drop}
use Rattle.std.specs.List.{range_with_len}
use Rattle.std.proofs.Math.Nat.{mul-le-mul}
use Rattle.std.proofs.lemmas.Nat.{mod_below, mod-mul-add}
use Rattle.std.proofs.lemmas.Bool.{cases_eq, cases_lt}
use Rattle.std.proofs.lemmas.List.{length-map, map-append}
use Rattle.std.proofs.lemmas.Option.{slice_get-map, slice_get_past}
use Rattle.dirac_common.specs.declared.picture.Picture.{Picture}
use Rattle.dirac_types.specs.declared.settings.Settings.{Settings}
use Rattle.dirac_types.specs.Settings.{IsAccepted}
use Rattle.dirac_plan.specs.declared.planned.Planned.{Planned}
use Rattle.dirac_plan.specs.declared.planner.TheConstants.{FRAMES_WAITING}
use Rattle.dirac_plan.specs.Plan.{plan}
use Rattle.dirac_plan.specs.Planning.{IsLasting, Planning, Takes, are_too_few, frame_pictures, group_offset, group_pictures, must_be_taken_first, pictures_needed, step_pictures, waiting_places}
use Rattle.dirac_plan.specs.Waiting.{IsPlanning, ahead, anchor_at, left_by, number_of, step_offset, whole_anchor_at}
use Rattle.dirac_plan.proofs.Accepted.{paced}
use Rattle.dirac_plan.proofs.Lists.{range_split, remove-map}
use Rattle.dirac_plan.proofs.Numbers.{either}
use Rattle.dirac_plan.proofs.Fields.{length_plan}
use Rattle.dirac_plan.proofs.Steps.{InStep, Step, anchor_step, between_step, frame_is, in_step, left_all, not_less, opening_step, opens_next, steps_next}
use Rattle.dirac_plan.proofs.Giving.{IsReady, Next, Number, anchor_ready, at_anchor, at_between, at_opening, lasting_frame, next_frame, opening_ready, step_opens}
use Rattle.dirac_plan.proofs.GivingFields.{lasting_field, next_field}

next : (n : ℕ) (s : Settings) (g : ℕ) → g < n → 0 < s.gop → Next n s g
next n s g within some = elim (cases_eq s.fields 0) [
  | inl frames ↦ next_frame n s g frames within some
  | inr fields ↦ next_field n s g fields within some
]

lasting : (n m : ℕ) (s : Settings) (g : ℕ) → 0 < s.gop → g < n → n ≤ m → IsReady n s g → slice_get (plan m s) g ≡ slice_get (plan n s) g
lasting n m s g some within more ready = elim (cases_eq s.fields 0) [
  | inl frames ↦ lasting_frame n m s g frames some within more ready
  | inr fields ↦ lasting_field n m s g fields some within more ready
]

some_pictures : (s : Settings) → 0 < s.gop → (0 < group_pictures s) × (0 < step_pictures s)
some_pictures s some =
    let frame = (frame_is s).0 in
    (omega (arith, mul-le-mul {n₁ = 1} {m₁ = 1} {n₂ = frame_pictures s} {m₂ = s.gop} frame some), omega (arith, mul-le-mul {n₁ = 1} {m₁ = 1} {n₂ = frame_pictures s} {m₂ = s.between + 1} frame (omega arith)))

step_of : (n : ℕ) (s : Settings) (g number : ℕ) → g < n → 0 < s.gop → Number n s g number → Step n s g number
step_of n s g number within some is =
    let all = some_pictures s some in
    elim is [
      | at_opening early e ↦ subst (Step n s g) (sym e) (opening_step n s g within all.0 all.1 early)
      | at_anchor late inside e ↦ subst (Step n s g) (sym e) (anchor_step n s g _ _ (step_offset s g) (in_step n s g some within late) inside)
      | at_between late behind e ↦
          subst (Step n s g) (sym e) (between_step n s g _ _ (step_offset s g) (min (frame_pictures s) (n - anchor_at n s g)) (in_step n s g some within late) refl behind)
    ]

start_opens : (s : Settings) → 0 < s.gop → step_offset s 0 ≡ 0
start_opens s some =
    let all = some_pictures s some in
    let none : group_offset s 0 ≡ 0 = ap (λ m. m % group_pictures s) (let t : 0 ≡ 0 * group_pictures s + 0 = omega arith in t) ∙ mod-mul-add 0 (group_pictures s) 0 all.0 in
    let frame = (frame_is s).0 in
    step_opens s 0 (omega arith)

pub begun_is : (s : Settings) → IsAccepted s → IsPlanning s 0 0 false []
begun_is s accepted =
    let some = (paced s accepted).gop_least in
    let none = start_opens s some in
    record {
      settings = accepted;
      in_range = omega arith;
      given_in_range = omega arith;
      waiting_fit = omega arith;
      counts = refl;
      numbers = sym (left_all 0 s 0 none);
      settled = λ _ more. absurd (omega (arith, none, more));
    }

-- ---- one picture more

-- a whole anchor is behind each place of its step
past_place : (s : Settings) (g : ℕ) → 0 < s.gop → 0 < step_offset s g → g < whole_anchor_at s g + frame_pictures s
unfolding whole_anchor_at
past_place s g some begun = elim (cases_lt (group_offset s g) (frame_pictures s)) [
  | inl early ↦ absurd (omega (arith, begun, step_opens s g early))
  | inr late ↦
      let is = in_step (g + 1) s g some (omega arith) late in
      let low = mod_below g (group_pictures s) ((some_pictures s some).0) in
      omega (arith, is.place, is.in_group, is.in_step, is.offset, is.frame.0)
]

-- where nothing is still to be taken, a step starts
no_step : (s : Settings) (n g : ℕ) → 0 < s.gop → g ≤ n → must_be_taken_first s (slice_get (plan n s) g) ≡ false → (0 < step_offset s g → whole_anchor_at s g + frame_pictures s ≤ n) → step_offset s g ≡ 0
no_step s n g some within last settled = elim (cases_lt 0 (step_offset s g)) [
  | inl begun ↦
      elim (cases_lt g n) [
        | inl more ↦
            let is = next n s g more some in
            let clash : true ≡ false = sym (lt-ltb 0 (step_offset s g) begun) ∙ sym is.kind ∙ sym (ap (must_be_taken_first s) is.at) ∙ last in
            absurd (cc)
        | inr all ↦ absurd (omega (arith, past_place s g some begun, settled begun))
      ]
  | inr none ↦ omega arith
]

pub pushed_is : (s : Settings) (n g : ℕ) (ended : Bool) (ws : List Picture) (p : Picture) → IsPlanning s n g ended ws → ended ≡ false → p.number ≡ n → n < 2147483647 → length ws < waiting_places s
    → must_be_taken_first s (slice_get (plan n s) g) ≡ false → IsPlanning s (n + 1) g ended (ws ++ p ∷ [])
pushed_is s n g ended ws p is going number few room last =
    let some = (paced s is.settings).gop_least in
    let none = no_step s n g some is.given_in_range last (is.settled going) in
    let within = is.given_in_range in
    let count : n + 1 - g ≡ (n - g) + 1 = omega arith in
    let item : List ℕ → ℕ → List ℕ = λ l m. l ++ m ∷ [] in
    record {
      settings = is.settings;
      in_range = omega arith;
      given_in_range = omega arith;
      waiting_fit = omega (arith, length-append ws (p ∷ []));
      counts = omega (arith, length-append ws (p ∷ []), is.counts);
      numbers =
          map-append number_of ws (p ∷ [])
          ∙ ap₂ item (is.numbers ∙ left_all n s g none) number
          ∙ sym (left_all (n + 1) s g none ∙ ap (range_with_len g) count ∙ range_split g (n - g) 1 n (omega arith));
      settled = λ _ more. absurd (omega (arith, none, more));
    }

-- ---- one picture less

pub some_left : (s : Settings) (n g : ℕ) (ended : Bool) (ws : List Picture) → IsPlanning s n g ended ws → 0 < length ws → g < n
some_left s n g ended ws is some = omega (arith, is.counts)

cut_at : {X : Type 0} (p q : List X) (y : X) (n : ℕ) → length p ≡ n → (remove (p ++ y ∷ q) n ≡ p ++ q) × (slice_get (p ++ y ∷ q) n ≡ Some y)
cut_at [] q y zero e = (refl, refl)
cut_at [] q y (suc n) e = absurd (omega arith)
cut_at (x ∷ p) q y zero e = absurd (omega arith)
cut_at (x ∷ p) q y (suc n) e =
    let more = cut_at p q y n (omega arith) in
    (ap (λ l. x ∷ l) more.0, more.1)

around_item : {X : Type 0} (xs : List X) (i : ℕ) (x : X) → slice_get xs i ≡ Some x → xs ≡ take i xs ++ x ∷ drop (suc i) xs
around_item [] i x e = let s : None ≡ Some x = e in absurd (cc)
around_item (y ∷ xs) zero x e =
    let s : Some y ≡ Some x = e in
    let same : y ≡ x = cc in
    ap (λ z. z ∷ xs) same
around_item (y ∷ xs) (suc i) x e = ap (λ l. y ∷ l) (around_item xs i x e)

-- the numbers of those that wait
abbrev numbers_left : ℕ → Settings → ℕ → List ℕ
numbers_left n s g = left_by n g (anchor_at n s g) (ahead n s g)

-- the place of the next planned picture among those that wait
pub record Place (n : ℕ) (s : Settings) (g : ℕ) (ws : List Picture) (x : Planned) : Type 0 where
  pub inside : x.number - g < length ws
  pub number : slice_get (map number_of ws) (x.number - g) ≡ Some x.number
  pub rest : map number_of (remove ws (x.number - g)) ≡ left_by n (g + 1) (anchor_at n s (g + 1)) (ahead n s (g + 1))

place_of : (n : ℕ) (s : Settings) (g : ℕ) (ws : List Picture) (x : Planned) (numbers before after : List ℕ) → map number_of ws ≡ numbers → numbers ≡ before ++ x.number ∷ after
    → length before ≡ x.number - g → numbers_left n s (g + 1) ≡ before ++ after → Place n s g ws x
place_of n s g ws x numbers before after are now place later =
    let split : map number_of ws ≡ before ++ x.number ∷ after = are ∙ now in
    let cut = cut_at before after x.number (x.number - g) place in
    let whole : length (map number_of ws) ≡ length (before ++ x.number ∷ after) = ap length split in
    record {
      inside = omega (arith, length-map ws number_of, length-append before (x.number ∷ after));
      number = ap (λ l. slice_get l (x.number - g)) split ∙ cut.1;
      rest = remove-map number_of ws (x.number - g) ∙ ap (λ l. remove l (x.number - g)) split ∙ cut.0 ∙ sym later;
    }

pub place_in : (s : Settings) (n g : ℕ) (ended : Bool) (ws : List Picture) (x : Planned) → IsPlanning s n g ended ws → g < n → slice_get (plan n s) g ≡ Some x → Place n s g ws x
place_in s n g ended ws x is more at = of_next (next n s g more (paced s is.settings).gop_least)
  where
    of_step : Step n s g x.number → Place n s g ws x
    of_step step = place_of n s g ws x (numbers_left n s g) step.before step.after is.numbers step.now step.place step.later

    of_next : Next n s g → Place n s g ws x
    of_next here =
        let clash : Some here.item ≡ Some x = sym here.at ∙ at in
        let same : here.item ≡ x = cc in
        of_step (subst (λ (y : Planned). Step n s g y.number) same (step_of n s g here.item.number more (paced s is.settings).gop_least here.number))

-- with enough pictures the whole anchor is there
needed_there : (s : Settings) (n g : ℕ) → 0 < s.gop → frame_pictures s ≤ group_offset s g → step_offset s g ≡ 0 → g + pictures_needed s g ≤ n → whole_anchor_at s g + frame_pictures s ≤ n
unfolding whole_anchor_at
needed_there s n g some late none enough =
    let is = in_step (g + 1) s g some (omega arith) late in
    let low = mod_below g (group_pictures s) ((some_pictures s some).0) in
    let need : pictures_needed s g ≡ min (step_pictures s) (group_pictures s - group_offset s g) =
    ap (λ (b : Bool). if b then 1 else min (step_pictures s) (group_pictures s - group_offset s g)) (not_less (group_offset s g) (frame_pictures s) late) in
    omega (arith, is.place, is.in_group, is.offset, is.frame.0, is.frame.1, is.frame.2)

-- while pictures may still come: what is still to be taken was settled before; else enough pictures wait
ready_for : (s : Settings) (n g : ℕ) (ended : Bool) (ws : List Picture) → IsPlanning s n g ended ws → ended ≡ false → g < n → (must_be_taken_first s (slice_get (plan n s) g) ≡ false → pictures_needed s g ≤ length ws) → IsReady n s g
ready_for s n g ended ws is going more enough =
    let some = (paced s is.settings).gop_least in
    elim (cases_lt (group_offset s g) (frame_pictures s)) [
      | inl early ↦ opening_ready early
      | inr late ↦ elim (cases_eq (step_offset s g) 0) [
        | inl none ↦
            let here = next n s g more some in
            let last : must_be_taken_first s (slice_get (plan n s) g) ≡ false = ap (must_be_taken_first s) here.at ∙ here.kind ∙ ap (nat_lt 0) none in
            anchor_ready (needed_there s n g some late none (omega (arith, enough last, is.counts)))
        | inr begun ↦ anchor_ready (is.settled going (omega (arith, begun)))
      ]
    ]

pub lasts : (s : Settings) (n g m : ℕ) (ended : Bool) (ws : List Picture) → IsPlanning s n g ended ws → ended ≡ false → g < n → n ≤ m
    → (must_be_taken_first s (slice_get (plan n s) g) ≡ false → pictures_needed s g ≤ length ws) → slice_get (plan m s) g ≡ slice_get (plan n s) g
lasts s n g m ended ws is going more longer enough = lasting n m s g (paced s is.settings).gop_least more longer (ready_for s n g ended ws is going more enough)

-- in the same step the same whole anchor
whole_next : (n : ℕ) (s : Settings) (g first d r : ℕ) → InStep n s g first d r → step_offset s (g + 1) ≡ r + 1 → group_offset s (g + 1) ≡ group_offset s g + 1 → whole_anchor_at s (g + 1) ≡ whole_anchor_at s g
unfolding whole_anchor_at
whole_next n s g first d r is step offset =
    let f : ℕ = frame_pictures s in
    let start : g + 1 - group_offset s (g + 1) ≡ g - group_offset s g = omega arith in
    let before : group_offset s (g + 1) - f - step_offset s (g + 1) ≡ group_offset s g - f - step_offset s g = omega (arith, is.offset, is.step) in
    let of : ℕ → ℕ → ℕ = λ a b. a + min (b + step_pictures s) (group_pictures s - f) in
    ap₂ of start before

-- what is settled at a place is settled at the next one
settled_next : (s : Settings) (n g : ℕ) → 0 < s.gop → g < n → IsReady n s g → 0 < step_offset s (g + 1) → whole_anchor_at s (g + 1) + frame_pictures s ≤ n
settled_next s n g some more ready begun =
    let all = some_pictures s some in
    elim (cases_lt (group_offset s g) (frame_pictures s)) [
      | inl early ↦ absurd (omega (arith, begun, opens_next s g all.0 all.1 early))
      | inr late ↦
          let is = in_step n s g some more late in
          let r : ℕ = step_offset s g in
          let ends = (steps_next n s g _ _ r is).0 in
          elim (cases_lt (r + 1) (step_pictures s)) [
            | inl on ↦ elim (cases_lt (group_offset s g + 1) (group_pictures s)) [
              | inl inside ↦
                  let go = (steps_next n s g _ _ r is).1 on (omega (arith, is.offset, inside)) in
                  let same = whole_next n s g _ _ r is go.0 go.1 in
                  elim ready [
                    | opening_ready early ↦ absurd (omega (arith, early, late))
                    | anchor_ready there ↦ omega (arith, same, there)
                  ]
              | inr last ↦ absurd (omega (arith, begun, ends (inr (omega (arith, is.offset, is.in_group, last)))))
            ]
            | inr last ↦ absurd (omega (arith, begun, ends (inl (omega (arith, is.in_step, last)))))
          ]
    ]

pub taken_is : (s : Settings) (n g : ℕ) (before now : Bool) (ws : List Picture) (x : Planned) → IsPlanning s n g before ws → g < n → slice_get (plan n s) g ≡ Some x
    → (now ≡ false → before ≡ false) → (now ≡ false → must_be_taken_first s (slice_get (plan n s) g) ≡ false → pictures_needed s g ≤ length ws)
    → IsPlanning s n (g + 1) now (remove ws (x.number - g))
taken_is s n g before now ws x is more at kept enough =
    let place = place_in s n g before ws x is more at in
    let room = is.waiting_fit in
    let i : ℕ = x.number - g in
    record {
      settings = is.settings;
      in_range = is.in_range;
      given_in_range = omega arith;
      waiting_fit = omega (arith, length-append (take i ws) (drop (suc i) ws), length-take i ws, length-drop (suc i) ws, place.inside);
      counts = omega (arith, length-append (take i ws) (drop (suc i) ws), length-take i ws, length-drop (suc i) ws, place.inside, is.counts);
      numbers = place.rest;
      settled = λ e begun. settled_next s n g (paced s is.settings).gop_least more (ready_for s n g before ws is (kept e) more (enough e)) begun;
    }

-- told whether the pictures have ended
pub told_is : (s : Settings) (n g : ℕ) (before now : Bool) (ws : List Picture) → IsPlanning s n g before ws → (now ≡ false → before ≡ false) → IsPlanning s n g now ws
told_is s n g before now ws is kept = record { settings = is.settings; in_range = is.in_range; given_in_range = is.given_in_range; waiting_fit = is.waiting_fit; counts = is.counts; numbers = is.numbers; settled = λ e begun. is.settled (kept e) begun }

pub takes : (old new : Planning) (ended : Bool) (x : Planned) (p : Picture) → slice_get (plan old.accepted old.settings) old.given ≡ Some x
    → slice_get (map number_of old.waiting) (x.number - old.given) ≡ Some x.number → slice_get old.waiting (x.number - old.given) ≡ Some p
    → new ≡ record { settings = old.settings; accepted = old.accepted; given = old.given + 1; ended = ended; waiting = remove old.waiting (x.number - old.given) }
    → (ended ≡ false → IsLasting old x) → Takes ended old new x p
takes old new ended x p at number here left lasting =
    let i : ℕ = x.number - old.given in
    let named : slice_get (map number_of old.waiting) i ≡ Some p.number = slice_get-map number_of old.waiting i ∙ ap (option_map number_of) here in
    let clash : Some p.number ≡ Some x.number = sym named ∙ number in
    record {
      next = at;
      lasting = lasting;
      same = cc;
      before = take i old.waiting;
      after = drop (suc i) old.waiting;
      waited = around_item old.waiting i p here;
      waiting = ap (λ (v : Planning). v.waiting) left;
      settings = ap (λ (v : Planning). v.settings) left;
      accepted = ap (λ (v : Planning). v.accepted) left;
      given = ap (λ (v : Planning). v.given) left;
      told = ap (λ (v : Planning). v.ended) left;
    }

-- where not too few wait
pub enough : (s : Settings) (n g : ℕ) (ended : Bool) (waiting : ℕ) {answer : Bool} → answer ≡ are_too_few s n g ended waiting → answer ≡ false → ended ≡ false
    → must_be_taken_first s (slice_get (plan n s) g) ≡ false → pictures_needed s g ≤ waiting
enough s n g ended waiting e false_is going last =
    let now : are_too_few s n g ended waiting ≡ nat_lt waiting (pictures_needed s g) = ap₂ (λ (a b : Bool). not a && not b && nat_lt waiting (pictures_needed s g)) going last in
    ltb-false waiting (pictures_needed s g) (sym now ∙ sym e ∙ false_is)

pub kept : (before now : Bool) → (before ≡ true → now ≡ true) → now ≡ false → before ≡ false
kept true now h e = let y = h refl in absurd (cc)
kept false now h e = refl

-- a queue has the places that are needed, and one at least
most_needed : (s : Settings) (g : ℕ) → IsAccepted s → (pictures_needed s g ≤ waiting_places s) × (1 ≤ waiting_places s)
most_needed s g accepted =
    let most = (paced s accepted).between_most in
    let frame = (frame_is s).0 in
    let wide : step_pictures s ≤ waiting_places s = mul-le-mul {n₁ = frame_pictures s} {m₁ = s.between + 1} {n₂ = frame_pictures s} {m₂ = FRAMES_WAITING} (omega arith) (omega arith) in
    let one : 1 ≤ waiting_places s = omega (arith, mul-le-mul {n₁ = 1} {m₁ = 1} {n₂ = frame_pictures s} {m₂ = FRAMES_WAITING} frame (omega arith)) in
    let P : ℕ → Type 0 = λ m. m ≤ waiting_places s in
    (either (nat_lt (group_offset s g) (frame_pictures s)) P 1 (min (step_pictures s) (group_pictures s - group_offset s g)) one (omega arith), one)

-- where too few wait, the next picture will be accepted
pub opens_for_more : (s : Settings) (n g : ℕ) (ended : Bool) (ws : List Picture) {answer : Bool} → IsPlanning s n g ended ws → answer ≡ are_too_few s n g false (length ws) → answer ≡ true
    → (length ws == waiting_places s || must_be_taken_first s (slice_get (plan n s) g)) ≡ false
opens_for_more s n g ended ws is e answer_is = by_kind (must_be_taken_first s (slice_get (plan n s) g)) (sym e ∙ answer_is) (most_needed s g is.settings).0
  where
    by_kind : (b : Bool) → (not false && not b && nat_lt (length ws) (pictures_needed s g)) ≡ true → pictures_needed s g ≤ waiting_places s → (length ws == waiting_places s || b) ≡ false
    by_kind true e need = absurd (cc)
    by_kind false e need =
        let fewer = ltb-true (length ws) (pictures_needed s g) e in
        ap (λ (b : Bool). b || false) (ne_eqb (length ws) (waiting_places s) (λ same. omega arith))

-- where none waits, too
pub opens_empty : (s : Settings) (n g : ℕ) (ended : Bool) (ws : List Picture) → IsPlanning s n g ended ws → length ws ≡ 0 → (length ws == waiting_places s || must_be_taken_first s (slice_get (plan n s) g)) ≡ false
opens_empty s n g ended ws is none =
    let all = is.counts in
    let long = length_plan n s (paced s is.settings).gop_least in
    let past = slice_get_past (plan n s) g (omega arith) in
    let some = (most_needed s g is.settings).1 in
    ap₂ (λ (a b : Bool). a || b) (ne_eqb (length ws) (waiting_places s) (λ same. omega arith)) (ap (must_be_taken_first s) past)
