-- The steps of a plan in pictures, and what waits at each place of a step.
use Rattle.std.proofs.Common.{◌≡◌, ℕ, zero, suc, ◌+◌, ◌-◌, ◌*◌, ◌/◌, ◌%◌, ◌<◌, ◌≤◌, ◌==◌, ◌⊎◌, inl, inr, min, nat_lt, if◌then◌else◌, Bool, true, false, List, [], ◌∷◌, ◌++◌, length, refl, ap, ap₂, ◌∙◌, sym, arith, lt-ltb, div-add-mod'}
use Rattle.std.specs.List.{range_with_len}
use Rattle.std.proofs.lemmas.Nat.{mod-mul-add, mod_below}
use Rattle.std.proofs.lemmas.Bool.{cases_Bool, cases_eq, cases_lt, ltb-true}
use Rattle.std.proofs.lemmas.List.FromFn.{length-range_with_len}
use Rattle.dirac_types.specs.declared.settings.Settings.{Settings}
use Rattle.dirac_plan.specs.Planning.{frame_pictures, group_offset, group_pictures, step_pictures}
use Rattle.dirac_plan.specs.Waiting.{ahead, anchor_at, left_by, step_offset, step_offset_in, whole_frames}
use Rattle.dirac_plan.proofs.Lists.{range_split}

-- one place on, modulo w
mod_next : (g w : ℕ) → 0 < w → ((g % w + 1 ≡ w) → (g + 1) % w ≡ 0) × ((g % w + 1 < w) → (g + 1) % w ≡ g % w + 1)
mod_next g w some =
    let whole = div-add-mod' g w in (
      λ last. ap (λ m. m % w) (let t : g + 1 ≡ (g / w + 1) * w + 0 = omega arith in t) ∙ mod-mul-add (g / w + 1) w 0 some,
      λ more. ap (λ m. m % w) (let t : g + 1 ≡ g / w * w + (g % w + 1) = omega arith in t) ∙ mod-mul-add (g / w) w (g % w + 1) more,
    )

-- a test of two numbers that is not true
pub not_less : (a b : ℕ) → b ≤ a → nat_lt a b ≡ false
not_less a b h = by_test (nat_lt a b) (λ e. let less = ltb-true a b e in omega arith)
  where
    by_test : (t : Bool) → (t ≡ true → ⊥) → t ≡ false
    by_test true never = absurd (never refl)
    by_test false never = refl

pub offset_opens : (f w o : ℕ) → o < f → step_offset_in f w o ≡ 0
offset_opens f w o h = ap (λ (b : Bool). if b then 0 else (o - f) % w) (lt-ltb o f h)

pub offset_steps : (f w o : ℕ) → f ≤ o → step_offset_in f w o ≡ (o - f) % w
offset_steps f w o h = ap (λ (b : Bool). if b then 0 else (o - f) % w) (not_less o f h)

-- the next place: in the same step, or at the start of one
next_offset : (f w o : ℕ) → 0 < w → (o < f → step_offset_in f w (o + 1) ≡ 0) × (f ≤ o → (step_offset_in f w o + 1 ≡ w → step_offset_in f w (o + 1) ≡ 0) × (step_offset_in f w o + 1 < w → step_offset_in f w (o + 1) ≡ step_offset_in f w o + 1))
next_offset f w o some = (
  λ early. elim (cases_eq (o + 1) f) [
    | inl full ↦
        let none : o + 1 - f ≡ 0 * w + 0 = omega arith in
        offset_steps f w (o + 1) (omega arith) ∙ ap (λ m. m % w) none ∙ mod-mul-add 0 w 0 some
    | inr other ↦ offset_opens f w (o + 1) (omega (arith, other))
  ],
  λ late.
      let here = offset_steps f w o late in
      let there = offset_steps f w (o + 1) (omega arith) in
      let on : o + 1 - f ≡ o - f + 1 = omega arith in
      let next = mod_next (o - f) w some in
      (λ last. there ∙ ap (λ m. m % w) on ∙ next.0 (omega arith), λ more. there ∙ ap (λ m. m % w) on ∙ next.1 (omega arith) ∙ ap (λ m. m + 1) (sym here)),
)

-- a frame is one picture or two
pub frame_is : (s : Settings) → (1 ≤ frame_pictures s) × (frame_pictures s ≤ 2)
frame_is s = by_test (s.fields == 0)
  where
    by_test : (b : Bool) → (1 ≤ (if b then 1 else 2)) × ((if b then 1 else 2) ≤ 2)
    by_test true = (omega arith, omega arith)
    by_test false = (omega arith, omega arith)

-- at most one more
pub whole_is : (s : Settings) (n : ℕ) → (n ≤ whole_frames s n) × (whole_frames s n < n + frame_pictures s)
whole_is s n = by_test (s.fields == 0)
  where
    by_test : (b : Bool) → (n ≤ (if b then n else n + n % 2)) × ((if b then n else n + n % 2) < n + (if b then 1 else 2))
    by_test true = (omega arith, omega arith)
    by_test false = (omega arith, omega arith)

-- a place in a step: r places behind its start, that d places behind its group's first frame
pub record InStep (n : ℕ) (s : Settings) (g first d r : ℕ) : Type 0 where
  pub in_plan : g < n
  pub place : first + frame_pictures s + d + r ≡ g
  pub in_group : frame_pictures s + d + r < group_pictures s
  pub in_step : r < step_pictures s
  pub frame : (1 ≤ frame_pictures s) × (frame_pictures s ≤ step_pictures s) × (frame_pictures s ≤ group_pictures s)
  pub whole : (n ≤ whole_frames s n) × (whole_frames s n < n + frame_pictures s)
  pub offset : group_offset s g ≡ frame_pictures s + d + r
  pub step : step_offset s g ≡ r
  pub anchor : anchor_at n s g ≡ first + min (d + step_pictures s) (min (group_pictures s) (whole_frames s n - first) - frame_pictures s)
  -- the anchor isn't behind the place
  pub behind : g ≤ anchor_at n s g + r

behind_one : (f group step first d r whole n g anchor : ℕ) → f ≡ 1 → anchor ≡ first + min (d + step) (min group (whole - first) - f) → first + f + d + r ≡ g → f + d + r < group → r < step → g < n → n ≤ whole → g ≤ anchor + r
behind_one f group step first d r whole n g anchor one is place in_group in_step in_plan more = omega arith

behind_two : (f group step first d r whole n g anchor a b c e h : ℕ) → f ≡ 2 → first ≡ 2 * a → d ≡ 2 * b → group ≡ 2 * c → whole ≡ 2 * e → step ≡ 2 * h → anchor ≡ first + min (d + step) (min group (whole - first) - f)
    → first + f + d + r ≡ g → f + d + r < group → r < step → g < n → n ≤ whole → g ≤ anchor + r
behind_two f group step first d r whole n g anchor a b c e h two ea eb ec ee eh is place in_group in_step in_plan more = omega arith

pub in_step : (n : ℕ) (s : Settings) (g : ℕ) → 0 < s.gop → g < n → frame_pictures s ≤ group_offset s g
    → InStep n s g (g - group_offset s g) (group_offset s g - frame_pictures s - step_offset s g) (step_offset s g)
unfolding anchor_at step_offset
in_step n s g some within late =
    let f : ℕ = frame_pictures s in
    let o : ℕ = group_offset s g in
    let r : ℕ = step_offset s g in
    let first : ℕ = g - o in
    let d : ℕ = o - f - r in
    let frame = frame_is s in
    let wide : f ≤ step_pictures s = wider f s.between frame.0 in
    let long : f ≤ group_pictures s = longer f s.gop some in
    let groups = div-add-mod' g (group_pictures s) in
    let low = mod_below g (group_pictures s) (omega (arith, frame.0, long)) in
    let steps = div-add-mod' (o - f) (step_pictures s) in
    let short = mod_below (o - f) (step_pictures s) (omega (arith, frame.0, wide)) in
    let step : r ≡ (o - f) % step_pictures s = offset_steps f (step_pictures s) o late in
    let whole = whole_is s n in
    let place : first + f + d + r ≡ g = omega arith in
    let in_group : f + d + r < group_pictures s = omega arith in
    let inside : r < step_pictures s = omega arith in
    record {
      in_plan = within;
      place = place;
      in_group = in_group;
      in_step = inside;
      frame = (frame.0, wide, long);
      whole = whole;
      offset = omega arith;
      step = refl;
      anchor = refl;
      behind = elim (cases_Bool (s.fields == 0)) [
        | inl one ↦
            behind_one f (group_pictures s) (step_pictures s) first d r (whole_frames s n) n g (anchor_at n s g) (ap (λ (b : Bool). if b then 1 else 2) one) refl place in_group inside within whole.0
        | inr two ↦
            let pair : f ≡ 2 = ap (λ (b : Bool). if b then 1 else 2) two in
            let group_two : group_pictures s ≡ 2 * s.gop = ap (λ m. m * s.gop) pair in
            let step_two : step_pictures s ≡ 2 * (s.between + 1) = ap (λ m. m * (s.between + 1)) pair in
            let first_two : g / group_pictures s * group_pictures s ≡ g / group_pictures s * (2 * s.gop) = ap (λ m. g / group_pictures s * m) group_two in
            let d_two : (o - f) / step_pictures s * step_pictures s ≡ (o - f) / step_pictures s * (2 * (s.between + 1)) = ap (λ m. (o - f) / step_pictures s * m) step_two in
            let whole_two : whole_frames s n ≡ n + n % 2 = ap (λ (b : Bool). if b then n else n + n % 2) two in
            behind_two f (group_pictures s) (step_pictures s) first d r (whole_frames s n) n g (anchor_at n s g) (g / group_pictures s * s.gop) ((o - f) / step_pictures s * (s.between + 1)) s.gop ((n + 1) / 2) (s.between + 1)
            pair (omega arith) (omega arith) group_two (omega arith) step_two refl place in_group inside within whole.0
      ];
    }
  where
    wider : (f b : ℕ) → 1 ≤ f → f ≤ f * (b + 1)
    wider f zero h = omega arith
    wider f (suc b) h = omega arith

    longer : (f gop : ℕ) → 0 < gop → f ≤ f * gop
    longer f zero h = absurd (omega arith)
    longer f (suc gop) h = omega arith

-- ---- what waits

-- the picture of this number leaves those that wait
pub record Step (n : ℕ) (s : Settings) (g v : ℕ) : Type 0 where
  pub before : List ℕ
  pub after : List ℕ
  pub now : left_by n g (anchor_at n s g) (ahead n s g) ≡ before ++ v ∷ after
  pub place : length before ≡ v - g
  pub later : left_by n (g + 1) (anchor_at n s (g + 1)) (ahead n s (g + 1)) ≡ before ++ after

-- a range around a number
around : (a n v : ℕ) → a ≤ v → v < a + n → range_with_len a n ≡ range_with_len a (v - a) ++ v ∷ range_with_len (v + 1) (a + n - v - 1)
around a n v low high =
    let count : n ≡ (v - a) + suc (a + n - v - 1) = omega arith in
    ap (range_with_len a) count ∙ range_split a (v - a) (suc (a + n - v - 1)) v (omega arith)

-- none is ahead: all others wait
pub none_ahead : (n : ℕ) (s : Settings) (g : ℕ) → step_offset s g ≡ 0 → ahead n s g ≡ 0
unfolding ahead
none_ahead n s g none = omega arith

pub left_all : (n : ℕ) (s : Settings) (g : ℕ) → step_offset s g ≡ 0 → left_by n g (anchor_at n s g) (ahead n s g) ≡ range_with_len g (n - g)
left_all n s g none = ap (left_by n g (anchor_at n s g)) (none_ahead n s g none)

-- the next place in the group
offset_next : (s : Settings) (g : ℕ) → 0 < group_pictures s → ((group_offset s g + 1 ≡ group_pictures s) → group_offset s (g + 1) ≡ 0) × ((group_offset s g + 1 < group_pictures s) → group_offset s (g + 1) ≡ group_offset s g + 1)
offset_next s g some = mod_next g (group_pictures s) some

-- behind a picture of a frame that opens a group, a step starts or such a frame goes on
pub opens_next : (s : Settings) (g : ℕ) → 0 < group_pictures s → 0 < step_pictures s → group_offset s g < frame_pictures s → step_offset s (g + 1) ≡ 0
unfolding step_offset
opens_next s g some wide early =
    let low = mod_below g (group_pictures s) some in
    let next = offset_next s g some in
    let of : ℕ → ℕ = step_offset_in (frame_pictures s) (step_pictures s) in
    elim (cases_eq (group_offset s g + 1) (group_pictures s)) [
      | inl last ↦ ap of (next.0 last) ∙ offset_opens (frame_pictures s) (step_pictures s) 0 ((frame_is s).0)
      | inr other ↦ ap of (next.1 (omega (arith, low, other))) ∙ (next_offset (frame_pictures s) (step_pictures s) (group_offset s g) wide).0 early
    ]

-- behind another picture a step or a group starts, or the step goes on
pub steps_next : (n : ℕ) (s : Settings) (g first d r : ℕ) → InStep n s g first d r
    → ((r + 1 ≡ step_pictures s) ⊎ (frame_pictures s + d + r + 1 ≡ group_pictures s) → step_offset s (g + 1) ≡ 0)
    × (r + 1 < step_pictures s → frame_pictures s + d + r + 1 < group_pictures s → (step_offset s (g + 1) ≡ r + 1) × (group_offset s (g + 1) ≡ group_offset s g + 1))
unfolding step_offset
steps_next n s g first d r is =
    let f : ℕ = frame_pictures s in
    let w : ℕ = step_pictures s in
    let o : ℕ = group_offset s g in
    let of : ℕ → ℕ = step_offset_in f w in
    let here : of o ≡ r = is.step in
    let late : f ≤ o = omega (arith, is.offset) in
    let next = offset_next s g (omega (arith, is.in_group)) in
    let on = (next_offset f w o (omega (arith, is.in_step))).1 late in
    let ends : o + 1 ≡ group_pictures s → of (group_offset s (g + 1)) ≡ 0 = λ last. ap of (next.0 last) ∙ offset_opens f w 0 is.frame.0 in (
      λ end. elim end [
        | inl full ↦ elim (cases_eq (o + 1) (group_pictures s)) [
          | inl last ↦ ends last
          | inr other ↦ ap of (next.1 (omega (arith, is.in_group, is.offset, other))) ∙ on.0 (omega (arith, full, here))
        ]
        | inr last ↦ ends (omega (arith, is.offset, last))
      ],
      λ more inside.
          let go = next.1 (omega (arith, is.offset, inside)) in
          (ap of go ∙ on.1 (omega (arith, more, here)) ∙ ap (λ m. m + 1) here, go),
    )

-- in the same step the same anchor
anchor_next : (n : ℕ) (s : Settings) (g first d r : ℕ) → InStep n s g first d r → step_offset s (g + 1) ≡ r + 1 → group_offset s (g + 1) ≡ group_offset s g + 1 → anchor_at n s (g + 1) ≡ anchor_at n s g
unfolding anchor_at
anchor_next n s g first d r is step offset =
    let f : ℕ = frame_pictures s in
    let start : g + 1 - group_offset s (g + 1) ≡ g - group_offset s g = omega arith in
    let before : group_offset s (g + 1) - f - step_offset s (g + 1) ≡ group_offset s g - f - step_offset s g = omega (arith, is.offset, is.step) in
    let of : ℕ → ℕ → ℕ = λ a b. a + min (b + step_pictures s) (min (group_pictures s) (whole_frames s n - a) - f) in
    ap₂ of start before

-- and a picture more ahead, if the anchor has one more
ahead_next : (n : ℕ) (s : Settings) (g first d r : ℕ) → InStep n s g first d r → step_offset s (g + 1) ≡ r + 1 → group_offset s (g + 1) ≡ group_offset s g + 1
    → ahead n s (g + 1) ≡ min (r + 1) (min (frame_pictures s) (n - anchor_at n s g))
unfolding ahead
ahead_next n s g first d r is step offset =
    let same = anchor_next n s g first d r is step offset in
    ap₂ (λ a b. min a (min (frame_pictures s) (n - b))) step same

ahead_is : (n : ℕ) (s : Settings) (g first d r : ℕ) → InStep n s g first d r → ahead n s g ≡ min r (min (frame_pictures s) (n - anchor_at n s g))
unfolding ahead
ahead_is n s g first d r is = ap (λ a. min a (min (frame_pictures s) (n - anchor_at n s g))) is.step

-- the numbers before and behind an anchor of which so many pictures are ahead: also where none is
left_around : (n g anchor ahead : ℕ) → g ≤ anchor → anchor ≤ n → left_by n g anchor ahead ≡ range_with_len (g - ahead) (anchor + ahead - g) ++ range_with_len (anchor + ahead) (n - anchor - ahead)
left_around n g anchor zero low high =
    let count : n - g ≡ (anchor + zero - g) + (n - anchor - zero) = omega arith in
    let start : g - zero ≡ g = omega arith in
    ap (range_with_len g) count ∙ range_split g (anchor + zero - g) (n - anchor - zero) (anchor + zero) (omega arith)
    ∙ ap (λ a. range_with_len a (anchor + zero - g) ++ range_with_len (anchor + zero) (n - anchor - zero)) (sym start)
left_around n g anchor (suc ahead) low high = refl

left_ahead : (n g anchor ahead : ℕ) → 0 < ahead → left_by n g anchor ahead ≡ range_with_len (g - ahead) (anchor + ahead - g) ++ range_with_len (anchor + ahead) (n - anchor - ahead)
left_ahead n g anchor zero some = absurd (omega arith)
left_ahead n g anchor (suc ahead) some = refl

-- a picture of a frame that opens a group
pub opening_step : (n : ℕ) (s : Settings) (g : ℕ) → g < n → 0 < group_pictures s → 0 < step_pictures s → group_offset s g < frame_pictures s → Step n s g g
unfolding step_offset
opening_step n s g within some wide early =
    let none : step_offset s g ≡ 0 = offset_opens (frame_pictures s) (step_pictures s) (group_offset s g) early in
    let next = opens_next s g some wide early in
    let count : n - g ≡ suc (n - (g + 1)) = omega arith in
    record {
      before = [];
      after = range_with_len (g + 1) (n - (g + 1));
      now = left_all n s g none ∙ ap (range_with_len g) count;
      place = omega arith;
      later = left_all n s (g + 1) next;
    }

-- the anchor, or one of its fields
pub anchor_step : (n : ℕ) (s : Settings) (g first d r : ℕ) → InStep n s g first d r → r < min (frame_pictures s) (n - anchor_at n s g) → Step n s g (anchor_at n s g + r)
anchor_step n s g first d r is first_ones =
    let f : ℕ = frame_pictures s in
    let b : ℕ = anchor_at n s g in
    let ahead_now : ahead n s g ≡ r = ahead_is n s g first d r is ∙ omega arith in
    let low : g - r ≤ b = omega (arith, is.behind) in
    let count : n - b - r ≡ suc (n - b - r - 1) = omega arith in
    let before : List ℕ = range_with_len (g - r) (b + r - g) in
    let after : List ℕ = range_with_len (b + r + 1) (n - b - r - 1) in
    record {
      before = before;
      after = after;
      now =
          ap (left_by n g b) ahead_now ∙ left_with n g b r low is.behind (omega arith)
          ∙ ap (λ m. before ++ range_with_len (b + r) m) count;
      place = length-range_with_len (g - r) (b + r - g) ∙ omega arith;
      later = elim (cases_lt (r + 1) (step_pictures s)) [
        | inl more ↦ elim (cases_lt (f + d + r + 1) (group_pictures s)) [
          | inl inside ↦
              let go = (steps_next n s g first d r is).1 more inside in
              let same = anchor_next n s g first d r is go.0 go.1 in
              let next : ahead n s (g + 1) ≡ r + 1 = ahead_next n s g first d r is go.0 go.1 ∙ omega arith in
              ap₂ (left_by n (g + 1)) same next ∙ left_ahead n (g + 1) b (r + 1) (omega arith)
              ∙ ap₂ (λ (x y : List ℕ). x ++ y)
              (ap₂ range_with_len (let t : g + 1 - (r + 1) ≡ g - r = omega arith in t) (let t : b + (r + 1) - (g + 1) ≡ b + r - g = omega arith in t))
              (ap₂ range_with_len (let t : b + (r + 1) ≡ b + r + 1 = omega arith in t) (let t : n - b - (r + 1) ≡ n - b - r - 1 = omega arith in t))
          | inr last ↦ ends ((steps_next n s g first d r is).0 (inr (omega (arith, is.in_group, last)))) (omega (arith, is.anchor, is.behind, is.place, is.frame.0, is.frame.1, is.frame.2, is.in_group, last))
        ]
        | inr last ↦ ends ((steps_next n s g first d r is).0 (inl (omega (arith, is.in_step, last)))) (omega (arith, is.anchor, is.behind, is.place, is.frame.0, is.frame.1, is.frame.2, is.in_step, last))
      ];
    }
  where
    left_with : (n g b r : ℕ) → g - r ≤ b → g ≤ b + r → b + r ≤ n → left_by n g b r ≡ range_with_len (g - r) (b + r - g) ++ range_with_len (b + r) (n - b - r)
    left_with n g b zero low behind high = left_around n g b zero (omega arith) (omega arith)
    left_with n g b (suc r) low behind high = refl

    ends : step_offset s (g + 1) ≡ 0 → anchor_at n s g + r ≡ g → left_by n (g + 1) (anchor_at n s (g + 1)) (ahead n s (g + 1)) ≡ range_with_len (g - r) (anchor_at n s g + r - g) ++ range_with_len (anchor_at n s g + r + 1) (n - anchor_at n s g - r - 1)
    ends next same =
        let b : ℕ = anchor_at n s g in
        let none : b + r - g ≡ 0 = omega arith in
        left_all n s (g + 1) next
        ∙ ap₂ range_with_len (let t : g + 1 ≡ b + r + 1 = omega arith in t) (let t : n - (g + 1) ≡ n - b - r - 1 = omega arith in t)
        ∙ sym (ap (λ m. range_with_len (g - r) m ++ range_with_len (b + r + 1) (n - b - r - 1)) none)

-- a picture between two anchors
pub between_step : (n : ℕ) (s : Settings) (g first d r c : ℕ) → InStep n s g first d r → c ≡ min (frame_pictures s) (n - anchor_at n s g) → c ≤ r → Step n s g (g - c)
between_step n s g first d r c is fields behind =
    let f : ℕ = frame_pictures s in
    let b : ℕ = anchor_at n s g in
    let ahead_now : ahead n s g ≡ c = ahead_is n s g first d r is ∙ omega arith in
    let high : b < n = omega (arith, is.anchor, is.place, is.frame.0, is.frame.2, is.whole.0, is.whole.1, is.in_plan) in
    let some : 0 < c = omega (arith, is.frame.0) in
    let low : g < b + c = omega (arith, is.anchor, is.place, is.frame.0, is.frame.1, is.frame.2, is.whole.0, is.whole.1, is.in_plan, is.in_group, is.in_step) in
    let count : b + c - g ≡ suc (b + c - g - 1) = omega arith in
    let next : g - c + 1 ≡ g + 1 - c = omega (arith, is.place) in
    let rest : List ℕ = range_with_len (b + c) (n - b - c) in
    record {
      before = [];
      after = range_with_len (g - c + 1) (b + c - g - 1) ++ rest;
      now = ap (left_by n g b) ahead_now ∙ left_ahead n g b c some ∙ ap (λ m. range_with_len (g - c) m ++ rest) count;
      place = omega arith;
      later = elim (cases_lt (r + 1) (step_pictures s)) [
        | inl more ↦ elim (cases_lt (f + d + r + 1) (group_pictures s)) [
          | inl inside ↦
              let go = (steps_next n s g first d r is).1 more inside in
              let same = anchor_next n s g first d r is go.0 go.1 in
              let ahead_then : ahead n s (g + 1) ≡ c = ahead_next n s g first d r is go.0 go.1 ∙ omega arith in
              ap₂ (left_by n (g + 1)) same ahead_then ∙ left_ahead n (g + 1) b c some
              ∙ ap (λ (x : List ℕ). x ++ rest) (ap₂ range_with_len (sym next) (let t : b + c - (g + 1) ≡ b + c - g - 1 = omega arith in t))
          | inr last ↦ ends ((steps_next n s g first d r is).0 (inr (omega (arith, is.in_group, last)))) (omega (arith, is.anchor, is.place, is.frame.0, is.frame.1, is.frame.2, is.whole.0, is.whole.1, is.in_plan, is.in_group, is.in_step, last))
        ]
        | inr last ↦ ends ((steps_next n s g first d r is).0 (inl (omega (arith, is.in_step, last)))) (omega (arith, is.anchor, is.place, is.frame.0, is.frame.1, is.frame.2, is.whole.0, is.whole.1, is.in_plan, is.in_group, is.in_step, last))
      ];
    }
  where
    ends : step_offset s (g + 1) ≡ 0 → anchor_at n s g + c ≡ g + 1 → left_by n (g + 1) (anchor_at n s (g + 1)) (ahead n s (g + 1)) ≡ range_with_len (g - c + 1) (anchor_at n s g + c - g - 1) ++ range_with_len (anchor_at n s g + c) (n - anchor_at n s g - c)
    ends next same =
        let b : ℕ = anchor_at n s g in
        let none : b + c - g - 1 ≡ 0 = omega arith in
        left_all n s (g + 1) next
        ∙ ap₂ range_with_len (let t : g + 1 ≡ b + c = omega arith in t) (let t : n - (g + 1) ≡ n - b - c = omega arith in t)
        ∙ sym (ap (λ m. range_with_len (g - c + 1) m ++ range_with_len (b + c) (n - b - c)) none)
