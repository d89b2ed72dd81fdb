-- The fields of planned frames: where they stand, and that each stands once.
use Rattle.std.proofs.Common.{◌≡◌, ℕ, zero, suc, ◌+◌, ◌-◌, ◌*◌, ◌/◌, ◌<◌, ◌≤◌, ◌==◌, ◌&&◌, min, Bool, true, false, nat_lt, if◌then◌else◌, List, [], ◌∷◌, ◌++◌, Some, None, option_map, length, slice_get, sum_by, refl, ap, sym, ◌∙◌, arith, div-add-mod', inl, inr}
use Rattle.std.specs.List.{flat_map, range_with_len}
use Rattle.std.proofs.lemmas.Bool.{cases_lt, lt-ltb, le-ltb, cond-false}
use Rattle.std.proofs.lemmas.Nat.{mod_below}
use Rattle.std.proofs.lemmas.List.Sums.{sum_by-append, sum_by-cons}
use Rattle.dirac_types.specs.declared.settings.Settings.{Settings}
use Rattle.dirac_common.specs.declared.codes.TheConstants.{INTRA_REFERENCE}
use Rattle.dirac_plan.specs.declared.planned.Planned.{Planned}
use Rattle.dirac_plan.specs.Plan.{anchor_of, field_of, field_or_first, fields_of, frames_plan, plan}
use Rattle.dirac_plan.proofs.Numbers.{either, of_number, sum_frames}
use Rattle.dirac_plan.proofs.Lists.{get_behind, get_front, sum_ranges}

-- what holds of a plan of frames and of one of fields holds of each plan
pub of_plan : (P : List Planned → Type 0) (n : ℕ) (s : Settings) → P (frames_plan n s) → P (flat_map (fields_of n) (frames_plan ((n + 1) / 2) s)) → P (plan n s)
unfolding plan
of_plan P n s frames fields = either (s.fields == 0) P (frames_plan n s) (flat_map (fields_of n) (frames_plan ((n + 1) / 2) s)) frames fields

-- field p of a frame that isn't the second one of an intra frame
abbrev pub plain_field : ℕ → ℕ → Planned → Planned
plain_field n p f = record {
  number = 2 * f.number + p;
  code = f.code;
  ref1 = option_map (field_or_first n p) f.ref1;
  ref2 = option_map (field_or_first n p) f.ref2;
  retire = option_map (λ t. 2 * t + p) f.retire;
}

never : (b : Bool) → (b && false) ≡ false
never true = refl
never false = refl

pub first_field : (n : ℕ) (f : Planned) → field_of n 0 f ≡ plain_field n 0 f
first_field n f = cond-false (f.code == INTRA_REFERENCE && 0 == 1) (anchor_of (2 * f.number + 1) (2 * f.number) None (option_map (λ t. 2 * t + 0) f.retire)) (plain_field n 0 f) (never (f.code == INTRA_REFERENCE))

pub first_number : (n : ℕ) (f : Planned) → (field_of n 0 f).number ≡ 2 * f.number
first_number n f = let is : (field_of n 0 f).number ≡ 2 * f.number + 0 = ap (λ (p : Planned). p.number) (first_field n f) in omega (arith, is)

pub second_number : (n : ℕ) (f : Planned) → (field_of n 1 f).number ≡ 2 * f.number + 1
second_number n f =
    let P : Planned → Type 0 = λ p. p.number ≡ 2 * f.number + 1 in
    either (f.code == INTRA_REFERENCE && 1 == 1) P _ _ refl refl

-- a frame of two fields, and the last one where it has one alone
pub two_fields : (n : ℕ) (f : Planned) → 2 * f.number + 1 < n → fields_of n f ≡ field_of n 0 f ∷ field_of n 1 f ∷ []
two_fields n f there = ap (λ (b : Bool). field_of n 0 f ∷ (if b then field_of n 1 f ∷ [] else [])) (lt-ltb (2 * f.number + 1) n there)

pub one_field : (n : ℕ) (f : Planned) → n ≤ 2 * f.number + 1 → fields_of n f ≡ field_of n 0 f ∷ []
one_field n f missing = ap (λ (b : Bool). field_of n 0 f ∷ (if b then field_of n 1 f ∷ [] else [])) (le-ltb (2 * f.number + 1) n missing)

-- ---- each once

-- what the fields of a frame weigh
abbrev pub fields_weight : ℕ → (ℕ → ℕ) → ℕ → ℕ
fields_weight n w t = w (2 * t) + (if nat_lt (2 * t + 1) n then w (2 * t + 1) else 0)

sum_fields : (n : ℕ) (w : ℕ → ℕ) (f : Planned) → sum_by (of_number w) (fields_of n f) ≡ fields_weight n w f.number
sum_fields n w f = by_test (nat_lt (2 * f.number + 1) n)
  where
    by_test : (b : Bool) → sum_by (of_number w) (field_of n 0 f ∷ (if b then field_of n 1 f ∷ [] else [])) ≡ w (2 * f.number) + (if b then w (2 * f.number + 1) else 0)
    by_test true = omega (arith, sum_by-cons (of_number w) (field_of n 0 f) (field_of n 1 f ∷ []), sum_by-cons (of_number w) (field_of n 1 f) [], ap w (first_number n f), ap w (second_number n f))
    by_test false = omega (arith, sum_by-cons (of_number w) (field_of n 0 f) [], ap w (first_number n f))

sum_of_fields : (n : ℕ) (w : ℕ → ℕ) (xs : List Planned) → sum_by (of_number w) (flat_map (fields_of n) xs) ≡ sum_by (of_number (fields_weight n w)) xs
sum_of_fields n w [] = refl
sum_of_fields n w (x ∷ xs) =
    omega (arith, sum_by-append (of_number w) (fields_of n x) (flat_map (fields_of n) xs), sum_fields n w x, sum_by-cons (of_number (fields_weight n w)) x xs, sum_of_fields n w xs)

no_numbers : (w : ℕ → ℕ) (a n : ℕ) → n ≡ 0 → sum_by w (range_with_len a n) ≡ 0
no_numbers w a n e = ap (λ m. sum_by w (range_with_len a m)) e

two_numbers : (w : ℕ → ℕ) (a : ℕ) → sum_by w (range_with_len a 2) ≡ w a + w (a + 1)
two_numbers w a = omega (arith, sum_by-cons w a (range_with_len (a + 1) 1), sum_by-cons w (a + 1) [])

one_number : (w : ℕ → ℕ) (a : ℕ) → sum_by w (range_with_len a 1) ≡ w a
one_number w a = omega (arith, sum_by-cons w a [])

sum_field_numbers : (n : ℕ) (w : ℕ → ℕ) (a m : ℕ) → 2 * (a + m) ≤ n + 1
    → sum_by (fields_weight n w) (range_with_len a m) ≡ sum_by w (range_with_len (2 * a) (min n (2 * (a + m)) - 2 * a))
sum_field_numbers n w a zero h = sym (no_numbers w (2 * a) (min n (2 * (a + 0)) - 2 * a) (omega arith))
sum_field_numbers n w a (suc m) h =
    let here = sum_by-cons (fields_weight n w) a (range_with_len (a + 1) m) in
    let rest = sum_field_numbers n w (a + 1) m (omega arith) in
    elim (cases_lt (2 * a + 1) n) [
      | inl both ↦
          let weight : fields_weight n w a ≡ w (2 * a) + w (2 * a + 1) = ap (λ (b : Bool). w (2 * a) + (if b then w (2 * a + 1) else 0)) (lt-ltb (2 * a + 1) n both) in
          let pair = two_numbers w (2 * a) in
          let ranges = sum_ranges w (2 * a) 2 (min n (2 * (a + 1 + m)) - 2 * (a + 1)) (2 * (a + 1)) (min n (2 * (a + suc m)) - 2 * a) (omega arith) (omega arith) in
          omega arith
      | inr alone ↦
          let weight : fields_weight n w a ≡ w (2 * a) + 0 = ap (λ (b : Bool). w (2 * a) + (if b then w (2 * a + 1) else 0)) (le-ltb (2 * a + 1) n alone) in
          let none = no_numbers w (2 * (a + 1)) (min n (2 * (a + 1 + m)) - 2 * (a + 1)) (omega arith) in
          let count : min n (2 * (a + suc m)) - 2 * a ≡ 1 = omega arith in
          let whole = ap (λ c. sum_by w (range_with_len (2 * a) c)) count in
          let last = one_number w (2 * a) in
          omega arith
    ]

pub sum_fields_plan : (w : ℕ → ℕ) (n : ℕ) (s : Settings) → 0 < s.gop → sum_by (of_number w) (flat_map (fields_of n) (frames_plan ((n + 1) / 2) s)) ≡ sum_by w (range_with_len 0 n)
sum_fields_plan w n s some =
    let half = div-add-mod' (n + 1) 2 in
    let rest = mod_below (n + 1) 2 (omega arith) in
    let count : min n (2 * (0 + (n + 1) / 2)) - 2 * 0 ≡ n = omega arith in
    let start : 2 * 0 ≡ 0 = omega arith in
    sum_of_fields n w (frames_plan ((n + 1) / 2) s)
    ∙ sum_frames (fields_weight n w) ((n + 1) / 2) s some
    ∙ sum_field_numbers n w 0 ((n + 1) / 2) (omega arith)
    ∙ ap (λ c. sum_by w (range_with_len (2 * 0) c)) count
    ∙ ap (λ a. sum_by w (range_with_len a n)) start

-- ---- places

-- the frame of the field at a place: field p of the frame at place q stands at 2 q + p or before
pub record FrameAt (xs : List Planned) (place : ℕ) (x : Planned) : Type 0 where
  pub frame_place : ℕ
  pub frame : Planned
  pub at : slice_get xs frame_place ≡ Some frame
  pub near : place + 2 * frame.number ≤ 2 * frame_place + x.number

frame_here : (fs : List Planned) (f x y : Planned) (p : ℕ) → p ≤ 1 → x ≡ y → x.number ≡ 2 * f.number + p → FrameAt (f ∷ fs) p y
frame_here fs f x y p small same number =
    let here : x.number ≡ y.number = ap (λ (z : Planned). z.number) same in
    record { frame_place = 0; frame = f; at = refl; near = omega arith }

frame_later : (fs : List Planned) (f x : Planned) (place next : ℕ) → next ≤ place + 2 → FrameAt fs place x → FrameAt (f ∷ fs) next x
frame_later fs f x place next far is = record { frame_place = suc is.frame_place; frame = is.frame; at = is.at; near = omega (arith, is.near) }

pub frame_at : (n : ℕ) (xs : List Planned) (place : ℕ) (x : Planned) → slice_get (flat_map (fields_of n) xs) place ≡ Some x → FrameAt xs place x
frame_at n [] place x e = let s : None ≡ Some x = e in absurd (cc)
frame_at n (f ∷ fs) place x e = by_test (λ later. frame_at n fs later x) (nat_lt (2 * f.number + 1) n) place e
  where
    by_test : ((later : ℕ) → slice_get (flat_map (fields_of n) fs) later ≡ Some x → FrameAt fs later x) → (b : Bool) (place : ℕ)
        → slice_get ((field_of n 0 f ∷ (if b then field_of n 1 f ∷ [] else [])) ++ flat_map (fields_of n) fs) place ≡ Some x → FrameAt (f ∷ fs) place x
    by_test more true zero e =
        let s : Some (field_of n 0 f) ≡ Some x = e in
        let same : field_of n 0 f ≡ x = cc in
        frame_here fs f (field_of n 0 f) x 0 (omega arith) same (omega (arith, first_number n f))
    by_test more true (suc zero) e =
        let s : Some (field_of n 1 f) ≡ Some x = e in
        let same : field_of n 1 f ≡ x = cc in
        frame_here fs f (field_of n 1 f) x 1 (omega arith) same (second_number n f)
    by_test more true (suc (suc place)) e = frame_later fs f x place (suc (suc place)) (omega arith) (more place e)
    by_test more false zero e =
        let s : Some (field_of n 0 f) ≡ Some x = e in
        let same : field_of n 0 f ≡ x = cc in
        frame_here fs f (field_of n 0 f) x 0 (omega arith) same (omega (arith, first_number n f))
    by_test more false (suc place) e = frame_later fs f x place (suc place) (omega arith) (more place e)

-- behind frames of two fields each
pub field_at : (n : ℕ) (xs : List Planned) (q p : ℕ) (f x : Planned)
    → ((i : ℕ) (y : Planned) → i < q → slice_get xs i ≡ Some y → 2 * y.number + 1 < n)
    → slice_get xs q ≡ Some f → slice_get (fields_of n f) p ≡ Some x → slice_get (flat_map (fields_of n) xs) (2 * q + p) ≡ Some x
field_at n [] q p f x before at here = let s : None ≡ Some f = at in absurd (cc)
field_at n (y ∷ xs) zero p f x before at here =
    let s : Some y ≡ Some f = at in
    let same : y ≡ f = cc in
    let place : 2 * 0 + p ≡ p = omega arith in
    get_front (fields_of n y) (flat_map (fields_of n) xs) (2 * 0 + p) x (ap (slice_get (fields_of n y)) place ∙ ap (λ z. slice_get (fields_of n z) p) same ∙ here)
field_at n (y ∷ xs) (suc q) p f x before at here =
    let two = two_fields n y (before 0 y (omega arith) refl) in
    let long : length (fields_of n y) ≡ 2 = ap length two in
    get_behind (fields_of n y) (flat_map (fields_of n) xs) 2 (2 * q + p) (2 * suc q + p) x long (omega arith)
    (field_at n xs q p f x (λ i z less e. before (suc i) z (omega arith) e) at here)
