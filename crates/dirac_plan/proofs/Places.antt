-- The kinds of places in a plan of frames, and what is planned there.
use Rattle.std.proofs.Common.{◌≡◌, ℕ, ◌+◌, ◌-◌, ◌*◌, ◌/◌, ◌%◌, ◌<◌, ◌≤◌, ◌==◌, inl, inr, min, nat_le, if◌then◌else◌, Bool, true, false, Option, None, Some, IfSome, slice_get, refl, subst, ◌∙◌, sym, arith, div-add-mod'}
use Rattle.std.proofs.lemmas.Bool.{cases_eq}
use Rattle.std.proofs.lemmas.Option.{IfSome_then, slice_get_within}
use Rattle.dirac_types.specs.declared.settings.Settings.{Settings}
use Rattle.dirac_plan.specs.declared.planned.Planned.{Planned}
use Rattle.dirac_plan.specs.Frames.{IsBelow}
use Rattle.dirac_plan.specs.Plan.{opening_of, anchor_of, between_of, frames_plan, retired_of_former, second_of_anchor}
use Rattle.dirac_plan.proofs.Numbers.{either}
use Rattle.dirac_plan.proofs.Items.{IsPlace, place_of, length_frames, opening_item, coded_anchor, coded_between, former_below}

-- the anchor behind a place
abbrev pub behind : Settings → ℕ → ℕ → ℕ → ℕ
behind s first len k = first + min (k * (s.between + 1) + (s.between + 1)) (len - 1)

unfoldable pub retirement : Settings → ℕ → ℕ → Option ℕ
retirement s first k = if nat_le 2 k then Some (first + k * (s.between + 1) - (s.between + 1)) else retired_of_former s first (k + 1)

unfoldable pub anchor_here : Settings → ℕ → ℕ → ℕ → Planned
anchor_here s first k b = anchor_of b (first + k * (s.between + 1)) (second_of_anchor s first k) (retirement s first k)

unfoldable pub between_here : Settings → ℕ → ℕ → ℕ → ℕ → Planned
between_here s g first k b = between_of s.references (first + k * (s.between + 1)) b (g - 1)

pub anchor_is_at : (n : ℕ) (s : Settings) (g first len k : ℕ) → IsPlace n s g first len k 0 → slice_get (frames_plan n s) g ≡ Some (anchor_here s first k (behind s first len k))
unfolding anchor_here retirement
anchor_is_at n s g first len k is = coded_anchor n s g first len k is

pub between_is_at : (n : ℕ) (s : Settings) (g first len k j : ℕ) → IsPlace n s g first len k j → 0 < j → slice_get (frames_plan n s) g ≡ Some (between_here s g first k (behind s first len k))
unfolding between_here
between_is_at n s g first len k j is odd = coded_between n s g first len k j is odd

-- the kinds of places
pub data Kind (n : ℕ) (s : Settings) (g : ℕ) : Type 0 where
  opens : g % s.gop ≡ 0 → Kind n s g
  anchors : (first len k : ℕ) → IsPlace n s g first len k 0 → g % s.gop ≡ 1 + k * (s.between + 1) → Kind n s g
  betweens : (first len k j : ℕ) → IsPlace n s g first len k j → 0 < j → Kind n s g

pub kind_of : (n : ℕ) (s : Settings) (g : ℕ) → g < n → 0 < s.gop → Kind n s g
kind_of n s g h some = elim (cases_eq (g % s.gop) 0) [
  | inl e ↦ opens e
  | inr other ↦
      let first : ℕ = g - g % s.gop in
      let len : ℕ = min s.gop (n - first) in
      let k : ℕ = (g % s.gop - 1) / (s.between + 1) in
      let j : ℕ = (g % s.gop - 1) % (s.between + 1) in
      let is : IsPlace n s g first len k j = place_of n s g len h some (omega (arith, other)) refl in
      let steps = div-add-mod' (g % s.gop - 1) (s.between + 1) in
      elim (cases_eq j 0) [
        | inl even ↦ anchors first len k (subst (IsPlace n s g first len k) even is) (omega (arith, other))
        | inr odd ↦ betweens first len k j is (omega (arith, odd))
      ]
]

-- the same place in a longer plan
pub longer : (n m : ℕ) (s : Settings) (g first len k j : ℕ) → n ≤ m → IsPlace n s g first len k j → IsPlace m s g first (min s.gop (m - first)) k j
longer n m s g first len k j more is = record { in_plan = omega (arith, is.in_plan); group = is.group; len_is = refl; in_step = is.in_step; place = is.place; in_group = is.in_group }

-- the anchor behind a place in a whole group
abbrev pub whole_behind : Settings → ℕ → ℕ → ℕ
whole_behind s first k = first + min (k * (s.between + 1) + (s.between + 1)) (s.gop - 1)

-- ---- numbers of frames

anchor_below : (n number before : ℕ) (second retired : Option ℕ) → number < n → before < n → IfSome second (λ t. t < n) → IfSome retired (λ t. t < n) → IsBelow n (anchor_of number before second retired)
anchor_below n number before None retired here first second last = record { number = here; ref1 = first; ref2 = tt; retire = last }
anchor_below n number before (Some t) retired here first second last = record { number = here; ref1 = first; ref2 = second; retire = last }

between_below : (n references before after number : ℕ) → number < n → before < n → after < n → IsBelow n (between_of references before after number)
between_below n references before after number here first second =
    either (references == 2) (IsBelow n) _ _ (record { number = here; ref1 = first; ref2 = second; retire = tt }) (record { number = here; ref1 = first; ref2 = tt; retire = tt })

some_if : (n t : ℕ) (b : Bool) → t < n → IfSome (if b then Some t else None) (λ t. t < n)
some_if n t true h = h
some_if n t false h = tt

some_else : (n t : ℕ) (b : Bool) (o : Option ℕ) → t < n → IfSome o (λ t. t < n) → IfSome (if b then Some t else o) (λ t. t < n)
some_else n t true o h other = h
some_else n t false o h other = other

-- what a group retires of the group before it
pub former_within : (n : ℕ) (s : Settings) (first j : ℕ) → 0 < s.gop → first ≤ n → IfSome (retired_of_former s first j) (λ t. t < n)
former_within n s first j some within = IfSome_then (retired_of_former s first j) (former_below s first j some) (λ t below. omega arith)

pub anchor_here_below : (n : ℕ) (s : Settings) (first k b : ℕ) → 0 < s.gop → b < n → first + k * (s.between + 1) < n → IsBelow n (anchor_here s first k b)
unfolding anchor_here retirement
anchor_here_below n s first k b some here before =
    anchor_below n b (first + k * (s.between + 1)) (second_of_anchor s first k) _ here before (some_if n first _ (omega arith)) (some_else n (first + k * (s.between + 1) - (s.between + 1)) (nat_le 2 k) (retired_of_former s first (k + 1)) (omega arith) (former_within n s first (k + 1) some (omega arith)))

pub between_here_below : (n : ℕ) (s : Settings) (g first k b : ℕ) → b < n → first + k * (s.between + 1) < n → g - 1 < n → IsBelow n (between_here s g first k b)
unfolding between_here
between_here_below n s g first k b here before number = between_below n s.references (first + k * (s.between + 1)) b (g - 1) number before here

pub below_more : (n m : ℕ) (x : Planned) → n ≤ m → IsBelow n x → IsBelow m x
below_more n m x more is = record {
  number = omega (arith, is.number);
  ref1 = IfSome_then x.ref1 is.ref1 (λ t below. omega arith);
  ref2 = IfSome_then x.ref2 is.ref2 (λ t below. omega arith);
  retire = IfSome_then x.retire is.retire (λ t below. omega arith);
}

-- all that a planned frame names is a frame of the plan
pub frames_below : (n : ℕ) (s : Settings) (g : ℕ) (x : Planned) → 0 < s.gop → slice_get (frames_plan n s) g ≡ Some x → IsBelow n x
frames_below n s g x some at =
    let long = length_frames n s some in
    let within : g < n = omega (arith, slice_get_within (frames_plan n s) g x at) in
    elim (kind_of n s g within some) [
      | opens e ↦ same (opening_of s g) (opening_item n s g within some e) (record { number = within; ref1 = tt; ref2 = tt; retire = former_within n s g 0 some (omega arith) })
      | anchors first len k is _ ↦
          let b : ℕ = behind s first len k in
          same (anchor_here s first k b) (anchor_is_at n s g first len k is)
          (anchor_here_below n s first k b some (omega (arith, is.in_plan, is.place, is.len_is, is.in_group)) (omega (arith, is.in_plan, is.place)))
      | betweens first len k j is odd ↦
          let b : ℕ = behind s first len k in
          same (between_here s g first k b) (between_is_at n s g first len k j is odd)
          (between_here_below n s g first k b (omega (arith, is.in_plan, is.place, is.len_is, is.in_group)) (omega (arith, is.in_plan, is.place)) (omega arith))
    ]
  where
    same : (y : Planned) → slice_get (frames_plan n s) g ≡ Some y → IsBelow n y → IsBelow n x
    same y here below = let clash : Some y ≡ Some x = sym here ∙ at in let e : y ≡ x = cc in subst (IsBelow n) e below
