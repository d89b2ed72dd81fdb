-- Frames of a plan that stay when more frames come.
use Rattle.std.proofs.Common.{◌≡◌, ℕ, zero, suc, ◌+◌, ◌-◌, ◌*◌, ◌/◌, ◌%◌, ◌<◌, ◌≤◌, ◌==◌, min, nat_le, if◌then◌else◌, Option, Some, slice_get, refl, ap, sym, ◌∙◌, arith, div-add-mod', mul-le-mul_right, eq-eqb, ne_eqb, inl, inr}
use Rattle.std.proofs.lemmas.Bool.{cases_eq, cases_lt, cond-false, cond-true, cond_both}
use Rattle.std.proofs.lemmas.Nat.{div-mul-add, le-div, mod-mul-add, mod_below}
use Rattle.dirac_types.specs.declared.settings.Settings.{Settings}
use Rattle.dirac_plan.specs.declared.planned.Planned.{Planned}
use Rattle.dirac_plan.specs.Plan.{anchor_of, between_of, frames_plan, second_of_anchor, retired_of_former}
use Rattle.dirac_plan.proofs.Items.{IsPlace, coded_anchor, coded_between, opening_item, place_of}

-- ---- where the step of a frame ends

-- so far behind the first frame of its group
abbrev pub end_offset : Settings → ℕ → ℕ
end_offset s offset = if offset == 0 then 1 else min (1 + (offset - 1) / (s.between + 1) * (s.between + 1) + (s.between + 1)) s.gop

abbrev pub step_end : Settings → ℕ → ℕ
step_end s place = place / s.gop * s.gop + end_offset s (place % s.gop)

pub end_opening : (s : Settings) (offset : ℕ) → offset ≡ 0 → end_offset s offset ≡ 1
end_opening s offset e = cond-true (offset == 0) 1 (min (1 + (offset - 1) / (s.between + 1) * (s.between + 1) + (s.between + 1)) s.gop) (eq-eqb offset 0 e)

pub end_other : (s : Settings) (offset : ℕ) → (offset ≡ 0 → ⊥) → end_offset s offset ≡ min (1 + (offset - 1) / (s.between + 1) * (s.between + 1) + (s.between + 1)) s.gop
end_other s offset e = cond-false (offset == 0) 1 (min (1 + (offset - 1) / (s.between + 1) * (s.between + 1) + (s.between + 1)) s.gop) (ne_eqb offset 0 e)

pub end_most : (s : Settings) (offset : ℕ) → 0 < s.gop → end_offset s offset ≤ s.gop
end_most s offset some =
    cond_both (offset == 0) 1 (min (1 + (offset - 1) / (s.between + 1) * (s.between + 1) + (s.between + 1)) s.gop) (λ m. m ≤ s.gop) (λ _. some) (λ _. omega arith)

end_behind : (s : Settings) (offset : ℕ) → offset < s.gop → offset < end_offset s offset
end_behind s offset small = elim (cases_eq offset 0) [
  | inl opens ↦ omega (arith, end_opening s offset opens)
  | inr other ↦
      let steps = div-add-mod' (offset - 1) (s.between + 1) in
      let rest = mod_below (offset - 1) (s.between + 1) (omega arith) in
      omega (arith, end_other s offset other, other)
]

end_rises : (s : Settings) (a b : ℕ) → a ≤ b → b < s.gop → end_offset s a ≤ end_offset s b
end_rises s a b less small = elim (cases_eq a 0) [
  | inl opens ↦ omega (arith, end_opening s a opens, end_behind s b small)
  | inr other ↦
      let gap : ℕ = s.between + 1 in
      let split = div-add-mod' (a - 1) gap in
      let quotients : (a - 1) / gap ≤ (b - 1) / gap = le-div ((a - 1) / gap) (b - 1) gap (omega arith) (omega arith) in
      let products = mul-le-mul_right gap quotients in
      omega (arith, end_other s a other, end_other s b (λ e. omega (arith, other)))
]

pub ends_behind : (s : Settings) (place : ℕ) → 0 < s.gop → place < step_end s place
ends_behind s place some =
    let split = div-add-mod' place s.gop in
    let low = mod_below place s.gop some in
    omega (arith, end_behind s (place % s.gop) low)

pub ends_rise : (s : Settings) (a b : ℕ) → 0 < s.gop → a ≤ b → step_end s a ≤ step_end s b
ends_rise s a b some less =
    let one = div-add-mod' a s.gop in
    let two = div-add-mod' b s.gop in
    let low = mod_below a s.gop some in
    let high = mod_below b s.gop some in
    elim (cases_lt (a / s.gop) (b / s.gop)) [
      | inl before ↦
          let products = mul-le-mul_right s.gop before in
          omega (arith, end_most s (a % s.gop) some)
      | inr not_before ↦
          let quotients : a / s.gop ≤ b / s.gop = le-div (a / s.gop) b s.gop some (omega arith) in
          let same : a / s.gop ≡ b / s.gop = omega arith in
          let products : a / s.gop * s.gop ≡ b / s.gop * s.gop = ap (λ q. q * s.gop) same in
          omega (arith, end_rises s (a % s.gop) (b % s.gop) (omega arith) high)
    ]

-- the steps of a group end before the next group
pub ends_before : (s : Settings) (i q : ℕ) → 0 < s.gop → q % s.gop ≡ 0 → i < q → step_end s i ≤ q
ends_before s i q some opens before =
    let one = div-add-mod' i s.gop in
    let two = div-add-mod' q s.gop in
    let low = mod_below i s.gop some in
    let most = end_most s (i % s.gop) some in
    elim (cases_lt (i / s.gop) (q / s.gop)) [
      | inl less ↦ let products = mul-le-mul_right s.gop less in omega arith
      | inr more ↦ let products = mul-le-mul_right s.gop more in absurd (omega arith)
    ]

-- ---- frames of whole steps

-- the end of the step of a place, by its anchor
end_at : (n : ℕ) (s : Settings) (g first len k j : ℕ) → IsPlace n s g first len k j → step_end s g ≡ first + min (1 + k * (s.between + 1) + (s.between + 1)) s.gop
end_at n s g first len k j is =
    let gap : ℕ = s.between + 1 in
    let i : ℕ = is.group.0 in
    let o : ℕ = 1 + (k * gap + j) in
    let place : g ≡ i * s.gop + o = omega (arith, is.place, is.group.1) in
    let offset : g % s.gop ≡ o = ap (λ m. m % s.gop) place ∙ mod-mul-add i s.gop o is.in_group in
    let group : g / s.gop ≡ i = ap (λ m. m / s.gop) place ∙ div-mul-add i s.gop o is.in_group in
    let inside : g % s.gop - 1 ≡ k * gap + j = omega arith in
    let step : (g % s.gop - 1) / gap ≡ k = ap (λ m. m / gap) inside ∙ div-mul-add k gap j is.in_step in
    let first_is : g / s.gop * s.gop ≡ first = ap (λ m. m * s.gop) group ∙ sym is.group.1 in
    let end : end_offset s (g % s.gop) ≡ min (1 + k * gap + gap) s.gop = end_other s (g % s.gop) (λ e. omega arith) ∙ ap (λ m. min (1 + m * gap + gap) s.gop) step in
    omega arith

-- the anchor behind it
abbrev behind : Settings → ℕ → ℕ → ℕ → ℕ
behind s first len k = first + min (k * (s.between + 1) + (s.between + 1)) (len - 1)

-- which is then that of a whole group, in each longer plan too
whole_step : (n : ℕ) (s : Settings) (g first len k j : ℕ) → IsPlace n s g first len k j → step_end s g ≤ n → behind s first len k ≡ behind s first s.gop k
whole_step n s g first len k j is ready =
    let end = end_at n s g first len k j is in
    omega (arith, is.place, is.len_is, is.in_group, is.in_plan)

-- the same place in a longer plan
longer : (n m : ℕ) (s : Settings) (g first len k j : ℕ) → n ≤ m → IsPlace n s g first len k j → IsPlace m s g first (min s.gop (m - first)) k j
longer n m s g first len k j more is = record { in_plan = omega (arith, is.in_plan); group = is.group; len_is = refl; in_step = is.in_step; place = is.place; in_group = is.in_group }

same_step : (n m : ℕ) (s : Settings) (g first len k j : ℕ) → n ≤ m → IsPlace n s g first len k j → step_end s g ≤ n → slice_get (frames_plan m s) g ≡ slice_get (frames_plan n s) g
same_step n m s g first len k zero more is ready =
    let long = longer n m s g first len k 0 more is in
    let here = whole_step n s g first len k 0 is ready in
    let there = whole_step m s g first (min s.gop (m - first)) k 0 long (omega arith) in
    let retired : Option ℕ = if nat_le 2 k then Some (first + k * (s.between + 1) - (s.between + 1)) else retired_of_former s first (k + 1) in
    let of : ℕ → Option Planned = λ b. Some (anchor_of b (first + k * (s.between + 1)) (second_of_anchor s first k) retired) in
    coded_anchor m s g first (min s.gop (m - first)) k long ∙ ap of (there ∙ sym here) ∙ sym (coded_anchor n s g first len k is)
same_step n m s g first len k (suc j) more is ready =
    let long = longer n m s g first len k (suc j) more is in
    let here = whole_step n s g first len k (suc j) is ready in
    let there = whole_step m s g first (min s.gop (m - first)) k (suc j) long (omega arith) in
    let of : ℕ → Option Planned = λ b. Some (between_of s.references (first + k * (s.between + 1)) b (g - 1)) in
    coded_between m s g first (min s.gop (m - first)) k (suc j) long (omega arith) ∙ ap of (there ∙ sym here) ∙ sym (coded_between n s g first len k (suc j) is (omega arith))

pub frames_last : (s : Settings) (n m g : ℕ) → 0 < s.gop → n ≤ m → step_end s g ≤ n → slice_get (frames_plan m s) g ≡ slice_get (frames_plan n s) g
frames_last s n m g some more ready =
    let h : g < n = omega (arith, ends_behind s g some) in
    let first : ℕ = g - g % s.gop in
    let len : ℕ = min s.gop (n - first) in
    elim (cases_eq (g % s.gop) 0) [
      | inl opens ↦ opening_item m s g (omega arith) some opens ∙ sym (opening_item n s g h some opens)
      | inr other ↦
          same_step n m s g first len ((g % s.gop - 1) / (s.between + 1)) ((g % s.gop - 1) % (s.between + 1)) more
          (place_of n s g len h some (omega (arith, other)) refl) ready
    ]
