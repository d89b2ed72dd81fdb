-- Each planned picture can be coded, and its number is below the number of pictures.
use Rattle.std.proofs.Common.{◌≡◌, ◌≢◌, ℕ, zero, suc, ◌+◌, ◌-◌, ◌*◌, ◌/◌, ◌^◌, ◌<◌, ◌≤◌, ◌==◌, ◌&&◌, Bool, nat_le, nat_lt, List, [], ◌∷◌, Option, None, Some, is_some, option_map, min, refl, subst, sym, ◌∙◌, arith, div-add-mod', inl, inr}
use Rattle.std.specs.Prelude.{IfSome}
use Rattle.std.specs.List.{AllByRecursion, flat_map}
use Rattle.std.proofs.lemmas.Bool.{cases_lt, cond-false, cond-true, le-ltb, lt-ltb}
use Rattle.std.proofs.lemmas.Nat.{mod_below}
use Rattle.std.proofs.lemmas.Option.{IfSome_then}
use Rattle.dirac_types.specs.declared.settings.Settings.{Settings}
use Rattle.dirac_common.specs.declared.codes.TheConstants.{INTRA_REFERENCE}
use Rattle.dirac_common.specs.Codes.{is_reference}
use Rattle.dirac_header.specs.Written.{MayRetire}
use Rattle.dirac_plan.specs.declared.planned.Planned.{Planned}
use Rattle.dirac_plan.specs.Frames.{IsBelow}
use Rattle.dirac_plan.specs.Plan.{anchor_of, anchor_offset, anchors_behind, between_of, field_of, field_or_first, fields_of, frames_plan, group, group_at, group_count, opening_of, plan, retired_of, retired_of_former, second_of_anchor, step}
use Rattle.dirac_plan.proofs.Anchors.{anchor_is, anchor_rises, uncovered}
use Rattle.dirac_plan.proofs.Items.{former_below}
use Rattle.dirac_plan.proofs.Numbers.{either}
use Rattle.dirac_plan.proofs.Places.{frames_below}
use Rattle.dirac_plan_laws.specs.Headers.{IsPlanned}
use Rattle.dirac_plan_laws.proofs.Each.{each_append, each_by, each_joined, each_mapped}
use Rattle.dirac_plan_laws.proofs.Fields.{first_field, of_plan, plain_field}

-- a planned picture of n
pub record IsPlannedOf (n : ℕ) (p : Planned) : Type 0 where
  pub planned : IsPlanned p
  pub below : p.number < n

-- what a reference picture retires is another picture of the n
abbrev Retires : ℕ → ℕ → Option ℕ → Type 0
Retires n number retired = IfSome retired (λ r. (r < n) × (r ≢ number))

intra_planned : (n number : ℕ) (retired : Option ℕ) → n ≤ 2 ^ 32 → number < n → Retires n number retired
    → IsPlannedOf n (record { number = number; code = INTRA_REFERENCE; ref1 = None; ref2 = None; retire = retired })
intra_planned n number None few below r = record {
  planned = record {
    code = record { read = refl; other = refl; kind = refl };
    range = record { number = omega arith; first = tt; second = tt; retired = tt };
    references = record { first = refl; second = refl };
    retires = tt;
    predicted = λ e. absurd (cc);
  };
  below = below;
}
intra_planned n number (Some retired) few below r = record {
  planned = record {
    code = record { read = refl; other = refl; kind = refl };
    range = record { number = omega arith; first = tt; second = tt; retired = omega (arith, r.0) };
    references = record { first = refl; second = refl };
    retires = (refl, r.1);
    predicted = λ e. absurd (cc);
  };
  below = below;
}

-- a group retires pictures before it
retires_former : (s : Settings) (n first number j : ℕ) → 0 < s.gop → first ≤ number → number < n → Retires n number (retired_of_former s first j)
retires_former s n first number j some behind within =
    IfSome_then (retired_of_former s first j) (former_below s first j some) (λ r below. (omega arith, λ same. omega arith))

opening_planned : (s : Settings) (n first : ℕ) → 0 < s.gop → n ≤ 2 ^ 32 → first < n → IsPlannedOf n (opening_of s first)
opening_planned s n first some few below =
    intra_planned n first (retired_of_former s first 0) few below (retires_former s n first first 0 some (omega arith) below)

between_planned : (n references before after number : ℕ) → n ≤ 2 ^ 32 → before < n → after < n → number < n → IsPlannedOf n (between_of references before after number)
between_planned n references before after number few b a below =
    either (references == 2) (IsPlannedOf n) _ _
    (record {
      planned = record {
        code = record { read = refl; other = refl; kind = refl };
        range = record { number = omega arith; first = omega arith; second = omega arith; retired = tt };
        references = record { first = refl; second = refl };
        retires = tt;
        predicted = λ _. refl;
      };
      below = below;
    })
    (record {
      planned = record {
        code = record { read = refl; other = refl; kind = refl };
        range = record { number = omega arith; first = omega arith; second = tt; retired = tt };
        references = record { first = refl; second = refl };
        retires = tt;
        predicted = λ _. refl;
      };
      below = below;
    })

anchor_planned : (n number before : ℕ) (second retired : Option ℕ) → n ≤ 2 ^ 32 → number < n → before < n → IfSome second (λ m. m < n) → Retires n number retired
    → IsPlannedOf n (anchor_of number before second retired)
anchor_planned n number before None None few below b s r = record {
  planned = record {
    code = record { read = refl; other = refl; kind = refl };
    range = record { number = omega arith; first = omega arith; second = tt; retired = tt };
    references = record { first = refl; second = refl };
    retires = tt;
    predicted = λ _. refl;
  };
  below = below;
}
anchor_planned n number before None (Some retired) few below b s r = record {
  planned = record {
    code = record { read = refl; other = refl; kind = refl };
    range = record { number = omega arith; first = omega arith; second = tt; retired = omega (arith, r.0) };
    references = record { first = refl; second = refl };
    retires = (refl, r.1);
    predicted = λ _. refl;
  };
  below = below;
}
anchor_planned n number before (Some second) None few below b s r = record {
  planned = record {
    code = record { read = refl; other = refl; kind = refl };
    range = record { number = omega arith; first = omega arith; second = omega arith; retired = tt };
    references = record { first = refl; second = refl };
    retires = tt;
    predicted = λ _. refl;
  };
  below = below;
}
anchor_planned n number before (Some second) (Some retired) few below b s r = record {
  planned = record {
    code = record { read = refl; other = refl; kind = refl };
    range = record { number = omega arith; first = omega arith; second = omega arith; retired = omega (arith, r.0) };
    references = record { first = refl; second = refl };
    retires = (refl, r.1);
    predicted = λ _. refl;
  };
  below = below;
}

-- the anchors of a group are pictures of it
anchor_inside : (s : Settings) (len k : ℕ) → 0 < len → anchor_offset s len k < len
anchor_inside s len k some = omega (arith, anchor_is s len k)

retires_other : (s : Settings) (n len first k : ℕ) → 0 < s.gop → 0 < len → first + len ≤ n → k < anchors_behind s len → Retires n (first + anchor_offset s len (suc k)) (retired_of s len first k)
retires_other s n len first zero gop some within h =
    let inside = anchor_inside s len 1 some in
    retires_former s n first (first + anchor_offset s len 1) 1 gop (omega arith) (omega arith)
retires_other s n len first (suc zero) gop some within h =
    let inside = anchor_inside s len 2 some in
    retires_former s n first (first + anchor_offset s len 2) 2 gop (omega arith) (omega arith)
retires_other s n len first (suc (suc k)) gop some within h =
    let inside = anchor_inside s len (suc k) some in
    let one = anchor_rises s len (suc k) (omega arith) in
    let two = anchor_rises s len (suc (suc k)) h in
    (omega arith, λ same. omega arith)

step_planned : (s : Settings) (n len first k : ℕ) → 0 < s.gop → n ≤ 2 ^ 32 → 0 < len → first + len ≤ n → k < anchors_behind s len → AllByRecursion (IsPlannedOf n) (step s len first k)
step_planned s n len first k gop few some within h =
    let a : ℕ = first + anchor_offset s len k in
    let b : ℕ = first + anchor_offset s len (suc k) in
    let rises = anchor_rises s len k h in
    let here = anchor_inside s len k some in
    let there = anchor_inside s len (suc k) some in
    let P : Option ℕ → Type 0 = λ o. IfSome o (λ m. m < n) in
    let second : P (second_of_anchor s first k) = either (s.references == 2 && nat_le 1 k) P (Some first) None (omega arith) tt in
    let between : ℕ → Planned = between_of s.references a b in (
      anchor_planned n b a (second_of_anchor s first k) (retired_of s len first k) few (omega arith) (omega arith) second (retires_other s n len first k gop some within h),
      each_mapped (IsPlannedOf n) between (a + 1) (b - a - 1) (λ m low high. between_planned n s.references a b m few (omega arith) (omega arith) (omega arith)),
    )

group_planned : (s : Settings) (n len first : ℕ) → 0 < s.gop → n ≤ 2 ^ 32 → 0 < len → first + len ≤ n → AllByRecursion (IsPlannedOf n) (group s len first)
group_planned s n len first gop few some within = (
  opening_planned s n first gop few (omega arith),
  each_joined (IsPlannedOf n) (step s len first) 0 (anchors_behind s len) (λ k _ h. step_planned s n len first k gop few some within (omega arith)),
)

frames_planned : (s : Settings) (n : ℕ) → 0 < s.gop → n ≤ 2 ^ 32 → AllByRecursion (IsPlannedOf n) (frames_plan n s)
unfolding frames_plan
frames_planned s n some few =
    each_joined (IsPlannedOf n) (group_at s n) 0 (group_count s n)
    (λ i _ h.
    let more = uncovered n s.gop i some (omega arith) in
    group_planned s n (min s.gop (n - i * s.gop)) (i * s.gop) some few (omega arith) (omega arith))

-- ---- their fields

some_kept : (g : ℕ → ℕ) (o : Option ℕ) → is_some (option_map g o) ≡ is_some o
some_kept g None = refl
some_kept g (Some r) = refl

referred_field : (n frames p : ℕ) (o : Option ℕ) → 2 * frames ≤ n + 1 → IfSome o (λ r. r < frames) → IfSome (option_map (field_or_first n p) o) (λ r. r < n)
referred_field n frames p None all below = tt
referred_field n frames p (Some r) all below = elim (cases_lt (2 * r + p) n) [
  | inl there ↦ subst (λ m. m < n) (sym (cond-true (nat_lt (2 * r + p) n) (2 * r + p) (2 * r) (lt-ltb (2 * r + p) n there))) there
  | inr missing ↦ subst (λ m. m < n) (sym (cond-false (nat_lt (2 * r + p) n) (2 * r + p) (2 * r) (le-ltb (2 * r + p) n missing))) (omega arith)
]

fits : (n : ℕ) (o : Option ℕ) → n ≤ 2 ^ 32 → IfSome o (λ r. r < n) → IfSome o (λ r. r < 2 ^ 32)
fits n None few below = tt
fits n (Some r) few below = omega arith

retired_field : (n frames p : ℕ) (o : Option ℕ) → n ≤ 2 ^ 32 → 2 * frames ≤ n + 1 → p ≤ 1 → IfSome o (λ r. r < frames) → IfSome (option_map (λ t. 2 * t + p) o) (λ r. r < 2 ^ 32)
retired_field n frames p None few all small below = tt
retired_field n frames p (Some r) few all small below = omega arith

retires_field : (reference : Bool) (number p : ℕ) (o : Option ℕ) → MayRetire reference number o → MayRetire reference (2 * number + p) (option_map (λ t. 2 * t + p) o)
retires_field reference number p None may = tt
retires_field reference number p (Some r) may = (may.0, λ same. may.1 (omega arith))

plain_planned : (n frames p : ℕ) (f : Planned) → n ≤ 2 ^ 32 → 2 * frames ≤ n + 1 → p ≤ 1 → 2 * f.number + p < n → IsPlanned f → IsBelow frames f → IsPlannedOf n (plain_field n p f)
plain_planned n frames p f few all small there is below = record {
  planned = record {
    code = is.code;
    range = record {
      number = omega arith;
      first = fits n (option_map (field_or_first n p) f.ref1) few (referred_field n frames p f.ref1 all below.ref1);
      second = fits n (option_map (field_or_first n p) f.ref2) few (referred_field n frames p f.ref2 all below.ref2);
      retired = retired_field n frames p f.retire few all small below.retire;
    };
    references = record {
      first = some_kept (field_or_first n p) f.ref1 ∙ is.references.first;
      second = some_kept (field_or_first n p) f.ref2 ∙ is.references.second;
    };
    retires = retires_field (is_reference f.code) f.number p f.retire is.retires;
    predicted = is.predicted;
  };
  below = there;
}

-- the second field of an intra frame refers to the first one
second_planned : (n frames number : ℕ) (reference : Bool) (retired : Option ℕ) → n ≤ 2 ^ 32 → 2 * frames ≤ n + 1 → 2 * number + 1 < n → IfSome retired (λ r. r < frames) → MayRetire reference number retired
    → IsPlannedOf n (anchor_of (2 * number + 1) (2 * number) None (option_map (λ t. 2 * t + 1) retired))
second_planned n frames number reference None few all there below may = anchor_planned n (2 * number + 1) (2 * number) None None few there (omega arith) tt tt
second_planned n frames number reference (Some r) few all there below may = record {
  planned = record {
    code = record { read = refl; other = refl; kind = refl };
    range = record { number = omega arith; first = omega arith; second = tt; retired = omega (arith, below) };
    references = record { first = refl; second = refl };
    retires = (refl, λ same. may.1 (omega arith));
    predicted = λ _. refl;
  };
  below = there;
}

fields_planned : (n frames : ℕ) (f : Planned) → n ≤ 2 ^ 32 → 2 * frames ≤ n + 1 → IsPlanned f → IsBelow frames f → AllByRecursion (IsPlannedOf n) (fields_of n f)
fields_planned n frames f few all is below = (
  subst (IsPlannedOf n) (sym (first_field n f)) (plain_planned n frames 0 f few all (omega arith) (omega (arith, below.number)) is below),
  elim (cases_lt (2 * f.number + 1) n) [
    | inl there ↦
        let second : IsPlannedOf n (field_of n 1 f) = either (f.code == INTRA_REFERENCE && 1 == 1) (IsPlannedOf n) _ _ (second_planned n frames f.number (is_reference f.code) f.retire few all there below.retire is.retires) (plain_planned n frames 1 f few all (omega arith) there is below) in
        subst (AllByRecursion (IsPlannedOf n)) (sym (cond-true (nat_lt (2 * f.number + 1) n) (field_of n 1 f ∷ []) [] (lt-ltb (2 * f.number + 1) n there))) (second, tt)
    | inr missing ↦
        subst (AllByRecursion (IsPlannedOf n)) (sym (cond-false (nat_lt (2 * f.number + 1) n) (field_of n 1 f ∷ []) [] (le-ltb (2 * f.number + 1) n missing))) tt
  ],
)

each_fields_planned : (n frames : ℕ) (fs : List Planned) → n ≤ 2 ^ 32 → 2 * frames ≤ n + 1 → AllByRecursion (IsPlannedOf frames) fs → AllByRecursion (IsBelow frames) fs
    → AllByRecursion (IsPlannedOf n) (flat_map (fields_of n) fs)
each_fields_planned n frames [] few all planned below = tt
each_fields_planned n frames (f ∷ fs) few all planned below =
    each_append (IsPlannedOf n) (fields_of n f) (flat_map (fields_of n) fs)
    (fields_planned n frames f few all planned.0.planned below.0)
    (each_fields_planned n frames fs few all planned.1 below.1)

fields_plan_planned : (s : Settings) (n : ℕ) → 0 < s.gop → n ≤ 2 ^ 32 → AllByRecursion (IsPlannedOf n) (flat_map (fields_of n) (frames_plan ((n + 1) / 2) s))
fields_plan_planned s n some few =
    let frames : ℕ = (n + 1) / 2 in
    let half = div-add-mod' (n + 1) 2 in
    let rest = mod_below (n + 1) 2 (omega arith) in
    each_fields_planned n frames (frames_plan frames s) few (omega arith) (frames_planned s frames some (omega arith)) (each_by (IsBelow frames) (frames_plan frames s) (λ i f at. frames_below frames s i f some at))

pub plan_planned : (s : Settings) (n : ℕ) → 0 < s.gop → n ≤ 2 ^ 32 → AllByRecursion (IsPlannedOf n) (plan n s)
plan_planned s n some few = of_plan (AllByRecursion (IsPlannedOf n)) n s (frames_planned s n some few) (fields_plan_planned s n some few)
