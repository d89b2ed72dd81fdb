-- Items of a plan of fields that stay when more pictures come.
use Rattle.std.proofs.Common.{◌≡◌, ℕ, zero, suc, ◌+◌, ◌*◌, ◌/◌, ◌%◌, ◌<◌, ◌≤◌, ◌==◌, ◌&&◌, nat_lt, if◌then◌else◌, List, Option, None, Some, option_map, slice_get, refl, ap, ap₂, sym, ◌∙◌, arith, div-add-mod'}
use Rattle.std.specs.Prelude.{IfSome}
use Rattle.std.specs.List.{flat_map}
use Rattle.std.proofs.lemmas.Bool.{cond-true, lt-ltb}
use Rattle.std.proofs.lemmas.Nat.{mod_below}
use Rattle.dirac_types.specs.declared.settings.Settings.{Settings}
use Rattle.dirac_common.specs.declared.codes.TheConstants.{INTRA_REFERENCE}
use Rattle.dirac_plan.specs.declared.planned.Planned.{Planned}
use Rattle.dirac_plan.specs.Frames.{IsBelow}
use Rattle.dirac_plan.specs.Plan.{anchor_of, field_of, field_or_first, fields_of, frames_plan, opening_of}
use Rattle.dirac_plan.proofs.Items.{length_frames, opening_item}
use Rattle.dirac_plan.proofs.Places.{frames_below}
use Rattle.dirac_plan_laws.proofs.Delivering.{there_is}
use Rattle.dirac_plan_laws.proofs.Fields.{field_at, two_fields}
use Rattle.dirac_plan_laws.proofs.Lasting.{ends_before, ends_behind, ends_rise, frames_last, step_end}

-- ---- frames of which all fields are there

-- the frames up to the end of a step, and all that they refer to, stand before it
frame_within : (s : Settings) (frames end place : ℕ) (f : Planned) → 0 < s.gop → step_end s place ≤ end → end ≤ frames → slice_get (frames_plan frames s) place ≡ Some f → IsBelow end f
frame_within s frames end place f some low high at =
    frames_below end s place f some (sym (frames_last s end frames place some high low) ∙ at)

same_reference : (n m p end : ℕ) (o : Option ℕ) → p ≤ 1 → 2 * end ≤ n → 2 * end ≤ m → IfSome o (λ r. r < end) → option_map (field_or_first n p) o ≡ option_map (field_or_first m p) o
same_reference n m p end None small one two below = refl
same_reference n m p end (Some r) small one two below =
    ap Some (cond-true (nat_lt (2 * r + p) n) (2 * r + p) (2 * r) (lt-ltb (2 * r + p) n (omega arith)) ∙ sym (cond-true (nat_lt (2 * r + p) m) (2 * r + p) (2 * r) (lt-ltb (2 * r + p) m (omega arith))))

same_field : (n m p end : ℕ) (f : Planned) → p ≤ 1 → 2 * end ≤ n → 2 * end ≤ m → IsBelow end f → field_of n p f ≡ field_of m p f
same_field n m p end f small one two is =
    let of : Option ℕ → Option ℕ → Planned =
    λ a b. if f.code == INTRA_REFERENCE && p == 1 then anchor_of (2 * f.number + 1) (2 * f.number) None (option_map (λ t. 2 * t + p) f.retire)
    else record { number = 2 * f.number + p; code = f.code; ref1 = a; ref2 = b; retire = option_map (λ t. 2 * t + p) f.retire } in
    ap₂ of (same_reference n m p end f.ref1 small one two is.ref1) (same_reference n m p end f.ref2 small one two is.ref2)

-- the fields of a frame, behind frames of two fields each
field_item : (n : ℕ) (xs : List Planned) (q p : ℕ) (f : Planned) → p ≤ 1 → 2 * f.number + p < n
    → ((i : ℕ) (y : Planned) → i < q → slice_get xs i ≡ Some y → 2 * y.number + 1 < n) → slice_get xs q ≡ Some f
    → slice_get (flat_map (fields_of n) xs) (2 * q + p) ≡ Some (field_of n p f)
field_item n xs q zero f small there before at = field_at n xs q 0 f (field_of n 0 f) before at refl
field_item n xs q (suc zero) f small there before at = field_at n xs q 1 f (field_of n 1 f) before at (ap (λ l. slice_get l 1) (two_fields n f there))
field_item n xs q (suc (suc p)) f small there before at = absurd (omega arith)

-- the fields of a group's first frame
pub opening_field : (n : ℕ) (s : Settings) (q p : ℕ) → 0 < s.gop → q % s.gop ≡ 0 → p ≤ 1 → 2 * q + p < n
    → slice_get (flat_map (fields_of n) (frames_plan ((n + 1) / 2) s)) (2 * q + p) ≡ Some (field_of n p (opening_of s q))
opening_field n s q p some opens small there =
    let frames : ℕ = (n + 1) / 2 in
    let half = div-add-mod' (n + 1) 2 in
    let rest = mod_below (n + 1) 2 (omega arith) in
    let groups = div-add-mod' q s.gop in
    field_item n (frames_plan frames s) q p (opening_of s q) small there
    (λ i y before at.
    let end : step_end s i ≤ q = ends_before s i q some opens before in
    let within = frame_within s frames q i y some end (omega arith) at in
    omega (arith, within.number))
    (opening_item frames s q (omega arith) some opens)

-- the fields of another frame, once its step is there
step_field : (n : ℕ) (s : Settings) (q p : ℕ) (f : Planned) → 0 < s.gop → p ≤ 1 → 2 * step_end s q ≤ n → slice_get (frames_plan ((n + 1) / 2) s) q ≡ Some f
    → slice_get (flat_map (fields_of n) (frames_plan ((n + 1) / 2) s)) (2 * q + p) ≡ Some (field_of n p f)
step_field n s q p f some small there at =
    let frames : ℕ = (n + 1) / 2 in
    let half = div-add-mod' (n + 1) 2 in
    let rest = mod_below (n + 1) 2 (omega arith) in
    let end : ℕ = step_end s q in
    let here = frame_within s frames end q f some (omega arith) (omega arith) at in
    field_item n (frames_plan frames s) q p f small (omega (arith, here.number))
    (λ i y before e.
    let rises = ends_rise s i q some (omega arith) in
    let within = frame_within s frames end i y some rises (omega arith) e in
    omega (arith, within.number))
    at

-- an item of a plan of fields is that of each longer one: where its frame opens a group, and once its step is there
pub opening_field_lasts : (s : Settings) (n m q p : ℕ) → 0 < s.gop → n ≤ m → q % s.gop ≡ 0 → p ≤ 1 → 2 * q + p < n
    → slice_get (flat_map (fields_of m) (frames_plan ((m + 1) / 2) s)) (2 * q + p) ≡ slice_get (flat_map (fields_of n) (frames_plan ((n + 1) / 2) s)) (2 * q + p)
opening_field_lasts s n m q p some more opens small there =
    opening_field m s q p some opens small (omega arith) ∙ sym (opening_field n s q p some opens small there)

pub step_field_lasts : (s : Settings) (n m q p : ℕ) → 0 < s.gop → n ≤ m → p ≤ 1 → 2 * step_end s q ≤ n
    → slice_get (flat_map (fields_of m) (frames_plan ((m + 1) / 2) s)) (2 * q + p) ≡ slice_get (flat_map (fields_of n) (frames_plan ((n + 1) / 2) s)) (2 * q + p)
step_field_lasts s n m q p some more small there =
    let a : ℕ = (n + 1) / 2 in
    let b : ℕ = (m + 1) / 2 in
    let half = div-add-mod' (n + 1) 2 in
    let rest = mod_below (n + 1) 2 (omega arith) in
    let half' = div-add-mod' (m + 1) 2 in
    let rest' = mod_below (m + 1) 2 (omega arith) in
    let behind = ends_behind s q some in
    let item = there_is (frames_plan a s) q (omega (arith, length_frames a s some)) in
    let f = item.0 in
    let same = frames_last s a b q some (omega arith) (omega arith) in
    let within = frame_within s a (step_end s q) q f some (omega arith) (omega arith) item.1 in
    step_field m s q p f some small (omega arith) (same ∙ item.1)
    ∙ ap Some (same_field m n p (step_end s q) f small (omega arith) there within)
    ∙ sym (step_field n s q p f some small there item.1)
