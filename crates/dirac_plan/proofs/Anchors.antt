-- Where the anchors of a group stand.
use Rattle.std.proofs.Common.{◌≡◌, ℕ, zero, suc, ◌+◌, ◌-◌, ◌*◌, ◌/◌, ◌<◌, ◌≤◌, min, sym, subst, arith, div-add-mod', mul-le-mul_right, div-mul-le_self}
use Rattle.std.proofs.lemmas.Nat.{mod_below}
use Rattle.dirac_types.specs.declared.settings.Settings.{Settings}
use Rattle.dirac_plan.specs.Plan.{anchor_offset, anchors_behind}

-- an anchor stands at its multiple of the gap, but not behind the group's last picture
pub anchor_is : (s : Settings) (len k : ℕ) → anchor_offset s len k ≡ min (k * (s.between + 1)) (len - 1)
anchor_is s len zero = omega arith
anchor_is s len (suc k) = let e = anchor_is s len k in omega arith

-- so many pieces of w cover n things, and no fewer do
pub covered : (n w : ℕ) → 0 < w → n ≤ (n + (w - 1)) / w * w
covered n w some =
    let m : ℕ = n + (w - 1) in
    let split = div-add-mod' m w in
    let low = mod_below m w some in
    omega arith

pub uncovered : (n w k : ℕ) → 0 < w → k < (n + (w - 1)) / w → k * w < n
uncovered n w k some below =
    let m : ℕ = n + (w - 1) in
    let most = div-mul-le_self m w in
    let less = mul-le-mul_right w below in
    omega arith

-- before the last anchor each one stands before the next
pub not_last : (s : Settings) (len k : ℕ) → k < anchors_behind s len → k * (s.between + 1) < len - 1
not_last s len k below =
    let same : s.between + 1 - 1 ≡ s.between = omega arith in
    uncovered (len - 1) (s.between + 1) k (omega arith) (subst (λ b. k < (len - 1 + b) / (s.between + 1)) (sym same) below)

pub anchor_rises : (s : Settings) (len k : ℕ) → k < anchors_behind s len → anchor_offset s len k < anchor_offset s len (suc k)
anchor_rises s len k below =
    let small = not_last s len k below in
    let here = anchor_is s len k in
    omega arith

-- the last one is the group's last picture
pub last_anchor : (s : Settings) (len : ℕ) → anchor_offset s len (anchors_behind s len) ≡ len - 1
last_anchor s len =
    let same : s.between + 1 - 1 ≡ s.between = omega arith in
    let far : len - 1 ≤ anchors_behind s len * (s.between + 1) =
    subst (λ b. len - 1 ≤ (len - 1 + b) / (s.between + 1) * (s.between + 1)) same (covered (len - 1) (s.between + 1) (omega arith)) in
    let here = anchor_is s len (anchors_behind s len) in
    omega arith
