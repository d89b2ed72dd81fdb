-- Pictures of greater keys leave later.
use Rattle.std.specs.Prelude.{◌≡◌, ◌++◌, List, ◌≤ℤ◌}
use Rattle.std.specs.List.{All}
use Rattle.dirac_refs.specs.declared.waiting.Waiting.{Waiting}
use Rattle.dirac_refs.specs.Delivery.{in_delivery_order}

-- each key of the later pictures is at least each one of the former
abbrev pub AreNotBefore : List Waiting → List Waiting → Type 0
AreNotBefore later former = All (λ (x : Waiting). All (λ (y : Waiting). x.key ≤ℤ y.key) later) former

-- those of the former leave first, and then the later ones as if they stood alone
abbrev pub GreaterKeysLeaveLater : Type 0
GreaterKeysLeaveLater =
    (former later : List Waiting) → AreNotBefore later former → in_delivery_order (former ++ later)
    ≡ in_delivery_order former ++ in_delivery_order later
