-- Each list of bytes shows exactly one outcome.
use Rattle.std.proofs.Common.{◌≡◌, ◌∙◌, ℕ, List, Option, sym, ap, refl, length, arith}
use Rattle.dirac_common.specs.declared.faults.Fault.{Fault}
use Rattle.dirac_units.specs.Cut.{UnitText, first_unit_place, front_of}
use Rattle.dirac_units.proofs.Cuts.{cut_by, one_cut}
use Rattle.dirac_content.specs.StreamState.{stream_begun}
use Rattle.dirac_content.specs.Shown.{IsShown, Outcome, outcome}

-- what the same units show is the same
same_outcome : (us vs : List UnitText) (e f : Option Fault) → us ≡ vs → e ≡ f → outcome stream_begun first_unit_place us e ≡ outcome stream_begun first_unit_place vs f
same_outcome us vs e f p q = ap (λ (x : List UnitText). outcome stream_begun first_unit_place x e) p ∙ ap (λ (x : Option Fault). outcome stream_begun first_unit_place vs x) q

pub one_outcome : (bytes : List ℕ) (o p : Outcome) → IsShown bytes o → IsShown bytes p → o ≡ p
one_outcome bytes o p x y =
    let same = one_cut first_unit_place bytes x.units y.units x.end y.end x.cut y.cut in
    sym x.same ∙ (same_outcome x.units y.units x.end y.end same.0 same.1 ∙ y.same)

pub some_outcome : (bytes : List ℕ) → (o : Outcome) × IsShown bytes o
some_outcome bytes =
    let cut = cut_by (length bytes) first_unit_place bytes (front_of first_unit_place bytes) refl (omega arith) in
    (outcome stream_begun first_unit_place cut.0 cut.1, record { units = cut.0; end = cut.1; cut = cut.2; same = refl })
