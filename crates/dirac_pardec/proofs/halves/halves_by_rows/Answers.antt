use Rattle.std.proofs.Common.{ap}
use Rattle.dirac_refs.specs.declared.reference.Halves.{Halves}
use Rattle.dirac_pardec.specs.Halves.{up_of_number}
use Rattle.dirac_pardec.proofs.halves.halves_by_rows.Goals as goal

pub returns : goal.returns
returns g c =
    let are = c.put_together.ensures (up_of_number c.args.picture.now) c.in_ok-planes.ensures in
    record { y = ap (λ (h : Halves). h.y) are; u = ap (λ (h : Halves). h.u) are; v = ap (λ (h : Halves). h.v) are }
