use Rattle.std.proofs.Common.{ℕ, List, refl, subst}
use Rattle.std.specs.Io.KnownBytes.{Appends}
use Rattle.dirac_encode_laws.specs.Stream.{unit}
use Rattle.dirac_encode_progress.proofs.source.put_coded.Goals as goal

pub returns-in-Ok-deliver-clause-out : goal.returns-in-Ok-deliver-clause-out
returns-in-Ok-deliver-clause-out g c =
    let out = g.K.Sink.taken c.args.out.now in
    let out' = g.K.Sink.taken c.put_unit.new.out in
    subst (λ (l : List ℕ). Appends out out' (unit c.args.planned.now.code c.args.previous l)) c.as_slice.ensures.value (c.in-All.ensures.all refl)
