use Rattle.std.proofs.Common.{refl, subst, Some}
use Rattle.dirac_push.specs.Pushing.{Pushed, TakesSilently, TakesUnits}
use Rattle.dirac_push.proofs.Taking.{silent_taken, takes_due}
use Rattle.dirac_push.proofs.push.PushDecoder.turn.Goals as goal

pub returns-in-Some-clause-takes : goal.returns-in-Some-clause-takes
returns-in-Some-clause-takes c =
    let old : Pushed = record { decoder = c.self.inside.decoder; there = c.self.inside.queue; room = c.self.inside.room; is_finished = c.self.inside.is_finished; shown = c.self.inside.shown; format = c.self.inside.format } in
    let new : Pushed = record { decoder = c.due_picture.new.self; there = c.self.inside.queue; room = c.self.inside.room; is_finished = c.self.inside.is_finished; shown = Some c.in-Some.picture; format = c.self.inside.format } in
    subst (λ (x : Pushed). TakesUnits x new) c.self.view_is (takes_due (Some c.in-Some.picture) old new c.in-Some.ensures refl refl)

pub returns-clause-silent : goal.returns-clause-silent
returns-clause-silent c none =
    let old : Pushed = record { decoder = c.self.inside.decoder; there = c.self.inside.queue; room = c.self.inside.room; is_finished = c.self.inside.is_finished; shown = c.self.inside.shown; format = c.self.inside.format } in
    subst (λ (x : Pushed). TakesSilently x c.take_unit.new.self) c.self.view_is
    (silent_taken old c.take_unit.new.self c.due_picture.new.self c.in_default.ensures (c.take_unit.ensures.silent none))
