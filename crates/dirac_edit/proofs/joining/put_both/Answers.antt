use Rattle.std.proofs.KnownBytes.{Appends-trans}
use Rattle.std.proofs.lemmas.Result.{on_ok_weaker}
use Rattle.dirac_units.proofs.Appended.{behind_front, front_then}
use Rattle.dirac_edit.proofs.joining.put_both.Goals as goal

pub returns-in_err-done-clause-front : goal.returns-in_err-done-clause-front
returns-in_err-done-clause-front g c =
    front_then (g.K.Sink.taken c.args.out.now) (g.K.Sink.taken c.put_all.new.sink) c.args.first.now c.args.second.now c.put_all.ensures.front

pub returns-clause-all : goal.returns-clause-all
returns-clause-all g c =
    on_ok_weaker c.done-2.result (λ all. Appends-trans (g.K.Sink.taken c.args.out.now) (g.K.Sink.taken c.put_all.new.sink) (g.K.Sink.taken c.put_all-2.new.sink) c.args.first.now c.args.second.now
    (c.put_all.ensures.all c.in_ok-done.ensures.all) (c.put_all-2.ensures.all all)) c.done-2.ensures.all

pub returns-clause-front : goal.returns-clause-front
returns-clause-front g c =
    behind_front (g.K.Sink.taken c.args.out.now) (g.K.Sink.taken c.put_all.new.sink) (g.K.Sink.taken c.put_all-2.new.sink) c.args.first.now c.args.second.now
    (c.put_all.ensures.all c.in_ok-done.ensures.all) c.put_all-2.ensures.front
