use Rattle.std.proofs.KnownBytes.{Appends-trans}
use Rattle.std.proofs.lemmas.Result.{on_ok_weaker}
use Rattle.dirac_units.proofs.Appended.{behind_front, front_then}
use Rattle.dirac_encode_laws.specs.Stream.{end_unit}
use Rattle.dirac_edit.specs.Merged.{own_bytes}
use Rattle.dirac_edit.proofs.joining.put_apart.Goals as goal

pub returns-in_err-done-clause-front : goal.returns-in_err-done-clause-front
returns-in_err-done-clause-front g c =
    front_then (g.K.Sink.taken c.args.out.now) (g.K.Sink.taken c.put_end.new.out) (end_unit c.args.previous.now) (own_bytes 13 c.args.sequence.now) c.put_end.ensures.front

pub returns-clause-all : goal.returns-clause-all
returns-clause-all g c =
    on_ok_weaker c.put_own.result
    (Appends-trans (g.K.Sink.taken c.args.out.now) (g.K.Sink.taken c.put_end.new.out) (g.K.Sink.taken c.put_own.new.out) (end_unit c.args.previous.now) (own_bytes 13 c.args.sequence.now)
    (c.put_end.ensures.all c.in_ok-done.ensures.all))
    c.put_own.ensures.all

pub returns-clause-front : goal.returns-clause-front
returns-clause-front g c =
    behind_front (g.K.Sink.taken c.args.out.now) (g.K.Sink.taken c.put_end.new.out) (g.K.Sink.taken c.put_own.new.out) (end_unit c.args.previous.now) (own_bytes 13 c.args.sequence.now)
    (c.put_end.ensures.all c.in_ok-done.ensures.all) c.put_own.ensures.front
