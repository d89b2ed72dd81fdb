use Rattle.std.proofs.Common.{arith}
use Rattle.dirac_encode_progress.proofs.Waiting.{flushes_more, flushes_part}
use Rattle.dirac_encode_progress.proofs.delivering.put_waiting.Goals as goal

pub returns-in_err-done-clause-front : goal.returns-in_err-done-clause-front
returns-in_err-done-clause-front g c =
    flushes_part c.args.delivery.now c.waiting.delivery c.pop.new.self c.in-Some.picture (g.N.Sink.taken c.args.side.now) (g.N.Sink.taken c.waiting.side) (g.N.Sink.taken c.put_picture.new.out)
    c.waiting.invariant.flushes c.in-Some.ensures.gone c.in-Some.ensures.waiting c.in-Some.ensures.count c.put_picture.ensures.front

pub waiting-preserved : goal.waiting-preserved
waiting-preserved g c = record {
  flushes = flushes_more c.args.delivery.now c.waiting.delivery c.pop.new.self c.in-Some.picture (g.N.Sink.taken c.args.side.now) (g.N.Sink.taken c.waiting.side) (g.N.Sink.taken c.put_picture.new.out)
      c.waiting.invariant.flushes c.in-Some.ensures.gone c.in-Some.ensures.waiting c.in-Some.ensures.count (c.put_picture.ensures.all c.in_ok-done.ensures.all);
  count = omega (arith, c.waiting.invariant.count, c.put_picture.ensures.count);
}
