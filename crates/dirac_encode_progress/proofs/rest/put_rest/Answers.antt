use Rattle.std.proofs.Common.{refl, subst, inl, inr}
use Rattle.dirac_encode_laws.specs.Encoding.{EncodesToTheEnd}
use Rattle.dirac_encode_progress.specs.Going.{so_far}
use Rattle.dirac_encode_progress.proofs.rest.put_rest.Goals as goal

pub returns-in-Err-clause-ends : goal.returns-in-Err-clause-ends
returns-in-Err-clause-ends g c = inl (c.in-Err.ensures.stops, c.in-Err.ensures.stopped)

pub returns-in-Err-put_last-clause-ends : goal.returns-in-Err-put_last-clause-ends
returns-in-Err-put_last-clause-ends g c =
    inr (
      record {
        planner = c.put_planned.new.planner;
        coding = so_far c.put_planned.new.coding;
        out_then = g.K.Sink.taken c.put_planned.new.out;
        side_then = g.N.Sink.taken c.put_planned.new.side;
        led = c.in_default.ensures.led;
        given = c.in_default.ensures.all_given refl;
        accepted = c.in_default.ensures.accepted;
      },
      inl (c.in-Err-put_last.ensures.stopped, c.in-Err-put_last.ensures.ends_early),
    )

pub returns-clause-ends : goal.returns-clause-ends
returns-clause-ends g c =
    inr (
      record {
        planner = c.put_planned.new.planner;
        coding = so_far c.put_planned.new.coding;
        out_then = g.K.Sink.taken c.put_planned.new.out;
        side_then = g.N.Sink.taken c.put_planned.new.side;
        led = c.in_default.ensures.led;
        given = c.in_default.ensures.all_given refl;
        accepted = c.in_default.ensures.accepted;
      },
      inr (refl, c.in_default-put_last.ensures.ended),
    )

pub returns-clause-write : goal.returns-clause-write
returns-clause-write g c = λ is. absurd (subst EncodesToTheEnd is c.requires.behind)

pub returns-clause-side : goal.returns-clause-side
returns-clause-side g c = λ is. absurd (subst EncodesToTheEnd is c.requires.behind)
