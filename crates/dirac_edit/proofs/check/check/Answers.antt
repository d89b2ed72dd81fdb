use Rattle.std.proofs.Common.{◌∙◌, ℕ, List, length, None, Err, Some, arith, subst, ap}
use Rattle.dirac_common.specs.declared.faults.Stop.{Stop}
use Rattle.dirac_units.specs.Progress.{met_after}
use Rattle.dirac_edit.specs.Course.{IsTaken, unit_checked}
use Rattle.dirac_edit.proofs.Answering.{some_shown}
use Rattle.dirac_edit.proofs.Following.{reached_end, reached_fault, reached_next}
use Rattle.dirac_edit.proofs.check.check.Goals as goal

pub returns-in-End-clause-sound : goal.returns-in-End-clause-sound
returns-in-End-clause-sound c =
    reached_end c.args.bytes.now c.units.units c.units.source (Some c.next.new.source) c.units.course None c.units.invariant.reaches c.units.invariant.none_ahead
    (c.next.ensures.end c.units.invariant.going c.in-End.is)

pub returns-in-Fault-clause-refused : goal.returns-in-Fault-clause-refused
returns-in-Fault-clause-refused c =
    reached_end c.args.bytes.now c.units.units c.units.source (Some c.next.new.source) c.units.course (Some c.in-Fault.fault) c.units.invariant.reaches c.units.invariant.none_ahead
    (c.next.ensures.fault c.in-Fault.fault c.units.invariant.going c.in-Fault.is)

pub returns-in-NoMemory-clause-refused : goal.returns-in-NoMemory-clause-refused
returns-in-NoMemory-clause-refused c = some_shown c.bytes_have_one_cut.ensures.each_has_a_cut c.args.bytes.now

pub returns-in-Err-NoMemory-clause-refused : goal.returns-in-Err-NoMemory-clause-refused
returns-in-Err-NoMemory-clause-refused c = some_shown c.bytes_have_one_cut.ensures.each_has_a_cut c.args.bytes.now

pub returns-in-Err-Refused-clause-refused : goal.returns-in-Err-Refused-clause-refused
returns-in-Err-Refused-clause-refused c =
    rw c.in-Err-Refused.field-0-is
    (reached_fault c.args.bytes.now c.in-Unit.unit c.units.units c.next.new.self c.units.source c.next.new.source c.units.course c.in-Err-Refused.refusal
    c.bytes_have_one_cut.ensures.each_has_a_cut c.units.invariant.reaches c.units.invariant.none_ahead c.next.ensures.none_ahead c.in-Unit.ensures.unit
    (subst (λ (s : Stop). IsTaken (Err s) (unit_checked c.units.course c.in-Unit.unit.info.code c.in-Unit.unit.payload) c.take.new.self) c.in-Err-Refused.field-0-is c.in-Err-Refused.ensures.taken))

pub units-preserved : goal.units-preserved
units-preserved c = record {
  reaches = reached_next c.args.bytes.now c.in-Unit.unit c.units.units c.next.new.self c.units.source c.next.new.source c.units.course c.take.new.self
      c.units.invariant.reaches c.units.invariant.none_ahead c.next.ensures.none_ahead c.in-Unit.ensures.unit c.in-Ok.ensures.taken;
  none_ahead = c.next.ensures.none_ahead;
  going = c.next.ensures.stream_end ∙ ap met_after c.in-Unit.is;
  fits = omega (arith, c.units.invariant.fits, c.next.ensures.no_overflow, ap (λ (xs : List ℕ). length xs) c.units.invariant.none_ahead, ap (λ (xs : List ℕ). length xs) c.next.ensures.none_ahead);
}
