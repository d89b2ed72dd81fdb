use Rattle.std.proofs.Common.{◌∙◌, ap, refl}
use Rattle.dirac_units.specs.Progress.{met_after}
use Rattle.dirac_units.specs.declared.unit.Unit.{Unit}
use Rattle.dirac_decode.proofs.Found.{end_read, fault_read, found_read, memory_read}
use Rattle.dirac_decode.proofs.Leading.{not_stopped}
use Rattle.dirac_decode.proofs.advance.next_unit.Goals as goal

pub returns-in-Unit : goal.returns-in-Unit
returns-in-Unit g c =
    let next = c.next.ensures in
    record {
      finds = (c.in-Unit.ensures.unit, c.in-Unit.ensures.rest, next.stream_end ∙ ap met_after c.in-Unit.is);
      none_ahead = next.none_ahead;
      index = next.index;
      fits = next.fits;
      read = λ is. absurd (found_read c.in-Unit.unit is);
      count = next.count;
      no_overflow_result = next.no_overflow;
    }

pub returns-in-End : goal.returns-in-End
returns-in-End g c =
    let next = c.next.ensures in
    record {
      finds = next.end c.requires.going c.in-End.is;
      none_ahead = next.none_ahead;
      index = next.index;
      fits = next.fits;
      read = λ is. absurd (end_read Unit _ refl is);
      count = next.count;
      no_overflow_result = next.no_overflow;
    }

pub returns-in-Fault : goal.returns-in-Fault
returns-in-Fault g c =
    let next = c.next.ensures in
    record {
      finds = next.fault c.in-Fault.fault c.requires.going c.in-Fault.is;
      none_ahead = next.none_ahead;
      index = next.index;
      fits = next.fits;
      read = λ is. absurd (fault_read Unit _ c.in-Fault.fault refl is);
      count = next.count;
      no_overflow_result = next.no_overflow;
    }

pub returns-in-ReadFault : goal.returns-in-ReadFault
returns-in-ReadFault g c =
    let next = c.next.ensures in
    record {
      finds = next.part c.in-ReadFault.is;
      none_ahead = next.none_ahead;
      index = next.index;
      fits = next.fits;
      read = λ is. next.read c.in-ReadFault.is;
      count = next.count;
      no_overflow_result = next.no_overflow;
    }

pub returns-in-NoMemory : goal.returns-in-NoMemory
returns-in-NoMemory g c =
    let next = c.next.ensures in
    record {
      finds = next.taken c.in-NoMemory.is;
      none_ahead = next.none_ahead;
      index = next.index;
      fits = next.fits;
      read = λ is. absurd (memory_read Unit _ refl is);
      count = next.count;
      no_overflow_result = next.no_overflow;
    }

pub unreachable-requires : goal.unreachable-requires
unreachable-requires g c =
    not_stopped c.args.units.now.stream_end c.requires.going (c.next.ensures.stopped c.in-Stopped.is)
