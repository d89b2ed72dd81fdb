use Rattle.std.proofs.Common.{refl, sym, ap, ◌∙◌, arith, length, subst}
use Rattle.std.specs.Io.KnownBytes.{Appends}
use Rattle.dirac_io.specs.Writing.{AppendsFront}
use Rattle.dirac_units.specs.Cut.{EachHasACut, front_of}
use Rattle.dirac_units.specs.Progress.{CuttingProgress}
use Rattle.dirac_units.proofs.Cuts.{cut_by}
use Rattle.dirac_stream_commands.proofs.Inside.{listed_inside}
use Rattle.dirac_stream_commands.proofs.Listed.{ListsSoFar, begins, goes_on, ends_done, ends_faulty, stops_between}
use Rattle.dirac_stream_commands.proofs.Listed.{stops_inside, at_read_fault, at_write_fault, at_no_memory}
use Rattle.dirac_stream_commands.proofs.ListedRead.{ReadsSoFar, begins_reading, breaks_listing, ends_listing, front_of_broken, none_of_line, reads_on, stops_at_line, stops_reading}
use Rattle.dirac_command_line.specs.declared.ended.Ended.TheVariants.{ReadFault, WriteFault, NoMemory}
use Rattle.dirac_stream_commands.proofs.listing.list.Goals as goal

each_has_a_cut : EachHasACut
each_has_a_cut unit_place bytes = cut_by (length bytes) unit_place bytes (front_of unit_place bytes) refl (omega arith)

pub units-init : goal.units-init
units-init g c =
    let first = g.S.Source.held c.args.source.now in
    let out = g.K.Sink.taken c.args.out.now in (
      subst (λ (p : CuttingProgress). ListsSoFar p first first out out) (sym c.new-units.ensures) (begins first out),
      ap (λ (p : CuttingProgress). p.stream_end) c.new-units.ensures,
      omega (
        arith,
        ap (λ (p : CuttingProgress). p.unit_place.at) c.new-units.ensures,
        ap (λ (p : CuttingProgress). length p.ahead) c.new-units.ensures,
        g.met.S.Source.left_fits c.args.source.now,
      ),
      omega arith,
      omega arith,
      subst (λ (p : CuttingProgress). ReadsSoFar p first first out out) (sym c.new-units.ensures) (begins_reading first out),
    )

pub returns-in_default-clause-listed : goal.returns-in_default-clause-listed
returns-in_default-clause-listed g c =
    stops_between NoMemory at_no_memory each_has_a_cut c.units.units _ _ _ _ c.units.invariant.0

pub returns-in-Failed-clause-listed : goal.returns-in-Failed-clause-listed
returns-in-Failed-clause-listed g c =
    stops_inside WriteFault at_write_fault each_has_a_cut c.in-Unit.unit c.units.units c.next.new.self _ _ _ _ (g.K.Sink.taken c.units.out) _
    c.units.invariant.0 c.in-Unit.ensures.unit
    (subst (AppendsFront _ _) (c.as_bytes.ensures.value ∙ c.in-Ok.ensures) c.in-Failed.ensures.front)

pub returns-in-NoMemory-put_all-clause-listed : goal.returns-in-NoMemory-put_all-clause-listed
returns-in-NoMemory-put_all-clause-listed g c =
    stops_inside NoMemory at_no_memory each_has_a_cut c.in-Unit.unit c.units.units c.next.new.self _ _ _ _ (g.K.Sink.taken c.units.out) _
    c.units.invariant.0 c.in-Unit.ensures.unit
    (subst (AppendsFront _ _) (c.as_bytes.ensures.value ∙ c.in-Ok.ensures) c.in-NoMemory-put_all.ensures.front)

pub units-preserved : goal.units-preserved
units-preserved g c = (
  goes_on c.in-Unit.unit c.units.units c.next.new.self _ _ _ _ (g.K.Sink.taken c.units.out) _ c.units.invariant.0 c.in-Unit.ensures.unit
      (subst (Appends _ _) (c.as_bytes.ensures.value ∙ c.in-Ok.ensures) (c.in-All.ensures.all refl)),
  c.in-Unit.ensures.stream_end,
  omega (arith, c.in-Unit.ensures.no_overflow),
  omega (arith, c.in-Unit.ensures.count),
  omega (arith, c.put_all.ensures.count),
  reads_on c.in-Unit.unit c.units.units c.next.new.self _ _ _ _ (g.K.Sink.taken c.units.out) _ c.units.invariant.5 c.in-Unit.ensures.unit
      (subst (Appends _ _) (c.as_bytes.ensures.value ∙ c.in-Ok.ensures) (c.in-All.ensures.all refl)),
)

pub returns-in-End-clause-listed : goal.returns-in-End-clause-listed
returns-in-End-clause-listed g c =
    ends_done c.units.units _ _ _ _ _ c.units.invariant.0 (c.in-End.ensures.end c.units.invariant.1 refl)

pub returns-in-Fault-clause-listed : goal.returns-in-Fault-clause-listed
returns-in-Fault-clause-listed g c =
    ends_faulty c.in-Fault.fault c.units.units _ _ _ _ _ c.units.invariant.0
    (c.in-Fault.ensures.fault c.in-Fault.fault c.units.invariant.1 refl)

pub returns-in-ReadFault-clause-listed : goal.returns-in-ReadFault-clause-listed
returns-in-ReadFault-clause-listed g c =
    stops_between ReadFault at_read_fault each_has_a_cut c.units.units _ _ _ _ c.units.invariant.0

pub returns-in-NoMemory-clause-listed : goal.returns-in-NoMemory-clause-listed
returns-in-NoMemory-clause-listed g c =
    stops_between NoMemory at_no_memory each_has_a_cut c.units.units _ _ _ _ c.units.invariant.0

pub returns-in-Fault-clause-fault_inside : goal.returns-in-Fault-clause-fault_inside
returns-in-Fault-clause-fault_inside g c =
    listed_inside _ _ _ c.in-Fault.fault
    (ends_faulty c.in-Fault.fault c.units.units _ _ _ _ _ c.units.invariant.0
    (c.in-Fault.ensures.fault c.in-Fault.fault c.units.invariant.1 refl))

pub returns-in_default-clause-front_of_read : goal.returns-in_default-clause-front_of_read
returns-in_default-clause-front_of_read g c =
    stops_at_line each_has_a_cut c.in-Unit.unit c.units.units c.next.new.self _ _ _ _ (g.K.Sink.taken c.units.out) _
    c.units.invariant.5 c.in-Unit.ensures.unit c.in-Unit.ensures.rest (none_of_line _ _)

pub returns-in-Failed-clause-front_of_read : goal.returns-in-Failed-clause-front_of_read
returns-in-Failed-clause-front_of_read g c =
    stops_at_line each_has_a_cut c.in-Unit.unit c.units.units c.next.new.self _ _ _ _ (g.K.Sink.taken c.units.out) _
    c.units.invariant.5 c.in-Unit.ensures.unit c.in-Unit.ensures.rest
    (subst (AppendsFront _ _) (c.as_bytes.ensures.value ∙ c.in-Ok.ensures) c.in-Failed.ensures.front)

pub returns-in-NoMemory-put_all-clause-front_of_read : goal.returns-in-NoMemory-put_all-clause-front_of_read
returns-in-NoMemory-put_all-clause-front_of_read g c =
    stops_at_line each_has_a_cut c.in-Unit.unit c.units.units c.next.new.self _ _ _ _ (g.K.Sink.taken c.units.out) _
    c.units.invariant.5 c.in-Unit.ensures.unit c.in-Unit.ensures.rest
    (subst (AppendsFront _ _) (c.as_bytes.ensures.value ∙ c.in-Ok.ensures) c.in-NoMemory-put_all.ensures.front)

pub returns-in-End-clause-front_of_read : goal.returns-in-End-clause-front_of_read
returns-in-End-clause-front_of_read g c =
    ends_listing c.units.units _ _ _ _ _ _ c.units.invariant.5 (c.in-End.ensures.end c.units.invariant.1 refl).taken

pub returns-in-Fault-clause-front_of_read : goal.returns-in-Fault-clause-front_of_read
returns-in-Fault-clause-front_of_read g c =
    ends_listing c.units.units _ _ _ _ _ _ c.units.invariant.5 (c.in-Fault.ensures.fault c.in-Fault.fault c.units.invariant.1 refl).taken

pub returns-in-ReadFault-clause-front_of_read : goal.returns-in-ReadFault-clause-front_of_read
returns-in-ReadFault-clause-front_of_read g c =
    front_of_broken _ _ _ _ (breaks_listing c.units.units _ _ _ _ _ c.units.invariant.5 (c.in-ReadFault.ensures.part refl))

pub returns-in-ReadFault-clause-broken_off : goal.returns-in-ReadFault-clause-broken_off
returns-in-ReadFault-clause-broken_off g c = λ fault.
    breaks_listing c.units.units _ _ _ _ _ c.units.invariant.5 (c.in-ReadFault.ensures.part refl)

pub returns-in-NoMemory-clause-front_of_read : goal.returns-in-NoMemory-clause-front_of_read
returns-in-NoMemory-clause-front_of_read g c =
    stops_reading each_has_a_cut c.units.units _ _ _ _ _ c.units.invariant.5 (c.in-NoMemory.ensures.taken refl)
