use Rattle.std.proofs.Common.{◌+◌, ◌^◌, length, refl}
use Rattle.dirac_content.proofs.Passing.{each_has_a_cut}
use Rattle.dirac_decode.proofs.Counts.{below_on, fewer_left, le_itself, le_on, rose_since}
use Rattle.dirac_decode.proofs.Finishing.{room_begun, underway_begun, underway_more, written_into, written_into_want, written_to_end, written_to_fault, written_to_read_fault, written_to_want}
use Rattle.dirac_decode.proofs.Streaming.{counted_to_end, counted_to_fault, counted_to_read_fault, counted_to_want, counted_to_write_fault}
use Rattle.dirac_decode.proofs.stream.write_pictures.Goals as goal

pub pictures-init : goal.pictures-init
pictures-init g c = record {
  underway = underway_begun c.args.decoder.now (g.S.Source.held c.args.source.now) (g.K.Sink.taken c.args.out.now) c.requires.new;
  room = room_begun c.args.decoder.now (g.S.Source.left c.args.source.now) c.requires.new;
  reads = le_itself (g.S.Source.faults c.args.source.now);
  writes = le_itself (g.K.Sink.faults c.args.out.now);
}

pub next_picture_by-requires-clause-no_overflow : goal.next_picture_by-requires-clause-no_overflow
next_picture_by-requires-clause-no_overflow g c =
    below_on (c.pictures.decoder.units.unit_place.at + length c.pictures.decoder.units.ahead + g.S.Source.left c.pictures.source) (g.S.Source.left c.args.source.now) (2 ^ 63) c.pictures.invariant.room (g.met.S.Source.left_fits c.args.source.now)

pub pictures-smaller : goal.pictures-smaller
pictures-smaller g c = rw c.take_back.ensures (fewer_left c.pictures.decoder.given c.next_picture_by.new.self.given c.in-Shown.ensures.gives.1 c.in-Shown.ensures.fits)

pub pictures-preserved : goal.pictures-preserved
pictures-preserved g c =
    let so = c.pictures.invariant in
    let after = c.in-Shown.ensures in
    rw c.take_back.ensures
    (record {
      underway = underway_more c.pictures.decoder c.next_picture_by.new.self c.in-Shown.picture (g.S.Source.held c.args.source.now) (g.S.Source.held c.pictures.source) (g.S.Source.held c.next_picture_by.new.source) (g.K.Sink.taken c.args.out.now) (g.K.Sink.taken c.pictures.out) (g.K.Sink.taken c.put_picture.new.out)
          so.underway after.whole after.none_ahead after.gives (c.in-All.ensures.all refl);
      room = le_on (c.next_picture_by.new.self.units.unit_place.at + length c.next_picture_by.new.self.units.ahead + g.S.Source.left c.next_picture_by.new.source) (c.pictures.decoder.units.unit_place.at + length c.pictures.decoder.units.ahead + g.S.Source.left c.pictures.source) (g.S.Source.left c.args.source.now) after.no_overflow so.room;
      reads = le_on (g.S.Source.faults c.args.source.now) (g.S.Source.faults c.pictures.source) (g.S.Source.faults c.next_picture_by.new.source) so.reads after.count;
      writes = le_on (g.K.Sink.faults c.args.out.now) (g.K.Sink.faults c.pictures.out) (g.K.Sink.faults c.put_picture.new.out) so.writes c.in-All.ensures.count;
    })

pub returns-in-Failed : goal.returns-in-Failed
returns-in-Failed g c =
    let so = c.pictures.invariant in
    let after = c.in-Shown.ensures in
    record {
      written = written_into c.pictures.decoder c.next_picture_by.new.self c.in-Shown.picture (g.S.Source.held c.args.source.now) (g.S.Source.held c.pictures.source) (g.S.Source.held c.next_picture_by.new.source) (g.K.Sink.taken c.args.out.now) (g.K.Sink.taken c.pictures.out) (g.K.Sink.taken c.put_picture.new.out)
          each_has_a_cut so.underway after.whole after.none_ahead after.gives c.in-Failed.ensures.front;
      faults = counted_to_write_fault (g.S.Source.faults c.args.source.now) (g.S.Source.faults c.next_picture_by.new.source) (g.K.Sink.faults c.args.out.now) (g.K.Sink.faults c.put_picture.new.out) (rose_since (g.K.Sink.faults c.args.out.now) (g.K.Sink.faults c.pictures.out) (g.K.Sink.faults c.put_picture.new.out) so.writes (c.in-Failed.ensures.failed refl))
          (le_on (g.S.Source.faults c.args.source.now) (g.S.Source.faults c.pictures.source) (g.S.Source.faults c.next_picture_by.new.source) so.reads after.count) (le_on (g.K.Sink.faults c.args.out.now) (g.K.Sink.faults c.pictures.out) (g.K.Sink.faults c.put_picture.new.out) so.writes c.in-Failed.ensures.count);
    }

pub returns-in-NoMemory-put_picture : goal.returns-in-NoMemory-put_picture
returns-in-NoMemory-put_picture g c =
    let so = c.pictures.invariant in
    let after = c.in-Shown.ensures in
    record {
      written = written_into_want c.pictures.decoder c.next_picture_by.new.self c.in-Shown.picture (g.S.Source.held c.args.source.now) (g.S.Source.held c.pictures.source) (g.S.Source.held c.next_picture_by.new.source) (g.K.Sink.taken c.args.out.now) (g.K.Sink.taken c.pictures.out) (g.K.Sink.taken c.put_picture.new.out)
          each_has_a_cut so.underway after.whole after.none_ahead after.gives c.in-NoMemory-put_picture.ensures.front;
      faults = counted_to_want (g.S.Source.faults c.args.source.now) (g.S.Source.faults c.next_picture_by.new.source) (g.K.Sink.faults c.args.out.now) (g.K.Sink.faults c.put_picture.new.out) (le_on (g.S.Source.faults c.args.source.now) (g.S.Source.faults c.pictures.source) (g.S.Source.faults c.next_picture_by.new.source) so.reads after.count)
          (le_on (g.K.Sink.faults c.args.out.now) (g.K.Sink.faults c.pictures.out) (g.K.Sink.faults c.put_picture.new.out) so.writes c.in-NoMemory-put_picture.ensures.count);
    }

pub returns-in-End : goal.returns-in-End
returns-in-End g c =
    let so = c.pictures.invariant in
    let after = c.in-End.ensures in
    record {
      written = written_to_end c.pictures.decoder c.next_picture_by.new.self c.tally.result (g.S.Source.held c.args.source.now) (g.S.Source.held c.pictures.source) (g.S.Source.held c.next_picture_by.new.source) (g.K.Sink.taken c.args.out.now) (g.K.Sink.taken c.pictures.out)
          each_has_a_cut so.underway after.whole after.none_ahead after.gives c.tally.ensures.value c.tally.ensures.at_most_8_references;
      faults = counted_to_end c.tally.result (g.S.Source.faults c.args.source.now) (g.S.Source.faults c.next_picture_by.new.source) (g.K.Sink.faults c.args.out.now) (g.K.Sink.faults c.pictures.out) (le_on (g.S.Source.faults c.args.source.now) (g.S.Source.faults c.pictures.source) (g.S.Source.faults c.next_picture_by.new.source) so.reads after.count) so.writes;
    }

pub returns-in-Fault : goal.returns-in-Fault
returns-in-Fault g c =
    let so = c.pictures.invariant in
    let after = c.in-Fault.ensures in
    record {
      written = written_to_fault c.pictures.decoder c.next_picture_by.new.self c.in-Fault.fault c.tally-in-Fault.result (g.S.Source.held c.args.source.now) (g.S.Source.held c.pictures.source) (g.S.Source.held c.next_picture_by.new.source) (g.K.Sink.taken c.args.out.now) (g.K.Sink.taken c.pictures.out)
          each_has_a_cut so.underway after.none_ahead after.gives c.tally-in-Fault.ensures.value c.tally-in-Fault.ensures.at_most_8_references;
      faults = counted_to_fault c.in-Fault.fault c.tally-in-Fault.result (g.S.Source.faults c.args.source.now) (g.S.Source.faults c.next_picture_by.new.source) (g.K.Sink.faults c.args.out.now) (g.K.Sink.faults c.pictures.out) (le_on (g.S.Source.faults c.args.source.now) (g.S.Source.faults c.pictures.source) (g.S.Source.faults c.next_picture_by.new.source) so.reads after.count) so.writes;
    }

pub returns-in-ReadFault : goal.returns-in-ReadFault
returns-in-ReadFault g c =
    let so = c.pictures.invariant in
    let after = c.in-ReadFault.ensures in
    record {
      written = written_to_read_fault c.pictures.decoder (g.S.Source.held c.args.source.now) (g.S.Source.held c.pictures.source) (g.S.Source.held c.next_picture_by.new.source) (g.K.Sink.taken c.args.out.now) (g.K.Sink.taken c.pictures.out)
          each_has_a_cut so.underway (after.broken_off refl);
      faults = counted_to_read_fault (g.S.Source.faults c.args.source.now) (g.S.Source.faults c.next_picture_by.new.source) (g.K.Sink.faults c.args.out.now) (g.K.Sink.faults c.pictures.out) (rose_since (g.S.Source.faults c.args.source.now) (g.S.Source.faults c.pictures.source) (g.S.Source.faults c.next_picture_by.new.source) so.reads (after.read refl)) (le_on (g.S.Source.faults c.args.source.now) (g.S.Source.faults c.pictures.source) (g.S.Source.faults c.next_picture_by.new.source) so.reads after.count) so.writes;
    }

pub returns-in-NoMemory : goal.returns-in-NoMemory
returns-in-NoMemory g c =
    let so = c.pictures.invariant in
    let after = c.in-NoMemory.ensures in
    record {
      written = written_to_want c.pictures.decoder (g.S.Source.held c.args.source.now) (g.S.Source.held c.pictures.source) (g.S.Source.held c.next_picture_by.new.source) (g.K.Sink.taken c.args.out.now) (g.K.Sink.taken c.pictures.out)
          each_has_a_cut so.underway (after.stops refl);
      faults = counted_to_want (g.S.Source.faults c.args.source.now) (g.S.Source.faults c.next_picture_by.new.source) (g.K.Sink.faults c.args.out.now) (g.K.Sink.faults c.pictures.out) (le_on (g.S.Source.faults c.args.source.now) (g.S.Source.faults c.pictures.source) (g.S.Source.faults c.next_picture_by.new.source) so.reads after.count) so.writes;
    }

pub unreachable-requires : goal.unreachable-requires
unreachable-requires g c = c.pictures.invariant.underway.moving c.in-Stopped.ensures.gives.0
