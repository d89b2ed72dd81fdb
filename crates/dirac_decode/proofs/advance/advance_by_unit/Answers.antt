use Rattle.std.proofs.Common.{◌∙◌, ◌+◌, ◌^◌, ap, length, refl, Err}
use Rattle.std.specs.Io.KnownBytes.{prepend_known}
use Rattle.dirac_units.specs.Info.{span_of}
use Rattle.dirac_content.proofs.Passing.{each_has_a_cut}
use Rattle.dirac_decode.specs.declared.step.Halt.TheVariants as halt
use Rattle.dirac_decode.specs.Advancing.{count_shown}
use Rattle.dirac_decode.proofs.Alone.{unit_taken}
use Rattle.dirac_decode.proofs.Counts.{le_itself, none_more, one_more, unit_below}
use Rattle.dirac_decode.proofs.Found.{content_advances, content_advances_before, content_goes_on, content_no_end, content_no_read, content_takes, halt_advances, halt_advances_before, halt_part, halt_same, halt_taken, halt_takes, halt_whole, next_at, next_index}
use Rattle.dirac_decode.proofs.advance.advance_by_unit.Goals as goal

pub content_of-requires-clause-below_2_63 : goal.content_of-requires-clause-below_2_63
content_of-requires-clause-below_2_63 g c =
    let held = g.S.Source.held c.args.source.now in
    let held' = g.S.Source.held c.next_unit.new.source in
    unit_below (c.in-Ok.unit.at + 13 + length c.in-Ok.unit.payload) c.next_unit.new.units.unit_place.at (length c.next_unit.new.units.ahead) (g.S.Source.left c.next_unit.new.source)
    (c.args.units.now.unit_place.at + length c.args.units.now.ahead + g.S.Source.left c.args.source.now) (2 ^ 63) (next_at c.in-Ok.unit c.args.units.now c.next_unit.new.units held held' c.in-Ok.ensures.finds.0) c.next_unit.ensures.no_overflow_result c.requires.no_overflow

pub returns-in-Err : goal.returns-in-Err
returns-in-Err g c =
    let units = c.args.units.now in
    let units' = c.next_unit.new.units in
    let state = c.args.state.now in
    let held = g.S.Source.held c.args.source.now in
    let held' = g.S.Source.held c.next_unit.new.source in
    let found = c.next_unit.ensures in
    let finds = c.in-Err.ensures.finds in
    let h = c.in-Err.halt in
    record {
      advances = halt_advances h units units' state held held' found.none_ahead finds;
      advances_before_more = halt_advances_before h units units' state held held' found.none_ahead finds;
      takes = halt_takes h units units' state held held' finds;
      none_ahead = found.none_ahead;
      goes_on = tt;
      no_more_than_units = none_more units.unit_place.index units'.unit_place.index (length state.waiting) found.index;
      fits = found.fits;
      greatest_never_falls = le_itself state.most;
      at_the_end = λ is. halt_whole h units units' held held' finds (halt_same (Err h) (Err halt.End) h halt.End refl refl is);
      part = λ is. halt_part h units units' held held' finds (halt_same (Err h) (Err halt.ReadFault) h halt.ReadFault refl refl is);
      taken = λ is. halt_taken h units units' held held' finds (halt_same (Err h) (Err halt.NoMemory) h halt.NoMemory refl refl is);
      read = λ is. found.read (c.in-Err.is ∙ ap Err (halt_same (Err h) (Err halt.ReadFault) h halt.ReadFault refl refl is));
      count = found.count;
      no_overflow_result = found.no_overflow_result;
    }

pub returns-in-Ok : goal.returns-in-Ok
returns-in-Ok g c =
    let units = c.args.units.now in
    let units' = c.next_unit.new.units in
    let state = c.args.state.now in
    let state' = c.content_of.new.state in
    let held = g.S.Source.held c.args.source.now in
    let held' = g.S.Source.held c.next_unit.new.source in
    let found = c.next_unit.ensures in
    let unit = c.in-Ok.unit in
    let gives = c.in-Ok.ensures.finds.0 in
    let answer = c.content_of.result in
    let has = c.content_of.ensures.brings in
    record {
      advances = content_advances answer unit units units' state state' held held' each_has_a_cut gives has;
      advances_before_more = content_advances_before answer unit units units' state state' held held' each_has_a_cut gives has;
      takes = content_takes answer unit units units' state state' held held' gives has;
      none_ahead = found.none_ahead;
      goes_on = content_goes_on answer unit units units' held held' gives c.in-Ok.ensures.finds.2;
      no_more_than_units = one_more units.unit_place.index units'.unit_place.index (count_shown answer) (length state.waiting) (length state'.waiting) (next_index unit units units' held held' gives) c.content_of.ensures.one_more_at_most;
      fits = found.fits;
      greatest_never_falls = c.content_of.ensures.greatest_never_falls;
      at_the_end = λ is. absurd (content_no_end answer unit state state' has is);
      part = λ is. absurd (content_no_read answer unit state state' has is);
      taken = λ is. unit_taken (prepend_known units.ahead held) held' (span_of unit.info) c.in-Ok.ensures.finds.1;
      read = λ is. absurd (content_no_read answer unit state state' has is);
      count = found.count;
      no_overflow_result = found.no_overflow_result;
    }
