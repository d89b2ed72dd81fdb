use Rattle.dirac_edit.proofs.Answering.{cut_refused, cut_written, part_shows, reading_stopped}
use Rattle.dirac_edit.proofs.cut.cut_stream.Goals as goal

pub returns-in-Err-clause-cut : goal.returns-in-Err-clause-cut
returns-in-Err-clause-cut g c =
    reading_stopped (g.S.Source.held c.args.source.now) (g.K.Sink.taken c.args.out.now) c.args.from c.args.to c.in-Err.answer c.bytes_have_one_cut.ensures.each_has_a_cut c.in-Err.ensures.stopped

pub returns-in-Ok-part_of-clause-cut : goal.returns-in-Ok-part_of-clause-cut
returns-in-Ok-part_of-clause-cut g c =
    cut_written (g.S.Source.held c.args.source.now) (g.K.Sink.taken c.args.out.now) (g.K.Sink.taken c.put_sequences.new.out) c.in-Ok.bytes.items c.as_slice.result.now c.args.from c.args.to
    c.in-Ok-part_of.part.items c.as_slice-in-Ok-part_of.result.now c.of.result c.put_sequences.result c.in-Ok.ensures.all c.as_slice.ensures.value c.in-Ok-part_of.ensures.part c.as_slice-in-Ok-part_of.ensures.value
    c.of.ensures.value c.put_sequences.ensures.all c.put_sequences.ensures.front

pub returns-in-Ok-part_of-clause-shows : goal.returns-in-Ok-part_of-clause-shows
returns-in-Ok-part_of-clause-shows g c =
    part_shows (g.S.Source.held c.args.source.now) c.in-Ok.bytes.items c.as_slice.result.now c.args.from c.args.to c.in-Ok-part_of.part.items _ c.in-Ok.ensures.all c.as_slice.ensures.value c.in-Ok-part_of.ensures.part

pub returns-clause-cut : goal.returns-clause-cut
returns-clause-cut g c =
    cut_refused (g.S.Source.held c.args.source.now) (g.K.Sink.taken c.args.out.now) c.in-Ok.bytes.items c.as_slice.result.now c.args.from c.args.to c.in-Err-part_of.answer
    c.in-Ok.ensures.all c.as_slice.ensures.value c.in-Err-part_of.ensures.refused
