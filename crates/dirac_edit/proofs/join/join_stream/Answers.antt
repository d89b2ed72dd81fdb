use Rattle.dirac_edit.proofs.Joined.{join_refused, join_shows, join_stopped, join_written, refusal_named, stop_named}
use Rattle.dirac_edit.proofs.join.join_stream.Goals as goal

pub returns-in-Err-clause-joined : goal.returns-in-Err-clause-joined
returns-in-Err-clause-joined g c =
    join_stopped (g.S.Source.held c.args.source.now) (g.K.Sink.taken c.args.out.now) c.in-Err.answer c.bytes_have_one_cut.ensures.each_has_a_cut c.in-Err.ensures.stopped

pub returns-in-Err-clause-answer : goal.returns-in-Err-clause-answer
returns-in-Err-clause-answer g c = stop_named c.in-Err.answer c.in-Err.ensures.stopped

pub returns-in-Ok-whole_of-clause-joined : goal.returns-in-Ok-whole_of-clause-joined
returns-in-Ok-whole_of-clause-joined g c =
    join_written (g.S.Source.held c.args.source.now) (g.K.Sink.taken c.args.out.now) (g.K.Sink.taken c.put_joined.new.out) c.in-Ok.bytes.items c.as_slice.result.now
    c.in-Ok-whole_of.sequences.items c.as_slice-in-Ok-whole_of.result.now c.of.result c.put_joined.result c.in-Ok.ensures.all c.as_slice.ensures.value c.in-Ok-whole_of.ensures.is_joinable c.as_slice-in-Ok-whole_of.ensures.value
    c.of.ensures.value c.put_joined.ensures.all c.put_joined.ensures.front

pub returns-in-Ok-whole_of-clause-shows : goal.returns-in-Ok-whole_of-clause-shows
returns-in-Ok-whole_of-clause-shows g c =
    join_shows (g.S.Source.held c.args.source.now) c.in-Ok.bytes.items c.as_slice.result.now c.in-Ok-whole_of.sequences.items _ c.in-Ok.ensures.all c.as_slice.ensures.value c.in-Ok-whole_of.ensures.is_joinable

pub returns-clause-joined : goal.returns-clause-joined
returns-clause-joined g c =
    join_refused (g.S.Source.held c.args.source.now) (g.K.Sink.taken c.args.out.now) c.in-Ok.bytes.items c.as_slice.result.now c.in-Err-whole_of.answer
    c.in-Ok.ensures.all c.as_slice.ensures.value c.in-Err-whole_of.ensures.refused

pub returns-clause-answer : goal.returns-clause-answer
returns-clause-answer g c = refusal_named c.as_slice.result.now c.in-Err-whole_of.answer c.in-Err-whole_of.ensures.refused
