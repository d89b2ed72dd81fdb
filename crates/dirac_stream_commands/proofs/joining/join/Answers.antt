use Rattle.std.proofs.Common.{◌≡◌, ◌∙◌, subst, sym}
use Rattle.std.specs.Prelude.{IfSome}
use Rattle.dirac_command_line.specs.declared.ended.Ended.{Ended}
use Rattle.dirac_stream_commands.specs.Cutting.{IfUnwrittenBy}
use Rattle.dirac_stream_commands.specs.Inside.{IsFaultInside}
use Rattle.dirac_stream_commands.specs.Joining.{IsJoinAnswer}
use Rattle.dirac_stream_commands.proofs.Edits.{done_by, is_join_answer, read_by, unwritten, write_by}
use Rattle.dirac_stream_commands.proofs.Inside.{join_inside}
use Rattle.dirac_stream_commands.proofs.joining.join.Goals as goal

pub returns-clause-answer : goal.returns-clause-answer
returns-clause-answer g c =
    subst (λ (answer : Ended). IsJoinAnswer answer) (sym c.ended_of.ensures) (is_join_answer c.join_stream-edited.result c.join_stream-edited.ensures.answer)

pub returns-clause-joined : goal.returns-clause-joined
returns-clause-joined g c = record {
  how = c.join_stream-edited.result;
  ends = c.ended_of.ensures;
  answers = subst (λ (answer : Ended). IsJoinAnswer answer) (sym c.ended_of.ensures) (is_join_answer c.join_stream-edited.result c.join_stream-edited.ensures.answer);
  joined = c.join_stream-edited.ensures.joined;
  shows = c.join_stream-edited.ensures.shows;
  whole = λ done. c.join_stream-edited.ensures.whole (done_by c.join_stream-edited.result (sym c.ended_of.ensures ∙ done));
  fault_inside = subst (λ (answer : Ended). IfSome (g.S.Source.held c.args.source.now) (IsFaultInside answer)) (sym c.ended_of.ensures)
      (join_inside (g.S.Source.held c.args.source.now) (g.K.Sink.taken c.args.out.now) (g.K.Sink.taken c.join_stream-edited.new.out) c.join_stream-edited.result c.join_stream-edited.ensures.joined);
}

pub returns-clause-untouched : goal.returns-clause-untouched
returns-clause-untouched g c =
    subst (λ (answer : Ended). IfUnwrittenBy answer (c.join_stream-edited.new.out ≡ c.args.out.now)) (sym c.ended_of.ensures)
    (unwritten c.join_stream-edited.result (c.join_stream-edited.new.out ≡ c.args.out.now) c.join_stream-edited.ensures.untouched)

pub returns-clause-read : goal.returns-clause-read
returns-clause-read g c is =
    c.join_stream-edited.ensures.read (read_by c.join_stream-edited.result (sym c.ended_of.ensures ∙ is))

pub returns-clause-write : goal.returns-clause-write
returns-clause-write g c is =
    c.join_stream-edited.ensures.write (write_by c.join_stream-edited.result (sym c.ended_of.ensures ∙ is))
