use Rattle.std.proofs.Common.{◌≡◌, ◌∙◌, subst, sym}
use Rattle.std.specs.Prelude.{IfSome}
use Rattle.dirac_command_line.specs.declared.ended.Ended.{Ended}
use Rattle.dirac_stream_commands.specs.Cutting.{IfUnwrittenBy, IsCutAnswer}
use Rattle.dirac_stream_commands.specs.Inside.{IsFaultInside}
use Rattle.dirac_stream_commands.proofs.Edits.{done_by, is_answer, read_by, unwritten, write_by}
use Rattle.dirac_stream_commands.proofs.Inside.{cut_inside}
use Rattle.dirac_stream_commands.proofs.cutting.cut.Goals as goal

pub returns-clause-answer : goal.returns-clause-answer
returns-clause-answer g c =
    subst (λ (answer : Ended). IsCutAnswer answer) (sym c.ended_of.ensures) (is_answer c.cut_stream-edited.result)

pub returns-clause-cut : goal.returns-clause-cut
returns-clause-cut g c = record {
  how = c.cut_stream-edited.result;
  ends = c.ended_of.ensures;
  cut = c.cut_stream-edited.ensures.cut;
  shows = c.cut_stream-edited.ensures.shows;
  whole = λ done. c.cut_stream-edited.ensures.whole (done_by c.cut_stream-edited.result (sym c.ended_of.ensures ∙ done));
  fault_inside = subst (λ (answer : Ended). IfSome (g.S.Source.held c.args.source.now) (IsFaultInside answer)) (sym c.ended_of.ensures)
      (cut_inside (g.S.Source.held c.args.source.now) (g.K.Sink.taken c.args.out.now) (g.K.Sink.taken c.cut_stream-edited.new.out) c.args.from c.args.to c.cut_stream-edited.result c.cut_stream-edited.ensures.cut);
}

pub returns-clause-untouched : goal.returns-clause-untouched
returns-clause-untouched g c =
    subst (λ (answer : Ended). IfUnwrittenBy answer (c.cut_stream-edited.new.out ≡ c.args.out.now)) (sym c.ended_of.ensures)
    (unwritten c.cut_stream-edited.result (c.cut_stream-edited.new.out ≡ c.args.out.now) c.cut_stream-edited.ensures.untouched)

pub returns-clause-read : goal.returns-clause-read
returns-clause-read g c is =
    c.cut_stream-edited.ensures.read (read_by c.cut_stream-edited.result (sym c.ended_of.ensures ∙ is))

pub returns-clause-write : goal.returns-clause-write
returns-clause-write g c is =
    c.cut_stream-edited.ensures.write (write_by c.cut_stream-edited.result (sym c.ended_of.ensures ∙ is))
