use Rattle.std.proofs.Common.{◌≡◌, ◌∙◌, ◌<◌, ◌==◌, ℕ, List, true, ap, arith, length, subst, sym}
use Rattle.std.proofs.lemmas.Bool.{eqb-true}
use Rattle.std.proofs.lemmas.Result.{on_ok_weaker}
use Rattle.std.specs.Io.KnownBytes.{Appends}
use Rattle.dirac_io.specs.Writing.{AppendsFront}
use Rattle.dirac_encode_laws.specs.Stream.{end_unit}
use Rattle.dirac_edit_laws.specs.Joined.{bare, bytes_or_bare, joined_sequences}
use Rattle.dirac_edit.proofs.Stepping.{here_bare, here_ended, here_first, here_next, here_passed, here_stopped}
use Rattle.dirac_edit.proofs.Texts.{has_pictures}
use Rattle.dirac_edit.proofs.Written.{all_written, last_part_written}
use Rattle.dirac_edit.proofs.joining.put_joined.Goals as goal

pub returns-in_err-put-clause-front : goal.returns-in_err-put-clause-front
returns-in_err-put-clause-front g c =
    let t = c.sequence-item.result in
    let some : 0 < length t.pictures = has_pictures t.pictures c.pictures.result.now c.is_empty.result c.pictures.ensures c.is_empty.ensures c.if-is_empty.false in
    here_stopped c.args.sequences.now c.loop-sequence.progress c.loop-sequence.sequence-index t (g.K.Sink.taken c.args.out.now) (g.K.Sink.taken c.loop-sequence.out) (g.K.Sink.taken c.put.new.out)
    c.loop-sequence.invariant.here c.loop-sequence-test.true c.sequence-item.is some c.put.ensures.numbered c.put.ensures.front

pub loop-sequence-init : goal.loop-sequence-init
loop-sequence-init g c = record {
  here = here_first c.args.sequences.now c.new-progress.result (g.K.Sink.taken c.args.out.now) c.new-progress.ensures;
  count = omega arith;
}

pub loop-sequence-preserved : goal.loop-sequence-preserved
loop-sequence-preserved g c =
    let t = c.sequence-item.result in
    let some : 0 < length t.pictures = has_pictures t.pictures c.pictures.result.now c.is_empty.result c.pictures.ensures c.is_empty.ensures c.if-is_empty.false in
    record {
      here = here_next c.args.sequences.now c.loop-sequence.progress c.put.new.self c.loop-sequence.sequence-index t (g.K.Sink.taken c.args.out.now) (g.K.Sink.taken c.loop-sequence.out) (g.K.Sink.taken c.put.new.out)
          c.loop-sequence.invariant.here c.loop-sequence-test.true c.sequence-item.is some c.put.ensures.numbered c.in_ok-put.ensures.behind c.in_ok-put.ensures.all;
      count = omega (arith, c.loop-sequence.invariant.count, c.put.ensures.count);
    }

pub loop-sequence-preserved-then-is_empty : goal.loop-sequence-preserved-then-is_empty
loop-sequence-preserved-then-is_empty g c =
    let t = c.sequence-item.result in
    let empty : (length c.pictures.result.now == 0) ≡ true = sym c.is_empty.ensures ∙ c.if-is_empty.true in
    let none : length t.pictures ≡ 0 = sym (ap length c.pictures.ensures) ∙ eqb-true (length c.pictures.result.now) 0 empty in
    record {
      here = here_passed c.args.sequences.now c.loop-sequence.progress c.loop-sequence.sequence-index t (g.K.Sink.taken c.args.out.now) (g.K.Sink.taken c.loop-sequence.out) c.loop-sequence.invariant.here c.loop-sequence-test.true c.sequence-item.is none;
      count = c.loop-sequence.invariant.count;
    }

pub returns-then-is_bare : goal.returns-then-is_bare
returns-then-is_bare g c =
    let sequences = c.args.sequences.now in
    let out0 = g.K.Sink.taken c.args.out.now in
    let out = g.K.Sink.taken c.loop-sequence.out in
    let out' = g.K.Sink.taken c.put_bare.new.out in
    let so = here_bare sequences c.loop-sequence.progress c.loop-sequence.sequence-index out0 out c.loop-sequence-test.false (sym c.is_bare.ensures ∙ c.if-is_bare.true) c.loop-sequence.invariant.here in
    record {
      all = on_ok_weaker c.put_bare.result (all_written (bytes_or_bare sequences (joined_sequences sequences)) (bare sequences) out0 out out' so) c.put_bare.ensures.all;
      front = last_part_written (bytes_or_bare sequences (joined_sequences sequences)) (bare sequences) out0 out out' so c.put_bare.ensures.front;
      failed = λ failed. omega (arith, c.loop-sequence.invariant.count, c.put_bare.ensures.failed failed);
      count = omega (arith, c.loop-sequence.invariant.count);
    }

pub returns : goal.returns
returns g c =
    let sequences = c.args.sequences.now in
    let out0 = g.K.Sink.taken c.args.out.now in
    let out = g.K.Sink.taken c.loop-sequence.out in
    let out' = g.K.Sink.taken c.put_end.new.out in
    let so = here_ended sequences c.loop-sequence.progress c.loop-sequence.sequence-index out0 out c.loop-sequence-test.false (sym c.is_bare.ensures ∙ c.if-is_bare.false) c.loop-sequence.invariant.here in
    let piece : List ℕ = end_unit c.loop-sequence.progress.previous in
    record {
      all = on_ok_weaker c.done.result
          (λ all. all_written (bytes_or_bare sequences (joined_sequences sequences)) piece out0 out out' so (subst (λ (n : ℕ). Appends out out' (end_unit n)) c.previous.ensures (c.put_end.ensures.all all))) c.done.ensures.all;
      front = last_part_written (bytes_or_bare sequences (joined_sequences sequences)) piece out0 out out' so (subst (λ (n : ℕ). AppendsFront out out' (end_unit n)) c.previous.ensures c.put_end.ensures.front);
      failed = λ failed. omega (arith, c.loop-sequence.invariant.count, c.put_end.ensures.failed (c.done.ensures.failed failed));
      count = omega (arith, c.loop-sequence.invariant.count);
    }
