use Rattle.std.proofs.Common.{◌<◌, ◌+◌, ◌++◌, ℕ, List, [], arith, drop, length}
use Rattle.dirac_edit_laws.specs.Texts.{with_pictures}
use Rattle.dirac_edit_laws.specs.Units.{sequence_bytes, sequences_bytes}
use Rattle.dirac_edit.proofs.Texts.{has_pictures, no_sequence_left, sequence_left}
use Rattle.dirac_edit.proofs.Written.{left_as, nothing_left, part_written, piece_written}
use Rattle.dirac_edit.proofs.writing.put_sequences.Goals as goal

pub returns-in_err-put_sequence-clause-front : goal.returns-in_err-put_sequence-clause-front
returns-in_err-put_sequence-clause-front g c =
    let sequences = c.args.sequences.now in
    let i = c.loop-sequence.sequence-index in
    let s = c.sequence-item.result in
    let previous = c.loop-sequence.previous in
    let out0 = g.K.Sink.taken c.args.out.now in
    let out = g.K.Sink.taken c.loop-sequence.out in
    let all : List ℕ = sequences_bytes 0 (with_pictures sequences) in
    let rest : List ℕ = sequences_bytes 13 (with_pictures (drop (i + 1) sequences)) in
    let some : 0 < length s.pictures = has_pictures s.pictures c.pictures.result.now c.is_empty.result c.pictures.ensures c.is_empty.ensures c.if-is_empty.false in
    part_written all (sequence_bytes previous s) rest out0 out (g.K.Sink.taken c.put_sequence.new.out)
    (left_as all _ (sequence_bytes previous s ++ rest) out0 out c.loop-sequence.invariant.written (sequence_left sequences i s previous c.loop-sequence-test.true c.sequence-item.is some))
    c.put_sequence.ensures.front

pub loop-sequence-preserved : goal.loop-sequence-preserved
loop-sequence-preserved g c =
    let sequences = c.args.sequences.now in
    let i = c.loop-sequence.sequence-index in
    let s = c.sequence-item.result in
    let previous = c.loop-sequence.previous in
    let out0 = g.K.Sink.taken c.args.out.now in
    let out = g.K.Sink.taken c.loop-sequence.out in
    let all : List ℕ = sequences_bytes 0 (with_pictures sequences) in
    let rest : List ℕ = sequences_bytes 13 (with_pictures (drop (i + 1) sequences)) in
    let some : 0 < length s.pictures = has_pictures s.pictures c.pictures.result.now c.is_empty.result c.pictures.ensures c.is_empty.ensures c.if-is_empty.false in
    record {
      written = piece_written all (sequence_bytes previous s) rest out0 out (g.K.Sink.taken c.put_sequence.new.out)
          (left_as all _ (sequence_bytes previous s ++ rest) out0 out c.loop-sequence.invariant.written (sequence_left sequences i s previous c.loop-sequence-test.true c.sequence-item.is some))
          c.in_ok-put_sequence.ensures.all;
      count = omega (arith, c.loop-sequence.invariant.count, c.put_sequence.ensures.count);
    }

pub returns-clause-all : goal.returns-clause-all
returns-clause-all g c =
    nothing_left (sequences_bytes 0 (with_pictures c.args.sequences.now)) (g.K.Sink.taken c.args.out.now) (g.K.Sink.taken c.loop-sequence.out)
    (left_as _ _ [] (g.K.Sink.taken c.args.out.now) (g.K.Sink.taken c.loop-sequence.out) c.loop-sequence.invariant.written
    (no_sequence_left c.args.sequences.now c.loop-sequence.sequence-index c.loop-sequence.previous c.loop-sequence-test.false))
