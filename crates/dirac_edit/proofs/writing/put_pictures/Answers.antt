use Rattle.std.proofs.Common.{ℕ, List, ◌+◌, ◌++◌, arith, drop, length, refl}
use Rattle.std.proofs.lemmas.Result.{on_ok_weaker}
use Rattle.dirac_encode_laws.specs.Stream.{end_unit, unit}
use Rattle.dirac_edit_laws.specs.Units.{pictures_bytes}
use Rattle.dirac_edit.proofs.Texts.{next_picture, no_picture_left}
use Rattle.dirac_edit.proofs.Written.{all_written, last_part_written, left_as, part_written, piece_written}
use Rattle.dirac_edit.proofs.writing.put_pictures.Goals as goal

pub returns-in_err-done-clause-front : goal.returns-in_err-done-clause-front
returns-in_err-done-clause-front g c =
    let pictures = c.args.pictures.now in
    let i = c.loop-picture.picture-index in
    let previous = c.loop-picture.previous in
    let payload = c.payload-payload.result.now in
    let out0 = g.K.Sink.taken c.args.out.now in
    let out = g.K.Sink.taken c.loop-picture.out in
    let all : List ℕ = pictures_bytes c.args.previous pictures in
    let piece : List ℕ = unit c.code.result previous payload in
    let rest : List ℕ = pictures_bytes (13 + length payload) (drop (i + 1) pictures) in
    part_written all piece rest out0 out (g.K.Sink.taken c.put_unit.new.out)
    (left_as all _ (piece ++ rest) out0 out c.loop-picture.invariant.written
    (next_picture pictures i c.picture-item.result previous c.code.result (13 + length payload) payload c.loop-picture-test.true c.picture-item.is c.code.ensures c.payload-payload.ensures.value refl))
    c.put_unit.ensures.front

pub loop-picture-preserved : goal.loop-picture-preserved
loop-picture-preserved g c =
    let pictures = c.args.pictures.now in
    let i = c.loop-picture.picture-index in
    let previous = c.loop-picture.previous in
    let payload = c.payload-payload.result.now in
    let next = c.unit_length-previous.result in
    let out0 = g.K.Sink.taken c.args.out.now in
    let out = g.K.Sink.taken c.loop-picture.out in
    let all : List ℕ = pictures_bytes c.args.previous pictures in
    let piece : List ℕ = unit c.code.result previous payload in
    let rest : List ℕ = pictures_bytes next (drop (i + 1) pictures) in
    record {
      written = piece_written all piece rest out0 out (g.K.Sink.taken c.put_unit.new.out)
          (left_as all _ (piece ++ rest) out0 out c.loop-picture.invariant.written
          (next_picture pictures i c.picture-item.result previous c.code.result next payload c.loop-picture-test.true c.picture-item.is c.code.ensures c.payload-payload.ensures.value c.unit_length-previous.ensures))
          (c.put_unit.ensures.all c.in_ok-done.ensures.all);
      count = omega (arith, c.loop-picture.invariant.count, c.put_unit.ensures.count);
    }

pub returns : goal.returns
returns g c =
    let pictures = c.args.pictures.now in
    let previous = c.loop-picture.previous in
    let out0 = g.K.Sink.taken c.args.out.now in
    let out = g.K.Sink.taken c.loop-picture.out in
    let out' = g.K.Sink.taken c.put_end.new.out in
    let all : List ℕ = pictures_bytes c.args.previous pictures in
    let so = left_as all _ (end_unit previous) out0 out c.loop-picture.invariant.written (no_picture_left pictures c.loop-picture.picture-index previous c.loop-picture-test.false) in
    record {
      all = on_ok_weaker c.done-2.result (λ end. all_written all (end_unit previous) out0 out out' so (c.put_end.ensures.all end)) c.done-2.ensures.all;
      front = last_part_written all (end_unit previous) out0 out out' so c.put_end.ensures.front;
      failed = λ failed. omega (arith, c.loop-picture.invariant.count, c.put_end.ensures.failed (c.done-2.ensures.failed failed));
      count = omega (arith, c.loop-picture.invariant.count, c.put_end.ensures.count);
    }
