use Rattle.std.proofs.Common.{◌∙◌, ◌+◌, ◌%◌, ◌^◌, ◌++◌, ℕ, List, [], ap, arith, drop, length, map, refl, sym}
use Rattle.dirac_encode_laws.specs.Stream.{unit}
use Rattle.dirac_edit_laws.specs.Texts.{PictureText}
use Rattle.dirac_edit.specs.Merged.{length_behind, moved_on, units_behind}
use Rattle.dirac_edit.proofs.Numbered.{length_left, next_length, next_unit, no_length_left, no_unit_left, numbered}
use Rattle.dirac_edit.proofs.Written.{left_as, nothing_left, part_written, piece_written}
use Rattle.dirac_edit.proofs.joining.put_units.Goals as goal

pub returns-in_err-put_numbered-clause-front : goal.returns-in_err-put_numbered-clause-front
returns-in_err-put_numbered-clause-front g c =
    let pictures = c.args.pictures.now in
    let way = c.args.way in
    let i = c.loop-picture.picture-index in
    let previous = c.loop-picture.previous in
    let bytes = c.behind_number-rest.result.now in
    let out0 = g.K.Sink.taken c.args.out.now in
    let out = g.K.Sink.taken c.loop-picture.out in
    let all : List ℕ = units_behind c.args.previous.now (map (moved_on way) pictures) in
    let piece : List ℕ = unit c.code.result previous (numbered ((c.number_in.result + way) % 2 ^ 32) bytes) in
    let rest : List ℕ = units_behind (17 + length bytes) (map (moved_on way) (drop (i + 1) pictures)) in
    part_written all piece rest out0 out (g.K.Sink.taken c.put_numbered.new.out)
    (left_as all _ (piece ++ rest) out0 out c.loop-picture.invariant.written
    (next_unit way pictures i c.picture-item.result previous c.code.result c.number_in.result (17 + length bytes) bytes c.payload-payload.result.now c.loop-picture-test.true c.picture-item.is
    c.payload-payload.ensures.value c.code.ensures c.number_in.ensures c.behind_number-rest.ensures.value refl))
    c.put_numbered.ensures.front

pub loop-picture-preserved : goal.loop-picture-preserved
loop-picture-preserved g c =
    let pictures = c.args.pictures.now in
    let way = c.args.way in
    let i = c.loop-picture.picture-index in
    let p = c.picture-item.result in
    let previous = c.loop-picture.previous in
    let next = c.numbered_length.result in
    let bytes = c.behind_number-rest.result.now in
    let out0 = g.K.Sink.taken c.args.out.now in
    let out = g.K.Sink.taken c.loop-picture.out in
    let all : List ℕ = units_behind c.args.previous.now (map (moved_on way) pictures) in
    let piece : List ℕ = unit c.code.result previous (numbered ((c.number_in.result + way) % 2 ^ 32) bytes) in
    let later : List PictureText = map (moved_on way) (drop (i + 1) pictures) in
    record {
      written = piece_written all piece (units_behind next later) out0 out (g.K.Sink.taken c.put_numbered.new.out)
          (left_as all _ (piece ++ units_behind next later) out0 out c.loop-picture.invariant.written
          (next_unit way pictures i p previous c.code.result c.number_in.result next bytes c.payload-payload.result.now c.loop-picture-test.true c.picture-item.is
          c.payload-payload.ensures.value c.code.ensures c.number_in.ensures c.behind_number-rest.ensures.value c.numbered_length.ensures))
          c.in_ok-put_numbered.ensures.all;
      last = c.loop-picture.invariant.last ∙ length_left way pictures i p previous c.loop-picture-test.true c.picture-item.is
          ∙ ap (λ n. length_behind n later) (next_length way p next bytes c.payload-payload.result.now c.payload-payload.ensures.value c.behind_number-rest.ensures.value c.numbered_length.ensures);
      count = omega (arith, c.loop-picture.invariant.count, c.put_numbered.ensures.count);
    }

pub returns-clause-all : goal.returns-clause-all
returns-clause-all g c =
    nothing_left (units_behind c.args.previous.now (map (moved_on c.args.way) c.args.pictures.now)) (g.K.Sink.taken c.args.out.now) (g.K.Sink.taken c.loop-picture.out)
    (left_as _ _ [] (g.K.Sink.taken c.args.out.now) (g.K.Sink.taken c.loop-picture.out) c.loop-picture.invariant.written
    (no_unit_left c.args.way c.args.pictures.now c.loop-picture.picture-index c.loop-picture.previous c.loop-picture-test.false))

pub returns-clause-last : goal.returns-clause-last
returns-clause-last g c =
    sym (c.loop-picture.invariant.last ∙ no_length_left c.args.way c.args.pictures.now c.loop-picture.picture-index c.loop-picture.previous c.loop-picture-test.false)
