use Rattle.std.proofs.Common.{◌≡◌, ◌∙◌, ℕ, List, ◌+◌, ap, arith, length, map, subst}
use Rattle.std.specs.Io.KnownBytes.{Appends}
use Rattle.std.proofs.KnownBytes.{Appends-trans}
use Rattle.std.proofs.lemmas.Result.{on_ok_weaker}
use Rattle.dirac_io.specs.Writing.{AppendsFront}
use Rattle.dirac_common.specs.declared.codes.TheConstants.{SEQUENCE_HEADER}
use Rattle.dirac_units.proofs.Appended.{behind_front, front_then}
use Rattle.dirac_encode_laws.specs.Stream.{unit}
use Rattle.dirac_edit_laws.specs.Texts.{PictureText}
use Rattle.dirac_edit.specs.Merged.{length_behind, moved_on, units_behind}
use Rattle.dirac_edit.proofs.joining.put_own.Goals as goal

pub returns-in_err-done-clause-front : goal.returns-in_err-done-clause-front
returns-in_err-done-clause-front g c =
    let s = c.args.sequence.now in
    let previous = c.args.previous.now in
    let out = g.K.Sink.taken c.args.out.now in
    let mid = g.K.Sink.taken c.put_unit.new.out in
    front_then out mid (unit SEQUENCE_HEADER previous s.header) (units_behind (13 + length s.header) (map (moved_on 0) s.pictures))
    (subst (λ (bs : List ℕ). AppendsFront out mid (unit SEQUENCE_HEADER previous bs)) c.header-header.ensures.value c.put_unit.ensures.front)

pub returns : goal.returns
returns g c =
    let s = c.args.sequence.now in
    let previous = c.args.previous.now in
    let out = g.K.Sink.taken c.args.out.now in
    let mid = g.K.Sink.taken c.put_unit.new.out in
    let out' = g.K.Sink.taken c.put_units.new.out in
    let later : ℕ → List PictureText → List ℕ = λ n ps. units_behind n (map (moved_on 0) ps) in
    let first : List ℕ = unit SEQUENCE_HEADER previous s.header in
    let rest : List ℕ = later (13 + length s.header) s.pictures in
    let so : Appends out mid first =
    subst (λ (bs : List ℕ). Appends out mid (unit SEQUENCE_HEADER previous bs)) c.header-header.ensures.value (c.put_unit.ensures.all c.in_ok-done.ensures.all) in
    let behind : c.unit_length.result ≡ 13 + length s.header = c.unit_length.ensures ∙ ap (λ bs. 13 + length bs) c.header-header.ensures.value in
    let text : later c.unit_length.result c.pictures.result.now ≡ rest = ap (λ n. later n c.pictures.result.now) behind ∙ ap (later (13 + length s.header)) c.pictures.ensures in
    record {
      all = on_ok_weaker c.put_units.result (λ all. Appends-trans out mid out' first rest so (subst (λ (bs : List ℕ). Appends mid out' bs) text all)) c.put_units.ensures.all;
      last = on_ok_weaker c.put_units.result
          (λ last. last ∙ ap (λ n. length_behind n (map (moved_on 0) c.pictures.result.now)) behind
          ∙ ap (λ (ps : List PictureText). length_behind (13 + length s.header) (map (moved_on 0) ps)) c.pictures.ensures)
          c.put_units.ensures.last;
      front = behind_front out mid out' first rest so (subst (λ (bs : List ℕ). AppendsFront mid out' bs) text c.put_units.ensures.front);
      failed = λ failed. omega (arith, c.put_units.ensures.failed failed);
      count = omega arith;
    }
