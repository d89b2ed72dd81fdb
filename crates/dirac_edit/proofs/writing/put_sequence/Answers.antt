use Rattle.std.proofs.Common.{◌≡◌, ◌∙◌, ℕ, List, ◌+◌, ap, arith, length, subst}
use Rattle.std.specs.Io.KnownBytes.{Appends}
use Rattle.std.proofs.KnownBytes.{Appends-trans}
use Rattle.std.proofs.lemmas.Result.{on_ok_weaker}
use Rattle.dirac_io.specs.Writing.{AppendsFront}
use Rattle.dirac_common.specs.declared.codes.TheConstants.{SEQUENCE_HEADER}
use Rattle.dirac_units.proofs.Appended.{behind_front, front_then}
use Rattle.dirac_encode_laws.specs.Stream.{unit}
use Rattle.dirac_edit_laws.specs.Units.{pictures_bytes}
use Rattle.dirac_edit.proofs.writing.put_sequence.Goals as goal

pub returns-in_err-done-clause-front : goal.returns-in_err-done-clause-front
returns-in_err-done-clause-front g c =
    let s = c.args.sequence.now in
    let out = g.K.Sink.taken c.args.out.now in
    let mid = g.K.Sink.taken c.put_unit.new.out in
    front_then out mid (unit SEQUENCE_HEADER c.args.previous s.header) (pictures_bytes (13 + length s.header) s.pictures)
    (subst (λ (bs : List ℕ). AppendsFront out mid (unit SEQUENCE_HEADER c.args.previous bs)) c.header-header.ensures.value c.put_unit.ensures.front)

pub returns : goal.returns
returns g c =
    let s = c.args.sequence.now in
    let out = g.K.Sink.taken c.args.out.now in
    let mid = g.K.Sink.taken c.put_unit.new.out in
    let out' = g.K.Sink.taken c.put_pictures.new.out in
    let first : List ℕ = unit SEQUENCE_HEADER c.args.previous s.header in
    let rest : List ℕ = pictures_bytes (13 + length s.header) s.pictures in
    let so : Appends out mid first =
    subst (λ (bs : List ℕ). Appends out mid (unit SEQUENCE_HEADER c.args.previous bs)) c.header-header.ensures.value (c.put_unit.ensures.all c.in_ok-done.ensures.all) in
    let behind : c.unit_length.result ≡ 13 + length s.header = c.unit_length.ensures ∙ ap (λ bs. 13 + length bs) c.header-header.ensures.value in
    let text : pictures_bytes c.unit_length.result c.pictures.result.now ≡ rest = ap (λ n. pictures_bytes n c.pictures.result.now) behind ∙ ap (pictures_bytes (13 + length s.header)) c.pictures.ensures in
    record {
      all = on_ok_weaker c.put_pictures.result (λ all. Appends-trans out mid out' first rest so (subst (λ (bs : List ℕ). Appends mid out' bs) text all)) c.put_pictures.ensures.all;
      front = behind_front out mid out' first rest so (subst (λ (bs : List ℕ). AppendsFront mid out' bs) text c.put_pictures.ensures.front);
      failed = λ failed. omega (arith, c.put_pictures.ensures.failed failed);
      count = omega arith;
    }
