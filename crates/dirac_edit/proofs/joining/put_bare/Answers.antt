use Rattle.std.proofs.Common.{◌≡◌, ◌∙◌, ◌+◌, ℕ, List, ap, arith, length, subst, sym}
use Rattle.std.specs.Io.KnownBytes.{Appends}
use Rattle.std.proofs.KnownBytes.{Appends-trans}
use Rattle.std.proofs.lemmas.Result.{on_ok_weaker}
use Rattle.dirac_io.specs.Writing.{AppendsFront}
use Rattle.dirac_common.specs.declared.codes.TheConstants.{SEQUENCE_HEADER}
use Rattle.dirac_units.proofs.Appended.{behind_front, front_then}
use Rattle.dirac_encode_laws.specs.Stream.{end_unit, unit}
use Rattle.dirac_edit.proofs.Numbered.{bare_is}
use Rattle.dirac_edit.proofs.joining.put_bare.Goals as goal

pub returns-in_err-done-clause-front : goal.returns-in_err-done-clause-front
returns-in_err-done-clause-front g c =
    let s = c.in-Some.sequence.now in
    let out = g.K.Sink.taken c.args.out.now in
    let mid = g.K.Sink.taken c.put_unit.new.out in
    subst (λ (bs : List ℕ). AppendsFront out mid bs) (sym (bare_is c.args.sequences.now s (sym c.in-Some.ensures.value)))
    (front_then out mid (unit SEQUENCE_HEADER 0 s.header) (end_unit (13 + length s.header))
    (subst (λ (bs : List ℕ). AppendsFront out mid (unit SEQUENCE_HEADER 0 bs)) c.header-header.ensures.value c.put_unit.ensures.front))

pub returns : goal.returns
returns g c =
    let s = c.in-Some.sequence.now in
    let out = g.K.Sink.taken c.args.out.now in
    let mid = g.K.Sink.taken c.put_unit.new.out in
    let out' = g.K.Sink.taken c.put_end-2.new.out in
    let first : List ℕ = unit SEQUENCE_HEADER 0 s.header in
    let rest : List ℕ = end_unit (13 + length s.header) in
    let is = bare_is c.args.sequences.now s (sym c.in-Some.ensures.value) in
    let so : Appends out mid first = subst (λ (bs : List ℕ). Appends out mid (unit SEQUENCE_HEADER 0 bs)) c.header-header.ensures.value (c.put_unit.ensures.all c.in_ok-done.ensures.all) in
    let behind : c.unit_length.result ≡ 13 + length s.header = c.unit_length.ensures ∙ ap (λ bs. 13 + length bs) c.header-header.ensures.value in
    record {
      all = on_ok_weaker c.done-3.result
          (λ all. subst (λ (bs : List ℕ). Appends out out' bs) (sym is)
          (Appends-trans out mid out' first rest so (subst (λ (n : ℕ). Appends mid out' (end_unit n)) behind (c.put_end-2.ensures.all all))))
          c.done-3.ensures.all;
      front = subst (λ (bs : List ℕ). AppendsFront out out' bs) (sym is)
          (behind_front out mid out' first rest so (subst (λ (n : ℕ). AppendsFront mid out' (end_unit n)) behind c.put_end-2.ensures.front));
      failed = λ failed. omega (arith, c.put_end-2.ensures.failed (c.done-3.ensures.failed failed));
      count = omega arith;
    }
