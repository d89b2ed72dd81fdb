use Rattle.std.proofs.Common.{◌≡◌, ◌++◌, ℕ, List, arith, subst}
use Rattle.std.specs.Io.KnownBytes.{Appends}
use Rattle.std.proofs.KnownBytes.{Appends-trans}
use Rattle.std.proofs.lemmas.Result.{on_ok_weaker}
use Rattle.dirac_io.specs.Writing.{AppendsFront}
use Rattle.dirac_units.proofs.Appended.{behind_front, front_then}
use Rattle.dirac_encode_laws.specs.Stream.{unit}
use Rattle.dirac_edit.proofs.Numbered.{numbered, numbered_unit}
use Rattle.dirac_edit.proofs.joining.put_numbered.Goals as goal

pub returns-in_err-put_both-clause-front : goal.returns-in_err-put_both-clause-front
returns-in_err-put_both-clause-front g c =
    let out = g.K.Sink.taken c.args.out.now in
    let mid = g.K.Sink.taken c.put_both.new.out in
    subst (λ (bs : List ℕ). AppendsFront out mid bs)
    (numbered_unit c.args.code c.args.previous c.args.number c.numbered_length.result c.args.rest.now c.write_info-info.result c.to_be_bytes.result c.write_info-info.ensures.bytes c.numbered_length.ensures c.to_be_bytes.ensures)
    (front_then out mid (c.write_info-info.result ++ c.to_be_bytes.result) c.args.rest.now c.put_both.ensures.front)

pub returns : goal.returns
returns g c =
    let rest = c.args.rest.now in
    let out = g.K.Sink.taken c.args.out.now in
    let mid = g.K.Sink.taken c.put_both.new.out in
    let out' = g.K.Sink.taken c.put_all.new.sink in
    let first : List ℕ = c.write_info-info.result ++ c.to_be_bytes.result in
    let whole : first ++ rest ≡ unit c.args.code c.args.previous (numbered c.args.number rest) =
    numbered_unit c.args.code c.args.previous c.args.number c.numbered_length.result rest c.write_info-info.result c.to_be_bytes.result c.write_info-info.ensures.bytes c.numbered_length.ensures c.to_be_bytes.ensures in
    record {
      all = on_ok_weaker c.done.result
          (λ all. subst (λ (bs : List ℕ). Appends out out' bs) whole (Appends-trans out mid out' first rest c.in_ok-put_both.ensures.all (c.put_all.ensures.all all))) c.done.ensures.all;
      front = subst (λ (bs : List ℕ). AppendsFront out out' bs) whole (behind_front out mid out' first rest c.in_ok-put_both.ensures.all c.put_all.ensures.front);
      failed = λ failed. omega (arith, c.put_all.ensures.failed (c.done.ensures.failed failed));
      count = omega arith;
    }
