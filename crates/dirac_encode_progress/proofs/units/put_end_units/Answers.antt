use Rattle.std.proofs.Common.{◌≡◌, ◌+◌, ℕ, List, length, subst, arith}
use Rattle.std.specs.Io.KnownBytes.{Appends}
use Rattle.std.proofs.KnownBytes.{Appends-trans}
use Rattle.std.proofs.lemmas.Result.{on_ok_weaker}
use Rattle.dirac_io.specs.Writing.{AppendsFront}
use Rattle.dirac_units.proofs.Appended.{behind_front, front_then}
use Rattle.dirac_encode_laws.specs.Stream.{end_unit, header_length, header_unit, unit}
use Rattle.dirac_encode_progress.proofs.Stepping.{header_fits}
use Rattle.dirac_encode_progress.proofs.units.put_end_units.Goals as goal

pub put_unit-requires : goal.put_unit-requires
put_unit-requires g c = header_fits c.args.settings.now c.args.header.now c.requires

pub returns-in_err-done-clause-front : goal.returns-in_err-done-clause-front
returns-in_err-done-clause-front g c =
    let t = c.args.settings.now in
    let out = g.K.Sink.taken c.args.out.now in
    let mid = g.K.Sink.taken c.put_unit.new.out in
    let none : c.args.count ≡ 0 = omega (arith, c.if-count-gt0.false) in
    rw none (front_then out mid (header_unit t 0) (end_unit (header_length t)) (subst (λ (h : List ℕ). AppendsFront out mid (unit 0x00 0 h)) c.requires c.put_unit.ensures.front))

pub returns : goal.returns
returns g c =
    let t = c.args.settings.now in
    let out = g.K.Sink.taken c.args.out.now in
    let mid = g.K.Sink.taken c.put_unit.new.out in
    let out' = g.K.Sink.taken c.put_end-2.new.out in
    let none : c.args.count ≡ 0 = omega (arith, c.if-count-gt0.false) in
    let so : Appends out mid (header_unit t 0) = subst (λ (h : List ℕ). Appends out mid (unit 0x00 0 h)) c.requires (c.put_unit.ensures.all c.in_ok-done.ensures.all) in
    record {
      all = on_ok_weaker c.done-3.result
          (λ all. rw none (Appends-trans out mid out' (header_unit t 0) (end_unit (header_length t)) so (subst (λ (h : List ℕ). Appends mid out' (end_unit (13 + length h))) c.requires (c.put_end-2.ensures.all all))))
          c.done-3.ensures.all;
      front = rw none (behind_front out mid out' (header_unit t 0) (end_unit (header_length t)) so (subst (λ (h : List ℕ). AppendsFront mid out' (end_unit (13 + length h))) c.requires c.put_end-2.ensures.front));
      failed = λ failed. omega (arith, c.put_end-2.ensures.failed (c.done-3.ensures.failed failed));
      count = omega arith;
    }

pub overflow_cast-header : goal.overflow_cast-header
overflow_cast-header g c = omega (arith, header_fits c.args.settings.now c.args.header.now c.requires)

pub overflow_add-header : goal.overflow_add-header
overflow_add-header g c = omega (arith, header_fits c.args.settings.now c.args.header.now c.requires)
