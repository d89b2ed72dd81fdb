use Rattle.std.proofs.Common.{◌≡◌, ◌∙◌, ℕ, List, ap, arith, refl, subst}
use Rattle.std.specs.Io.KnownBytes.{Appends}
use Rattle.std.proofs.KnownBytes.{Appends-trans}
use Rattle.dirac_io.specs.Writing.{AppendsFront}
use Rattle.dirac_units.specs.Writing.{info_bytes, info_for}
use Rattle.dirac_units.proofs.Appended.{behind_front, front_then}
use Rattle.dirac_units.proofs.write.put_unit.Goals as goal

pub returns-in-All : goal.returns-in-All
returns-in-All g c =
    let payload = c.args.payload.now in
    let info : List ℕ = info_bytes (info_for c.args.code c.args.previous payload) in
    let is : c.write_info-info.result ≡ info =
    c.write_info-info.ensures.bytes ∙ ap (λ (n : ℕ). info_bytes (record { code = c.args.code; next = n; previous = c.args.previous })) c.unit_length.ensures in
    let out = g.K.Sink.taken c.args.out.now in
    let mid = g.K.Sink.taken c.put_all.new.sink in
    let out' = g.K.Sink.taken c.put_all-in-All.new.sink in
    let so : Appends out mid info = subst (λ (l : List ℕ). Appends out mid l) is (c.in-All.ensures.all refl) in
    record {
      all = λ all. Appends-trans out mid out' info payload so (c.put_all-in-All.ensures.all all);
      front = behind_front out mid out' info payload so c.put_all-in-All.ensures.front;
      failed = λ failed. omega (arith, c.put_all-in-All.ensures.failed failed);
      count = omega arith;
    }

pub returns-in_default-clause-front : goal.returns-in_default-clause-front
returns-in_default-clause-front g c =
    let payload = c.args.payload.now in
    let info : List ℕ = info_bytes (info_for c.args.code c.args.previous payload) in
    let is : c.write_info-info.result ≡ info =
    c.write_info-info.ensures.bytes ∙ ap (λ (n : ℕ). info_bytes (record { code = c.args.code; next = n; previous = c.args.previous })) c.unit_length.ensures in
    let out = g.K.Sink.taken c.args.out.now in
    let mid = g.K.Sink.taken c.put_all.new.sink in
    front_then out mid info payload (subst (λ (l : List ℕ). AppendsFront out mid l) is c.put_all.ensures.front)
