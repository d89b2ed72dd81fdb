use Rattle.std.proofs.Common.{◌≡◌, ◌∙◌, ◌-◌, ◌≤◌, sym, ap, refl, arith, Bool, ◌&&◌}
use Rattle.std.proofs.lemmas.Result.{err_from_is_err_and}
use Rattle.dirac_units.specs.Info.{fields_are_read, span_of}
use Rattle.dirac_units.proofs.Fronts.{info_read-lawful}
use Rattle.dirac_units.proofs.Told.{payload_fits, told_none, told_taken}
use Rattle.dirac_units.proofs.take.take_unit.Goals.{then-keep, else-keep}
use Rattle.dirac_units.proofs.take.take_unit.Goals as goal

pub returns-in_err-payload-clause-no_unit : goal.returns-in_err-payload-clause-no_unit
returns-in_err-payload-clause-no_unit g c =
    let p = err_from_is_err_and c.from_residual-in_err-payload.result c.from_residual-in_err-payload.ensures.1 in
    rw (p.1, p.2) (told_none c.in_err-payload.field-0.0 c.in_ok-info.info c.args.unit_place (g.S.Source.held c.args.source.now) (g.S.Source.held c.take_info.new.source)
    (g.S.Source.held c.take_payload.new.source) c.in_ok-info.ensures.info (rw c.span.ensures.span at c.in_err-payload.ensures.cut))

pub returns-clause-unit : goal.returns-clause-unit
returns-clause-unit g c =
    let info = c.in_ok-info.info in
    let kept : c.if-keep.kept ≡ (c.args.keep && fields_are_read info.code) =
    elim c.if-keep.branch [
      | then-keep w ↦ w.kept-is ∙ w.fields_are_read-kept.ensures ∙ sym (ap (λ (b : Bool). b && fields_are_read info.code) w.if-keep.true)
      | else-keep w ↦ w.kept-is ∙ w.if-keep.false ∙ sym (ap (λ (b : Bool). b && fields_are_read info.code) w.if-keep.false)
    ] in
    let long : 13 ≤ span_of info = omega arith in
    let payload = rw c.span.ensures.span at c.in_ok-payload.ensures.payload in
    record {
      index = refl;
      at = refl;
      lawful = info_read-lawful c.in_ok-info.ensures.info.0 info c.in_ok-info.ensures.info.2;
      short = omega (arith, payload_fits (span_of info - 13) c.if-keep.kept c.in_ok-payload.payload (g.S.Source.held c.take_info.new.source) (g.S.Source.held c.take_payload.new.source) payload, long);
      told = told_taken c.args.keep c.if-keep.kept (record { index = c.args.unit_place.index; at = c.args.unit_place.at; info = info; payload = c.in_ok-payload.payload }) c.args.unit_place
          (g.S.Source.held c.args.source.now) (g.S.Source.held c.take_info.new.source) (g.S.Source.held c.take_payload.new.source) c.in_ok-info.ensures.info payload
          long kept;
    }
