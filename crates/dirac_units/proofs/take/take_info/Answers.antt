use Rattle.std.proofs.Common.{◌≡◌, ◌∙◌, take, sym, refl, arith, subst, IfSome, Err, Some}
use Rattle.dirac_common.specs.declared.faults.Fault.{Fault}
use Rattle.dirac_units.specs.Cut.{front_of}
use Rattle.dirac_units.specs.Progress.{IsPartTaken}
use Rattle.dirac_units.proofs.Told.{told_end, told_part, told_part_of_info, told_part_of_refusal, told_refusal}
use Rattle.dirac_units.proofs.take.take_info.Goals as goal

pub returns-in-Ended-clause-no_unit : goal.returns-in-Ended-clause-no_unit
returns-in-Ended-clause-no_unit g c =
    let at = c.in-Ended.ensures.end c.in-Ended.n refl in (
      told_end c.args.unit_place (take c.in-Ended.n c.fill.new.buf) (g.S.Source.held c.args.source.now) (g.S.Source.held c.fill.new.source) c.end_in_header.result
          (c.in-Ended.ensures.part c.in-Ended.n refl) at c.end_in_header.ensures,
      λ e. at,
      told_part c.args.unit_place (take c.in-Ended.n c.fill.new.buf) (g.S.Source.held c.args.source.now) (g.S.Source.held c.fill.new.source) c.end_in_header.result
          (c.in-Ended.ensures.part c.in-Ended.n refl) c.end_in_header.ensures,
    )

pub returns-in-Err-clause-no_unit : goal.returns-in-Err-clause-no_unit
returns-in-Err-clause-no_unit g c = (
  subst (λ (fault : Fault). IfSome (g.S.Source.held c.args.source.now) (λ all. front_of c.args.unit_place all ≡ Err (Some fault))) (sym c.fault.ensures)
      (told_refusal c.args.unit_place c.fill.new.buf (g.S.Source.held c.args.source.now) (g.S.Source.held c.fill.new.source) c.in-Err.refusal
      (c.in-Whole.ensures.whole refl) (omega (arith, c.fill.ensures.size)) (sym c.read_info.ensures.read ∙ c.in-Err.is)),
  λ e. cc,
  subst (λ (fault : Fault). IfSome (g.S.Source.held c.args.source.now) (λ all. IsPartTaken c.args.unit_place (Some fault) all (g.S.Source.held c.fill.new.source))) (sym c.fault.ensures)
      (told_part_of_refusal c.args.unit_place c.fill.new.buf (g.S.Source.held c.args.source.now) (g.S.Source.held c.fill.new.source) c.in-Err.refusal
      (c.in-Whole.ensures.whole refl) (omega (arith, c.fill.ensures.size)) (sym c.read_info.ensures.read ∙ c.in-Err.is)),
)

pub returns-in-Failed-clause-no_unit : goal.returns-in-Failed-clause-no_unit
returns-in-Failed-clause-no_unit g c =
    let front = c.in-Failed.ensures.front refl in
    told_part_of_info c.args.unit_place c.fill.new.buf front.0 (g.S.Source.held c.args.source.now) (g.S.Source.held c.fill.new.source) (omega (arith, front.1)) (omega (arith, c.fill.ensures.size)) front.2
