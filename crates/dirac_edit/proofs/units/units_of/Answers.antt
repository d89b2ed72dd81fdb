use Rattle.std.proofs.Common.{List, subst, sym, arith}
use Rattle.dirac_units.specs.Cut.{UnitText}
use Rattle.dirac_edit.proofs.Beginning.{Completes, all_cut, fewer_left, none_cut, one_more_cut}
use Rattle.dirac_edit.proofs.units.units_of.Goals as goal

pub units-init : goal.units-init
units-init c = record {
  completes = subst (λ (us : List UnitText). Completes c.args.bytes.now us c.args.bytes.now) (sym c.new-units.ensures.items) (none_cut c.args.bytes.now);
  below = c.requires;
}

pub units-smaller : goal.units-smaller
units-smaller c = omega (arith, fewer_left c.units.bytes.now c.in-Some.unit c.in-Some.rest.now c.in-Some.ensures)

pub units-preserved : goal.units-preserved
units-preserved c = record {
  completes = subst (λ (us : List UnitText). Completes c.args.bytes.now us c.in-Some.rest.now) (sym c.in_ok-push.ensures.items)
      (one_more_cut c.args.bytes.now c.units.units.items c.units.bytes.now c.in-Some.unit c.in-Some.rest.now c.units.invariant.completes c.in-Some.ensures);
  below = omega (arith, c.units.invariant.below, fewer_left c.units.bytes.now c.in-Some.unit c.in-Some.rest.now c.in-Some.ensures);
}

pub returns : goal.returns
returns c = all_cut c.args.bytes.now c.units.units.items c.units.bytes.now c.units.invariant.completes c.in_default.ensures
