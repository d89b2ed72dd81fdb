use Rattle.std.proofs.Common.{ap, sym, subst, ◌∙◌, false}
use Rattle.circular_buffer.specs.Buffer.{Buffer}
use Rattle.dirac_common.specs.declared.picture.Picture.{Picture}
use Rattle.dirac_plan.specs.Waiting.{IsPlanning}
use Rattle.dirac_plan.proofs.Planners.{begun_is}
use Rattle.dirac_plan.proofs.planner.Planner.try_new.Goals as goal

pub invariant_of-result : goal.invariant_of-result
invariant_of-result c =
    let s = c.args.settings.now in
    let is = c.in_ok-with_capacity.ensures in
    (ap (λ (b : Buffer Picture). b.capacity) is ∙ c.waiting_places.ensures, subst (λ (b : Buffer Picture). IsPlanning s 0 0 false b.items) (sym is) (begun_is s c.requires))
