use Rattle.dirac_plan_laws.proofs.Delivering.{near_delivered, plans_delivered}
use Rattle.dirac_plan_laws.proofs.Near.{plans_near}
use Rattle.dirac_plan_laws.proofs.laws.pictures_are_delivered.Goals as goal

pub returns-clause-near : goal.returns-clause-near
returns-clause-near c = plans_near

pub returns-clause-delivered : goal.returns-clause-delivered
returns-clause-delivered c = near_delivered c.least_leaves_first.ensures

pub returns-clause-plans : goal.returns-clause-plans
returns-clause-plans c = plans_delivered c.least_leaves_first.ensures
