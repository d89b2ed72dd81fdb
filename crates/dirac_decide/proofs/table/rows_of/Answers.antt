use Rattle.dirac_decide.specs.Best.{IsBestRow}
use Rattle.dirac_decide.specs.Given.{deciding_of}
use Rattle.dirac_decide.proofs.Gathered.{answers_more, no_answers}
use Rattle.dirac_decide.proofs.table.rows_of.Goals as goal

pub loop-sy-init : goal.loop-sy-init
loop-sy-init c = no_answers (λ r v. IsBestRow (deciding_of c.args.inputs.now) r v.items) c.new-rows.result.items c.new-rows.ensures.items

pub loop-sy-preserved : goal.loop-sy-preserved
loop-sy-preserved c =
    answers_more (λ r v. IsBestRow (deciding_of c.args.inputs.now) r v.items) c.loop-sy.sy c.loop-sy.rows.items c.push.new.self.items c.in_ok-row.row c.loop-sy.invariant c.in_ok-row.ensures c.in_ok-push.ensures.items
