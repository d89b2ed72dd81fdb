use Rattle.dirac_decide.specs.Best.{IsBestSplit}
use Rattle.dirac_decide.specs.Given.{deciding_of}
use Rattle.dirac_decide.proofs.Gathered.{answers_more, no_answers}
use Rattle.dirac_decide.proofs.superblock.decide_row.Goals as goal

pub loop-sx-init : goal.loop-sx-init
loop-sx-init c = (
  no_answers (λ sx. IsBestSplit (deciding_of c.args.inputs.now) sx c.args.sy) c.new-row.result.items c.new-row.ensures.items,
  c.in_ok-undivided.ensures,
  c.in_ok-quarters.ensures,
  c.in_ok-sixteenths.ensures,
)

pub loop-sx-preserved : goal.loop-sx-preserved
loop-sx-preserved c = (
  answers_more (λ sx. IsBestSplit (deciding_of c.args.inputs.now) sx c.args.sy) c.loop-sx.sx c.loop-sx.row.items c.push.new.self.items c.in_ok-best.best c.loop-sx.invariant.0 c.in_ok-best.ensures.best c.in_ok-push.ensures.items,
  c.decide_superblock.ensures.undivided,
  c.decide_superblock.ensures.quarters,
  c.decide_superblock.ensures.sixteenths,
)
