use Rattle.std.proofs.Common.{◌∙◌, None, Some, ap}
use Rattle.std.proofs.lemmas.Bool.{cond-false, cond-true}
use Rattle.dirac_edit.proofs.Going.{listed_more, none_open, open_here}
use Rattle.dirac_edit.proofs.open.first_open_in.Goals as goal

pub returns-then-branch : goal.returns-then-branch
returns-then-branch c =
    ap Some c.index.ensures
    ∙ open_here c.args.pictures.now c.loop-picture.picture-index c.picture-item.result c.loop-picture.refs c.loop-picture-test.true c.picture-item.is
    c.loop-picture.invariant (c.in_ok-is_open.ensures ∙ cond-true c.in_ok-is_open.field-0 None (Some c.is_open.new.refs) c.if-branch.true)

pub loop-picture-preserved : goal.loop-picture-preserved
loop-picture-preserved c =
    listed_more c.args.pictures.now c.loop-picture.picture-index c.picture-item.result c.loop-picture.refs c.is_open.new.refs c.loop-picture-test.true c.picture-item.is
    c.loop-picture.invariant (c.in_ok-is_open.ensures ∙ cond-false c.in_ok-is_open.field-0 None (Some c.is_open.new.refs) c.if-branch.false)

pub returns : goal.returns
returns c = none_open c.args.pictures.now c.loop-picture.picture-index c.loop-picture.refs c.loop-picture-test.false c.loop-picture.invariant
