use Rattle.std.proofs.Common.{rules, subst, sym}
use Rattle.dirac_content.specs.Content.{IsPicture}
use Rattle.dirac_rebuild.proofs.Pictures.{picture_fits}
use Rattle.dirac_synthesis.proofs.Maps.{ok_weaker}
use Rattle.dirac_slices.proofs.rebuild.rebuild_rows.Goals as goal

pub returns-in-None-clause-value : goal.returns-in-None-clause-value
returns-in-None-clause-value g c = search rules

pub returns-in-None-clause-fits : goal.returns-in-None-clause-fits
returns-in-None-clause-fits g c =
    ok_weaker c.intra_picture.result (λ p e. subst (IsPicture c.args.sequence.now) (sym e) (picture_fits c.args.sequence.now c.args.refs.now c.args.coded.now)) (returns-in-None-clause-value g c)

pub returns-in-Some-clause-value : goal.returns-in-Some-clause-value
returns-in-Some-clause-value g c = search rules

pub returns-in-Some-clause-fits : goal.returns-in-Some-clause-fits
returns-in-Some-clause-fits g c =
    ok_weaker c.inter_picture.result (λ p e. subst (IsPicture c.args.sequence.now) (sym e) (picture_fits c.args.sequence.now c.args.refs.now c.args.coded.now)) (returns-in-Some-clause-value g c)
