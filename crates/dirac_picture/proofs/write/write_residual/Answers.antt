use Rattle.dirac_picture.proofs.Apart.{residual_apart}
use Rattle.dirac_picture.proofs.write.write_residual.Goals as goal

pub returns : goal.returns
returns c =
    residual_apart c.args.sequence.now c.args.residual.now c.args.texts.now c.args.w.now c.write_transform.new.w c.write_texts.new.w c.requires.written c.requires.texts c.in_ok-write_transform.ensures.exact c.in_ok-write_texts.ensures
