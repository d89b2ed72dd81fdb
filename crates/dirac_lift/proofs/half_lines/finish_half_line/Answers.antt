use Rattle.dirac_lift.proofs.half_lines.finish_half_line.Goals as goal

pub returns : goal.returns
returns c whole a = c.put_line.ensures _ (c.synth_half_line.ensures.value whole a)
