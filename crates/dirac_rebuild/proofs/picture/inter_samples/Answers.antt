use Rattle.std.proofs.Common.{◌∙◌, ap}
use Rattle.std.specs.Option.{option_copied}
use Rattle.dirac_content.proofs.Covering.{lent_size, up_size}
use Rattle.dirac_rebuild.proofs.picture.inter_samples.Goals as goal

pub up_of_reference-requires-in-Some-clause-reference : goal.up_of_reference-requires-in-Some-clause-reference
up_of_reference-requires-in-Some-clause-reference c = c.requires.second c.in-Some.second.now (ap option_copied c.in-Some.is)

pub samples_with-requires-in-Some-clause-first : goal.samples_with-requires-in-Some-clause-first
samples_with-requires-in-Some-clause-first c =
    up_size c.args.moved.now.sequence.now c.args.first.now c.args.component c.plane-in-Some-2.result.now c.requires.first (c.plane-in-Some-2.ensures ∙ c.in_ok-first.ensures)

pub samples_with-requires-in-Some-clause-second : goal.samples_with-requires-in-Some-clause-second
samples_with-requires-in-Some-clause-second c x e =
    lent_size c.args.moved.now.sequence.now c.in-Some.second.now c.args.component c.plane-in-Some.result.now x
    (c.requires.second c.in-Some.second.now (ap option_copied c.in-Some.is)) (c.plane-in-Some.ensures ∙ c.in_ok-second-in-Some.ensures) e
