use Rattle.std.proofs.Common.{ap, refl, sym, ◌∙◌}
use Rattle.std.specs.Prelude.{option_map}
use Rattle.std.specs.Option.{option_copied}
use Rattle.dirac_common.specs.declared.picture.Picture.{Picture}
use Rattle.dirac_content.specs.Content.{plane_of, up_of}
use Rattle.dirac_synthesis.proofs.Maps.{ok_weaker}
use Rattle.dirac_slices.proofs.prepared.with_second.Goals as goal

pub returns-in-None-clause-residual : goal.returns-in-None-clause-residual
returns-in-None-clause-residual c = refl

pub returns-in-None-clause-up : goal.returns-in-None-clause-up
returns-in-None-clause-up c =
    sym (ap (λ o. option_map (λ (p : Picture). up_of (plane_of p c.args.component)) (option_copied o)) c.in-None.is)

pub with_up-requires-clause-sequence : goal.with_up-requires-clause-sequence
with_up-requires-clause-sequence c = c.requires.inter.sequence

pub with_up-requires-clause-reference : goal.with_up-requires-clause-reference
with_up-requires-clause-reference c = c.requires.inter.second c.in-Some.second.now (ap option_copied c.in-Some.is)

pub returns-in-Some-clause-residual : goal.returns-in-Some-clause-residual
returns-in-Some-clause-residual c = c.with_up.ensures.residual

pub returns-in-Some-clause-up : goal.returns-in-Some-clause-up
returns-in-Some-clause-up c =
    ok_weaker c.with_up.result
    (λ p e. e ∙ sym (ap (λ o. option_map (λ (q : Picture). up_of (plane_of q c.args.component)) (option_copied o)) c.in-Some.is)) c.with_up.ensures.up
