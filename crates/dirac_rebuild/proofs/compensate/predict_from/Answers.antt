use Rattle.std.proofs.Common.{◌≡◌, ◌∙◌, ap, false, true, IsSome, subst, refl}
use Rattle.std.specs.Option.{option_copied}
use Rattle.dirac_content.proofs.Covering.{lent_size, up_size}
use Rattle.dirac_rebuild.proofs.compensate.predict_from.Goals as goal

pub predict_with-requires-clause-first : goal.predict_with-requires-clause-first
predict_with-requires-clause-first c =
    up_size c.args.moved.now.sequence.now c.args.first.now c.args.component c.plane.result.now c.requires.first (c.plane.ensures ∙ c.in_ok-first.ensures)

pub predict_with-requires-clause-second : goal.predict_with-requires-clause-second
predict_with-requires-clause-second c u e = absurd cc

pub predict_with-requires-clause-two : goal.predict_with-requires-clause-two
predict_with-requires-clause-two c two = let none : false ≡ true = subst IsSome c.in-None.is (c.requires.two two) in absurd cc

pub up_of_reference-requires-in-Some-clause-reference : goal.up_of_reference-requires-in-Some-clause-reference
up_of_reference-requires-in-Some-clause-reference c = c.requires.second c.in-Some.second.now (ap option_copied c.in-Some.is)

pub predict_with-requires-in-Some-clause-first : goal.predict_with-requires-in-Some-clause-first
predict_with-requires-in-Some-clause-first c =
    up_size c.args.moved.now.sequence.now c.args.first.now c.args.component c.plane-in-Some.result.now c.requires.first (c.plane-in-Some.ensures ∙ c.in_ok-first.ensures)

pub predict_with-requires-in-Some-clause-second : goal.predict_with-requires-in-Some-clause-second
predict_with-requires-in-Some-clause-second c x e =
    lent_size c.args.moved.now.sequence.now c.in-Some.second.now c.args.component c.plane-in-Some-2.result.now x
    (c.requires.second c.in-Some.second.now (ap option_copied c.in-Some.is)) (c.plane-in-Some-2.ensures ∙ c.in_ok-second-in-Some.ensures) e

pub predict_with-requires-in-Some-clause-two : goal.predict_with-requires-in-Some-clause-two
predict_with-requires-in-Some-clause-two c two = refl
