use Rattle.dirac_encode_picture.proofs.Lending.{lent_picture}
use Rattle.dirac_encode_picture.proofs.predictions.predict_plane.Goals as goal

pub predict_from-requires-in-Some-clause-second : goal.predict_from-requires-in-Some-clause-second
predict_from-requires-in-Some-clause-second c x e =
    lent_picture c.args.from.now.moved.sequence.now c.args.from.now.references.now c.in-Some.second x c.requires.lent c.in-Some.is e
