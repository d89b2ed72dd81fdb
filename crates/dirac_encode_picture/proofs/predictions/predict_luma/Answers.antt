use Rattle.dirac_encode_picture.proofs.Lending.{lent_luma}
use Rattle.dirac_encode_picture.proofs.predictions.predict_luma.Goals as goal

pub predict_with-requires-in-Some-clause-second : goal.predict_with-requires-in-Some-clause-second
predict_with-requires-in-Some-clause-second c x e =
    lent_luma c.args.from.now.moved.sequence.now c.args.from.now.references.now c.in-Some.second x c.requires.lent c.in-Some.is e
