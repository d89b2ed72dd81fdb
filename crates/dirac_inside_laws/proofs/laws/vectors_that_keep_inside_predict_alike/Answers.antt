use Rattle.dirac_inside_laws.proofs.Positions.{positions_inside}
use Rattle.dirac_inside_laws.proofs.Predictions.{clamped_extends, planes_alike}
use Rattle.dirac_inside_laws.proofs.laws.vectors_that_keep_inside_predict_alike.Goals as goal

pub returns : goal.returns
returns c = record { positions = positions_inside; planes = planes_alike; clamped = clamped_extends }
