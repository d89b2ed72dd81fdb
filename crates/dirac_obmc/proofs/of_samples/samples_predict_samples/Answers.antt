use Rattle.dirac_obmc.proofs.SamplesPredicted.{planes_predicted, samples_predicted}
use Rattle.dirac_obmc.proofs.of_samples.samples_predict_samples.Goals as goal

pub returns-clause-samples : goal.returns-clause-samples
returns-clause-samples c = samples_predicted

pub returns-clause-planes : goal.returns-clause-planes
returns-clause-planes c = planes_predicted
