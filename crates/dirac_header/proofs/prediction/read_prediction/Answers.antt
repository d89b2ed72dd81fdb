use Rattle.dirac_bits.proofs.Given.{reads_spelled, spelled_reads}
use Rattle.dirac_header.specs.Prediction.{prediction}
use Rattle.dirac_header.proofs.prediction.read_prediction.Goals as goal

pub returns-clause-spelled : goal.returns-clause-spelled
returns-clause-spelled c =
    reads_spelled (prediction c.args.code c.args.chroma) c.args.r.now c.read_parameters.new.r c.read_parameters.result c.place-at.ensures.inside c.read_parameters.ensures.value

pub returns-clause-no_other_reading : goal.returns-clause-no_other_reading
returns-clause-no_other_reading c =
    spelled_reads (prediction c.args.code c.args.chroma) c.args.r.now c.read_parameters.new.r c.read_parameters.result c.read_parameters.ensures.value
