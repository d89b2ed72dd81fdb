use Rattle.dirac_arith.proofs.Spellings.{carries_one_truth}
use Rattle.dirac_arith.proofs.laws.block_carries_one_truth.Goals as goal

pub returns : goal.returns
returns c =
    record {
      any_length = carries_one_truth;
      equal_length = λ block common ds es context same. carries_one_truth block common ds es context;
    }
