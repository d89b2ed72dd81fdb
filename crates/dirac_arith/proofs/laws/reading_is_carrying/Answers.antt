use Rattle.dirac_arith.proofs.Carrieds.{decision_is_read, number_is_read, long_number_is_refused, signed_number_is_read, long_signed_is_refused, ones_read_to_nothing}
use Rattle.dirac_arith.proofs.laws.reading_is_carrying.Goals as goal

pub returns : goal.returns
returns c =
    record {
      decision = decision_is_read;
      number = number_is_read;
      long = long_number_is_refused;
      signed = signed_number_is_read;
      long_signed = long_signed_is_refused;
      ones = ones_read_to_nothing;
    }
