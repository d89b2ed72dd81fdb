-- What three neighbouring values predict, by its name.
use Rattle.std.specs.Prelude.{ℤ}
use Rattle.dirac_common.specs.Samples.{mean_of_three}
use Rattle.dirac_vectors.specs.declared.predictions.OfThree.{OfThree}
use Rattle.dirac_vectors.specs.declared.predictions.OfThree.TheVariants.{Median, Mean}
use Rattle.dirac_vectors.specs.Neighbours.{median}

-- the median of vector components, the mean of DC values
abbrev pub word_of : OfThree → ℤ → ℤ → ℤ → ℤ
word_of Median = median
word_of Mean = mean_of_three
