-- A plane that can be analysed, and one less what is predicted for it.
use Rattle.std.proofs.Common.{◌≡◌, ◌≤◌, ℤ, pos, negsuc, List, get_or, subst, sym, arith}
use Rattle.std.proofs.lemmas.Int.{ints}
use Rattle.std.specs.Prelude.{unsigned_abs}
use Rattle.dirac_common.specs.declared.formats.Kind.{Kind}
use Rattle.dirac_common.specs.Table.{Table}
use Rattle.dirac_parameters.specs.declared.transform.Transform.{Transform}
use Rattle.dirac_analysis.specs.Analysis.{Analysis}
use Rattle.dirac_analysis.specs.Fits.{AreDifferences}
use Rattle.dirac_upconvert.specs.HalfSamples.{IsSample}
use Rattle.dirac_encode_planes.specs.Analyses.{IsAnalysed}
use Rattle.dirac_encode_planes.specs.Predictions.{IsCodablePlane, IsPredictedBy, less_values}

sample_small : (v : ℤ) → IsSample v → unsigned_abs v ≤ 255
sample_small (pos n) is = omega (arith, ints)
sample_small (negsuc n) is = omega (arith, ints)

-- samples are no larger than differences of samples
pub codable_small : (plane : Table) → IsCodablePlane plane → AreDifferences plane.values
codable_small plane is k d l = sample_small (get_or plane.values k d) (is.samples k d l)

-- what is left of a plane is as small as asked
pub left_small : (plane left : Table) (values : List ℤ) → IsPredictedBy plane values → left ≡ less_values plane values
    → AreDifferences left.values
left_small plane left values is e = subst (λ (y : Table). AreDifferences y.values) (sym e) is.left

-- a plane that is the same is analysed the same
pub analysed_same : (x : Transform) (kind : Kind) (plane other : Table) (a : Analysis) → plane ≡ other
    → IsAnalysed x kind plane a → IsAnalysed x kind other a
analysed_same x kind plane other a e is = subst (λ (y : Table). IsAnalysed x kind y a) e is
