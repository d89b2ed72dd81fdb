-- From the values of a plane, samples or what a prediction leaves of them, to its quantised subbands.
use Rattle.std.specs.Prelude.{ℕ, zero, suc, ◌-◌, ◌-ℤ◌, List, [], ◌∷◌, ◌++◌, min}
use Rattle.dirac_common.specs.declared.formats.Kind.{Kind}
use Rattle.dirac_common.specs.declared.formats.Kind.TheVariants.{Intra, Inter}
use Rattle.dirac_common.specs.Table.{Table, table_at, table_of}
use Rattle.dirac_bands.specs.DcSum.{dc_prediction}
use Rattle.dirac_bands.specs.Geometry.{level_of, padded_size}
use Rattle.dirac_bands.specs.Interleaving.{band_of}
use Rattle.dirac_parameters.specs.Counts.{counts_at}
use Rattle.dirac_parameters.specs.declared.transform.Transform.{Transform}
use Rattle.dirac_coeffs.specs.declared.layout.CodedBand.{CodedBand}
use Rattle.dirac_lift.specs.Level.{analysed}
pub use Rattle.dirac_analysis.specs.Coded.{coded}

-- a plane padded up to multiples of 2 ^ depth: the last sample of each row again, then the last row again
abbrev pub padded : ℕ → Table → Table
padded depth t =
    table_of (padded_size t.width depth) (padded_size t.height depth)
    (λ x y. table_at t (min x (t.width - 1)) (min y (t.height - 1)))

-- a table less the predictions of its values
abbrev pub differences : Table → Table
differences t = table_of t.width t.height (λ x y. table_at t x y -ℤ dc_prediction t x y)

-- HL, LH and HH of an analysed level
abbrev pub coded_level : ℕ × ℕ → ℕ → ℕ → Table → List CodedBand
coded_level counts finer index t =
    coded counts finer index (band_of t 1 0)
    ∷ coded counts finer index (band_of t 0 1)
    ∷ coded counts finer index (band_of t 1 1)
    ∷ []

-- the last LL band coded: an intra picture's at index 0, less its predictions
abbrev pub coded_lowest : Kind → ℕ × ℕ → ℕ → ℕ → Table → CodedBand
coded_lowest Intra counts finer index t = coded counts finer 0 (differences t)
coded_lowest Inter counts finer index t = coded counts finer index t

-- the subbands of a table that is analysed so often: its LL band is analysed in turn
unfoldable pub coded_bands : Kind → Transform → ℕ → ℕ → Table → ℕ → List CodedBand
coded_bands kind transform finer index t zero = coded_lowest kind (counts_at transform.counts 0) finer index t ∷ []
coded_bands kind transform finer index t (suc depth) =
    coded_bands kind transform finer index (band_of (analysed transform.wavelet t) 0 0) depth
    ++ coded_level (counts_at transform.counts (suc depth)) finer index (analysed transform.wavelet t)

-- the subbands of a plane at this index, flat codeblocks at one that is lower by `finer`
abbrev pub plane_bands : Kind → Transform → ℕ → ℕ → Table → List CodedBand
plane_bands kind transform finer index t =
    coded_bands kind transform finer index (padded transform.depth t) transform.depth

-- the LL band of a table that is analysed so often
unfoldable pub lowest_after : ℕ → Table → ℕ → Table
lowest_after wavelet t zero = t
lowest_after wavelet t (suc depth) = lowest_after wavelet (band_of (analysed wavelet t) 0 0) depth

-- HL, LH and HH of an analysed level
abbrev pub level_bands : Table → List Table
level_bands t = band_of t 1 0 ∷ band_of t 0 1 ∷ band_of t 1 1 ∷ []

-- its other bands, those of the lowest level first
unfoldable pub higher_bands : ℕ → Table → ℕ → List Table
higher_bands wavelet t zero = []
higher_bands wavelet t (suc depth) =
    higher_bands wavelet (band_of (analysed wavelet t) 0 0) depth ++ level_bands (analysed wavelet t)

-- an analysed plane: its LL band as it is coded, and its other bands
pub record Analysis : Type 0 where
  pub lowest : Table
  pub higher : List Table

-- LL as it is coded: an intra picture's less its predictions
abbrev pub as_coded : Kind → Table → Table
as_coded Intra t = differences t
as_coded Inter t = t

-- a table that is analysed so often, before it is quantised
abbrev pub analysis_of : Kind → ℕ → Table → ℕ → Analysis
analysis_of kind wavelet t depth =
    record { lowest = as_coded kind (lowest_after wavelet t depth); higher = higher_bands wavelet t depth }

-- a plane before it is quantised
abbrev pub plane_analysis : Kind → Transform → Table → Analysis
plane_analysis kind transform t = analysis_of kind transform.wavelet (padded transform.depth t) transform.depth

-- the index of LL: an intra picture's is 0
abbrev pub lowest_index : Kind → ℕ → ℕ
lowest_index Intra index = 0
lowest_index Inter index = index

-- the bands of a plane from band n on, coded
abbrev pub coded_from : List (ℕ × ℕ) → ℕ → ℕ → ℕ → List Table → List CodedBand
coded_from counts finer index n [] = []
coded_from counts finer index n (t ∷ ts) =
    coded (counts_at counts (level_of n)) finer index t ∷ coded_from counts finer index (suc n) ts

-- the subbands of an analysed plane at this index
abbrev pub quantised : Kind → Transform → ℕ → ℕ → Analysis → List CodedBand
quantised kind transform finer index a =
    coded (counts_at transform.counts 0) finer (lowest_index kind index) a.lowest
    ∷ coded_from transform.counts finer index 1 a.higher
