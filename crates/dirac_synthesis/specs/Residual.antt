-- From the quantised subbands of a plane to its residual, and from that and what is predicted to its samples.
use Rattle.std.specs.Prelude.{◌≡◌, ℕ, zero, suc, ℤ, ◌+◌, ◌-◌, ◌*◌, ◌+ℤ◌, List, [], map, Option, None, Some, slice_get}
use Rattle.std.specs.List.{All}
use Rattle.std.specs.Simd.Lanes.{zip2}
use Rattle.dirac_common.specs.declared.formats.Kind.{Kind}
use Rattle.dirac_common.specs.declared.formats.Kind.TheVariants.{Intra, Inter}
pub use Rattle.dirac_common.specs.Samples.{clip}
use Rattle.dirac_common.specs.Table.{Table, table_at, table_of}
use Rattle.dirac_bands.specs.DcSum.{dc_sum}
use Rattle.dirac_bands.specs.Geometry.{level_of}
use Rattle.dirac_parameters.specs.Counts.{counts_at}
use Rattle.dirac_parameters.specs.declared.transform.Transform.{Transform}
use Rattle.dirac_coeffs.specs.declared.layout.CodedBand.{CodedBand}
use Rattle.dirac_lift.specs.Level.{level}
pub use Rattle.dirac_synthesis.specs.Codeblocks.{restored_band}

-- the coefficients of a band that may be missing
abbrev pub restored_among : Kind → ℕ × ℕ → Option CodedBand → Table
restored_among kind counts None = record { width = 0; height = 0; values = [] }
restored_among kind counts (Some band) = restored_band kind counts band

-- those of band n of a plane: LL is band 0, HL, LH and HH of level n + 1 are bands 3n + 1, 3n + 2 and 3n + 3
abbrev pub restored_at : Transform → Kind → List CodedBand → ℕ → Table
restored_at t kind bands n = restored_among kind (counts_at t.counts (level_of n)) (slice_get bands n)

-- the LL band of level 0: an intra picture codes its differences from its predictions
abbrev pub summed : Kind → Table → Table
summed Intra t = dc_sum t
summed Inter t = t

-- the LL band after the synthesis of the first levels
unfoldable pub after_levels : Transform → Kind → List CodedBand → ℕ → Table
after_levels t kind bands zero = summed kind (restored_at t kind bands 0)
after_levels t kind bands (suc n) =
    level t.wavelet (after_levels t kind bands n) (restored_at t kind bands (3 * n + 1))
    (restored_at t kind bands (3 * n + 2)) (restored_at t kind bands (3 * n + 3))

-- the first columns and rows of a table
abbrev pub cut : ℕ → ℕ → Table → Table
cut width height t = table_of width height (table_at t)

-- the first columns of some rows of a table, from one on
abbrev pub part_from : ℕ → ℕ → ℕ → Table → Table
part_from first width height t = table_of width height (λ x y. table_at t x (first + y))

-- rows from .. to of a table
abbrev pub rows_between : ℕ → ℕ → Table → Table
rows_between from to t = part_from from t.width (to - from) t

-- the residual of a plane of this size, from its bands
abbrev pub residual : Transform → Kind → List CodedBand → ℕ → ℕ → Table
residual t kind bands width height = cut width height (after_levels t kind bands t.depth)

-- the plane of these values, clipped
abbrev pub clipped : Table → Table
clipped t = record { width = t.width; height = t.height; values = map clip t.values }

-- values and others of the same places, summed
abbrev pub summed_with : List ℤ → List ℤ → List ℤ
summed_with values others = zip2 (λ v other. v +ℤ other) values others

-- a residual plus what is predicted, by rows
abbrev pub with_prediction : Table → List ℤ → Table
with_prediction t predicted = record { width = t.width; height = t.height; values = summed_with t.values predicted }

-- samples are from -128 to 127: clipping keeps them
abbrev pub AreSamples : List ℤ → Type 0
AreSamples xs = All (λ v. clip v ≡ v) xs
