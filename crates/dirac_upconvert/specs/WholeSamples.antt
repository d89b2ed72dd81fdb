-- Samples of a table, in rows from a position on, and the table of what an upconverted plane holds.
-- Inner: for the proofs of this crate.
use Rattle.std.specs.Prelude.{◌≡◌, ℕ, ℤ, pos, ◌*◌, ◌/◌, ◌%◌, ◌^◌, ◌<◌, ◌+ℤ◌, List, length, slice_index_or}
use Rattle.dirac_common.specs.Table.{Table, clamped_at}
use Rattle.dirac_upconvert.specs.declared.plane.Samples.{Samples}
use Rattle.dirac_upconvert.specs.declared.plane.Samples.TheVariants.{Alone, Doubled}
use Rattle.dirac_upconvert.specs.HalfSamples.{half}
use Rattle.dirac_upconvert.specs.SubSamples.{Up, sub_sample}

-- the samples of a table's row y from column x on, at places clamped to the table
abbrev pub AreSamplesOfRow : Table → ℤ → ℤ → List ℤ → Type 0
AreSamplesOfRow t x y out =
    (k : ℕ) → k < length out → slice_index_or out k (pos 0) ≡ clamped_at t (x +ℤ pos k) y

-- the samples of a table's rows from column x of row y on, at clamped places: that many of each, row after row
abbrev pub AreSamplesOfRows : Table → ℤ → ℤ → ℕ → List ℤ → Type 0
AreSamplesOfRows t x y width out =
    (n : ℕ) → n < length out
    → slice_index_or out n (pos 0) ≡ clamped_at t (x +ℤ pos (n % width)) (y +ℤ pos (n / width))

-- the table of samples and half samples, of the samples that an upconverted plane holds with them or alone
abbrev pub all_in : Samples → Table
all_in (Doubled t) = t
all_in (Alone t) = half t

-- the samples of an upconverted plane from a position on, a whole sample apart, in rows of that many, row after row
abbrev pub AreSubSamplesByRows : Up → ℕ → ℤ → ℤ → ℕ → List ℤ → Type 0
AreSubSamplesByRows u precision x y width out =
    (n : ℕ) → n < length out → slice_index_or out n (pos 0)
    ≡ sub_sample u precision (x +ℤ pos (2 ^ precision * (n % width))) (y +ℤ pos (2 ^ precision * (n / width)))
