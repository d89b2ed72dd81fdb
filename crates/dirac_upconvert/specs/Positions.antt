-- Samples of a table from a position on, and rows of them.
use Rattle.std.specs.Prelude.{◌≡◌, ℕ, ℤ, pos, ◌+◌, ◌*◌, ◌/◌, ◌%◌, ◌^◌, ◌<◌, ◌≤◌, List, length, slice_index_or, ◌+ℤ◌}
use Rattle.std.specs.Prelude.{unsigned_abs}
use Rattle.dirac_common.specs.declared.limits.TheConstants.{LARGEST_SIDE}
use Rattle.dirac_common.specs.Table.{Table}
use Rattle.dirac_upconvert.specs.declared.rows.Position.{Position}
use Rattle.dirac_upconvert.specs.declared.rows.Sides.{Sides}
use Rattle.dirac_upconvert.specs.Phases.{place_in_row}
use Rattle.dirac_upconvert.specs.Rests.{AreRests}
use Rattle.dirac_upconvert.specs.SubSamples.{AreAlternateSubSamples, bilinear, rounded}

-- a position at most so many places across and down from the table's first one
abbrev pub IsPositionNear : ℕ → ℕ → Position → Type 0
IsPositionNear across down p = AreRests p.rests × (unsigned_abs p.across ≤ across) × (unsigned_abs p.down ≤ down)

-- the sample that lies so many columns and rows, each of two places, behind a position
abbrev pub sample_from : Table → Position → ℕ → ℕ → ℤ
sample_from t p columns rows =
    rounded (2 * p.rests.bits) (bilinear t (2 ^ p.rests.bits) (p.across +ℤ pos (2 * columns)) (p.down +ℤ pos (2 * rows))
    p.rests.right p.rests.below)

-- the samples of a position's row, from the position on, each two places behind the one before
abbrev pub AreSamplesFrom : Table → Position → List ℤ → Type 0
AreSamplesFrom t p out = AreAlternateSubSamples t p.rests.bits p.across p.down p.rests.right p.rests.below out

-- the samples of four rows from a position on, eight of each, row after row
abbrev pub AreSamplesByFour : Table → Position → List ℤ → Type 0
AreSamplesByFour t p out = (j k : ℕ) → j < 4 → k < 8 → slice_index_or out (8 * j + k) (pos 0) ≡ sample_from t p k j

-- the samples of rows from a position on, that many of each, row after row
abbrev pub AreSamplesByRows : Table → Position → ℕ → List ℤ → Type 0
AreSamplesByRows t p width out =
    (n : ℕ) → n < length out → slice_index_or out n (pos 0) ≡ sample_from t p (n % width) (n / width)

-- whole rows of that many samples, no more of them than a row may have
abbrev pub AreWholeRows : ℕ → List ℤ → Type 0
AreWholeRows width out = (1 ≤ width) × (length out % width ≡ 0) × (length out ≤ LARGEST_SIDE)

-- two rows of one length, which hold that many samples on both sides
abbrev pub HoldSides : Sides → ℕ → List ℤ → List ℤ → Type 0
HoldSides s count above under =
    (s.left + count ≤ length above) × (s.next + count ≤ length above) × (length under ≡ length above)

-- the sides of the positions from a place on, in rows of that many columns and one place more; of a place left of the
-- first column nothing is said
abbrev pub AreSidesFrom : ℕ → ℤ → Sides → Type 0
AreSidesFrom width across s =
    (x : ℕ) → across ≡ pos x → (s.left ≡ place_in_row (width + 1) x) × (s.next ≡ place_in_row (width + 1) (x + 1))

-- a position that lies behind its places neither across nor down
abbrev pub IsAtPlace : Position → Type 0
IsAtPlace p = (p.rests.right ≡ pos 0) × (p.rests.below ≡ pos 0)
