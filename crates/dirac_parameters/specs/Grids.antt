-- Block lengths and block separations: block parameters, Dirac specification.
use Rattle.std.specs.Prelude.{ℕ, ◌-◌, ◌*◌, ◌%◌, ◌==◌, nat_le, ◌&&◌, if◌then◌else◌, Bool}
use Rattle.dirac_common.specs.declared.formats.BlockGrid.{BlockGrid}
use Rattle.dirac_common.specs.declared.formats.Chroma.{Chroma}
use Rattle.dirac_common.specs.Ratios.{ratio_across, ratio_down}

-- blocks of these lengths and separations
abbrev pub grid : ℕ → ℕ → ℕ → ℕ → BlockGrid
grid xblen yblen xbsep ybsep = record { xblen = xblen; yblen = yblen; xbsep = xbsep; ybsep = ybsep }

-- block parameters 2, 3 and 4
abbrev pub grid_of : ℕ → BlockGrid
grid_of index = if index == 2 then grid 12 12 8 8 else if index == 3 then grid 16 16 12 12 else grid 24 24 16 16

-- blocks overlap their neighbours alone, and aren't longer than 64
abbrev pub is_overlap : ℕ → ℕ → Bool
is_overlap length separation =
    nat_le 1 separation && nat_le separation length && nat_le length 64 && nat_le length (2 * separation)

-- blocks and their overlap have whole chroma samples, the overlap as many on both sides
abbrev pub is_divisible : ℕ → ℕ → ℕ → Bool
is_divisible ratio length separation =
    length % ratio == 0 && separation % ratio == 0 && (length - separation) % (2 * ratio) == 0

-- lengths and separations that a picture of this chroma format may have
abbrev pub is_grid : Chroma → BlockGrid → Bool
is_grid chroma g =
    is_overlap g.xblen g.xbsep && is_divisible (ratio_across chroma) g.xblen g.xbsep && is_overlap g.yblen g.ybsep
    && is_divisible (ratio_down chroma) g.yblen g.ybsep
