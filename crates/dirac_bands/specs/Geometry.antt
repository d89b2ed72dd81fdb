-- The sizes of padded planes, of their subbands, and of codeblocks.
use Rattle.std.specs.Prelude.{ℕ, ◌+◌, ◌-◌, ◌*◌, ◌/◌, ◌^◌, ◌==◌, if◌then◌else◌}

-- how often 2 ^ depth goes into a padded size: the size of the LL band
abbrev pub lowest_size : ℕ → ℕ → ℕ
lowest_size size depth = (size + 2 ^ depth - 1) / 2 ^ depth

-- a size padded up to the next multiple of 2 ^ depth
abbrev pub padded_size : ℕ → ℕ → ℕ
padded_size size depth = lowest_size size depth * 2 ^ depth

-- the size of a subband: level 0 is the LL band, levels 1 to depth hold HL, LH and HH
abbrev pub size_of_band : ℕ → ℕ → ℕ → ℕ
size_of_band padded depth level =
    if level == 0 then padded / 2 ^ depth else padded / 2 ^ (depth - level + 1)

-- that of a plane of this size, which is padded
abbrev pub band_length : ℕ → ℕ → ℕ → ℕ
band_length size depth level = size_of_band (padded_size size depth) depth level

-- the level of band n of a plane: LL is band 0, and HL, LH and HH of level n + 1 are bands 3n + 1, 3n + 2 and 3n + 3
abbrev pub level_of : ℕ → ℕ
level_of n = (n + 2) / 3

-- where codeblock c of a band's `count` codeblocks begins, and codeblock c - 1 ends
abbrev pub edge_of : ℕ → ℕ → ℕ → ℕ
edge_of size count c = size * c / count
