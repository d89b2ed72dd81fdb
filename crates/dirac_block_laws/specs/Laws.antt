-- The laws of this crate.
use Rattle.std.specs.Prelude.{◌≡◌, ℕ, Ok}
use Rattle.dirac_bits.specs.Cursor.{Cursor}
use Rattle.dirac_bits.specs.Syntax.{read}
use Rattle.dirac_blocks.specs.Grammar.{blocks}
use Rattle.dirac_block_table.specs.Tables.{BlockTable, IsTableSize}
use Rattle.dirac_block_laws.specs.Standing.{StandFor}

-- a table that is read has the sizes that were asked for, and its lists are carried by the blocks that stand there
abbrev pub ReadTableIsCarried : Type 0
ReadTableIsCarried =
    (across down refs : ℕ) (c d : Cursor) (t : BlockTable) →
    IsTableSize across down refs →
    read (blocks across down refs) c ≡ Ok (t, d) →
    StandFor t c d × (t.across ≡ across) × (t.down ≡ down) × (t.refs ≡ refs)

-- and a table whose lists are carried by the blocks that stand there is read from them
abbrev pub CarriedTableIsRead : Type 0
CarriedTableIsRead =
    (t : BlockTable) (c d : Cursor) →
    StandFor t c d →
    read (blocks t.across t.down t.refs) c ≡ Ok (t, d)

-- so from a place on no more than one table of these sizes is carried, up to one place
abbrev pub OneIsCarried : Type 0
OneIsCarried =
    (t u : BlockTable) (c d e : Cursor) →
    StandFor t c d →
    StandFor u c e →
    t.across ≡ u.across →
    t.down ≡ u.down →
    t.refs ≡ u.refs →
    (t ≡ u) × (d ≡ e)
