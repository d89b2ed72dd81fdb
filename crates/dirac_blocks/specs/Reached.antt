-- What a reader of a block table keeps, and how far it has come.
use Rattle.std.specs.Prelude.{◌≡◌, ℕ, List, Result, Ok, Err}
use Rattle.dirac_common.specs.declared.faults.Cause.{Cause}
use Rattle.dirac_common.specs.declared.faults.Refusal.{Refusal}
use Rattle.dirac_arith.specs.Coded.{Coded, read_coded}
use Rattle.dirac_arith.specs.Deciding.{begin}
use Rattle.dirac_arith.specs.Reading.{Reading}
use Rattle.dirac_bits.specs.Cursor.{Cursor}
pub use Rattle.dirac_block_table.specs.Filling.{AllGrey, IsFirstOfUnit}
use Rattle.dirac_block_table.specs.Tables.{BlockTable}

-- the answer is this step, from which the table and the reading come; nothing is said of them after a refusal
abbrev pub StepMoves : {A : Type 0} → Result A Cause → BlockTable → Reading → Result (BlockTable × Reading) Cause
    → Type 0
StepMoves (Ok x) table reading step = step ≡ Ok (table, reading)
StepMoves (Err cause) table reading step = step ≡ Err cause

-- the answer is what these steps read from a block, from which the table comes
abbrev pub BlockIsRead : {A : Type 0} → Result A Cause → BlockTable → Coded BlockTable → List ℕ → Type 0
BlockIsRead (Ok x) table steps block = (behind : Reading) × (read_coded steps (begin block) ≡ Ok (table, behind))
BlockIsRead (Err cause) table steps block = read_coded steps (begin block) ≡ Err cause

-- the answer is what is read, from which the table and the reader's place come
abbrev pub ListIsRead : {A : Type 0} → Result A Refusal → BlockTable → Cursor → Result (BlockTable × Cursor) Refusal
    → Type 0
ListIsRead (Ok x) table new read = read ≡ Ok (table, new)
ListIsRead (Err e) table new read = read ≡ Err e

-- the sizes are the same
pub record SameSize (old new : BlockTable) : Type 0 where
  pub across : new.across ≡ old.across
  pub down : new.down ≡ old.down
  pub refs : new.refs ≡ old.refs

-- the sizes and splits are the same
pub record SameShape (old new : BlockTable) : Type 0 where
  pub across : new.across ≡ old.across
  pub down : new.down ≡ old.down
  pub refs : new.refs ≡ old.refs
  pub splits : new.splits ≡ old.splits

-- the sizes and blocks are the same
pub record SameBlocks (old new : BlockTable) : Type 0 where
  pub across : new.across ≡ old.across
  pub down : new.down ≡ old.down
  pub refs : new.refs ≡ old.refs
  pub blocks : new.blocks ≡ old.blocks
