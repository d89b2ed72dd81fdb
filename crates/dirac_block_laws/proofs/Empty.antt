-- The blocks of a table of which nothing is read are grey.
use Rattle.std.proofs.Common.{◌≡◌, ℕ, ◌*◌, inl, inr, length, arith}
use Rattle.std.proofs.lemmas.Bool.{cases_lt}
use Rattle.std.proofs.lemmas.List.{length-replicate, get_or-replicate, get_or_past}
use Rattle.dirac_blocks.specs.Grammar.{empty_table}
use Rattle.dirac_blocks.specs.Reached.{AllGrey}
use Rattle.dirac_block_table.specs.Tables.{grey}

pub empty_grey : (across down refs : ℕ) → AllGrey (empty_table across down refs).blocks
empty_grey across down refs k =
    let blocks = (empty_table across down refs).blocks in
    let len : length blocks ≡ 4 * down * (4 * across) = length-replicate (4 * down * (4 * across)) grey in
    elim (cases_lt k (4 * down * (4 * across))) [
      | inl inside ↦ get_or-replicate (4 * down * (4 * across)) k grey grey inside
      | inr past ↦ get_or_past blocks k grey (omega arith)
    ]
