-- A table of which nothing is read is lawful.
use Rattle.std.proofs.Common.{◌≡◌, ℕ, pos, ◌*◌, ◌≤◌, inl, inr, refl, sym, ◌∙◌, arith, get_or}
use Rattle.std.proofs.lemmas.Bool.{cases_lt}
use Rattle.std.proofs.lemmas.Int.{ints}
use Rattle.std.proofs.lemmas.List.{length-replicate, get_or-replicate, get_or_past}
use Rattle.std.proofs.lemmas.List.Elements.{All-replicate}
use Rattle.dirac_vectors.specs.Neighbours.{IsShort}
use Rattle.dirac_vectors.specs.Predictions.{IsShortVector}
use Rattle.dirac_block_table.specs.Filling.{empty_table}
use Rattle.dirac_block_table.specs.Tables.{IsBlock, IsBlockTable, IsTableSize, grey, no_vector}

pub zero_short : IsShort (pos 0)
zero_short = record { least = omega (arith, ints); most = omega (arith, ints) }

pub none_short : IsShortVector no_vector
none_short = record { x = zero_short; y = zero_short }

-- a block outside the list is one of value 0
pub grey_lawful : (refs : ℕ) → IsBlock refs grey
grey_lawful refs =
    record { second = λ e. refl; v1 = none_short; v2 = none_short; dc_y = zero_short; dc_u = zero_short; dc_v = zero_short; no_v1 = λ e. refl; no_v2 = λ e. refl; no_dc = λ e. (refl, refl, refl) }

pub empty_lawful : (across down refs : ℕ) → IsTableSize across down refs → IsBlockTable (empty_table across down refs)
empty_lawful across down refs size =
    let t = empty_table across down refs in
    let count = 4 * down * (4 * across) in
    let len = length-replicate count grey in
    let all : (k : ℕ) → get_or t.blocks k grey ≡ grey = λ k.
    elim (cases_lt k count) [
      | inl inside ↦ get_or-replicate count k grey grey inside
      | inr past ↦ get_or_past t.blocks k grey (omega (arith, len))
    ] in
    record {
      size = size;
      splits_len = length-replicate (down * across) 0;
      blocks_len = len;
      splits = All-replicate (λ s. s ≤ 2) (down * across) 0 (omega arith);
      blocks = All-replicate (IsBlock refs) count grey (grey_lawful refs);
      units = λ sx sy i j p q r s. all _ ∙ sym (all _);
    }
