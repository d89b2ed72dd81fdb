-- All decisions of a table's lists are in contexts that there are.
use Rattle.std.proofs.Common.{◌≡◌, ◌-ℤ◌, ℕ, zero, suc, ℤ, ◌<◌, ◌==◌, min, Bool, true, false, List, [], ◌∷◌, slice_index, Option, Some, None, if◌then◌else◌, sym, subst, arith, lit<}
use Rattle.dirac_arith.specs.Interval.{Decision, InContexts}
use Rattle.dirac_arith.specs.Spelling.{follow_at, spelling}
use Rattle.dirac_arith.proofs.InContexts.{AreBelow, in_append, in_signed, in_spelling}
use Rattle.dirac_blocks.specs.declared.parts.ListKind.{ListKind}
use Rattle.dirac_blocks.specs.declared.parts.ListKind.TheVariants as part
use Rattle.dirac_block_table.specs.Tables.{BlockTable}
use Rattle.dirac_blocks.specs.Decisions.{Numbers, less_prediction, split_row, split_rows, superblock_rows}
use Rattle.dirac_blocks.specs.Parts.{part_at}
use Rattle.dirac_blocks.proofs.Narrowing.{superblock_rows_joins}

two_below : (a b i : ℕ) → a < 38 → b < 38 → follow_at (a ∷ b ∷ []) i < 38
two_below a b zero p q = p
two_below a b (suc i) p q =
    let last : min (suc i) 1 ≡ 1 = omega arith in
    subst (λ k. slice_index (a ∷ b ∷ []) k < 38) (sym last) q

vector_below : (i : ℕ) → follow_at (27 ∷ 28 ∷ 29 ∷ 30 ∷ 31 ∷ []) i < 38
vector_below zero = lit< tt
vector_below (suc zero) = lit< tt
vector_below (suc (suc zero)) = lit< tt
vector_below (suc (suc (suc zero))) = lit< tt
vector_below (suc (suc (suc (suc i)))) =
    let last : min (suc (suc (suc (suc i)))) 4 ≡ 4 = omega arith in
    subst (λ k. slice_index (27 ∷ 28 ∷ 29 ∷ 30 ∷ 31 ∷ []) k < 38) (sym last) (lit< tt)

in_less : (follow : List ℕ) (bits sign : ℕ) (p : ℤ) (v : Option ℤ) → AreBelow follow → bits < 38 → sign < 38 → InContexts (less_prediction follow bits sign p v)
in_less follow bits sign p None f h s = tt
in_less follow bits sign p (Some v) f h s = in_signed follow bits sign (v -ℤ p) f h s

-- a decision that is there or isn't
in_either : (b : Bool) (d : Decision) → d.0 < 38 → InContexts (if b then d ∷ [] else [])
in_either true d h = (h, tt)
in_either false d h = tt

in_part : (p : ListKind) (t : BlockTable) (i j : ℕ) → InContexts (part_at p t i j)
in_part part.Modes t i j = (lit< tt, in_either (t.refs == 2) _ (lit< tt))
in_part (part.Across r) t i j = in_less (27 ∷ 28 ∷ 29 ∷ 30 ∷ 31 ∷ []) 32 33 _ _ (record { each = vector_below }) (lit< tt) (lit< tt)
in_part (part.Down r) t i j = in_less (27 ∷ 28 ∷ 29 ∷ 30 ∷ 31 ∷ []) 32 33 _ _ (record { each = vector_below }) (lit< tt) (lit< tt)
in_part (part.Dc c) t i j = in_less (34 ∷ 35 ∷ []) 36 37 _ _ (record { each = λ n. two_below 34 35 n (lit< tt) (lit< tt) }) (lit< tt) (lit< tt)

pub in_parts : (p : ListKind) (t : BlockTable) (n : ℕ) → InContexts (superblock_rows (part_at p t) t n)
in_parts p t n =
    superblock_rows_joins (λ a b. InContexts a) (record { none = tt; both = λ a b c d x y. in_append a b x y }) (part_at p t) (part_at p t) t t.blocks n (in_part p t)

in_split_row : (numbers : Numbers) (sy n : ℕ) → InContexts (split_row numbers sy n)
unfolding split_row
in_split_row numbers sy zero = tt
in_split_row numbers sy (suc n) =
    in_append (split_row numbers sy n) (spelling (22 ∷ 23 ∷ []) 24 (numbers sy n)) (in_split_row numbers sy n)
    (in_spelling (22 ∷ 23 ∷ []) 24 (numbers sy n) (record { each = λ i. two_below 22 23 i (lit< tt) (lit< tt) }) (lit< tt))

pub in_split_rows : (across : ℕ) (numbers : Numbers) (n : ℕ) → InContexts (split_rows across numbers n)
unfolding split_rows
in_split_rows across numbers zero = tt
in_split_rows across numbers (suc n) = in_append (split_rows across numbers n) (split_row numbers n across) (in_split_rows across numbers n) (in_split_row numbers n across)
