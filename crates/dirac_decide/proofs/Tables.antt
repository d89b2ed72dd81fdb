-- A decided table is the one table that the definitions give.
use Rattle.std.proofs.Common.{◌≡◌, ℕ, ◌+◌, ◌*◌, ◌/◌, ◌%◌, ◌<◌, ◌≤◌, List, length, get_or, map, arith, refl, ap, sym, ◌∙◌}
use Rattle.std.specs.List.{range_with_len}
use Rattle.std.proofs.lemmas.Nat.{div-add-mod', div_below}
use Rattle.std.proofs.lemmas.List.FromFn.{fill_by_all}
use Rattle.dirac_block_table.specs.declared.block.Block.{Block}
use Rattle.dirac_block_table.specs.Tables.{BlockTable, IsBlockTable, block_at, block_in, grey}
use Rattle.dirac_decide.specs.Deciding.{Deciding}
use Rattle.dirac_decide.specs.Splits.{IsDecided, block_by_rows, decided, best_split_by_rows}

-- the splits by rows
splits_are : (d : Deciding) (t : BlockTable) → 1 ≤ d.across → IsDecided d t → length t.splits ≡ d.down * d.across
    → t.splits ≡ map (best_split_by_rows d) (range_with_len 0 (d.down * d.across))
splits_are d t some is len = fill_by_all (best_split_by_rows d) t.splits (d.down * d.across) 0 len (λ p l.
    ap (λ k. get_or t.splits k 0) (sym (place p)) ∙ is.splits (p % d.across) (p / d.across) (omega arith) (div_below p d.across d.down some (omega arith)))
  where
    place : (p : ℕ) → p / d.across * t.across + p % d.across ≡ p
    place p = ap (λ a. p / d.across * a + p % d.across) is.across ∙ div-add-mod' p d.across

-- the blocks by rows
blocks_are : (d : Deciding) (t : BlockTable) → 1 ≤ d.across → IsDecided d t → length t.blocks ≡ 4 * d.down * (4 * d.across)
    → t.blocks ≡ map (block_by_rows d) (range_with_len 0 (4 * d.down * (4 * d.across)))
blocks_are d t some is len =
    fill_by_all (block_by_rows d) t.blocks (4 * d.down * (4 * d.across)) grey len (λ p l.
    let i = p % (4 * d.across) in
    let j = p / (4 * d.across) in
    let left : i < 4 * d.across = omega arith in
    let above : j < 4 * d.down = div_below p (4 * d.across) (4 * d.down) (omega arith) l in
    ap (λ k. get_or t.blocks k grey) (sym (place p)) ∙ ap (λ a. get_or t.blocks (j * (4 * a) + i) grey) (sym is.across)
    ∙ in_superblock i j ∙ is.blocks (i / 4) (j / 4) (i % 4) (j % 4) (omega arith) (omega arith) (omega arith) (omega arith))
  where
    place : (p : ℕ) → p / (4 * d.across) * (4 * d.across) + p % (4 * d.across) ≡ p
    place p = div-add-mod' p (4 * d.across)

    in_superblock : (i j : ℕ) → block_at t i j ≡ block_in t (i / 4) (j / 4) (i % 4) (j % 4)
    in_superblock i j =
        let across : 4 * (i / 4) + i % 4 ≡ i = omega arith in
        let down : 4 * (j / 4) + j % 4 ≡ j = omega arith in
        sym (ap (λ n. block_at t n (4 * (j / 4) + j % 4)) across ∙ ap (block_at t i) down)

abbrev table_with : ℕ → ℕ → ℕ → List ℕ → List Block → BlockTable
table_with a b c s e = record { across = a; down = b; refs = c; splits = s; blocks = e }

same : (a a' b b' c c' : ℕ) (s s' : List ℕ) (e e' : List Block) → a ≡ a' → b ≡ b' → c ≡ c' → s ≡ s' → e ≡ e' → table_with a b c s e ≡ table_with a' b' c' s' e'
same a a' b b' c c' s s' e e' p q r v w = rw (p, q, r, v, w) refl

pub decided_is : (d : Deciding) (t : BlockTable) → 1 ≤ d.across → IsDecided d t → IsBlockTable t → t ≡ decided d
unfolding decided
decided_is d t some is table =
    let splits = splits_are d t some is (table.splits_len ∙ ap (λ n. n * t.across) is.down ∙ ap (λ n. d.down * n) is.across) in
    let blocks = blocks_are d t some is (table.blocks_len ∙ ap (λ n. 4 * n * (4 * t.across)) is.down ∙ ap (λ n. 4 * d.down * (4 * n)) is.across) in
    same t.across d.across t.down d.down t.refs _ t.splits _ t.blocks _ is.across is.down is.refs splits blocks
