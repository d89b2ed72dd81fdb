-- A superblock is put into a table row by row.
use Rattle.std.proofs.Common.{◌≡◌, ℕ, ◌+◌, ◌-◌, ◌*◌, ◌/◌, ◌^◌, ◌<◌, ◌≤◌, ◌⊎◌, inl, inr, refl, arith, subst, sym, ap, ap₂, ◌∙◌, List, length, get_or, set, length-set, All}
use Rattle.std.proofs.lemmas.Bool.{cases_eq, cases_lt}
use Rattle.std.proofs.lemmas.List.{get_or-set_same, get_or-set_other}
use Rattle.std.proofs.lemmas.Nat.{same_from_place, mul-le, mul-add-lt}
use Rattle.std.proofs.lemmas.List.Elements.{All-from_get_or, All-set}
use Rattle.dirac_block_table.specs.declared.block.Block.{Block}
use Rattle.dirac_block_table.specs.Puts.{RowPut, RowsPut, IsPut}
use Rattle.dirac_block_table.specs.Tables.{BlockTable, IsBlock, IsBlockTable, grey, split_at, block_in, unit_size, unit_of, first_in_unit}
use Rattle.dirac_block_table.proofs.Units.{column_fits, first_below, first_alike}

-- blocks stay blocks of so many references
pub row_lawful : (refs start split : ℕ) (units : List Block) (from : ℕ) (old new : List Block) → split ≤ 2
    → from + 2 ^ split ≤ length units → RowPut start split units from 4 old new
    → All (IsBlock refs) units → All (IsBlock refs) old → All (IsBlock refs) new
row_lawful refs start split units from old new h fits r us os =
    All-from_get_or (IsBlock refs) new grey (λ k l.
    elim (cases_lt k start) [
      | inl a ↦ subst (IsBlock refs) (sym (r.before k a)) (os k grey (omega (arith, r.len)))
      | inr a ↦ elim (cases_lt k (start + 4)) [
        | inl b ↦
            let i : ℕ = k - start in
            let small : i < 4 = omega arith in
            let at : start + i ≡ k = omega arith in
            let inside : from + i / unit_size split < length units = omega (arith, column_fits split i h small) in
            subst (λ m. IsBlock refs (get_or new m grey)) at (subst (IsBlock refs) (sym (r.done i small)) (us (from + i / unit_size split) grey inside))
        | inr b ↦ subst (IsBlock refs) (sym (r.after k b)) (os k grey (omega (arith, r.len)))
      ]
    ])

-- outside a rectangle
abbrev pub IsOutside : ℕ → ℕ → ℕ → ℕ → ℕ → ℕ → Type 0
IsOutside left right top bottom x y = ((x < left) ⊎ (right ≤ x)) ⊎ ((y < top) ⊎ (bottom ≤ y))

-- where `size` places from column a of row z on are written, all others stay
pub row_outside : (w a z size : ℕ) (old new : List Block) → a + size ≤ w
    → ((k : ℕ) → k < z * w + a → get_or new k grey ≡ get_or old k grey) → ((k : ℕ) → z * w + a + size ≤ k → get_or new k grey ≡ get_or old k grey)
    → (x y : ℕ) → x < w → IsOutside a (a + size) z (z + 1) x y → get_or new (y * w + x) grey ≡ get_or old (y * w + x) grey
row_outside w a z size old new room before after x y h o =
    elim (cases_lt y z) [
      | inl l ↦ let below : (y + 1) * w ≤ z * w = mul-le (y + 1) w z w (omega arith) (omega arith) in before (y * w + x) (omega arith)
      | inr c ↦ elim (cases_lt z y) [
        | inl l ↦ let above : (z + 1) * w ≤ y * w = mul-le (z + 1) w y w (omega arith) (omega arith) in after (y * w + x) (omega arith)
        | inr d ↦
            let e : y ≡ z = omega arith in
            let same : y * w ≡ z * w = ap (λ k. k * w) e in
            elim o [
              | inl p ↦ elim p [ inl l ↦ before (y * w + x) (omega arith) | inr l ↦ after (y * w + x) (omega arith) ]
              | inr p ↦ elim p [ inl l ↦ absurd (omega arith) | inr l ↦ absurd (omega arith) ]
            ]
      ]
    ]

-- one row more
pub rows_more : (w left top split : ℕ) (units : List Block) (n : ℕ) (old mid new : List Block) → left + 4 ≤ w
    → RowPut ((top + n) * w + left) split units (n / unit_size split * 2 ^ split) 4 mid new
    → RowsPut w left top split units n old mid → RowsPut w left top split units (n + 1) old new
rows_more w left top split units n old mid new room r s =
    let z = top + n in
    let from = n / unit_size split * 2 ^ split in
    let others = row_outside w left z 4 mid new room r.before r.after in
    record {
      len = r.len ∙ s.len;
      done = λ i j p l.
          elim (cases_eq j n) [
            | inl e ↦
                let at : (z * w + left) + i ≡ z * w + (left + i) = omega arith in
                let here : get_or new (z * w + (left + i)) grey ≡ get_or units (from + i / unit_size split) grey = ap (λ k. get_or new k grey) (sym at) ∙ r.done i p in
                rw e here
            | inr not ↦ others (left + i) (top + j) (omega arith) (inr (inl (omega arith))) ∙ s.done i j p (omega arith)
          ];
      before = λ x y p l. others x y p (inl (inl l)) ∙ s.before x y p l;
      after = λ x y p l. others x y p (inl (inr l)) ∙ s.after x y p l;
      over = λ x y p l. others x y p (inr (inl (omega arith))) ∙ s.over x y p l;
      under = λ x y p l. others x y p (inr (inr (omega arith))) ∙ s.under x y p (omega arith);
    }

-- the table with this superblock's split and these blocks
abbrev pub table_put : BlockTable → ℕ → ℕ → ℕ → List Block → BlockTable
table_put t sx sy split new =
    record {
      across = t.across;
      down = t.down;
      refs = t.refs;
      splits = set t.splits (sy * t.across + sx) split;
      blocks = new;
    }

-- places in lists of a table are small
pub place_small : (y w x h : ℕ) → y < h → x < w → h ≤ 4096 → w ≤ 4096 → y * w + x < 2 ^ 24
place_small y w x h p q tall wide =
    let most : y * w ≤ 4095 * 4096 = mul-le y w 4095 4096 (omega arith) wide in
    omega arith

-- a block's place in the list of blocks
pub block_inside : (t u : BlockTable) (i j : ℕ) → t ≡ u → IsBlockTable t → i < 4 * u.across → j < 4 * u.down → j * (4 * t.across) + i < length t.blocks
block_inside t u i j same inv p q =
    let column : i < 4 * t.across = subst (λ (v : BlockTable). i < 4 * v.across) (sym same) p in
    let row : j < 4 * t.down = subst (λ (v : BlockTable). j < 4 * v.down) (sym same) q in
    omega (arith, mul-add-lt j (4 * t.across) i (4 * t.down) row column, inv.blocks_len)

pub block_small : (t u : BlockTable) (i j : ℕ) → t ≡ u → IsBlockTable t → i < 4 * u.across → j < 4 * u.down → j * (4 * t.across) + i < 2 ^ 24
block_small t u i j same inv p q =
    place_small j (4 * t.across) i (4 * t.down) (subst (λ (v : BlockTable). j < 4 * v.down) (sym same) q) (subst (λ (v : BlockTable). i < 4 * v.across) (sym same) p)
    (omega (arith, inv.size.most_down)) (omega (arith, inv.size.most_across))

pub blocks_few : (t : BlockTable) → IsBlockTable t → length t.blocks ≤ 2 ^ 24
blocks_few t inv =
    let most : 4 * t.down * (4 * t.across) ≤ 4096 * 4096 = mul-le (4 * t.down) (4 * t.across) 4096 4096 (omega (arith, inv.size.most_down)) (omega (arith, inv.size.most_across)) in
    omega (arith, inv.blocks_len)

-- the rows of a superblock
pub superblock_rows : (t u : BlockTable) (sy : ℕ) → t ≡ u → IsBlockTable t → sy < u.down → (4 * sy + 4) * (4 * t.across) ≤ length t.blocks
superblock_rows t u sy same inv h =
    let row : sy < t.down = subst (λ (v : BlockTable). sy < v.down) (sym same) h in
    let whole : (4 * sy + 4) * (4 * t.across) ≤ 4 * t.down * (4 * t.across) = mul-le (4 * sy + 4) (4 * t.across) (4 * t.down) (4 * t.across) (omega arith) (omega arith) in
    omega (arith, inv.blocks_len)

-- a superblock's place in the list of splits
pub split_inside : (t : BlockTable) (x y : ℕ) → IsBlockTable t → x < t.across → y < t.down → y * t.across + x < length t.splits
split_inside t x y inv h l = omega (arith, mul-add-lt y t.across x t.down l h, inv.splits_len)

pub split_there : (t u : BlockTable) (x y : ℕ) → t ≡ u → IsBlockTable t → x < u.across → y < u.down → y * t.across + x < length t.splits
split_there t u x y same inv h l =
    split_inside t x y inv (subst (λ (v : BlockTable). x < v.across) (sym same) h) (subst (λ (v : BlockTable). y < v.down) (sym same) l)

pub split_small : (t u : BlockTable) (x y : ℕ) → t ≡ u → IsBlockTable t → x < u.across → y < u.down → y * t.across + x < 2 ^ 24
split_small t u x y same inv h l =
    place_small y t.across x t.down (subst (λ (v : BlockTable). y < v.down) (sym same) l) (subst (λ (v : BlockTable). x < v.across) (sym same) h)
    (omega (arith, inv.size.most_down)) (omega (arith, inv.size.most_across))

pub put_is : (t : BlockTable) (sx sy split : ℕ) (units new : List Block) → IsBlockTable t → sx < t.across → sy < t.down
    → RowsPut (4 * t.across) (4 * sx) (4 * sy) split units 4 t.blocks new → IsPut t sx sy split units (table_put t sx sy split new)
put_is t sx sy split units new inv h l s =
    let a = t.across in
    record {
      across = refl;
      down = refl;
      refs = refl;
      chosen = get_or-set_same t.splits (sy * a + sx) split 0 (split_inside t sx sy inv h l);
      other_splits = λ x y p q not.
          get_or-set_other t.splits (sy * a + sx) (y * a + x) split 0 (λ e. let same : (y ≡ sy) × (x ≡ sx) = same_from_place y x sy sx a p h e in not same.1 same.0);
      blocks = λ i j p q. s.done i j p q;
      other_blocks = λ x y i j p q hi hj not.
          elim (cases_lt x sx) [
            | inl b ↦ s.before (4 * x + i) (4 * y + j) (omega arith) (omega arith)
            | inr b ↦ elim (cases_eq x sx) [
              | inl e ↦ elim (cases_lt y sy) [
                | inl c ↦ s.over (4 * x + i) (4 * y + j) (omega arith) (omega arith)
                | inr c ↦ elim (cases_eq y sy) [
                  | inl f ↦ absurd (not e f)
                  | inr g ↦ s.under (4 * x + i) (4 * y + j) (omega arith) (omega arith)
                ]
              ]
              | inr d ↦ s.after (4 * x + i) (4 * y + j) (omega arith) (omega arith)
            ]
          ];
    }

-- the blocks of the superblock that is put are equal in each unit
units_here : (t new : BlockTable) (sx sy split : ℕ) (units : List Block) → split ≤ 2 → IsPut t sx sy split units new
    → (i j : ℕ) → i < 4 → j < 4 → block_in new sx sy i j ≡ block_in new sx sy (first_in_unit (split_at new sx sy) i) (first_in_unit (split_at new sx sy) j)
units_here t new sx sy split units h k i j p q =
    let alike : unit_of split (first_in_unit split i) (first_in_unit split j) ≡ unit_of split i j = ap₂ (λ a b. b * 2 ^ split + a) (first_alike split i h p) (first_alike split j h q) in
    let first : block_in new sx sy (first_in_unit split i) (first_in_unit split j) ≡ get_or units (unit_of split (first_in_unit split i) (first_in_unit split j)) grey =
    k.blocks (first_in_unit split i) (first_in_unit split j) (first_below split i h p) (first_below split j h q) in
    rw k.chosen (k.blocks i j p q ∙ ap (λ n. get_or units n grey) (sym alike) ∙ sym first)

-- and so are those of all others
units_there : (t new : BlockTable) (sx sy split : ℕ) (units : List Block) → IsBlockTable t → IsPut t sx sy split units new
    → (x y : ℕ) → x < t.across → y < t.down → (x ≡ sx → y ≡ sy → ⊥)
    → (i j : ℕ) → i < 4 → j < 4 → block_in new x y i j ≡ block_in new x y (first_in_unit (split_at new x y) i) (first_in_unit (split_at new x y) j)
units_there t new sx sy split units inv k x y hx hy not i j p q =
    let s = split_at t x y in
    let few : s ≤ 2 = inv.splits (y * t.across + x) 0 (split_inside t x y inv hx hy) in
    let first : block_in new x y (first_in_unit s i) (first_in_unit s j) ≡ block_in t x y (first_in_unit s i) (first_in_unit s j) =
    k.other_blocks x y (first_in_unit s i) (first_in_unit s j) hx hy (first_below s i few p) (first_below s j few q) not in
    rw (k.other_splits x y hx hy not) (k.other_blocks x y i j hx hy p q not ∙ inv.units x y i j hx hy p q ∙ sym first)

pub put_lawful : (t : BlockTable) (sx sy split : ℕ) (units new : List Block) → IsBlockTable t → sx < t.across → sy < t.down → split ≤ 2
    → RowsPut (4 * t.across) (4 * sx) (4 * sy) split units 4 t.blocks new → All (IsBlock t.refs) new → IsBlockTable (table_put t sx sy split new)
put_lawful t sx sy split units new inv h l two s all =
    let k = put_is t sx sy split units new inv h l s in
    let there = units_there t (table_put t sx sy split new) sx sy split units inv k in
    record {
      size = inv.size;
      splits_len = length-set t.splits (sy * t.across + sx) split ∙ inv.splits_len;
      blocks_len = s.len ∙ inv.blocks_len;
      splits = All-set (λ n. n ≤ 2) t.splits (sy * t.across + sx) split two inv.splits;
      blocks = all;
      units = λ x y i j hx hy p q.
          elim (cases_eq x sx) [
            | inl e ↦ elim (cases_eq y sy) [
              | inl f ↦ rw (e, f) (units_here t (table_put t sx sy split new) sx sy split units two k i j p q)
              | inr g ↦ there x y hx hy (λ a b. g b) i j p q
            ]
            | inr d ↦ there x y hx hy (λ a b. d a) i j p q
          ];
    }
