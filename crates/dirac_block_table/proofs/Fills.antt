-- The blocks of a unit are filled in row by row.
use Rattle.std.proofs.Common.{◌≡◌, ℕ, zero, suc, ◌+◌, ◌-◌, ◌*◌, ◌/◌, ◌^◌, ◌<◌, ◌≤◌, ◌⊎◌, inl, inr, refl, arith, subst, sym, ap, ◌∙◌, List, length, get_or, set, slice_set, length-set, All}
use Rattle.std.proofs.lemmas.Bool.{cases_eq, cases_lt}
use Rattle.std.proofs.lemmas.List.{get_or-set_same, get_or-set_other}
use Rattle.std.proofs.lemmas.List.Elements.{All-set}
use Rattle.std.proofs.lemmas.Nat.{mul-le}
use native.Mathlib.Numerals.{unary_clauses}
use Rattle.dirac_block_table.specs.declared.block.Block.{Block}
use Rattle.dirac_block_table.specs.Filling.{row_filled, rows_filled, with_split, with_unit}
use Rattle.dirac_block_table.specs.Filling.{AllGrey, IsFirstOfUnit}
use Rattle.dirac_block_table.specs.Tables.{BlockTable, IsBlock, IsBlockTable, grey, split_at, block_at, block_in, unit_size, first_in_unit}
use Rattle.dirac_block_table.proofs.Putting.{IsOutside, row_outside, split_inside}
use Rattle.dirac_block_table.proofs.Units.{of_splits, first_below, first_alike}

pub row_filled_next : (blocks : List Block) (start : ℕ) (b : Block) (n : ℕ) → row_filled blocks start b (n + 1) ≡ slice_set (row_filled blocks start b n) (start + n) b
unfolding row_filled
row_filled_next blocks start b n = simp unary_clauses refl

pub rows_filled_next : (width : ℕ) (blocks : List Block) (size i j : ℕ) (b : Block) (n : ℕ)
    → rows_filled width blocks size i j b (n + 1) ≡ row_filled (rows_filled width blocks size i j b n) ((j + n) * width + i) b size
unfolding rows_filled
rows_filled_next width blocks size i j b n = simp unary_clauses refl

-- n blocks from this place on are b; all else stays
pub record RowIsFilled (start : ℕ) (b : Block) (n : ℕ) (old new : List Block) : Type 0 where
  pub len : length new ≡ length old
  pub done : (k : ℕ) → k < n → get_or new (start + k) grey ≡ b
  pub before : (k : ℕ) → k < start → get_or new k grey ≡ get_or old k grey
  pub after : (k : ℕ) → start + n ≤ k → get_or new k grey ≡ get_or old k grey

pub row_is_filled : (blocks : List Block) (start : ℕ) (b : Block) (n : ℕ) → start + n ≤ length blocks → RowIsFilled start b n blocks (row_filled blocks start b n)
unfolding row_filled
row_is_filled blocks start b zero h =
    record { len = refl; done = λ k l. absurd (omega arith); before = λ k l. refl; after = λ k l. refl }
row_is_filled blocks start b (suc n) h =
    let mid = row_filled blocks start b n in
    let r = row_is_filled blocks start b n (omega arith) in
    record {
      len = length-set mid (start + n) b ∙ r.len;
      done = λ k l.
          elim (cases_eq k n) [
            | inl is ↦
                let here : get_or (set mid (start + n) b) (start + n) grey ≡ b = get_or-set_same mid (start + n) b grey (omega (arith, r.len)) in
                rw is here
            | inr not ↦ get_or-set_other mid (start + n) (start + k) b grey (λ same. not (omega arith)) ∙ r.done k (omega arith)
          ];
      before = λ k l. get_or-set_other mid (start + n) k b grey (λ same. omega arith) ∙ r.before k l;
      after = λ k l. get_or-set_other mid (start + n) k b grey (λ same. omega arith) ∙ r.after k (omega arith);
    }

pub row_all : (P : Block → Type 0) (blocks : List Block) (start : ℕ) (b : Block) (n : ℕ) → P b → All P blocks → All P (row_filled blocks start b n)
unfolding row_filled
row_all P blocks start b zero here all = all
row_all P blocks start b (suc n) here all = All-set P (row_filled blocks start b n) (start + n) b here (row_all P blocks start b n here all)

pub rows_all : (P : Block → Type 0) (width : ℕ) (blocks : List Block) (size i j : ℕ) (b : Block) (n : ℕ) → P b → All P blocks → All P (rows_filled width blocks size i j b n)
unfolding rows_filled
rows_all P width blocks size i j b zero here all = all
rows_all P width blocks size i j b (suc n) here all =
    row_all P (rows_filled width blocks size i j b n) ((j + n) * width + i) b size here (rows_all P width blocks size i j b n here all)

-- n rows of `size` blocks from column `left` and row `top` on are b; all else stays
pub record RowsAreFilled (width left top size : ℕ) (b : Block) (n : ℕ) (old new : List Block) : Type 0 where
  pub len : length new ≡ length old
  pub done : (i j : ℕ) → i < size → j < n → get_or new ((top + j) * width + (left + i)) grey ≡ b
  pub outside : (x y : ℕ) → x < width → IsOutside left (left + size) top (top + n) x y → get_or new (y * width + x) grey ≡ get_or old (y * width + x) grey

pub rows_are_filled : (w : ℕ) (blocks : List Block) (size left top : ℕ) (b : Block) (n : ℕ) → left + size ≤ w → (top + n) * w ≤ length blocks
    → RowsAreFilled w left top size b n blocks (rows_filled w blocks size left top b n)
unfolding rows_filled
rows_are_filled w blocks size left top b zero room fits =
    record { len = refl; done = λ i j p l. absurd (omega arith); outside = λ x y p o. refl }
rows_are_filled w blocks size left top b (suc n) room fits =
    let z = top + n in
    let below : (top + n) * w ≤ (top + suc n) * w = mul-le (top + n) w (top + suc n) w (omega arith) (omega arith) in
    let s = rows_are_filled w blocks size left top b n room (omega arith) in
    let mid = rows_filled w blocks size left top b n in
    let last : (top + n) * w + w ≡ (top + suc n) * w = omega arith in
    let inside : z * w + left + size ≤ length mid = omega (arith, s.len) in
    let new = row_filled mid (z * w + left) b size in
    let r = row_is_filled mid (z * w + left) b size inside in
    let others = row_outside w left z size mid new room r.before r.after in
    record {
      len = r.len ∙ s.len;
      done = λ i j p l.
          elim (cases_eq j n) [
            | inl e ↦
                let at : (z * w + left) + i ≡ z * w + (left + i) = omega arith in
                let here : get_or new (z * w + (left + i)) grey ≡ b = ap (λ k. get_or new k grey) (sym at) ∙ r.done i p in
                rw e here
            | inr not ↦ others (left + i) (top + j) (omega arith) (inr (inl (omega arith))) ∙ s.done i j p (omega arith)
          ];
      outside = λ x y p o.
          elim o [
            | inl a ↦ others x y p (inl a) ∙ s.outside x y p (inl a)
            | inr a ↦ elim a [
              | inl l ↦ others x y p (inr (inl (omega arith))) ∙ s.outside x y p (inr (inl l))
              | inr l ↦ others x y p (inr (inr (omega arith))) ∙ s.outside x y p (inr (inr (omega arith)))
            ]
          ];
    }

-- what holds of the sizes of units holds of each size
of_size : (P : ℕ → Type 0) (split size : ℕ) → split ≤ 2 → size ≡ unit_size split → P 4 → P 2 → P 1 → P size
of_size P split size h is p q r = subst P (sym is) (of_splits (λ s. P (unit_size s)) split h p q r)

pub unit_ends : (split u : ℕ) → split ≤ 2 → u < 2 ^ split → u * unit_size split + unit_size split ≤ 4
unit_ends split u h = of_splits (λ s. u < 2 ^ s → u * unit_size s + unit_size s ≤ 4) split h (λ e. omega arith) (λ e. omega arith) (λ e. omega arith)

-- where the blocks of a unit lie
pub record IsPlaced (t : BlockTable) (size i j : ℕ) : Type 0 where
  pub few : size ≤ 4
  pub some : 1 ≤ size
  pub columns : i + size ≤ 4 * t.across
  pub rows : (j + size) * (4 * t.across) ≤ length t.blocks
  pub row : j + size ≤ 4 * t.down

pub split_few : (t : BlockTable) (sx sy : ℕ) → IsBlockTable t → sx < t.across → sy < t.down → split_at t sx sy ≤ 2
split_few t sx sy inv hx hy = inv.splits (sy * t.across + sx) 0 (split_inside t sx sy inv hx hy)

pub unit_placed : (t : BlockTable) (size i j : ℕ) → IsBlockTable t → IsFirstOfUnit t size i j → IsPlaced t size i j
unit_placed t size i j inv k =
    let s = split_at t k.sx k.sy in
    let two : s ≤ 2 = split_few t k.sx k.sy inv k.across k.down in
    let across : k.u * size + size ≤ 4 = subst (λ (n : ℕ). k.u * n + n ≤ 4) (sym k.is) (unit_ends s k.u two k.some) in
    let down : k.v * size + size ≤ 4 = subst (λ (n : ℕ). k.v * n + n ≤ 4) (sym k.is) (unit_ends s k.v two k.few) in
    let column = k.column in
    let row = k.row in
    let within : j + size ≤ 4 * t.down = omega (arith, k.down) in
    let whole = mul-le (j + size) (4 * t.across) (4 * t.down) (4 * t.across) within (omega arith) in
    record {
      few = of_size (λ n. n ≤ 4) s size two k.is (omega arith) (omega arith) (omega arith);
      some = of_size (λ n. 1 ≤ n) s size two k.is (omega arith) (omega arith) (omega arith);
      columns = omega (arith, k.across);
      rows = omega (arith, whole, inv.blocks_len);
      row = within;
    }

-- the blocks of the unit are filled
pub filled_inside : (t : BlockTable) (size i j : ℕ) (b : Block) → IsBlockTable t → IsFirstOfUnit t size i j
    → (x y : ℕ) → i ≤ x → x < i + size → j ≤ y → y < j + size → block_at (with_unit t size i j b) x y ≡ b
filled_inside t size i j b inv k x y left right top bottom =
    let placed = unit_placed t size i j inv k in
    let f = rows_are_filled (4 * t.across) t.blocks size i j b size placed.columns placed.rows in
    let new = with_unit t size i j b in
    let px : i + (x - i) ≡ x = omega arith in
    let qy : j + (y - j) ≡ y = omega arith in
    let here : block_at new (i + (x - i)) (j + (y - j)) ≡ b = f.done (x - i) (y - j) (omega arith) (omega arith) in
    ap (λ (n : ℕ). block_at new n y) (sym px) ∙ ap (λ (n : ℕ). block_at new (i + (x - i)) n) (sym qy) ∙ here

-- and all others stay
pub filled_outside : (t : BlockTable) (size i j : ℕ) (b : Block) → IsBlockTable t → IsFirstOfUnit t size i j
    → (x y : ℕ) → x < 4 * t.across → IsOutside i (i + size) j (j + size) x y → block_at (with_unit t size i j b) x y ≡ block_at t x y
filled_outside t size i j b inv k =
    let placed = unit_placed t size i j inv k in
    (rows_are_filled (4 * t.across) t.blocks size i j b size placed.columns placed.rows).outside

-- a column or row of a superblock that is one of the unit's
unit_span : (split size p u : ℕ) → split ≤ 2 → size ≡ unit_size split → p / size ≡ u → (u * size ≤ p) × (p < u * size + size)
unit_span split size p u h is =
    of_size (λ n. p / n ≡ u → (u * n ≤ p) × (p < u * n + n)) split size h is (λ e. (omega arith, omega arith)) (λ e. (omega arith, omega arith)) (λ e. (omega arith, omega arith))

-- and one that isn't
unit_aside : (split size base first p u : ℕ) → split ≤ 2 → size ≡ unit_size split → first ≡ 4 * base + u * size → (p / size ≡ u → ⊥) → (4 * base + p < first) ⊎ (first + size ≤ 4 * base + p)
unit_aside split size base first p u h is at not =
    elim (cases_lt (p / size) u) [
      | inl l ↦ let e : p < u * size = of_size (λ n. p / n < u → p < u * n) split size h is (λ e. omega arith) (λ e. omega arith) (λ e. omega arith) l in inl (omega arith)
      | inr m ↦ let e : u * size + size ≤ p = of_size (λ n. u < p / n → u * n + n ≤ p) split size h is (λ e. omega arith) (λ e. omega arith) (λ e. omega arith) (omega arith) in inr (omega arith)
    ]

-- a block of the superblock is b where its column and row are the unit's, and stays where one isn't
unit_inside : (t : BlockTable) (size i j : ℕ) (b : Block) → IsBlockTable t → (k : IsFirstOfUnit t size i j)
    → (p q : ℕ) → p / size ≡ k.u → q / size ≡ k.v → block_in (with_unit t size i j b) k.sx k.sy p q ≡ b
unit_inside t size i j b inv k p q hp hq =
    let two = split_few t k.sx k.sy inv k.across k.down in
    let x = unit_span (split_at t k.sx k.sy) size p k.u two k.is hp in
    let y = unit_span (split_at t k.sx k.sy) size q k.v two k.is hq in
    let column = k.column in
    let row = k.row in
    filled_inside t size i j b inv k (4 * k.sx + p) (4 * k.sy + q) (omega (arith, x.0)) (omega (arith, x.1)) (omega (arith, y.0)) (omega (arith, y.1))

unit_outside : (t : BlockTable) (size i j : ℕ) (b : Block) → IsBlockTable t → (k : IsFirstOfUnit t size i j)
    → (p q : ℕ) → p < 4 → (p / size ≡ k.u → ⊥) ⊎ (q / size ≡ k.v → ⊥) → block_in (with_unit t size i j b) k.sx k.sy p q ≡ block_in t k.sx k.sy p q
unit_outside t size i j b inv k p q small o =
    let s = split_at t k.sx k.sy in
    let two = split_few t k.sx k.sy inv k.across k.down in
    let across = k.across in
    filled_outside t size i j b inv k (4 * k.sx + p) (4 * k.sy + q) (omega arith)
    (elim o [
      | inl not ↦ inl (unit_aside s size k.sx i p k.u two k.is k.column not)
      | inr not ↦ inr (unit_aside s size k.sy j q k.v two k.is k.row not)
    ])

-- the blocks of all other superblocks stay
unit_elsewhere : (t : BlockTable) (size i j : ℕ) (b : Block) → IsBlockTable t → (k : IsFirstOfUnit t size i j)
    → (x y p q : ℕ) → x < t.across → y < t.down → p < 4 → q < 4 → (x ≡ k.sx → y ≡ k.sy → ⊥) → block_in (with_unit t size i j b) x y p q ≡ block_in t x y p q
unit_elsewhere t size i j b inv k x y p q hx hy hp hq not =
    let s = split_at t k.sx k.sy in
    let two : s ≤ 2 = split_few t k.sx k.sy inv k.across k.down in
    let u_end : k.u * size + size ≤ 4 = subst (λ (n : ℕ). k.u * n + n ≤ 4) (sym k.is) (unit_ends s k.u two k.some) in
    let v_end : k.v * size + size ≤ 4 = subst (λ (n : ℕ). k.v * n + n ≤ 4) (sym k.is) (unit_ends s k.v two k.few) in
    let column = k.column in
    let row = k.row in
    filled_outside t size i j b inv k (4 * x + p) (4 * y + q) (omega arith)
    (elim (cases_lt x k.sx) [
      | inl left ↦ inl (inl (omega arith))
      | inr l ↦ elim (cases_eq x k.sx) [
        | inl e ↦ elim (cases_lt y k.sy) [
          | inl over ↦ inr (inl (omega arith))
          | inr m ↦ elim (cases_eq y k.sy) [
            | inl e' ↦ absurd (not e e')
            | inr n ↦ inr (inr (omega arith))
          ]
        ]
        | inr n ↦ inl (inr (omega arith))
      ]
    ])

-- all blocks of each unit of the superblock are equal
unit_equal : (t : BlockTable) (size i j : ℕ) (b : Block) → IsBlockTable t → (k : IsFirstOfUnit t size i j) → (p q : ℕ) → p < 4 → q < 4
    → block_in (with_unit t size i j b) k.sx k.sy p q ≡ block_in (with_unit t size i j b) k.sx k.sy (first_in_unit (split_at t k.sx k.sy) p) (first_in_unit (split_at t k.sx k.sy) q)
unit_equal t size i j b inv k p q hp hq =
    let s = split_at t k.sx k.sy in
    let two : s ≤ 2 = split_few t k.sx k.sy inv k.across k.down in
    let is = k.is in
    let p' = first_in_unit s p in
    let q' = first_in_unit s q in
    let p_small : p' < 4 = first_below s p two hp in
    let p_alike : p' / size ≡ p / size = subst (λ (n : ℕ). p' / n ≡ p / n) (sym is) (first_alike s p two hp) in
    let q_alike : q' / size ≡ q / size = subst (λ (n : ℕ). q' / n ≡ q / n) (sym is) (first_alike s q two hq) in
    let old = inv.units k.sx k.sy p q k.across k.down hp hq in
    let across = k.across in
    elim (cases_eq (p / size) k.u) [
      | inl hu ↦ elim (cases_eq (q / size) k.v) [
        | inl hv ↦ unit_inside t size i j b inv k p q hu hv ∙ sym (unit_inside t size i j b inv k p' q' (p_alike ∙ hu) (q_alike ∙ hv))
        | inr nv ↦ unit_outside t size i j b inv k p q hp (inr nv) ∙ old ∙ sym (unit_outside t size i j b inv k p' q' p_small (inr (λ e. nv (sym q_alike ∙ e))))
      ]
      | inr nu ↦ unit_outside t size i j b inv k p q hp (inl nu) ∙ old ∙ sym (unit_outside t size i j b inv k p' q' p_small (inl (λ e. nu (sym p_alike ∙ e))))
    ]

pub unit_lawful : (t : BlockTable) (size i j : ℕ) (b : Block) → IsBlockTable t → IsFirstOfUnit t size i j → IsBlock t.refs b → IsBlockTable (with_unit t size i j b)
unit_lawful t size i j b inv k lawful =
    let placed = unit_placed t size i j inv k in
    let f = rows_are_filled (4 * t.across) t.blocks size i j b size placed.columns placed.rows in
    record {
      size = inv.size;
      splits_len = inv.splits_len;
      blocks_len = f.len ∙ inv.blocks_len;
      splits = inv.splits;
      blocks = rows_all (IsBlock t.refs) (4 * t.across) t.blocks size i j b size lawful inv.blocks;
      units = λ x y p q hx hy hp hq.
          let few = split_few t x y inv hx hy in
          let there = λ (not : x ≡ k.sx → y ≡ k.sy → ⊥).
          unit_elsewhere t size i j b inv k x y p q hx hy hp hq not ∙ inv.units x y p q hx hy hp hq
          ∙ sym (unit_elsewhere t size i j b inv k x y (first_in_unit (split_at t x y) p) (first_in_unit (split_at t x y) q) hx hy (first_below (split_at t x y) p few hp) (first_below (split_at t x y) q few hq) not) in
          elim (cases_eq x k.sx) [
            | inl e ↦ elim (cases_eq y k.sy) [
              | inl e' ↦ rw (e, e') (unit_equal t size i j b inv k p q hp hq)
              | inr n ↦ there (λ a c. n c)
            ]
            | inr n ↦ there (λ a c. n a)
          ];
    }

-- a split may be written where no block is read
pub split_lawful : (t : BlockTable) (sx sy split : ℕ) → IsBlockTable t → AllGrey t.blocks → split ≤ 2 → IsBlockTable (with_split t sx sy split)
split_lawful t sx sy split inv all two =
    record {
      size = inv.size;
      splits_len = length-set t.splits (sy * t.across + sx) split ∙ inv.splits_len;
      blocks_len = inv.blocks_len;
      splits = All-set (λ s. s ≤ 2) t.splits (sy * t.across + sx) split two inv.splits;
      blocks = inv.blocks;
      units = λ x y p q hx hy hp hq. all _ ∙ sym (all _);
    }

-- where another table is the same, so is the unit that is written
pub unit_written : (t u : BlockTable) (blocks : List Block) (size i j : ℕ) (b : Block) → t ≡ u → blocks ≡ rows_filled (4 * t.across) t.blocks size i j b size → (let v : BlockTable = record t { blocks = blocks } in v ≡ with_unit u size i j b)
unit_written t u blocks size i j b same is =
    ap (λ (bs : List Block). let v : BlockTable = record t { blocks = bs } in v) is ∙ ap (λ (v : BlockTable). with_unit v size i j b) same
