-- A table with a unit filled in, block by block.
use Rattle.std.proofs.Common.{◌≡◌, ℕ, ◌+◌, ◌-◌, ◌*◌, ◌/◌, ◌%◌, ◌<◌, ◌≤◌, ◌⊎◌, inl, inr, sym, ap, ap₂, ◌∙◌, arith, subst, List, length, get_or, ext_get_or}
use Rattle.std.proofs.lemmas.Bool.{cases_lt, cases_eq}
use Rattle.std.proofs.lemmas.Nat.{mul-le}
use Rattle.dirac_block_table.specs.declared.block.Block.{Block}
use Rattle.dirac_blocks.specs.Grammar.{with_unit}
use Rattle.dirac_blocks.specs.Reached.{IsFirstOfUnit, SameShape}
use Rattle.dirac_block_table.specs.Tables.{BlockTable, IsBlockTable, grey, block_at, split_at, unit_size, first_in_unit}
use Rattle.dirac_block_table.proofs.Fills.{filled_outside, split_few, unit_ends}
use Rattle.dirac_block_table.proofs.Putting.{IsOutside}
use Rattle.dirac_block_table.proofs.Units.{of_splits}

-- the unit of a column
unit_is : (split p u : ℕ) → split ≤ 2 → u * unit_size split ≤ p → p < u * unit_size split + unit_size split → p / unit_size split ≡ u
unit_is split p u h =
    of_splits (λ s. u * unit_size s ≤ p → p < u * unit_size s + unit_size s → p / unit_size s ≡ u) split h (λ a b. omega arith) (λ a b. omega arith) (λ a b. omega arith)

-- all blocks of a unit equal its first one
pub square : (t : BlockTable) (size i j : ℕ) → IsBlockTable t → IsFirstOfUnit t size i j
    → (x y : ℕ) → i ≤ x → x < i + size → j ≤ y → y < j + size → block_at t x y ≡ block_at t i j
square t size i j inv k x y left right top bottom =
    let s = split_at t k.sx k.sy in
    let two : s ≤ 2 = split_few t k.sx k.sy inv k.across k.down in
    let is = k.is in
    let column = k.column in
    let row = k.row in
    let p = x - 4 * k.sx in
    let q = y - 4 * k.sy in
    let u_end : k.u * size + size ≤ 4 = subst (λ (n : ℕ). k.u * n + n ≤ 4) (sym is) (unit_ends s k.u two k.some) in
    let v_end : k.v * size + size ≤ 4 = subst (λ (n : ℕ). k.v * n + n ≤ 4) (sym is) (unit_ends s k.v two k.few) in
    let pu : p / unit_size s ≡ k.u =
    unit_is s p k.u two (subst (λ (n : ℕ). k.u * n ≤ p) is (omega arith)) (subst (λ (n : ℕ). p < k.u * n + n) is (omega arith)) in
    let qv : q / unit_size s ≡ k.v =
    unit_is s q k.v two (subst (λ (n : ℕ). k.v * n ≤ q) is (omega arith)) (subst (λ (n : ℕ). q < k.v * n + n) is (omega arith)) in
    let same = inv.units k.sx k.sy p q k.across k.down (omega arith) (omega arith) in
    let px : 4 * k.sx + p ≡ x = omega arith in
    let qy : 4 * k.sy + q ≡ y = omega arith in
    let fi : 4 * k.sx + first_in_unit s p ≡ i = ap (λ (n : ℕ). 4 * k.sx + n * unit_size s) pu ∙ ap (λ (n : ℕ). 4 * k.sx + k.u * n) (sym is) ∙ sym column in
    let fj : 4 * k.sy + first_in_unit s q ≡ j = ap (λ (n : ℕ). 4 * k.sy + n * unit_size s) qv ∙ ap (λ (n : ℕ). 4 * k.sy + k.v * n) (sym is) ∙ sym row in
    ap (λ (n : ℕ). block_at t n y) (sym px) ∙ ap (λ (n : ℕ). block_at t (4 * k.sx + p) n) (sym qy) ∙ same
    ∙ ap (λ (n : ℕ). block_at t n (4 * k.sy + first_in_unit s q)) fi ∙ ap (λ (n : ℕ). block_at t i n) fj

-- where a block stands in a unit
pub record InSquare (size i j x y : ℕ) : Type 0 where
  pub left : i ≤ x
  pub right : x < i + size
  pub top : j ≤ y
  pub bottom : y < j + size

-- a block is one of the unit's, or it stays
pub filled_or_same : (t : BlockTable) (size i j : ℕ) (b : Block) → IsBlockTable t → IsFirstOfUnit t size i j
    → (x y : ℕ) → x < 4 * t.across → InSquare size i j x y ⊎ (block_at (with_unit t size i j b) x y ≡ block_at t x y)
filled_or_same t size i j b inv k x y inside =
    let stays = λ (o : IsOutside i (i + size) j (j + size) x y). filled_outside t size i j b inv k x y inside o in
    elim (cases_lt x i) [
      | inl l ↦ inr (stays (inl (inl l)))
      | inr a ↦ elim (cases_lt x (i + size)) [
        | inr l ↦ inr (stays (inl (inr l)))
        | inl c ↦ elim (cases_lt y j) [
          | inl l ↦ inr (stays (inr (inl l)))
          | inr d ↦ elim (cases_lt y (j + size)) [
            | inr l ↦ inr (stays (inr (inr l)))
            | inl e ↦ inl (record { left = a; right = c; top = d; bottom = e })
          ]
        ]
      ]
    ]

pub same_table : (a b : BlockTable) → a.across ≡ b.across → a.down ≡ b.down → a.refs ≡ b.refs → a.splits ≡ b.splits → a.blocks ≡ b.blocks → a ≡ b
same_table a b p q r s t =
    let make : ℕ → ℕ → ℕ → List ℕ → List Block → BlockTable = λ x y z w v. record { across = x; down = y; refs = z; splits = w; blocks = v } in
    ap (λ x. make x a.down a.refs a.splits a.blocks) p ∙ ap (λ x. make b.across x a.refs a.splits a.blocks) q
    ∙ ap (λ x. make b.across b.down x a.splits a.blocks) r ∙ ap (λ x. make b.across b.down b.refs x a.blocks) s
    ∙ ap (λ x. make b.across b.down b.refs b.splits x) t

-- the row and column of a place
pub place_row : (w h k : ℕ) → k < h * w → (0 < w) × (k / w < h) × (k % w < w) × (k / w * w + k % w ≡ k)
place_row w h k l =
    elim (cases_eq w 0) [
      | inl none ↦ let z : h * w ≡ 0 = rw none (omega arith) in absurd (omega arith)
      | inr some ↦
          let pos : 0 < w = omega arith in
          let rest : k % w < w = omega arith in
          let parts : k / w * w + k % w ≡ k = omega arith in
          let row : k / w < h = elim (cases_lt (k / w) h) [ inl a ↦ a | inr b ↦ absurd (past w h k b rest parts l) ] in
          (pos, row, rest, parts)
    ]
  where
    past : (w h k : ℕ) → h ≤ k / w → k % w < w → k / w * w + k % w ≡ k → k < h * w → ⊥
    past w h k b rest parts l = let m : h * w ≤ k / w * w = mul-le h w (k / w) w b (omega arith) in omega arith

-- lists by rows that are the same at each place are one
pub same_places : {A : Type 0} (d : A) (xs ys : List A) (w h : ℕ) → length xs ≡ h * w → length ys ≡ h * w
    → ((x y : ℕ) → x < w → y < h → get_or xs (y * w + x) d ≡ get_or ys (y * w + x) d) → xs ≡ ys
same_places d xs ys w h p q all =
    ext_get_or d xs ys (p ∙ sym q) (λ k l.
    let parts = place_row w h k (omega arith) in
    ap (λ (n : ℕ). get_or xs n d) (sym parts.3) ∙ all (k % w) (k / w) parts.2 parts.1 ∙ ap (λ (n : ℕ). get_or ys n d) parts.3)

-- tables of one shape whose blocks are the same are one
pub one_table : (t u : BlockTable) → IsBlockTable t → IsBlockTable u → SameShape u t
    → ((x y : ℕ) → x < 4 * u.across → y < 4 * u.down → block_at t x y ≡ block_at u x y) → t ≡ u
one_table t u inv inv' s all =
    let w : 4 * t.across ≡ 4 * u.across = ap (λ (n : ℕ). 4 * n) s.across in
    same_table t u s.across s.down s.refs s.splits
    (same_places grey t.blocks u.blocks (4 * u.across) (4 * u.down) (inv.blocks_len ∙ ap₂ (λ (h k : ℕ). 4 * h * k) s.down w) inv'.blocks_len
    (λ x y p q. ap (λ (n : ℕ). get_or t.blocks (y * n + x) grey) (sym w) ∙ all x y p q))
