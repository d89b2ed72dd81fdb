-- Steps of a table, its sizes and its units.
use Rattle.std.proofs.Common.{◌≡◌, ℕ, ◌+◌, ◌*◌, ◌%◌, ◌^◌, ◌<◌, ◌≤◌, [], ◌∷◌, Result, Ok, Err, refl, sym, ap, ap₂, ◌∙◌, arith, subst, List, inl, inr, replicate, slice_index_or}
use Rattle.std.proofs.lemmas.Bool.{cases_lt}
use Rattle.std.proofs.lemmas.List.{length-replicate, get_or-replicate, get_or_past}
use Rattle.std.proofs.lemmas.Nat.{mul-le}
use Rattle.dirac_common.specs.declared.faults.Cause.{Cause}
use Rattle.dirac_arith.specs.Coded.{done, read_coded, repeated}
use Rattle.dirac_arith.proofs.CodedValues.{then_is_read}
use Rattle.dirac_arith.specs.Deciding.{number_read}
use Rattle.dirac_arith.specs.Reading.{Reading}
use Rattle.dirac_blocks.specs.declared.parts.ListKind.{ListKind}
use Rattle.dirac_blocks.specs.Decisions.{UnitPart, predicted_split, superblock_part, unit_rows}
use Rattle.dirac_blocks.specs.Grammar.{TableStep, empty_table, split_step, superblock_step, unit_coded, unit_read_step, unit_row_step, unit_rows_step, with_split, with_unit}
use Rattle.dirac_blocks.specs.Reached.{AllGrey, IsFirstOfUnit, SameBlocks, SameShape, SameSize}
use Rattle.dirac_block_table.specs.declared.block.Block.{Block}
use Rattle.dirac_block_table.specs.Tables.{BlockTable, grey, split_at, unit_size}
use Rattle.dirac_block_table.proofs.Units.{of_splits}

-- steps by rows and columns, where sizes are the same
pub repeated_sizes : (step : ℕ → ℕ → TableStep) {a b c d : ℕ} (t : BlockTable) (r : Reading) {y : Result (BlockTable × Reading) Cause} → a ≡ b → c ≡ d
    → read_coded (repeated (λ j. repeated (step j) a) c t) r ≡ y → read_coded (repeated (λ j. repeated (step j) b) d t) r ≡ y
repeated_sizes step t r p q is = rw (← p, ← q) is

pub shape_refl : (t : BlockTable) → SameShape t t
shape_refl t = record { across = refl; down = refl; refs = refl; splits = refl }

pub shape_join : (a b c : BlockTable) → SameShape a b → SameShape b c → SameShape a c
shape_join a b c p q = record { across = q.across ∙ p.across; down = q.down ∙ p.down; refs = q.refs ∙ p.refs; splits = q.splits ∙ p.splits }

pub size_refl : (t : BlockTable) → SameSize t t
size_refl t = record { across = refl; down = refl; refs = refl }

pub size_join : (a b c : BlockTable) → SameSize a b → SameSize b c → SameSize a c
size_join a b c p q = record { across = q.across ∙ p.across; down = q.down ∙ p.down; refs = q.refs ∙ p.refs }

pub blocks_refl : (t : BlockTable) → SameBlocks t t
blocks_refl t = record { across = refl; down = refl; refs = refl; blocks = refl }

pub blocks_join : (a b c : BlockTable) → SameBlocks a b → SameBlocks b c → SameBlocks a c
blocks_join a b c p q = record { across = q.across ∙ p.across; down = q.down ∙ p.down; refs = q.refs ∙ p.refs; blocks = q.blocks ∙ p.blocks }

pub split_same : (a b : BlockTable) (sx sy : ℕ) → SameShape a b → split_at b sx sy ≡ split_at a sx sy
split_same a b sx sy s =
    ap (λ (n : ℕ). slice_index_or b.splits (sy * n + sx) 0) s.across ∙ ap (λ (xs : List ℕ). slice_index_or xs (sy * a.across + sx) 0) s.splits

-- units of one table are those of another of its shape
pub unit_same : (a b : BlockTable) (size i j : ℕ) → SameShape a b → IsFirstOfUnit a size i j → IsFirstOfUnit b size i j
unit_same a b size i j s k =
    let split = split_same a b k.sx k.sy s in
    record {
      sx = k.sx;
      sy = k.sy;
      u = k.u;
      v = k.v;
      across = subst (λ (n : ℕ). k.sx < n) (sym s.across) k.across;
      down = subst (λ (n : ℕ). k.sy < n) (sym s.down) k.down;
      is = k.is ∙ ap (λ (n : ℕ). unit_size n) (sym split);
      some = subst (λ (n : ℕ). k.u < 2 ^ n) (sym split) k.some;
      few = subst (λ (n : ℕ). k.v < 2 ^ n) (sym split) k.few;
      column = k.column;
      row = k.row;
    }

-- the place of unit n of `count` lies within them
pub unit_within : (i n count size most : ℕ) → n < count → 1 ≤ size → i + count * size ≤ most → i + n * size + 1 ≤ most
unit_within i n count size most less some all =
    let step : (n + 1) * size ≤ count * size = mul-le (n + 1) size count size (omega arith) (omega arith) in
    omega arith

-- the units of a superblock fill it
pub units_fill : (split : ℕ) → split ≤ 2 → 2 ^ split * unit_size split ≡ 4
units_fill split h = of_splits (λ s. 2 ^ s * unit_size s ≡ 4) split h (omega arith) (omega arith) (omega arith)

pub fill_of : (split size across : ℕ) → split ≤ 2 → size ≡ unit_size split → across ≡ 2 ^ split → across * size ≡ 4
fill_of split size across h p q = ap₂ (λ (a b : ℕ). a * b) q p ∙ units_fill split h

pub unit_of_superblock : (u : BlockTable) (sx sy k l : ℕ) → sx < u.across → sy < u.down → k < 2 ^ split_at u sx sy → l < 2 ^ split_at u sx sy
    → (let size = unit_size (split_at u sx sy) in IsFirstOfUnit u size (4 * sx + k * size) (4 * sy + l * size))
unit_of_superblock u sx sy k l hx hy hk hl =
    record { sx = sx; sy = sy; u = k; v = l; across = hx; down = hy; is = refl; some = hk; few = hl; column = refl; row = refl }

-- the same, in a table of that shape, where the split's numbers were computed
pub unit_there : (t m : BlockTable) (sx sy split size across k l : ℕ) → SameShape t m → sx < t.across → sy < t.down → split ≡ split_at t sx sy → size ≡ unit_size split → across ≡ 2 ^ split
    → k < across → l < across → IsFirstOfUnit m size (4 * sx + k * size) (4 * sy + l * size)
unit_there t m sx sy split size across k l shape hx hy is p q hk hl =
    let units : across ≡ 2 ^ split_at t sx sy = q ∙ ap (λ (n : ℕ). 2 ^ n) is in
    let blocks : size ≡ unit_size (split_at t sx sy) = p ∙ ap (λ (n : ℕ). unit_size n) is in
    let here = unit_of_superblock t sx sy k l hx hy (subst (λ (n : ℕ). k < n) units hk) (subst (λ (n : ℕ). l < n) units hl) in
    unit_same t m size (4 * sx + k * size) (4 * sy + l * size) shape (subst (λ (n : ℕ). IsFirstOfUnit t n (4 * sx + k * n) (4 * sy + l * n)) (sym blocks) here)

-- rows of units that are all rows of a superblock
pub superblock_read : (part : ListKind) (t : BlockTable) (sx sy split size across n : ℕ) (r : Reading) (y : Result (BlockTable × Reading) Cause)
    → split ≡ split_at t sx sy → size ≡ unit_size split → across ≡ 2 ^ split → n ≡ across
    → read_coded (unit_rows_step part size across (4 * sx) (4 * sy) n t) r ≡ y → read_coded (superblock_step part sy sx t) r ≡ y
unfolding superblock_step
superblock_read part t sx sy split size across n r y is p q all found =
    let s = split_at t sx sy in
    let units : across ≡ 2 ^ s = q ∙ ap (λ (k : ℕ). 2 ^ k) is in
    let blocks : size ≡ unit_size s = p ∙ ap (λ (k : ℕ). unit_size k) is in
    let one = subst (λ (k : ℕ). read_coded (unit_rows_step part k across (4 * sx) (4 * sy) n t) r ≡ y) blocks found in
    let two = subst (λ (k : ℕ). read_coded (unit_rows_step part (unit_size s) k (4 * sx) (4 * sy) n t) r ≡ y) units one in
    subst (λ (k : ℕ). read_coded (unit_rows_step part (unit_size s) (2 ^ s) (4 * sx) (4 * sy) k t) r ≡ y) (all ∙ units) two

pub superblock_told : (part : UnitPart) (t : BlockTable) (sx sy split size across n : ℕ) → split ≡ split_at t sx sy → size ≡ unit_size split → across ≡ 2 ^ split → n ≡ across
    → unit_rows part size across (4 * sx) (4 * sy) n ≡ superblock_part part t sx sy
superblock_told part t sx sy split size across n is p q all =
    let s = split_at t sx sy in
    let units : across ≡ 2 ^ s = q ∙ ap (λ (k : ℕ). 2 ^ k) is in
    let blocks : size ≡ unit_size s = p ∙ ap (λ (k : ℕ). unit_size k) is in
    ap (λ (k : ℕ). unit_rows part k across (4 * sx) (4 * sy) n) blocks
    ∙ ap (λ (k : ℕ). unit_rows part (unit_size s) k (4 * sx) (4 * sy) n) units
    ∙ ap (λ (k : ℕ). unit_rows part (unit_size s) (2 ^ s) (4 * sx) (4 * sy) k) (all ∙ units)

-- a split that is read, and written into the table
pub split_found : (t u : BlockTable) (sx sy number : ℕ) (old new : Reading) → number_read (22 ∷ 23 ∷ []) 24 old ≡ Ok (number, new) → u ≡ with_split t sx sy ((number + predicted_split t sx sy) % 3)
    → read_coded (split_step sy sx t) old ≡ Ok (u, new)
unfolding split_step
split_found t u sx sy number old new found is = rw found (ap (λ (v : BlockTable). let x : Result (BlockTable × Reading) Cause = Ok (v, new) in x) (sym is))

pub split_refused : (t : BlockTable) (sx sy : ℕ) (old : Reading) (e : Cause) → number_read (22 ∷ 23 ∷ []) 24 old ≡ Err e → read_coded (split_step sy sx t) old ≡ Err e
unfolding split_step
split_refused t sx sy old e refused = rw refused refl

pub split_written : (t u : BlockTable) (sx sy split : ℕ) → u ≡ with_split t sx sy split → SameBlocks t u
split_written t u sx sy split is = subst (SameBlocks t) (sym is) (record { across = refl; down = refl; refs = refl; blocks = refl })

-- a unit that is read, and written into the table
pub unit_found : (part : ListKind) (t u : BlockTable) (size i j : ℕ) (b : Block) (old new : Reading) → read_coded (unit_coded part t i j) old ≡ Ok (b, new) → u ≡ with_unit t size i j b
    → read_coded (unit_read_step part size i j t) old ≡ Ok (u, new)
unfolding unit_read_step
unit_found part t u size i j b old new found is =
    then_is_read (unit_coded part t i j) (λ x. done (with_unit t size i j x)) old ∙ rw found (ap (λ (v : BlockTable). let x : Result (BlockTable × Reading) Cause = Ok (v, new) in x) (sym is))

pub unit_refused : (part : ListKind) (t : BlockTable) (size i j : ℕ) (old : Reading) (e : Cause) → read_coded (unit_coded part t i j) old ≡ Err e → read_coded (unit_read_step part size i j t) old ≡ Err e
unfolding unit_read_step
unit_refused part t size i j old e refused = then_is_read (unit_coded part t i j) (λ x. done (with_unit t size i j x)) old ∙ rw refused refl

pub unit_written : (t u : BlockTable) (size i j : ℕ) (b : Block) → u ≡ with_unit t size i j b → SameShape t u
unit_written t u size i j b is = subst (SameShape t) (sym is) (record { across = refl; down = refl; refs = refl; splits = refl })

-- before anything is read all blocks are DC blocks of value 0
pub empty_grey : (across down refs : ℕ) → AllGrey (empty_table across down refs).blocks
empty_grey across down refs k =
    let count = 4 * down * (4 * across) in
    elim (cases_lt k count) [
      | inl inside ↦ get_or-replicate count k grey grey inside
      | inr past ↦ get_or_past (replicate count grey) k grey (omega (arith, length-replicate count grey))
    ]

-- how far a superblock is read in row v of its units: to the first u of them, behind all rows before it
pub record UnitsReached (part : ListKind) (size across i j : ℕ) (old : BlockTable) (start : Reading) (v u : ℕ) (t : BlockTable) (r : Reading) : Type 0 where
  pub table : BlockTable
  pub reading : Reading
  pub rows : read_coded (unit_rows_step part size across i j v old) start ≡ Ok (table, reading)
  pub row : read_coded (unit_row_step part size i (j + v * size) u table) reading ≡ Ok (t, r)
