-- A later list changes nothing that the lists before it tell, so they are told by the same decisions of the finished table.
use Rattle.std.proofs.Common.{◌≡◌, ℕ, zero, suc, ℤ, ◌+◌, ◌*◌, ◌/◌, ◌%◌, ◌<◌, inl, inr, Bool, List, [], ◌∷◌, ◌++◌, length, get_or, Option, Some, refl, sym, ap, ap₂, ◌∙◌, arith, subst}
use Rattle.std.specs.Prelude.{option_map, if◌then◌else◌, ◌==◌}
use Rattle.std.proofs.lemmas.Bool.{cases_lt}
use Rattle.std.proofs.lemmas.List.{get_or_past}
use Rattle.dirac_common.specs.declared.formats.Vector.{Vector}
use Rattle.dirac_arith.specs.Interval.{Decision}
use Rattle.dirac_vectors.specs.Predictions.{dc_of, mode_of}
use Rattle.dirac_block_table.specs.declared.block.Block.{Block}
use Rattle.dirac_common.specs.declared.formats.Component.{Component}
use Rattle.dirac_common.specs.declared.formats.Component.TheVariants as components
use Rattle.dirac_blocks.specs.declared.parts.ListKind.{ListKind}
use Rattle.dirac_blocks.specs.declared.parts.ListKind.TheVariants as parts
use Rattle.dirac_block_table.specs.declared.reference.Reference.TheVariants as references
use Rattle.dirac_blocks.specs.Carried.{with_list_part, IsWithPart}
use Rattle.dirac_blocks.specs.Decisions.{UnitPart, predicted, counted, differ, less_prediction, ref1_at, ref2_at, superblock_part, superblock_row, superblock_rows, unit_decisions}
use Rattle.dirac_blocks.specs.Grammar.{block_using, is_dc}
use Rattle.dirac_blocks.specs.Parts.{vector_at, dc_at, part_at}
use Rattle.dirac_blocks.specs.Reached.{SameShape}
use Rattle.dirac_block_table.specs.Tables.{BlockTable, IsBlockTable, block_at, grey}
use Rattle.dirac_blocks.proofs.Stages.{counted_map, components_same}
use Rattle.dirac_blocks.proofs.Filled.{same_table, place_row}

-- what the modes and one list tell of a block
abbrev pub told : ListKind → Block → Block
told part b = with_list_part part (block_using b.ref1 b.ref2) b

pub places_same : {A : Type 0} (f g : ℕ → ℕ → A) → ((x y : ℕ) → f x y ≡ g x y) → f ≡ g
places_same f g same = λ i x y. same x y i

-- two tables that the modes and one list tell the same of
abbrev pub ToldSame : ListKind → BlockTable → BlockTable → Type 0
ToldSame part t u = (x y : ℕ) → told part (block_at t x y) ≡ told part (block_at u x y)

across1 : (b : Block) → option_map (λ (w : Vector). w.x) (counted b.ref1 b.v1) ≡ counted b.ref1 b.v1.x
across1 b = counted_map (λ w. w.x) b.ref1 b.v1

across2 : (b : Block) → option_map (λ (w : Vector). w.x) (counted b.ref2 b.v2) ≡ counted b.ref2 b.v2.x
across2 b = counted_map (λ w. w.x) b.ref2 b.v2

down1 : (b : Block) → option_map (λ (w : Vector). w.y) (counted b.ref1 b.v1) ≡ counted b.ref1 b.v1.y
down1 b = counted_map (λ w. w.y) b.ref1 b.v1

down2 : (b : Block) → option_map (λ (w : Vector). w.y) (counted b.ref2 b.v2) ≡ counted b.ref2 b.v2.y
down2 b = counted_map (λ w. w.y) b.ref2 b.v2

-- and that are coded for as many references: a list tells the same of both
pub part_same : (part : ListKind) (t u : BlockTable) → t.refs ≡ u.refs → ToldSame part t u → (i j : ℕ) → part_at part t i j ≡ part_at part u i j
part_same parts.Modes t u refs same i j =
    let one : ref1_at t ≡ ref1_at u = places_same (ref1_at t) (ref1_at u) (λ x y. ap (λ (b : Block). let o : Option Bool = Some b.ref1 in o) (same x y)) in
    let two : ref2_at t ≡ ref2_at u = places_same (ref2_at t) (ref2_at u) (λ x y. ap (λ (b : Block). let o : Option Bool = Some b.ref2 in o) (same x y)) in
    let first = ap₂ differ (ap (λ (b : Block). let o : Bool = b.ref1 in o) (same i j)) (ap (λ (f : ℕ → ℕ → Option Bool). predicted mode_of f i j) one) in
    let second = ap₂ differ (ap (λ (b : Block). let o : Bool = b.ref2 in o) (same i j)) (ap (λ (f : ℕ → ℕ → Option Bool). predicted mode_of f i j) two) in
    let make : ℕ → Bool → Bool → List Decision = λ n a b. let d : Decision = (25, a) in let e : Decision = (26, b) in d ∷ (if n == 2 then e ∷ [] else []) in
    let a = differ (block_at t i j).ref1 (predicted mode_of (ref1_at t) i j) in
    let b = differ (block_at t i j).ref2 (predicted mode_of (ref2_at t) i j) in
    ap (λ (n : ℕ). make n a b) refs ∙ ap₂ (λ (a b : Bool). make u.refs a b) first second
part_same (parts.Across references.First) t u refs same i j =
    components_same (λ w. w.x) (vector_at references.First t) (vector_at references.First u)
    (λ x y. across1 (block_at t x y) ∙ ap (λ (b : Block). counted b.ref1 b.v1.x) (same x y) ∙ sym (across1 (block_at u x y))) i j
part_same (parts.Across references.Second) t u refs same i j =
    components_same (λ w. w.x) (vector_at references.Second t) (vector_at references.Second u)
    (λ x y. across2 (block_at t x y) ∙ ap (λ (b : Block). counted b.ref2 b.v2.x) (same x y) ∙ sym (across2 (block_at u x y))) i j
part_same (parts.Down references.First) t u refs same i j =
    components_same (λ w. w.y) (vector_at references.First t) (vector_at references.First u)
    (λ x y. down1 (block_at t x y) ∙ ap (λ (b : Block). counted b.ref1 b.v1.y) (same x y) ∙ sym (down1 (block_at u x y))) i j
part_same (parts.Down references.Second) t u refs same i j =
    components_same (λ w. w.y) (vector_at references.Second t) (vector_at references.Second u)
    (λ x y. down2 (block_at t x y) ∙ ap (λ (b : Block). counted b.ref2 b.v2.y) (same x y) ∙ sym (down2 (block_at u x y))) i j
part_same (parts.Dc c) t u refs same i j =
    let values : (x y : ℕ) → dc_at c t x y ≡ dc_at c u x y = λ x y. dc_view c t u x y (same x y) in
    ap₂ (λ (p : ℤ) (o : Option ℤ). less_prediction (34 ∷ 35 ∷ []) 36 37 p o)
    (ap (λ (f : ℕ → ℕ → Option ℤ). predicted dc_of f i j) (places_same (dc_at c t) (dc_at c u) values)) (values i j)
  where
    dc_view : (c : Component) (t u : BlockTable) (x y : ℕ) → told (parts.Dc c) (block_at t x y) ≡ told (parts.Dc c) (block_at u x y) → dc_at c t x y ≡ dc_at c u x y
    dc_view components.Y t u x y e = ap (λ (b : Block). counted (is_dc b) b.dc_y) e
    dc_view components.U t u x y e = ap (λ (b : Block). counted (is_dc b) b.dc_u) e
    dc_view components.V t u x y e = ap (λ (b : Block). counted (is_dc b) b.dc_v) e

-- a table with other blocks
abbrev pub with_blocks : BlockTable → List Block → BlockTable
with_blocks t blocks = record t { blocks = blocks }

-- what a list doesn't tell of a block outside
nothing_told : (part : ListKind) → with_list_part part grey grey ≡ grey
nothing_told parts.Modes = refl
nothing_told (parts.Across references.First) = refl
nothing_told (parts.Across references.Second) = refl
nothing_told (parts.Down references.First) = refl
nothing_told (parts.Down references.Second) = refl
nothing_told (parts.Dc components.Y) = refl
nothing_told (parts.Dc components.U) = refl
nothing_told (parts.Dc components.V) = refl

-- tables that differ in one list are so everywhere, outside too
everywhere : (part : ListKind) (t : BlockTable) (ys : List Block) → length t.blocks ≡ 4 * t.down * (4 * t.across) → length ys ≡ length t.blocks
    → ((x y : ℕ) → x < 4 * t.across → y < 4 * t.down → with_list_part part (block_at t x y) (block_at (with_blocks t ys) x y) ≡ block_at (with_blocks t ys) x y)
    → (k : ℕ) → with_list_part part (get_or t.blocks k grey) (get_or ys k grey) ≡ get_or ys k grey
everywhere part t ys len len' inside k =
    elim (cases_lt k (4 * t.down * (4 * t.across))) [
      | inl l ↦
          let place = place_row (4 * t.across) (4 * t.down) k l in
          subst (λ (n : ℕ). with_list_part part (get_or t.blocks n grey) (get_or ys n grey) ≡ get_or ys n grey) place.3
          (inside (k % (4 * t.across)) (k / (4 * t.across)) place.2 place.1)
      | inr l ↦
          let out = get_or_past t.blocks k grey (omega arith) in
          let out' = get_or_past ys k grey (omega arith) in
          ap₂ (λ (a b : Block). with_list_part part a b) out out' ∙ nothing_told part ∙ sym out'
    ]

-- what a list tells doesn't change what the first one told
abbrev pub Keeps : ListKind → ListKind → Type 0
Keeps first part = (b c : Block) → told first (with_list_part part b c) ≡ told first b

-- lists read no blocks but by their parts
row_there : (p : UnitPart) (t : BlockTable) (ys : List Block) (sy n : ℕ) → superblock_row p t sy n ≡ superblock_row p (with_blocks t ys) sy n
unfolding superblock_row
row_there p t ys sy zero = refl
row_there p t ys sy (suc n) = ap (λ (ds : List Decision). ds ++ superblock_part p t n sy) (row_there p t ys sy n)

rows_there : (p : UnitPart) (t : BlockTable) (ys : List Block) (n : ℕ) → superblock_rows p t n ≡ superblock_rows p (with_blocks t ys) n
unfolding superblock_rows
rows_there p t ys zero = refl
rows_there p t ys (suc n) = ap₂ (λ (ds es : List Decision). ds ++ es) (rows_there p t ys n) (row_there p t ys n t.across)

-- lists are told alike of tables that the modes and they tell the same of
pub lists_same : (part : ListKind) (t : BlockTable) (ys : List Block) → ToldSame part t (with_blocks t ys) → unit_decisions t (part_at part t) ≡ unit_decisions (with_blocks t ys) (part_at part (with_blocks t ys))
lists_same part t ys same =
    let u = with_blocks t ys in
    ap (λ (p : UnitPart). unit_decisions t p) (places_same (part_at part t) (part_at part u) (part_same part t u refl same)) ∙ rows_there (part_at part u) t ys t.down

-- a later list leaves a list's decisions as they are
kept_there : (first part : ListKind) (t : BlockTable) (ys : List Block) → length t.blocks ≡ 4 * t.down * (4 * t.across) → length ys ≡ length t.blocks
    → ((x y : ℕ) → x < 4 * t.across → y < 4 * t.down → with_list_part part (block_at t x y) (block_at (with_blocks t ys) x y) ≡ block_at (with_blocks t ys) x y)
    → Keeps first part → unit_decisions t (part_at first t) ≡ unit_decisions (with_blocks t ys) (part_at first (with_blocks t ys))
kept_there first part t ys len len' inside keeps =
    let every = everywhere part t ys len len' inside in
    let same : ToldSame first t (with_blocks t ys) = λ x y.
    let k = y * (4 * t.across) + x in
    sym (keeps (get_or t.blocks k grey) (get_or ys k grey)) ∙ ap (λ (b : Block). told first b) (every k) in
    lists_same first t ys same

-- tables of one shape are one table with other blocks
pub shaped : (t u : BlockTable) → SameShape t u → with_blocks t u.blocks ≡ u
shaped t u s = same_table (with_blocks t u.blocks) u (sym s.across) (sym s.down) (sym s.refs) (sym s.splits) refl

-- a later list leaves a list's decisions as they are
pub kept_decisions : (first part : ListKind) (t u : BlockTable) → IsBlockTable t → IsBlockTable u → IsWithPart part t u → Keeps first part
    → unit_decisions t (part_at first t) ≡ unit_decisions u (part_at first u)
kept_decisions first part t u inv inv' rest keeps =
    let same = shaped t u rest.shape in
    let Differ : BlockTable → Type 0 = λ v. (x y : ℕ) → x < 4 * t.across → y < 4 * t.down → with_list_part part (block_at t x y) (block_at v x y) ≡ block_at v x y in
    let lens : length u.blocks ≡ length t.blocks =
    inv'.blocks_len ∙ ap₂ (λ (a b : ℕ). 4 * b * (4 * a)) rest.shape.across rest.shape.down ∙ sym inv.blocks_len in
    kept_there first part t u.blocks inv.blocks_len lens (subst Differ (sym same) rest.blocks) keeps
    ∙ ap (λ (v : BlockTable). unit_decisions v (part_at first v)) same
