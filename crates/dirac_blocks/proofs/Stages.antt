-- A finished table stage by stage: what the lists up to one have told of each block.
use Rattle.std.proofs.Common.{◌≡◌, ℕ, ℤ, ◌+◌, ◌-◌, ◌*◌, ◌<◌, inl, inr, Bool, List, [], ◌∷◌, ◌++◌, length, map, get_or, Option, Some, refl, sym, ap, ap₂, ◌∙◌, arith, subst}
use Rattle.std.specs.Prelude.{option_map, if◌then◌else◌, ◌==◌}
use Rattle.std.proofs.lemmas.Bool.{cases_Bool, cases_lt}
use Rattle.std.proofs.lemmas.List.{get_or_past, get_or-map, length-map}
use Rattle.std.proofs.lemmas.List.Elements.{All-map}
use Rattle.std.proofs.lemmas.Nat.{mul-add-lt}
use Rattle.dirac_common.specs.declared.formats.Vector.{Vector}
use Rattle.dirac_arith.specs.Carried.{Carries}
use Rattle.dirac_arith.specs.Interval.{Decision}
use Rattle.dirac_arith.specs.Written.{flush}
use Rattle.dirac_arith.proofs.Encodings.{flushed_is_carried}
use Rattle.dirac_vectors.specs.Predictions.{component_of, dc_of, mode_of}
use Rattle.dirac_block_table.specs.declared.block.Block.{Block}
use Rattle.dirac_common.specs.declared.formats.Component.TheVariants as components
use Rattle.dirac_blocks.specs.declared.parts.ListKind.{ListKind}
use Rattle.dirac_blocks.specs.declared.parts.ListKind.TheVariants as parts
use Rattle.dirac_block_table.specs.declared.reference.Reference.TheVariants as references
use Rattle.dirac_blocks.specs.Carried.{with_list_part, ReadsTo}
use Rattle.dirac_blocks.specs.Decisions.{left_of, above_of, corner_of, predicted, counted, differ, less_prediction, ref1_at, ref2_at, unit_decisions}
use Rattle.dirac_blocks.specs.Grammar.{units_step}
use Rattle.dirac_blocks.specs.Parts.{vector_at, dc_at, part_at}
use Rattle.dirac_block_table.specs.Tables.{BlockTable, IsBlock, IsBlockTable, block_at, grey, split_at, first_in_unit}
use Rattle.dirac_block_table.proofs.Fills.{split_few}
use Rattle.dirac_blocks.proofs.ForwardLoops.{carried_is_read}
use Rattle.dirac_blocks.proofs.InContexts.{in_parts}
use Rattle.dirac_blocks.proofs.Narrowing.{superblock_rows_joins}
use Rattle.dirac_blocks.proofs.Nearby.{left_holds, above_holds, corner_holds, predicted_same, using_lawful}
use Rattle.dirac_block_table.proofs.Units.{first_below}
use Rattle.dirac_blocks.proofs.Valued.{Tells, put_none, component_at, dc_is_at, across_tells, down_tells, dc_tells}
pub use Rattle.dirac_blocks.proofs.Valued.{counted_map}

-- the table with each block changed
abbrev pub by : (Block → Block) → BlockTable → BlockTable
by f t = record t { blocks = map f t.blocks }

pub by_at : (f : Block → Block) (t : BlockTable) (x y : ℕ) → y * (4 * t.across) + x < length t.blocks → block_at (by f t) x y ≡ f (block_at t x y)
by_at f t x y inside = get_or-map f t.blocks (y * (4 * t.across) + x) grey grey inside

pub place_inside : (t : BlockTable) (x y : ℕ) → IsBlockTable t → x < 4 * t.across → y < 4 * t.down → y * (4 * t.across) + x < length t.blocks
place_inside t x y inv p q = let h = mul-add-lt y (4 * t.across) x (4 * t.down) q p in omega (arith, inv.blocks_len)

-- what each block tells is what it told before, outside of the table too
by_view : {V : Type 0} (view : Block → V) (f : Block → Block) (t : BlockTable) → ((b : Block) → view (f b) ≡ view b) → (x y : ℕ) → view (block_at (by f t) x y) ≡ view (block_at t x y)
by_view view f t same x y =
    let place = y * (4 * t.across) + x in
    elim (cases_lt place (length t.blocks)) [
      | inl inside ↦ ap view (by_at f t x y inside) ∙ same (block_at t x y)
      | inr past ↦
          let lens : length (map f t.blocks) ≡ length t.blocks = length-map t.blocks f in
          ap view (get_or_past (map f t.blocks) place grey (omega arith)) ∙ sym (ap view (get_or_past t.blocks place grey past))
    ]

pub by_lawful : (f : Block → Block) (t : BlockTable) → IsBlockTable t → ((b : Block) → IsBlock t.refs b → IsBlock t.refs (f b)) → IsBlockTable (by f t)
by_lawful f t inv lawful =
    record {
      size = inv.size;
      splits_len = inv.splits_len;
      blocks_len = length-map t.blocks f ∙ inv.blocks_len;
      splits = inv.splits;
      blocks = All-map (IsBlock t.refs) f t.blocks (λ i d l. lawful (get_or t.blocks i d) (inv.blocks i d l));
      units = λ sx sy i j hx hy p q.
          let s = split_at t sx sy in
          let two = split_few t sx sy inv hx hy in
          let p' = first_below s i two p in
          let q' = first_below s j two q in
          by_at f t (4 * sx + i) (4 * sy + j) (place_inside t (4 * sx + i) (4 * sy + j) inv (omega arith) (omega arith))
          ∙ ap f (inv.units sx sy i j hx hy p q)
          ∙ sym (by_at f t (4 * sx + first_in_unit s i) (4 * sy + first_in_unit s j) (place_inside t (4 * sx + first_in_unit s i) (4 * sy + first_in_unit s j) inv (omega arith) (omega arith)));
    }

-- a stage, whose blocks use the references of the finished ones
pub record IsStage (t : BlockTable) (f : Block → Block) : Type 0 where
  pub ref1 : (b : Block) → (f b).ref1 ≡ b.ref1
  pub ref2 : (b : Block) → (f b).ref2 ≡ b.ref2
  pub lawful : (b : Block) → IsBlock t.refs b → IsBlock t.refs (f b)

-- a lawful block, with a value of another that uses the same references
told_lawful : (part : ListKind) (k : Tells part) (refs : ℕ) (b c : Block) → IsBlock refs b → IsBlock refs c → b.ref1 ≡ c.ref1 → b.ref2 ≡ c.ref2 → IsBlock refs (with_list_part part b c)
told_lawful part k refs b c h g p q =
    elim (cases_Bool (k.has b)) [
      | inl has ↦ subst (IsBlock refs) (sym (k.is.with_is b c)) (k.is.lawful refs b (k.value c) h has (k.is.short refs c g))
      | inr lacks ↦ subst (IsBlock refs) (put_none part k refs b c h g (k.is.alike b c p q) lacks) h
    ]

part_lawful : (part : ListKind) (refs : ℕ) (b c : Block) → IsBlock refs b → IsBlock refs c → b.ref1 ≡ c.ref1 → b.ref2 ≡ c.ref2 → IsBlock refs (with_list_part part b c)
part_lawful parts.Modes refs b c h g p q = using_lawful refs c.ref1 c.ref2 g.second
part_lawful (parts.Across k) refs b c h g p q = told_lawful (parts.Across k) (across_tells k) refs b c h g p q
part_lawful (parts.Down k) refs b c h g p q = told_lawful (parts.Down k) (down_tells k) refs b c h g p q
part_lawful (parts.Dc k) refs b c h g p q = told_lawful (parts.Dc k) (dc_tells k) refs b c h g p q

-- where both use the same references the block with a part of the other does so
refs_stay : (part : ListKind) (b c : Block) → b.ref1 ≡ c.ref1 → b.ref2 ≡ c.ref2 → ((with_list_part part b c).ref1 ≡ c.ref1) × ((with_list_part part b c).ref2 ≡ c.ref2)
refs_stay parts.Modes b c p q = (refl, refl)
refs_stay (parts.Across references.First) b c p q = (p, q)
refs_stay (parts.Across references.Second) b c p q = (p, q)
refs_stay (parts.Down references.First) b c p q = (p, q)
refs_stay (parts.Down references.Second) b c p q = (p, q)
refs_stay (parts.Dc components.Y) b c p q = (p, q)
refs_stay (parts.Dc components.U) b c p q = (p, q)
refs_stay (parts.Dc components.V) b c p q = (p, q)

-- the next stage
abbrev pub next_stage : ListKind → (Block → Block) → Block → Block
next_stage part f b = with_list_part part (f b) b

pub stage_next : (part : ListKind) (t : BlockTable) (f : Block → Block) → IsStage t f → IsStage t (next_stage part f)
stage_next part t f s =
    record {
      ref1 = λ b. (refs_stay part (f b) b (s.ref1 b) (s.ref2 b)).0;
      ref2 = λ b. (refs_stay part (f b) b (s.ref1 b) (s.ref2 b)).1;
      lawful = λ b h. part_lawful part t.refs (f b) b (s.lawful b h) h (s.ref1 b) (s.ref2 b);
    }

-- the modes of each stage from there on are those of the finished table
pub stage_modes : (t : BlockTable) (f : Block → Block) → ((b : Block) → IsBlock t.refs b → IsBlock t.refs (f b)) → IsStage t (next_stage parts.Modes f)
stage_modes t f lawful =
    record {
      ref1 = λ b. refl;
      ref2 = λ b. refl;
      lawful = λ b h. using_lawful t.refs b.ref1 b.ref2 h.second;
    }

-- the components of what stands beside a place stand beside it
component_is : (h : Vector → ℤ) (f : ℕ → ℕ → Option Vector) (i j : ℕ)
    → component_of (option_map h (left_of f i j)) (option_map h (above_of f i j)) (option_map h (corner_of f i j)) ≡ predicted component_of (λ x y. option_map h (f x y)) i j
component_is h f i j =
    let R = λ (o : Option Vector) (p : Option ℤ). option_map h o ≡ p in
    let g : ℕ → ℕ → Option ℤ = λ x y. option_map h (f x y) in
    rw (left_holds R f g i j refl (λ n. refl), above_holds R f g i j refl (λ n. refl), corner_holds R f g i j refl (λ n n'. refl)) refl

-- two tables whose vectors have the same components are told by the same decisions
pub components_same : (h : Vector → ℤ) (f g : ℕ → ℕ → Option Vector) → ((x y : ℕ) → option_map h (f x y) ≡ option_map h (g x y)) → (i j : ℕ)
    → less_prediction (27 ∷ 28 ∷ 29 ∷ 30 ∷ 31 ∷ []) 32 33 (component_of (option_map h (left_of f i j)) (option_map h (above_of f i j)) (option_map h (corner_of f i j))) (option_map h (f i j))
    ≡ less_prediction (27 ∷ 28 ∷ 29 ∷ 30 ∷ 31 ∷ []) 32 33 (component_of (option_map h (left_of g i j)) (option_map h (above_of g i j)) (option_map h (corner_of g i j))) (option_map h (g i j))
components_same h f g same i j =
    let prediction = component_is h f i j ∙ predicted_same component_of (λ x y. option_map h (f x y)) (λ x y. option_map h (g x y)) i j (λ p. same (i - 1) j) (λ p. same i (j - 1)) (λ p q. same (i - 1) (j - 1)) ∙ sym (component_is h g i j) in
    ap₂ (λ (p : ℤ) (o : Option ℤ). less_prediction (27 ∷ 28 ∷ 29 ∷ 30 ∷ 31 ∷ []) 32 33 p o) prediction (same i j)

dcs_same : (f g : ℕ → ℕ → Option ℤ) → ((x y : ℕ) → f x y ≡ g x y) → (i j : ℕ)
    → less_prediction (34 ∷ 35 ∷ []) 36 37 (predicted dc_of f i j) (f i j) ≡ less_prediction (34 ∷ 35 ∷ []) 36 37 (predicted dc_of g i j) (g i j)
dcs_same f g same i j =
    ap₂ (λ (p : ℤ) (o : Option ℤ). less_prediction (34 ∷ 35 ∷ []) 36 37 p o)
    (predicted_same dc_of f g i j (λ p. same (i - 1) j) (λ p. same i (j - 1)) (λ p q. same (i - 1) (j - 1))) (same i j)

-- the modes of a stage are those of the finished table
pub modes_same : (t : BlockTable) (f : Block → Block) (i j : ℕ) → part_at parts.Modes (by (next_stage parts.Modes f) t) i j ≡ part_at parts.Modes t i j
modes_same t f i j =
    let u = by (next_stage parts.Modes f) t in
    let one = by_view (λ b. let o : Bool = b.ref1 in o) (next_stage parts.Modes f) t (λ b. refl) in
    let two = by_view (λ b. let o : Bool = b.ref2 in o) (next_stage parts.Modes f) t (λ b. refl) in
    let some : Bool → Option Bool = λ b. Some b in
    let first = ap₂ differ (one i j) (predicted_same mode_of (ref1_at u) (ref1_at t) i j (λ p. ap some (one (i - 1) j)) (λ p. ap some (one i (j - 1))) (λ p q. ap some (one (i - 1) (j - 1)))) in
    let second = ap₂ differ (two i j) (predicted_same mode_of (ref2_at u) (ref2_at t) i j (λ p. ap some (two (i - 1) j)) (λ p. ap some (two i (j - 1))) (λ p q. ap some (two (i - 1) (j - 1)))) in
    ap₂ (λ (a b : Bool). let d : Decision = (25, a) in let e : Decision = (26, b) in d ∷ (if t.refs == 2 then e ∷ [] else [])) first second

-- the values of a stage are those of the finished table
values_same : (part : ListKind) (k : Tells part) (t : BlockTable) (f : Block → Block) → IsStage t f → (x y : ℕ)
    → (let u = by (next_stage part f) t in counted (k.has (block_at u x y)) (k.value (block_at u x y)) ≡ counted (k.has (block_at t x y)) (k.value (block_at t x y)))
values_same part k t f s x y =
    by_view (λ b. counted (k.has b) (k.value b)) (next_stage part f) t
    (λ b. ap₂ (λ (has : Bool) (v : ℤ). counted has v)
    (ap k.has (k.is.with_is (f b) b) ∙ k.is.has_put (f b) (k.value b) ∙ k.is.alike (f b) b (s.ref1 b) (s.ref2 b))
    (ap k.value (k.is.with_is (f b) b) ∙ k.is.value_put (f b) (k.value b))) x y

-- a list tells the same of the stage behind it as of the finished table
pub part_same : (part : ListKind) (t : BlockTable) (f : Block → Block) → IsStage t f → (i j : ℕ) → part_at part (by (next_stage part f) t) i j ≡ part_at part t i j
part_same parts.Modes t f s i j = modes_same t f i j
part_same (parts.Across k) t f s i j =
    let u = by (next_stage (parts.Across k) f) t in
    let x = λ (v : Vector). v.x in
    components_same x (vector_at k u) (vector_at k t) (λ p q. component_at k x u p q ∙ values_same (parts.Across k) (across_tells k) t f s p q ∙ sym (component_at k x t p q)) i j
part_same (parts.Down k) t f s i j =
    let u = by (next_stage (parts.Down k) f) t in
    let y = λ (v : Vector). v.y in
    components_same y (vector_at k u) (vector_at k t) (λ p q. component_at k y u p q ∙ values_same (parts.Down k) (down_tells k) t f s p q ∙ sym (component_at k y t p q)) i j
part_same (parts.Dc c) t f s i j =
    let u = by (next_stage (parts.Dc c) f) t in
    dcs_same (dc_at c u) (dc_at c t) (λ p q. dc_is_at c u p q ∙ values_same (parts.Dc c) (dc_tells c) t f s p q ∙ sym (dc_is_at c t p q)) i j

-- the block that is written for a list leads from one stage to the next
pub stage_reads : (part : ListKind) (t : BlockTable) (f : Block → Block) → IsBlockTable t → ((b : Block) → IsBlock t.refs b → IsBlock t.refs (f b))
    → ((b : Block) → IsBlock t.refs b → IsBlock t.refs (next_stage part f b)) → ((i j : ℕ) → part_at part (by (next_stage part f) t) i j ≡ part_at part t i j)
    → ReadsTo (units_step part) (by f t) (flush (unit_decisions t (part_at part t))) (by (next_stage part f) t)
stage_reads part t f inv lawful lawful' each =
    let g = next_stage part f in
    let ds = unit_decisions t (part_at part t) in
    let same : unit_decisions (by g t) (part_at part (by g t)) ≡ ds =
    superblock_rows_joins (λ a b. a ≡ b) (record { none = refl; both = λ a b c d x y. ap₂ (λ (e f : List Decision). e ++ f) x y }) (part_at part (by g t)) (part_at part t) t (map g t.blocks) t.down each in
    carried_is_read part (by f t) (by g t) (flush ds) (by_lawful f t inv lawful)
    (record {
      lawful = by_lawful g t inv lawful';
      rest = record {
        shape = record { across = refl; down = refl; refs = refl; splits = refl };
        blocks = λ i j p q.
            let place = place_inside t i j inv p q in
            ap₂ (λ (b c : Block). with_list_part part b c) (by_at f t i j place) (by_at g t i j place) ∙ told part (f (block_at t i j)) (block_at t i j) ∙ sym (by_at g t i j place);
      };
      carried = subst (λ (es : List Decision). Carries (flush ds) es) (sym same) (flushed_is_carried ds (in_parts part t t.down));
    })
  where
    told : (part : ListKind) (b c : Block) → with_list_part part b (with_list_part part b c) ≡ with_list_part part b c
    told parts.Modes b c = refl
    told (parts.Across references.First) b c = refl
    told (parts.Across references.Second) b c = refl
    told (parts.Down references.First) b c = refl
    told (parts.Down references.Second) b c = refl
    told (parts.Dc components.Y) b c = refl
    told (parts.Dc components.U) b c = refl
    told (parts.Dc components.V) b c = refl
