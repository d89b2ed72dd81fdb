-- The bits of a block table that is written spell it, so they are read as the same table.
use Rattle.std.proofs.Common.{◌≡◌, ℕ, ◌+◌, ◌-◌, ◌*◌, ◌/◌, ◌%◌, ◌^◌, ◌<◌, ◌≤◌, inl, inr, Bool, List, [], ◌∷◌, ◌++◌, length, map, replicate, Option, Some, None, Result, refl, sym, ap, ◌∙◌, arith, subst, append_assoc, append-nil, length-append, get_or, ext_get_or}
use Rattle.std.specs.Prelude.{if◌then◌else◌}
use Rattle.std.proofs.lemmas.Bool.{cases_eq, cases_lt, eq-eqb, ne_eqb}
use Rattle.std.proofs.lemmas.List.{length-map, get_or-map, get_or_past}
use Rattle.std.proofs.lemmas.Simd.{splat_is_map}
use Rattle.dirac_common.specs.declared.faults.Cause.{Cause}
use Rattle.dirac_common.specs.declared.formats.Vector.{Vector}
use Rattle.dirac_common.specs.Bits.{bits_of}
use Rattle.dirac_common.specs.Numbers.{uint}
use Rattle.dirac_arith.specs.Deciding.{begin}
use Rattle.dirac_arith.specs.Interval.{Decision}
use Rattle.dirac_arith.specs.Written.{flush}
use Rattle.dirac_arith.proofs.Encodings.{flushed_is_carried, flush_bytes}
use Rattle.dirac_bits.specs.Spelling.{Spells, SpelledBehind}
use Rattle.dirac_bits.specs.Syntax.{Syntax, done, ◌>>=◌}
use Rattle.dirac_bits.specs.Writing.{gap, IsWhole}
use Rattle.dirac_bits.proofs.Fields.{behind_then, gap_length-at}
use Rattle.dirac_vectors.specs.Predictions.{split_of}
use Rattle.dirac_block_table.specs.declared.block.Block.{Block}
use Rattle.dirac_common.specs.declared.formats.Component.TheVariants as components
use Rattle.dirac_blocks.specs.declared.parts.ListKind.{ListKind}
use Rattle.dirac_blocks.specs.declared.parts.ListKind.TheVariants as parts
use Rattle.dirac_block_table.specs.declared.reference.Reference.{Reference}
use Rattle.dirac_block_table.specs.declared.reference.Reference.TheVariants as references
use Rattle.dirac_blocks.specs.Carried.{ReadsTo}
use Rattle.dirac_blocks.specs.Decisions.{left_of, above_of, corner_of, predicted_split, least_numbers, split_rows, unit_decisions, second_lists, block_decisions}
use Rattle.dirac_blocks.specs.Grammar.{TableStep, empty_table, list_over, table_from, splits_step, units_step, vectors_listed, second_listed, dcs_listed, values_listed, lists_of, blocks}
use Rattle.dirac_blocks.specs.Parts.{part_at}
use Rattle.dirac_arith.specs.Coded as coded
use Rattle.dirac_arith.specs.Reading.{Reading}
use Rattle.dirac_block_table.specs.Tables.{BlockTable, IsBlock, IsBlockTable, split_at, grey, no_vector}
pub use Rattle.dirac_block_table.proofs.Empty.{empty_lawful}
use Rattle.dirac_blocks.specs.Written.{with_block, with_lists, ListsHaveShortBlocks}
use Rattle.dirac_blocks.proofs.Appended.{lists_append}
use Rattle.dirac_blocks.proofs.InContexts.{in_split_rows}
use Rattle.dirac_blocks.proofs.Nearby.{OfSome, left_holds, above_holds, corner_holds, grey_lawful}
use Rattle.dirac_blocks.proofs.SplitForwards.{carried_splits_are_read}
use Rattle.dirac_blocks.proofs.Stages.{by, by_lawful, IsStage, next_stage, stage_next, stage_modes, modes_same, part_same, stage_reads}

four_parts : (a b c d : List Bool) → ((a ++ b) ++ c) ++ d ≡ a ++ (b ++ (c ++ d))
four_parts a b c d = simp append_assoc

-- a list that is read from its block is spelled by the block behind its length
list_spelled : (step : TableStep) (t u : BlockTable) (ds : List Decision) (old : List Bool) → ReadsTo step t (flush ds) u → length (flush ds) + 1 < 2 ^ 39
    → SpelledBehind (list_over step t) u old (with_block (flush ds) old)
unfolding list_over
list_spelled step t u ds old read short =
    let block = flush ds in
    let first = uint (length block) in
    let before = old ++ first in
    let k1 = length old + length first in
    let k2 = k1 + length (gap before) in
    let k3 = k2 + length (bits_of block) in
    let last : Spells (table_from (k2 / 8) (coded.read_coded (step t) (begin block))) u k3 [] =
    subst (λ (r : Result (BlockTable × Reading) Cause). Spells (table_from (k2 / 8) r) u k3 []) (sym read.1) (refl, refl) in
    record {
      bits = first ++ (gap before ++ bits_of block);
      is = four_parts old first (gap before) (bits_of block);
      spells = (
        length block,
        gap before ++ bits_of block,
        short,
        refl,
        (gap before, bits_of block, gap_length-at before k1 (length-append old first), refl, (block, [], (refl, flush_bytes ds), sym (append-nil (bits_of block)), last)),
      );
    }

-- predictions of splits are splits
split_few : (l a c : Option ℕ) → OfSome (λ s. s ≤ 2) l → OfSome (λ s. s ≤ 2) a → OfSome (λ s. s ≤ 2) c → split_of l a c ≤ 2
split_few None None c p q r = omega arith
split_few (Some l) None c p q r = p
split_few None (Some a) c p q r = q
split_few (Some l) (Some a) None p q r = omega arith
split_few (Some l) (Some a) (Some c) p q r = omega arith

pub splits_few : (t : BlockTable) (x y : ℕ) → IsBlockTable t → split_at t x y ≤ 2
splits_few t x y inv =
    elim (cases_lt (y * t.across + x) (length t.splits)) [
      | inl inside ↦ inv.splits (y * t.across + x) 0 inside
      | inr past ↦ subst (λ (n : ℕ). n ≤ 2) (sym (get_or_past t.splits (y * t.across + x) 0 past)) (omega arith)
    ]

pub predicted_few : (t : BlockTable) (sx sy : ℕ) → IsBlockTable t → predicted_split t sx sy ≤ 2
predicted_few t sx sy inv =
    let f : ℕ → ℕ → Option ℕ = λ x y. Some (split_at t x y) in
    let R : Option ℕ → Option ℕ → Type 0 = λ o p. OfSome (λ s. s ≤ 2) o in
    split_few (left_of f sx sy) (above_of f sx sy) (corner_of f sx sy)
    (left_holds R f f sx sy tt (λ n. splits_few t (sx - 1) sy inv)) (above_holds R f f sx sy tt (λ n. splits_few t sx (sy - 1) inv)) (corner_holds R f f sx sy tt (λ n n'. splits_few t (sx - 1) (sy - 1) inv))

pub least_sum : (s p : ℕ) → s ≤ 2 → p ≤ 2 → ((s + 3 - p) % 3 + p) % 3 ≡ s
least_sum s p h k = omega arith

-- before any block is read
abbrev pub nothing_yet : Block → Block
nothing_yet b = grey

-- the splits of a finished table are read from the block that is written for them
splits_read : (t : BlockTable) → IsBlockTable t
    → ReadsTo splits_step (empty_table t.across t.down t.refs) (flush (split_rows t.across (least_numbers t) t.down)) (by nothing_yet t)
splits_read t inv =
    let ds = split_rows t.across (least_numbers t) t.down in
    let u = by nothing_yet t in
    let blank : u.blocks ≡ replicate (4 * t.down * (4 * t.across)) grey = sym (splat_is_map t.blocks (4 * t.down * (4 * t.across)) grey inv.blocks_len) in
    carried_splits_are_read (empty_table t.across t.down t.refs) u (flush ds) (empty_lawful t.across t.down t.refs inv.size)
    (record {
      lawful = by_lawful nothing_yet t inv (λ b h. grey_lawful t.refs);
      rest = record { across = refl; down = refl; refs = refl; blocks = blank };
      numbers = least_numbers t;
      are = λ sx sy p q. least_sum (split_at t sx sy) (predicted_split t sx sy) (splits_few t sx sy inv) (predicted_few t sx sy inv);
      small = λ sx sy p q. omega arith;
      carried = flushed_is_carried ds (in_split_rows t.across (least_numbers t) t.down);
    })

-- what the lists before have told of each block
abbrev stage1 : Block → Block
stage1 b = next_stage parts.Modes nothing_yet b

abbrev stage2 : Block → Block
stage2 b = next_stage (parts.Across references.First) stage1 b

abbrev stage3 : Block → Block
stage3 b = next_stage (parts.Down references.First) stage2 b

abbrev stage4 : Block → Block
stage4 b = next_stage (parts.Across references.Second) stage3 b

abbrev stage5 : Block → Block
stage5 b = next_stage (parts.Down references.Second) stage4 b

-- a list behind the modes
next_read : (part : ListKind) (t : BlockTable) (f : Block → Block) → IsBlockTable t → IsStage t f → ReadsTo (units_step part) (by f t) (flush (unit_decisions t (part_at part t))) (by (next_stage part f) t)
next_read part t f inv s = stage_reads part t f inv s.lawful (stage_next part t f s).lawful (part_same part t f s)

first_stage : (t : BlockTable) → IsStage t stage1
first_stage t = stage_modes t nothing_yet (λ b h. grey_lawful t.refs)

-- the block of a list
abbrev block_of : BlockTable → ListKind → List Decision
block_of t part = unit_decisions t (part_at part t)

-- the vectors of both references
vectors_spelled : (t : BlockTable) (k : Reference) (f : Block → Block) (old : List Bool) → IsBlockTable t → IsStage t f
    → length (flush (block_of t (parts.Across k))) + 1 < 2 ^ 39 → length (flush (block_of t (parts.Down k))) + 1 < 2 ^ 39
    → SpelledBehind (vectors_listed k (by f t)) (by (next_stage (parts.Down k) (next_stage (parts.Across k) f)) t) old
    (with_block (flush (block_of t (parts.Down k))) (with_block (flush (block_of t (parts.Across k))) old))
unfolding vectors_listed
vectors_spelled t k f old inv s short short' =
    let g = next_stage (parts.Across k) f in
    let one = list_spelled (units_step (parts.Across k)) (by f t) (by g t) (block_of t (parts.Across k)) old (next_read (parts.Across k) t f inv s) short in
    let mid = with_block (flush (block_of t (parts.Across k))) old in
    let two = list_spelled (units_step (parts.Down k)) (by g t) (by (next_stage (parts.Down k) g) t) (block_of t (parts.Down k)) mid
    (next_read (parts.Down k) t g inv (stage_next (parts.Across k) t f s)) short' in
    behind_then (list_over (units_step (parts.Across k)) (by f t)) (λ u. list_over (units_step (parts.Down k)) u) (by g t) (by (next_stage (parts.Down k) g) t) old mid _ one two

-- the DC values
dcs_spelled : (t : BlockTable) (f : Block → Block) (old : List Bool) → IsBlockTable t → IsStage t f
    → ListsHaveShortBlocks (block_of t (parts.Dc components.Y) ∷ block_of t (parts.Dc components.U) ∷ block_of t (parts.Dc components.V) ∷ [])
    → SpelledBehind (dcs_listed (by f t)) (by (next_stage (parts.Dc components.V) (next_stage (parts.Dc components.U) (next_stage (parts.Dc components.Y) f))) t) old
    (with_lists (block_of t (parts.Dc components.Y) ∷ block_of t (parts.Dc components.U) ∷ block_of t (parts.Dc components.V) ∷ []) old)
unfolding dcs_listed
dcs_spelled t f old inv s short =
    let y = parts.Dc components.Y in
    let u = parts.Dc components.U in
    let v = parts.Dc components.V in
    let f1 = next_stage y f in
    let f2 = next_stage u f1 in
    let f3 = next_stage v f2 in
    let s1 = stage_next y t f s in
    let s2 = stage_next u t f1 s1 in
    let b1 = with_block (flush (block_of t y)) old in
    let b2 = with_block (flush (block_of t u)) b1 in
    let b3 = with_block (flush (block_of t v)) b2 in
    let one = list_spelled (units_step y) (by f t) (by f1 t) (block_of t y) old (next_read y t f inv s) short.0 in
    let two = list_spelled (units_step u) (by f1 t) (by f2 t) (block_of t u) b1 (next_read u t f1 inv s1) short.1.0 in
    let three = list_spelled (units_step v) (by f2 t) (by f3 t) (block_of t v) b2 (next_read v t f2 inv s2) short.1.1.0 in
    let rest = behind_then (list_over (units_step u) (by f1 t)) (λ w. list_over (units_step v) w) (by f2 t) (by f3 t) b1 b2 b3 two three in
    behind_then (list_over (units_step y) (by f t)) (λ w. list_over (units_step u) w >>= (λ x. list_over (units_step v) x)) (by f1 t) (by f3 t) old b1 b3 one rest

third_stage : (t : BlockTable) → IsStage t stage3
third_stage t = stage_next (parts.Down references.First) t stage2 (stage_next (parts.Across references.First) t stage1 (first_stage t))

fifth_stage : (t : BlockTable) → IsStage t stage5
fifth_stage t = stage_next (parts.Down references.Second) t stage4 (stage_next (parts.Across references.Second) t stage3 (third_stage t))

-- the lists of the second reference
abbrev seconds : BlockTable → List (List Decision)
seconds t = block_of t (parts.Across references.Second) ∷ block_of t (parts.Down references.Second) ∷ []

two_spelled : (t : BlockTable) (old : List Bool) → IsBlockTable t → t.refs ≡ 2 → ListsHaveShortBlocks (second_lists t)
    → SpelledBehind (second_listed (by stage3 t)) (by stage5 t) old (with_lists (second_lists t) old)
unfolding second_listed
two_spelled t old inv two short =
    let P : Bool → Type 0 = λ b. ListsHaveShortBlocks (if b then seconds t else [])
    → SpelledBehind (if b then vectors_listed references.Second (by stage3 t) else done (by stage3 t)) (by stage5 t) old (with_lists (if b then seconds t else []) old) in
    subst P (sym (eq-eqb t.refs 2 two)) (λ h. vectors_spelled t references.Second stage3 old inv (third_stage t) h.0 h.1.0) short

one_spelled : (t : BlockTable) (old : List Bool) → (t.refs ≡ 2 → ⊥) → SpelledBehind (second_listed (by stage3 t)) (by stage3 t) old (with_lists (second_lists t) old)
unfolding second_listed
one_spelled t old not =
    let P : Bool → Type 0 = λ b.
    SpelledBehind (if b then vectors_listed references.Second (by stage3 t) else done (by stage3 t)) (by stage3 t) old (with_lists (if b then seconds t else []) old) in
    subst P (sym (ne_eqb t.refs 2 not)) (record { bits = []; is = sym (append-nil old); spells = (refl, refl) })

-- the last stage of all
abbrev with_dcs : (Block → Block) → Block → Block
with_dcs f b = next_stage (parts.Dc components.V) (next_stage (parts.Dc components.U) (next_stage (parts.Dc components.Y) f)) b

whole_two : (b : Block) → with_dcs stage5 b ≡ b
whole_two b = refl

whole_one : (b : Block) → b.v2 ≡ no_vector → with_dcs stage3 b ≡ b
whole_one b e = let make : Vector → Block = λ v. record b { v2 = v } in ap make (sym e)

pub by_end : (f : Block → Block) (t : BlockTable) → IsBlockTable t → ((b : Block) → IsBlock t.refs b → f b ≡ b) → by f t ≡ t
by_end f t inv same =
    let len : length (map f t.blocks) ≡ length t.blocks = length-map t.blocks f in
    ap (λ (xs : List Block). let u : BlockTable = record t { blocks = xs } in u)
    (ext_get_or grey (map f t.blocks) t.blocks len
    (λ k l. let inside : k < length t.blocks = omega arith in get_or-map f t.blocks k grey grey inside ∙ same (get_or t.blocks k grey) (inv.blocks k grey inside)))

parts_short : (xs ys : List (List Decision)) → ListsHaveShortBlocks (xs ++ ys) → ListsHaveShortBlocks xs × ListsHaveShortBlocks ys
parts_short [] ys h = (tt, h)
parts_short (x ∷ xs) ys h = let rest = parts_short xs ys h.1 in ((h.0, rest.0), rest.1)

abbrev dc_lists : BlockTable → List (List Decision)
dc_lists t = block_of t (parts.Dc components.Y) ∷ block_of t (parts.Dc components.U) ∷ block_of t (parts.Dc components.V) ∷ []

-- the lists behind the vectors of the first reference
rest_spelled : (t : BlockTable) (old : List Bool) → IsBlockTable t → ListsHaveShortBlocks (second_lists t ++ dc_lists t)
    → SpelledBehind (second_listed (by stage3 t) >>= (λ u. dcs_listed u)) t old (with_lists (second_lists t ++ dc_lists t) old)
rest_spelled t old inv short =
    let parts' = parts_short (second_lists t) (dc_lists t) short in
    let mid = with_lists (second_lists t) old in
    let new = with_lists (dc_lists t) mid in
    let joined : with_lists (second_lists t ++ dc_lists t) old ≡ new = lists_append (second_lists t) (dc_lists t) old in
    let P : List Bool → Type 0 = λ l. SpelledBehind (second_listed (by stage3 t) >>= (λ u. dcs_listed u)) t old l in
    subst P (sym joined)
    (elim (cases_eq t.refs 2) [
      | inl two ↦
          let end : by (with_dcs stage5) t ≡ t = by_end (with_dcs stage5) t inv (λ b h. whole_two b) in
          subst (λ (u : BlockTable). SpelledBehind (second_listed (by stage3 t) >>= (λ u. dcs_listed u)) u old new) end
          (behind_then (second_listed (by stage3 t)) (λ u. dcs_listed u) (by stage5 t) (by (with_dcs stage5) t) old mid new
          (two_spelled t old inv two parts'.0) (dcs_spelled t stage5 mid inv (fifth_stage t) parts'.1))
      | inr not ↦
          let single : t.refs ≡ 1 = omega (arith, inv.size.some_refs, inv.size.most_refs) in
          let end : by (with_dcs stage3) t ≡ t = by_end (with_dcs stage3) t inv (λ b h. whole_one b (h.no_v2 (h.second single))) in
          subst (λ (u : BlockTable). SpelledBehind (second_listed (by stage3 t) >>= (λ u. dcs_listed u)) u old new) end
          (behind_then (second_listed (by stage3 t)) (λ u. dcs_listed u) (by stage3 t) (by (with_dcs stage3) t) old mid new
          (one_spelled t old not) (dcs_spelled t stage3 mid inv (third_stage t) parts'.1))
    ])

-- all lists
lists_spelled : (t : BlockTable) (old : List Bool) → IsBlockTable t → ListsHaveShortBlocks (block_decisions t (least_numbers t))
    → SpelledBehind (lists_of (empty_table t.across t.down t.refs)) t old (with_lists (block_decisions t (least_numbers t)) old)
unfolding lists_of values_listed
lists_spelled t old inv short =
    let t0 = empty_table t.across t.down t.refs in
    let m = parts.Modes in
    let b1 = with_block (flush (split_rows t.across (least_numbers t) t.down)) old in
    let b2 = with_block (flush (block_of t m)) b1 in
    let b4 = with_block (flush (block_of t (parts.Down references.First))) (with_block (flush (block_of t (parts.Across references.First))) b2) in
    let new = with_lists (second_lists t ++ dc_lists t) b4 in
    let one = list_spelled splits_step t0 (by nothing_yet t) (split_rows t.across (least_numbers t) t.down) old (splits_read t inv) short.0 in
    let two = list_spelled (units_step m) (by nothing_yet t) (by stage1 t) (block_of t m) b1
    (stage_reads m t nothing_yet inv (λ b h. grey_lawful t.refs) (first_stage t).lawful (modes_same t nothing_yet)) short.1.0 in
    let three = vectors_spelled t references.First stage1 b2 inv (first_stage t) short.1.1.0 short.1.1.1.0 in
    let four = rest_spelled t b4 inv short.1.1.1.1 in
    let rest3 : BlockTable → Syntax BlockTable = λ u. second_listed u >>= (λ v. dcs_listed v) in
    let rest2 : BlockTable → Syntax BlockTable = λ u. vectors_listed references.First u >>= rest3 in
    let rest1 : BlockTable → Syntax BlockTable = λ u. list_over (units_step m) u >>= rest2 in
    let behind3 = behind_then (vectors_listed references.First (by stage1 t)) rest3 (by stage3 t) t b2 b4 new three four in
    let behind2 = behind_then (list_over (units_step m) (by nothing_yet t)) rest2 (by stage1 t) t b1 b2 new two behind3 in
    behind_then (list_over splits_step t0) rest1 (by nothing_yet t) t old b1 new one behind2

-- a table that is written is spelled
pub table_spelled : (t : BlockTable) (old : List Bool) → IsBlockTable t → IsWhole old → ListsHaveShortBlocks (block_decisions t (least_numbers t))
    → SpelledBehind (blocks t.across t.down t.refs) t old (with_lists (block_decisions t (least_numbers t)) old)
unfolding blocks
table_spelled t old inv whole short =
    let h = lists_spelled t old inv short in
    let k = length old in
    let aligned : k + 0 ≡ 8 * ((k + 7) / 8) = omega arith in
    let stays : k + 0 ≡ k = omega arith in
    record {
      bits = h.bits;
      is = h.is;
      spells = ([], h.bits, aligned, refl, subst (λ (n : ℕ). Spells (lists_of (empty_table t.across t.down t.refs)) t n h.bits) (sym stays) h.spells);
    }

-- short lists one after the other
pub short_append : (xs ys : List (List Decision)) → ListsHaveShortBlocks xs → ListsHaveShortBlocks ys → ListsHaveShortBlocks (xs ++ ys)
short_append [] ys p q = q
short_append (x ∷ xs) ys p q = (p.0, short_append xs ys p.1 q)
