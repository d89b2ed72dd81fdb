-- A whole table is read from the blocks that carry its lists.
use Rattle.std.proofs.Common.{◌≡◌, ℕ, ◌-◌, ◌^◌, ◌<◌, inl, inr, Bool, true, false, List, [], ◌∷◌, length, map, Ok, refl, sym, ap, ◌∙◌, arith, subst}
use Rattle.std.specs.Prelude.{◌==◌}
use Rattle.std.proofs.lemmas.Bool.{cases_eq, eq-eqb, ne_eqb}
use Rattle.dirac_common.specs.declared.formats.Vector.{Vector}
use Rattle.dirac_arith.specs.Carried.{Carries}
use Rattle.dirac_arith.specs.Interval.{Decision}
use Rattle.dirac_bits.specs.Cursor.{Cursor, aligned}
use Rattle.dirac_bits.specs.Syntax.{read, ◌>>=◌}
use Rattle.dirac_block_table.specs.declared.block.Block.{Block}
use Rattle.dirac_blocks.specs.declared.parts.ListKind.TheVariants as parts
use Rattle.dirac_blocks.specs.Carried.{ReadsTo}
use Rattle.dirac_blocks.specs.Decisions.{Numbers, AreSplitNumbers, split_rows, block_decisions}
use Rattle.dirac_blocks.specs.Grammar.{empty_table, list_over, splits_step, units_step, values_listed, lists_of, blocks}
use Rattle.dirac_blocks.specs.Laws as lists
use Rattle.dirac_block_table.specs.Tables.{BlockTable, IsBlockTable, no_vector}
use Rattle.dirac_blocks.proofs.Stages.{by, by_lawful}
use Rattle.dirac_blocks.proofs.Spelled.{empty_lawful, nothing_yet, by_end}
use Rattle.dirac_blocks.proofs.Nearby.{grey_lawful}
use Rattle.dirac_block_laws.specs.Laws.{CarriedTableIsRead, OneIsCarried}
use Rattle.dirac_block_laws.specs.Standing.{some_blocks, EachCarries}
use Rattle.dirac_block_laws.proofs.Leading.{Leads, after, leads_from, value_lists, values_read}
use Rattle.dirac_block_laws.proofs.Reading.{answer_same, read_then, read_list, first_stands}
use Rattle.dirac_block_laws.proofs.Shown.{no_values, shown, by_nothing, shown_lawful, shown_told, leads_on}
use Rattle.dirac_block_laws.proofs.Stepping.{list_of}
use Rattle.dirac_block_laws.proofs.Whole.{lists_behind, decisions_are, each_length, as_many}

-- what a block carries of splits is read
splits_read : lists.CarriedSplitsAreRead → (t : BlockTable) (numbers : Numbers) (block : List ℕ) → IsBlockTable t → AreSplitNumbers t numbers
    → ((sx sy : ℕ) → sx < t.across → sy < t.down → numbers sy sx < 2 ^ 39 - 1) → Carries block (split_rows t.across numbers t.down)
    → ReadsTo splits_step (empty_table t.across t.down t.refs) block (by nothing_yet t)
splits_read law t numbers block inv are small carry =
    law (empty_table t.across t.down t.refs) (by nothing_yet t) block (empty_lawful t.across t.down t.refs inv.size)
    (record {
      lawful = by_lawful nothing_yet t inv (λ b h. grey_lawful t.refs);
      rest = record { across = refl; down = refl; refs = refl; blocks = by_nothing t inv };
      numbers = numbers;
      are = are;
      small = small;
      carried = carry;
    })

-- all lists lead to the finished table
finished : (t : BlockTable) → IsBlockTable t → by (shown (after (value_lists (t.refs == 2)) no_values)) t ≡ t
finished t inv =
    let Ends : Bool → Type 0 = λ two. by (shown (after (value_lists two) no_values)) t ≡ t in
    elim (cases_eq t.refs 2) [
      | inl two ↦ subst Ends (sym (eq-eqb t.refs 2 two)) (by_end (shown (after (value_lists true) no_values)) t inv (λ b h. refl))
      | inr not ↦
          let single : t.refs ≡ 1 = omega (arith, inv.size.some_refs, inv.size.most_refs) in
          subst Ends (sym (ne_eqb t.refs 2 not)) (by_end (shown (after (value_lists false) no_values)) t inv (λ b h. one_whole b (h.no_v2 (h.second single))))
    ]
  where
    one_whole : (b : Block) → b.v2 ≡ no_vector → shown (after (value_lists false) no_values) b ≡ b
    one_whole b e = let make : Vector → Block = λ v. record b { v2 = v } in ap make (sym e)

-- a whole table is read from its blocks
lists_read : lists.CarriedIsRead → lists.CarriedSplitsAreRead → (t : BlockTable) (numbers : Numbers) (bs : List (List ℕ)) (a d : Cursor)
    → IsBlockTable t → AreSplitNumbers t numbers → ((sx sy : ℕ) → sx < t.across → sy < t.down → numbers sy sx < 2 ^ 39 - 1)
    → read (some_blocks (length bs)) a ≡ Ok (bs, d)
    → EachCarries bs (split_rows t.across numbers t.down ∷ map (λ part. list_of t part) (lists_behind (t.refs == 2)))
    → read (lists_of (empty_table t.across t.down t.refs)) a ≡ Ok (t, d)
unfolding lists_of
lists_read units splits t numbers [] a d inv are small stand carry = absurd carry
lists_read units splits t numbers (b ∷ []) a d inv are small stand carry = absurd carry.1
lists_read units splits t numbers (b ∷ (m ∷ bs)) a d inv are small stand carry =
    let t0 = empty_table t.across t.down t.refs in
    let u = by nothing_yet t in
    let v = by (shown no_values) t in
    let one = first_stands b (m ∷ bs) a d stand in
    let two = first_stands m bs one.0 d one.2 in
    let first = read_list splits_step t0 u b a one.0 one.1 (splits_read splits t numbers b inv are small carry.0) in
    let modes = leads_on units parts.Modes t nothing_yet (shown no_values) m inv (λ c h. grey_lawful t.refs) (shown_lawful no_values t.refs) (λ c. refl) (shown_told parts.Modes no_values) carry.1.0 in
    let second = read_list (units_step parts.Modes) u v m one.0 two.0 two.1 modes in
    let leads = leads_from units (value_lists (t.refs == 2)) no_values t two.0 d bs inv two.2 carry.1.1 in
    let third = values_read v t two.0 d (subst (λ (w : BlockTable). Leads (value_lists (t.refs == 2)) v two.0 w d) (finished t inv) leads) in
    read_then (list_over splits_step t0) (λ w. list_over (units_step parts.Modes) w >>= (λ n. values_listed n)) a one.0 d u t first
    (read_then (list_over (units_step parts.Modes) u) (λ n. values_listed n) one.0 two.0 d v t second third)

pub whole_is_read : lists.CarriedIsRead → lists.CarriedSplitsAreRead → CarriedTableIsRead
unfolding blocks
whole_is_read units splits t c d s =
    let is = sym (decisions_are t s.numbers) in
    let lens = each_length s.blocks (block_decisions t s.numbers) s.carry in
    lists_read units splits t s.numbers s.blocks (aligned c) d s.lawful s.are s.small
    (as_many (length (block_decisions t s.numbers)) (length s.blocks) (aligned c) d s.blocks (sym lens) s.stand)
    (subst (λ (ls : List (List Decision)). EachCarries s.blocks ls) is s.carry)

-- a table that is read is the only one
pub one_is_carried : CarriedTableIsRead → OneIsCarried
one_is_carried law t u c d e s r across down refs =
    let sizes : read (blocks t.across t.down t.refs) c ≡ read (blocks u.across u.down u.refs) c =
    ap (λ (n : ℕ). read (blocks n t.down t.refs) c) across ∙ ap (λ (n : ℕ). read (blocks u.across n t.refs) c) down ∙ ap (λ (n : ℕ). read (blocks u.across u.down n) c) refs in
    let same = answer_same (t, d) (u, e) (sym (law t c d s) ∙ sizes ∙ law u c e r) in
    (ap (λ (p : BlockTable × Cursor). p.0) same, ap (λ (p : BlockTable × Cursor). p.1) same)
