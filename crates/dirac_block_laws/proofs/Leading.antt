-- The lists of a table are read from blocks that carry them, one after another.
use Rattle.std.proofs.Common.{◌≡◌, ℕ, Bool, true, false, List, [], ◌∷◌, ◌++◌, length, map, Ok, refl, sym, ap, ap₂, ◌∙◌, subst}
use Rattle.std.specs.Prelude.{if◌then◌else◌, ◌==◌}
use Rattle.dirac_bits.specs.Cursor.{Cursor}
use Rattle.dirac_bits.specs.Syntax.{done, read, ◌>>=◌}
use Rattle.dirac_common.specs.declared.formats.Component.TheVariants as components
use Rattle.dirac_blocks.specs.declared.parts.ListKind.{ListKind}
use Rattle.dirac_blocks.specs.declared.parts.ListKind.TheVariants as parts
use Rattle.dirac_block_table.specs.declared.reference.Reference.{Reference}
use Rattle.dirac_block_table.specs.declared.reference.Reference.TheVariants as references
use Rattle.dirac_blocks.specs.Grammar.{list_over, units_step, vectors_listed, second_listed, dcs_listed, values_listed}
use Rattle.dirac_blocks.specs.Laws.{CarriedIsRead}
use Rattle.dirac_block_table.specs.Tables.{BlockTable, IsBlockTable}
use Rattle.dirac_blocks.proofs.Stages.{by}
use Rattle.dirac_block_laws.specs.Standing.{some_blocks, EachCarries}
use Rattle.dirac_block_laws.proofs.Reading.{answer_same, read_then, read_list, first_stands}
use Rattle.dirac_block_laws.proofs.Shown.{Known, next, shown, shown_lawful, shown_next, shown_told, leads_on}
use Rattle.dirac_block_laws.proofs.Stepping.{list_of, seconds, dcs}

-- these lists are read one after another, from one table and place to another
abbrev pub Leads : List ListKind → BlockTable → Cursor → BlockTable → Cursor → Type 0
Leads [] t c u d = (t ≡ u) × (c ≡ d)
Leads (part ∷ more) t c u d =
    (m : BlockTable) × (e : Cursor) × (m.refs ≡ t.refs) × (read (list_over (units_step part) t) c ≡ Ok (m, e)) × Leads more m e u d

-- what lists have told behind these
abbrev pub after : List ListKind → Known → Known
after [] k = k
after (part ∷ more) k = after more (next part k)

-- blocks that carry lists of a finished table lead through it
pub leads_from : CarriedIsRead → (lists : List ListKind) (k : Known) (t : BlockTable) (c d : Cursor) (blocks : List (List ℕ)) → IsBlockTable t
    → read (some_blocks (length blocks)) c ≡ Ok (blocks, d) → EachCarries blocks (map (λ part. list_of t part) lists)
    → Leads lists (by (shown k) t) c (by (shown (after lists k)) t) d
unfolding some_blocks
leads_from law [] k t c d [] inv stand carry = (refl, ap (λ (p : List (List ℕ) × Cursor). p.1) (answer_same ([], c) ([], d) stand))
leads_from law [] k t c d (b ∷ bs) inv stand carry = absurd carry
leads_from law (p ∷ ps) k t c d [] inv stand carry = absurd carry
leads_from law (p ∷ ps) k t c d (b ∷ bs) inv stand carry =
    let one = first_stands b bs c d stand in
    let reads = leads_on law p t (shown k) (shown (next p k)) b inv (shown_lawful k t.refs) (shown_lawful (next p k) t.refs) (shown_next p k) (shown_told p k) carry.0 in (
      by (shown (next p k)) t,
      one.0,
      refl,
      read_list (units_step p) (by (shown k) t) (by (shown (next p k)) t) b c one.0 one.1 reads,
      leads_from law ps (next p k) t one.0 d bs inv one.2 carry.1,
    )

-- lists and then others, apart
pub leads_apart : (ps qs : List ListKind) (t u : BlockTable) (c d : Cursor) → Leads (ps ++ qs) t c u d
    → (m : BlockTable) × (e : Cursor) × (m.refs ≡ t.refs) × Leads ps t c m e × Leads qs m e u d
leads_apart [] qs t u c d g = (t, c, refl, (refl, refl), g)
leads_apart (p ∷ ps) qs t u c d g =
    let rest = leads_apart ps qs g.0 u g.1 d g.4 in
    (rest.0, rest.1, rest.2 ∙ g.2, (g.0, g.1, g.2, g.3, rest.3), rest.4)

-- where nothing more is read
ended : (t u : BlockTable) (c d : Cursor) → Leads [] t c u d → read (done t) c ≡ Ok (u, d)
ended t u c d g = ap₂ (λ (x : BlockTable) (e : Cursor). Ok (x, e)) g.0 g.1

-- the last list
last_read : (part : ListKind) (t u : BlockTable) (c d : Cursor) → Leads (part ∷ []) t c u d → read (list_over (units_step part) t) c ≡ Ok (u, d)
last_read part t u c d g = g.3 ∙ ended g.0 u g.1 d g.4

vectors_read : (k : Reference) (t u : BlockTable) (c d : Cursor) → Leads (parts.Across k ∷ parts.Down k ∷ []) t c u d → read (vectors_listed k t) c ≡ Ok (u, d)
unfolding vectors_listed
vectors_read k t u c d g =
    read_then (list_over (units_step (parts.Across k)) t) (λ m. list_over (units_step (parts.Down k)) m) c g.1 d g.0 u g.3
    (last_read (parts.Down k) g.0 u g.1 d g.4)

second_read : (t u : BlockTable) (c d : Cursor) → Leads (seconds (t.refs == 2)) t c u d → read (second_listed t) c ≡ Ok (u, d)
unfolding second_listed
second_read t u c d g = chosen (t.refs == 2) t u c d g
  where
    chosen : (two : Bool) (t u : BlockTable) (c d : Cursor) → Leads (seconds two) t c u d → read (if two then vectors_listed references.Second t else done t) c ≡ Ok (u, d)
    chosen true t u c d g = vectors_read references.Second t u c d g
    chosen false t u c d g = ended t u c d g

dcs_read : (t u : BlockTable) (c d : Cursor) → Leads dcs t c u d → read (dcs_listed t) c ≡ Ok (u, d)
unfolding dcs_listed
dcs_read t u c d g =
    let y = parts.Dc components.Y in
    let v = parts.Dc components.U in
    let w = parts.Dc components.V in
    let h = g.4 in
    read_then (list_over (units_step y) t) (λ m. list_over (units_step v) m >>= (λ n. list_over (units_step w) n)) c g.1 d g.0 u g.3
    (read_then (list_over (units_step v) g.0) (λ n. list_over (units_step w) n) g.1 h.1 d h.0 u h.3 (last_read w h.0 u h.1 d h.4))

-- the lists of vectors and DC values
abbrev pub value_lists : Bool → List ListKind
value_lists two = parts.Across references.First ∷ parts.Down references.First ∷ (seconds two ++ dcs)

pub values_read : (t u : BlockTable) (c d : Cursor) → Leads (value_lists (t.refs == 2)) t c u d → read (values_listed t) c ≡ Ok (u, d)
unfolding values_listed
values_read t u c d g =
    let p = leads_apart (parts.Across references.First ∷ parts.Down references.First ∷ []) (seconds (t.refs == 2) ++ dcs) t u c d g in
    let q = leads_apart (seconds (t.refs == 2)) dcs p.0 u p.1 d p.4 in
    let second = subst (λ (n : ℕ). Leads (seconds (n == 2)) p.0 p.1 q.0 q.1) (sym p.2) q.3 in
    read_then (vectors_listed references.First t) (λ n. second_listed n >>= (λ o. dcs_listed o)) c p.1 d p.0 u (vectors_read references.First t p.0 c p.1 p.3)
    (read_then (second_listed p.0) (λ o. dcs_listed o) p.1 q.1 d q.0 u (second_read p.0 q.0 p.1 q.1 second) (dcs_read q.0 u q.1 d q.4))
