-- The lists of a table, each read from the block in its place.
use Rattle.std.proofs.Common.{◌≡◌, ℕ, Bool, true, false, List, [], ◌∷◌, ◌++◌, length, map, Ok, refl, sym, ap, ◌∙◌, subst}
use Rattle.std.specs.Prelude.{if◌then◌else◌, ◌==◌}
use Rattle.dirac_arith.specs.Carried.{Carries}
use Rattle.dirac_arith.specs.Interval.{Decision}
use Rattle.dirac_bits.specs.Cursor.{Cursor}
use Rattle.dirac_bits.specs.Syntax.{done, read, ◌>>=◌}
use Rattle.dirac_common.specs.declared.formats.Component.TheVariants as components
use Rattle.dirac_blocks.specs.declared.parts.ListKind.{ListKind}
use Rattle.dirac_blocks.specs.declared.parts.ListKind.TheVariants as parts
use Rattle.dirac_block_table.specs.declared.reference.Reference.{Reference}
use Rattle.dirac_block_table.specs.declared.reference.Reference.TheVariants as references
use Rattle.dirac_blocks.specs.Carried.{ReadsTo}
use Rattle.dirac_blocks.specs.Decisions.{unit_decisions}
use Rattle.dirac_blocks.specs.Grammar.{list_over, units_step, vectors_listed, second_listed, dcs_listed}
use Rattle.dirac_blocks.specs.Laws.{ReadIsCarried}
use Rattle.dirac_blocks.specs.Parts.{part_at}
use Rattle.dirac_blocks.specs.Reached.{SameShape}
use Rattle.dirac_block_table.specs.Tables.{BlockTable, IsBlockTable}
use Rattle.dirac_block_laws.specs.Standing.{one_block, some_blocks, EachCarries}
use Rattle.dirac_block_laws.proofs.Reading.{answer_same, then_read, list_read, one_more}
use Rattle.dirac_block_laws.proofs.Told.{Keeps, kept_decisions}

-- these lists lead from one table to another, each by the block in its place
abbrev pub Goes : List ListKind → BlockTable → Cursor → List (List ℕ) → BlockTable → Cursor → Type 0
Goes [] t c [] u d = (t ≡ u) × (c ≡ d)
Goes [] t c (block ∷ blocks) u d = ⊥
Goes (part ∷ more) t c [] u d = ⊥
Goes (part ∷ more) t c (block ∷ blocks) u d =
    (m : BlockTable) × (e : Cursor) × (read one_block c ≡ Ok (block, e)) × ReadsTo (units_step part) t block m × Goes more m e blocks u d

pub record Went (lists : List ListKind) (t : BlockTable) (c : Cursor) (u : BlockTable) (d : Cursor) : Type 0 where
  pub blocks : List (List ℕ)
  pub goes : Goes lists t c blocks u d

pub went_none : (t : BlockTable) (c : Cursor) → Went [] t c t c
went_none t c = record { blocks = []; goes = (refl, refl) }

-- one list more, before
pub went_more : (part : ListKind) (lists : List ListKind) (t m u : BlockTable) (c e d : Cursor) → read (list_over (units_step part) t) c ≡ Ok (m, e)
    → Went lists m e u d → Went (part ∷ lists) t c u d
went_more part lists t m u c e d h rest =
    let one = list_read (units_step part) t m c e h in
    record { blocks = one.0 ∷ rest.blocks; goes = (m, e, one.1, one.2, rest.goes) }

goes_on : (ps qs : List ListKind) (bs es : List (List ℕ)) (t m u : BlockTable) (c e d : Cursor) → Goes ps t c bs m e → Goes qs m e es u d → Goes (ps ++ qs) t c (bs ++ es) u d
goes_on [] qs [] es t m u c e d g h = subst (λ (x : BlockTable). Goes qs x c es u d) (sym g.0) (subst (λ (x : Cursor). Goes qs m x es u d) (sym g.1) h)
goes_on [] qs (b ∷ bs) es t m u c e d g h = absurd g
goes_on (p ∷ ps) qs [] es t m u c e d g h = absurd g
goes_on (p ∷ ps) qs (b ∷ bs) es t m u c e d g h = (g.0, g.1, g.2, g.3, goes_on ps qs bs es g.0 m u g.1 e d g.4 h)

-- lists and then others
pub went_on : (ps qs : List ListKind) (t m u : BlockTable) (c e d : Cursor) → Went ps t c m e → Went qs m e u d → Went (ps ++ qs) t c u d
went_on ps qs t m u c e d g h = record { blocks = g.blocks ++ h.blocks; goes = goes_on ps qs g.blocks h.blocks t m u c e d g.goes h.goes }

pub vectors_went : (k : Reference) (t u : BlockTable) (c d : Cursor) → read (vectors_listed k t) c ≡ Ok (u, d) → Went (parts.Across k ∷ parts.Down k ∷ []) t c u d
unfolding vectors_listed
vectors_went k t u c d h =
    let p = then_read (list_over (units_step (parts.Across k)) t) (λ m. list_over (units_step (parts.Down k)) m) c d u h in
    went_more (parts.Across k) (parts.Down k ∷ []) t p.0 u c p.1 d p.2 (went_more (parts.Down k) [] p.0 u u p.1 d d p.3 (went_none u d))

-- the lists of the second reference, where there is one
abbrev pub seconds : Bool → List ListKind
seconds two = if two then parts.Across references.Second ∷ parts.Down references.Second ∷ [] else []

pub second_went : (t u : BlockTable) (c d : Cursor) → read (second_listed t) c ≡ Ok (u, d) → Went (seconds (t.refs == 2)) t c u d
unfolding second_listed
second_went t u c d h = chosen (t.refs == 2) t u c d h
  where
    chosen : (two : Bool) (t u : BlockTable) (c d : Cursor) → read (if two then vectors_listed references.Second t else done t) c ≡ Ok (u, d) → Went (seconds two) t c u d
    chosen true t u c d h = vectors_went references.Second t u c d h
    chosen false t u c d h =
        subst (λ (p : BlockTable × Cursor). Went [] t c p.0 p.1) (answer_same (t, c) (u, d) h) (went_none t c)

-- the lists of the DC values
abbrev pub dcs : List ListKind
dcs = parts.Dc components.Y ∷ parts.Dc components.U ∷ parts.Dc components.V ∷ []

pub dcs_went : (t u : BlockTable) (c d : Cursor) → read (dcs_listed t) c ≡ Ok (u, d) → Went dcs t c u d
unfolding dcs_listed
dcs_went t u c d h =
    let y = parts.Dc components.Y in
    let v = parts.Dc components.U in
    let w = parts.Dc components.V in
    let p = then_read (list_over (units_step y) t) (λ m. list_over (units_step v) m >>= (λ n. list_over (units_step w) n)) c d u h in
    let q = then_read (list_over (units_step v) p.0) (λ n. list_over (units_step w) n) p.1 d u p.3 in
    went_more y (v ∷ w ∷ []) t p.0 u c p.1 d p.2 (went_more v (w ∷ []) p.0 q.0 u p.1 q.1 d q.2 (went_more w [] q.0 u u q.1 d d q.3 (went_none u d)))

-- these lists change nothing that the first one told
abbrev pub AllKeep : ListKind → List ListKind → Type 0
AllKeep first [] = Unit {0}
AllKeep first (part ∷ more) = Keeps first part × AllKeep first more

-- each list changes nothing that one before told
abbrev pub AreLater : List ListKind → Type 0
AreLater [] = Unit {0}
AreLater (part ∷ more) = AllKeep part more × AreLater more

-- the decisions of a list
abbrev pub list_of : BlockTable → ListKind → List Decision
list_of t part = unit_decisions t (part_at part t)

-- what lists come to
pub record Comes (lists : List ListKind) (t : BlockTable) (blocks : List (List ℕ)) (u : BlockTable) : Type 0 where
  pub lawful : IsBlockTable u
  pub shape : SameShape t u
  pub kept : (first : ListKind) → AllKeep first lists → list_of t first ≡ list_of u first
  pub carry : AreLater lists → EachCarries blocks (map (λ part. list_of u part) lists)

pub comes : ReadIsCarried → (lists : List ListKind) (t u : BlockTable) (c d : Cursor) (blocks : List (List ℕ)) → IsBlockTable t → Goes lists t c blocks u d → Comes lists t blocks u
comes law [] t u c d [] inv g =
    subst (λ (x : BlockTable). Comes [] t [] x) g.0
    (record { lawful = inv; shape = record { across = refl; down = refl; refs = refl; splits = refl }; kept = λ first k. refl; carry = λ later. tt })
comes law [] t u c d (b ∷ bs) inv g = absurd g
comes law (p ∷ ps) t u c d [] inv g = absurd g
comes law (p ∷ ps) t u c d (b ∷ bs) inv g =
    let m = g.0 in
    let h = law p t m b inv g.3 in
    let rest = comes law ps m u g.1 d bs h.lawful g.4 in
    let one = h.rest.shape in
    let two = rest.shape in
    record {
      lawful = rest.lawful;
      shape = record { across = two.across ∙ one.across; down = two.down ∙ one.down; refs = two.refs ∙ one.refs; splits = two.splits ∙ one.splits };
      kept = λ first k. kept_decisions first p t m inv h.lawful h.rest k.0 ∙ rest.kept first k.1;
      carry = λ later. (subst (λ (ds : List Decision). Carries b ds) (rest.kept p later.0) h.carried, rest.carry later.1);
    }

-- the blocks of lists stand one after another
pub stands : (lists : List ListKind) (t u : BlockTable) (c d : Cursor) (blocks : List (List ℕ)) → Goes lists t c blocks u d → read (some_blocks (length blocks)) c ≡ Ok (blocks, d)
unfolding some_blocks
stands [] t u c d [] g = ap (λ (e : Cursor). Ok ([], e)) g.1
stands [] t u c d (b ∷ bs) g = absurd g
stands (p ∷ ps) t u c d [] g = absurd g
stands (p ∷ ps) t u c d (b ∷ bs) g =
    one_more b bs c g.1 d g.2 (stands ps g.0 u g.1 d bs g.4)
