-- A whole table: its splits, and then its lists.
use Rattle.std.proofs.Common.{◌≡◌, ℕ, suc, ◌-◌, ◌^◌, ◌<◌, Bool, true, false, List, [], ◌∷◌, ◌++◌, length, map, Ok, refl, sym, ap, ◌∙◌, subst}
use Rattle.std.specs.Prelude.{if◌then◌else◌, ◌==◌}
use Rattle.dirac_arith.specs.Carried.{Carries}
use Rattle.dirac_arith.specs.Interval.{Decision}
use Rattle.dirac_bits.specs.Cursor.{Cursor, aligned}
use Rattle.dirac_bits.specs.Syntax.{read, ◌>>=◌}
use Rattle.dirac_common.specs.declared.formats.Component.TheVariants as components
use Rattle.dirac_blocks.specs.declared.parts.ListKind.{ListKind}
use Rattle.dirac_blocks.specs.declared.parts.ListKind.TheVariants as parts
use Rattle.dirac_block_table.specs.declared.reference.Reference.TheVariants as references
use Rattle.dirac_blocks.specs.Decisions.{Numbers, AreSplitNumbers, split_rows, block_decisions}
use Rattle.dirac_blocks.specs.Grammar.{empty_table, list_over, splits_step, units_step, vectors_listed, second_listed, dcs_listed, values_listed, lists_of, blocks}
use Rattle.dirac_blocks.specs.Laws as lists
use Rattle.dirac_blocks.specs.Reached.{SameShape}
use Rattle.dirac_block_table.specs.Tables.{BlockTable, IsBlockTable}
use Rattle.dirac_blocks.proofs.Spelled.{empty_lawful}
use Rattle.dirac_block_laws.specs.Laws.{ReadTableIsCarried}
use Rattle.dirac_block_laws.specs.Standing.{some_blocks, EachCarries}
use Rattle.dirac_block_laws.proofs.Empty.{empty_grey}
use Rattle.dirac_block_laws.proofs.Reading.{then_read, list_read, one_more}
use Rattle.dirac_block_laws.proofs.Stepping.{Went, went_more, went_on, vectors_went, seconds, second_went, dcs, dcs_went, AreLater, list_of, comes, stands}
use Rattle.dirac_block_laws.proofs.Told.{shaped}

-- the lists behind the splits, of two references or one
abbrev pub lists_behind : Bool → List ListKind
lists_behind two = parts.Modes ∷ parts.Across references.First ∷ parts.Down references.First ∷ (seconds two ++ dcs)

pub are_later : (two : Bool) → AreLater (lists_behind two)
are_later true = (
  (λ b c. refl, (λ b c. refl, (λ b c. refl, (λ b c. refl, (λ b c. refl, (λ b c. refl, (λ b c. refl, tt))))))),
  (
    (λ b c. refl, (λ b c. refl, (λ b c. refl, (λ b c. refl, (λ b c. refl, (λ b c. refl, tt)))))),
    (
      (λ b c. refl, (λ b c. refl, (λ b c. refl, (λ b c. refl, (λ b c. refl, tt))))),
      (
        (λ b c. refl, (λ b c. refl, (λ b c. refl, (λ b c. refl, tt)))),
        ((λ b c. refl, (λ b c. refl, (λ b c. refl, tt))), ((λ b c. refl, (λ b c. refl, tt)), ((λ b c. refl, tt), (tt, tt)))),
      ),
    ),
  ),
)
are_later false = (
  (λ b c. refl, (λ b c. refl, (λ b c. refl, (λ b c. refl, (λ b c. refl, tt))))),
  (
    (λ b c. refl, (λ b c. refl, (λ b c. refl, (λ b c. refl, tt)))),
    ((λ b c. refl, (λ b c. refl, (λ b c. refl, tt))), ((λ b c. refl, (λ b c. refl, tt)), ((λ b c. refl, tt), (tt, tt)))),
  ),
)

values_are : (two : Bool) (t : BlockTable) → map (λ part. list_of t part) (seconds two ++ dcs)
    ≡ (if two then list_of t (parts.Across references.Second) ∷ list_of t (parts.Down references.Second) ∷ [] else [])
    ++ (list_of t (parts.Dc components.Y) ∷ list_of t (parts.Dc components.U) ∷ list_of t (parts.Dc components.V) ∷ [])
values_are true t = refl
values_are false t = refl

-- the lists of a whole table are its splits and those behind
pub decisions_are : (t : BlockTable) (numbers : Numbers)
    → split_rows t.across numbers t.down ∷ map (λ part. list_of t part) (lists_behind (t.refs == 2)) ≡ block_decisions t numbers
decisions_are t numbers =
    ap (λ (more : List (List Decision)).
    split_rows t.across numbers t.down ∷ list_of t parts.Modes ∷ list_of t (parts.Across references.First) ∷ list_of t (parts.Down references.First) ∷ more)
    (values_are (t.refs == 2) t)

-- the lists behind the splits lead to the finished table
lists_went : lists.ReadIsCarried → (m t : BlockTable) (e d : Cursor) → IsBlockTable m
    → read (list_over (units_step parts.Modes) m >>= (λ n. values_listed n)) e ≡ Ok (t, d) → Went (lists_behind (m.refs == 2)) m e t d
unfolding values_listed
lists_went law m t e d inv h =
    let first = parts.Across references.First ∷ parts.Down references.First ∷ [] in
    let p = then_read (list_over (units_step parts.Modes) m) (λ n. values_listed n) e d t h in
    let q = then_read (vectors_listed references.First p.0) (λ n. second_listed n >>= (λ o. dcs_listed o)) p.1 d t p.3 in
    let r = then_read (second_listed q.0) (λ o. dcs_listed o) q.1 d t q.3 in
    let front : Went (parts.Modes ∷ first) m e q.0 q.1 = went_more parts.Modes first m p.0 q.0 e p.1 q.1 p.2 (vectors_went references.First p.0 q.0 p.1 q.1 q.2) in
    let refs : q.0.refs ≡ m.refs = (comes law (parts.Modes ∷ first) m q.0 e q.1 front.blocks inv front.goes).shape.refs in
    let second : Went (seconds (m.refs == 2)) q.0 q.1 r.0 r.1 = subst (λ (n : ℕ). Went (seconds (n == 2)) q.0 q.1 r.0 r.1) refs (second_went q.0 r.0 q.1 r.1 r.2) in
    went_on (parts.Modes ∷ first) (seconds (m.refs == 2) ++ dcs) m q.0 t e q.1 d front
    (went_on (seconds (m.refs == 2)) dcs q.0 r.0 t q.1 r.1 d second (dcs_went r.0 t r.1 d r.3))

-- what a block carries of splits
abbrev SplitsIn : List ℕ → Numbers → BlockTable → Type 0
SplitsIn block numbers t =
    AreSplitNumbers t numbers × ((sx sy : ℕ) → sx < t.across → sy < t.down → numbers sy sx < 2 ^ 39 - 1) × Carries block (split_rows t.across numbers t.down)

splits_stay : (block : List ℕ) (numbers : Numbers) (m t : BlockTable) → SameShape m t → SplitsIn block numbers m → SplitsIn block numbers t
splits_stay block numbers m t shape h = subst (λ (u : BlockTable). SplitsIn block numbers u) (shaped m t shape) h

-- as many blocks as lists
pub each_length : (blocks : List (List ℕ)) (lists : List (List Decision)) → EachCarries blocks lists → length blocks ≡ length lists
each_length [] [] h = refl
each_length [] (l ∷ ls) h = absurd h
each_length (b ∷ bs) [] h = absurd h
each_length (b ∷ bs) (l ∷ ls) h = ap suc (each_length bs ls h.1)

-- blocks are as many as lists
pub as_many : (n m : ℕ) (a d : Cursor) (blocks : List (List ℕ)) → n ≡ m → read (some_blocks n) a ≡ Ok (blocks, d) → read (some_blocks m) a ≡ Ok (blocks, d)
as_many n m a d blocks e h = subst (λ (k : ℕ). read (some_blocks k) a ≡ Ok (blocks, d)) e h

-- a whole table that is read is carried
pub whole_is_carried : lists.ReadIsCarried → lists.ReadSplitsAreCarried → ReadTableIsCarried
unfolding blocks lists_of
whole_is_carried units splits across down refs c d t size h =
    let t0 = empty_table across down refs in
    let a = aligned c in
    let p = then_read (list_over splits_step t0) (λ m. list_over (units_step parts.Modes) m >>= (λ n. values_listed n)) a d t h in
    let m = p.0 in
    let e = p.1 in
    let s = list_read splits_step t0 m a e p.2 in
    let k = splits t0 m s.0 (empty_lawful across down refs size) (empty_grey across down refs) s.2 in
    let w = lists_went units m t e d k.lawful p.3 in
    let end = comes units (lists_behind (m.refs == 2)) m t e d w.blocks k.lawful w.goes in
    let in_end = splits_stay s.0 k.numbers m t end.shape (k.are, k.small, k.carried) in
    let carry' : EachCarries (s.0 ∷ w.blocks) (split_rows t.across k.numbers t.down ∷ map (λ part. list_of t part) (lists_behind (t.refs == 2))) =
    (in_end.2, subst (λ (n : ℕ). EachCarries w.blocks (map (λ part. list_of t part) (lists_behind (n == 2)))) (sym end.shape.refs) (end.carry (are_later (m.refs == 2)))) in
    let carry = subst (λ (ls : List (List Decision)). EachCarries (s.0 ∷ w.blocks) ls) (decisions_are t k.numbers) carry' in
    let stand = one_more s.0 w.blocks a e d s.1 (stands (lists_behind (m.refs == 2)) m t e d w.blocks w.goes) in (
      record {
        lawful = end.lawful;
        numbers = k.numbers;
        are = in_end.0;
        small = in_end.1;
        blocks = s.0 ∷ w.blocks;
        stand = as_many (length (s.0 ∷ w.blocks)) (length (block_decisions t k.numbers)) a d (s.0 ∷ w.blocks) (each_length (s.0 ∷ w.blocks) (block_decisions t k.numbers) carry) stand;
        carry = carry;
      },
      end.shape.across ∙ k.rest.across,
      end.shape.down ∙ k.rest.down,
      end.shape.refs ∙ k.rest.refs,
    )
