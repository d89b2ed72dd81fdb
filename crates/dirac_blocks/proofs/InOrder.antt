-- The lists of a table in their order: what is left to be read behind the first of them, and what the first are.
use Rattle.std.proofs.Common.{◌≡◌, ℕ, zero, suc, ◌+◌, ◌<◌, ◌≤◌, ◌==◌, inl, inr, Bool, true, false, true≢false, List, [], ◌∷◌, ◌++◌, Option, None, Result, Ok, Err, refl, sym, ap, subst, ◌∙◌, arith, slice_index_or}
use Rattle.std.specs.Prelude.{if◌then◌else◌}
use native.Mathlib.Numerals.{unary_clauses}
use Rattle.std.proofs.lemmas.Bool.{cases_eq}
use Rattle.std.proofs.lemmas.Option.{none-some}
use Rattle.dirac_common.specs.Chain.{◌>>=◌ as ◌>>◌}
use Rattle.dirac_common.specs.declared.faults.Refusal.{Refusal}
use Rattle.dirac_common.specs.declared.formats.Component.TheVariants as components
use Rattle.dirac_arith.specs.Interval.{Decision}
use Rattle.dirac_bits.specs.Cursor.{Cursor}
use Rattle.dirac_bits.specs.Fronts.{HoldsFront}
use Rattle.dirac_bits.specs.Syntax.{Syntax, done, ◌>>=◌, read}
use Rattle.dirac_bits.specs.Then.{read_then}
use Rattle.dirac_block_table.specs.declared.reference.Reference.{Reference}
use Rattle.dirac_block_table.specs.declared.reference.Reference.TheVariants as references
use Rattle.dirac_block_table.specs.Tables.{BlockTable}
use Rattle.dirac_blocks.specs.declared.parts.ListKind.{ListKind}
use Rattle.dirac_blocks.specs.declared.parts.ListKind.TheVariants as parts
use Rattle.dirac_blocks.specs.declared.parts.TheConstants.{LISTS}
use Rattle.dirac_blocks.specs.Decisions.{block_decisions, least_numbers}
use Rattle.dirac_blocks.specs.Grammar.{dcs_listed, list_over, lists_of, second_listed, splits_step, step_of, units_step, values_listed, vectors_listed}
use Rattle.dirac_blocks.specs.Parts.{is_there, list_there}
use Rattle.dirac_blocks.specs.Written.{with_lists}
use Rattle.dirac_blocks.proofs.Fronts.{first_lists, other_lists}
use Rattle.dirac_blocks.proofs.InTurn.{then_refused}

-- list n of a table
abbrev pub list_at : ℕ → Option ListKind
list_at n = slice_index_or LISTS n None

-- the lists behind the vectors of the first reference
abbrev behind_first : BlockTable → Syntax BlockTable
behind_first t = second_listed t >>= (λ u. dcs_listed u)

-- what is left to be read behind the first n lists
abbrev pub left_to_read : ℕ → BlockTable → Syntax BlockTable
left_to_read zero t = lists_of t
left_to_read (suc zero) t = list_over (units_step parts.Modes) t >>= (λ u. values_listed u)
left_to_read (suc (suc zero)) t = values_listed t
left_to_read (suc (suc (suc zero))) t = list_over (units_step (parts.Down references.First)) t >>= (λ u. behind_first u)
left_to_read (suc (suc (suc (suc zero)))) t = behind_first t
left_to_read (suc (suc (suc (suc (suc zero))))) t =
    (if t.refs == 2 then list_over (units_step (parts.Down references.Second)) t else done t) >>= (λ u. dcs_listed u)
left_to_read (suc (suc (suc (suc (suc (suc zero)))))) t = dcs_listed t
left_to_read (suc (suc (suc (suc (suc (suc (suc zero))))))) t =
    list_over (units_step (parts.Dc components.U)) t >>= (λ u. list_over (units_step (parts.Dc components.V)) u)
left_to_read (suc (suc (suc (suc (suc (suc (suc (suc zero)))))))) t = list_over (units_step (parts.Dc components.V)) t
left_to_read (suc (suc (suc (suc (suc (suc (suc (suc (suc n))))))))) t = done t

-- behind what is read, what comes then is left
then_goes : (s : Syntax BlockTable) (f : BlockTable → Syntax BlockTable) (c d : Cursor) (u : BlockTable) → read s c ≡ Ok (u, d)
    → read (s >>= f) c ≡ read (f u) d
then_goes s f c d u first = read_then s f c ∙ ap (λ (q : Result (BlockTable × Cursor) Refusal). q >> (λ x. read (f x.0) x.1)) first

-- the same behind the first of two lists of vectors
vectors_next : (k : Reference) (f : BlockTable → Syntax BlockTable) (t u : BlockTable) (c d : Cursor) → read (list_over (units_step (parts.Across k)) t) c ≡ Ok (u, d)
    → read (vectors_listed k t >>= f) c ≡ read (list_over (units_step (parts.Down k)) u >>= f) d
unfolding vectors_listed
vectors_next k f t u c d first =
    read_then (list_over (units_step (parts.Across k)) t >>= (λ v. list_over (units_step (parts.Down k)) v)) f c
    ∙ ap (λ (q : Result (BlockTable × Cursor) Refusal). q >> (λ x. read (f x.0) x.1)) (then_goes (list_over (units_step (parts.Across k)) t) (λ v. list_over (units_step (parts.Down k)) v) c d u first)
    ∙ sym (read_then (list_over (units_step (parts.Down k)) u) f d)

vectors_stop : (k : Reference) (f : BlockTable → Syntax BlockTable) (t : BlockTable) (c : Cursor) (e : Refusal) → read (list_over (units_step (parts.Across k)) t) c ≡ Err e
    → read (vectors_listed k t >>= f) c ≡ Err e
unfolding vectors_listed
vectors_stop k f t c e refused =
    then_refused (list_over (units_step (parts.Across k)) t >>= (λ v. list_over (units_step (parts.Down k)) v)) f c e
    (then_refused (list_over (units_step (parts.Across k)) t) (λ v. list_over (units_step (parts.Down k)) v) c e refused)

-- where list n is read, those behind it are left
pub list_next : (n : ℕ) (t u : BlockTable) (c d : Cursor) → n < 9 → is_there (list_at n) t.refs ≡ true → u.refs ≡ t.refs
    → read (list_over (step_of (list_at n)) t) c ≡ Ok (u, d) → read (left_to_read n t) c ≡ read (left_to_read (n + 1) u) d
unfolding lists_of values_listed second_listed dcs_listed
list_next zero t u c d l there same first =
    then_goes (list_over splits_step t) (λ v. list_over (units_step parts.Modes) v >>= (λ w. values_listed w)) c d u first
list_next (suc zero) t u c d l there same first = then_goes (list_over (units_step parts.Modes) t) (λ v. values_listed v) c d u first
list_next (suc (suc zero)) t u c d l there same first = vectors_next references.First (λ v. behind_first v) t u c d first
list_next (suc (suc (suc zero))) t u c d l there same first =
    then_goes (list_over (units_step (parts.Down references.First)) t) (λ v. behind_first v) c d u first
list_next (suc (suc (suc (suc zero)))) t u c d l there same first =
    let two : (u.refs == 2) ≡ true = ap (λ (r : ℕ). r == 2) same ∙ there in
    ap (λ (b : Bool). read ((if b then vectors_listed references.Second t else done t) >>= (λ v. dcs_listed v)) c) there
    ∙ vectors_next references.Second (λ v. dcs_listed v) t u c d first
    ∙ ap (λ (b : Bool). read ((if b then list_over (units_step (parts.Down references.Second)) u else done u) >>= (λ v. dcs_listed v)) d) (sym two)
list_next (suc (suc (suc (suc (suc zero))))) t u c d l there same first =
    ap (λ (b : Bool). read ((if b then list_over (units_step (parts.Down references.Second)) t else done t) >>= (λ v. dcs_listed v)) c) there
    ∙ then_goes (list_over (units_step (parts.Down references.Second)) t) (λ v. dcs_listed v) c d u first
list_next (suc (suc (suc (suc (suc (suc zero)))))) t u c d l there same first =
    then_goes (list_over (units_step (parts.Dc components.Y)) t) (λ v. list_over (units_step (parts.Dc components.U)) v >>= (λ w. list_over (units_step (parts.Dc components.V)) w)) c d u first
list_next (suc (suc (suc (suc (suc (suc (suc zero))))))) t u c d l there same first =
    then_goes (list_over (units_step (parts.Dc components.U)) t) (λ v. list_over (units_step (parts.Dc components.V)) v) c d u first
list_next (suc (suc (suc (suc (suc (suc (suc (suc zero)))))))) t u c d l there same first = first
list_next (suc (suc (suc (suc (suc (suc (suc (suc (suc n))))))))) t u c d l there same first = absurd (omega arith)

-- where it is refused, so are they all
pub list_stops : (n : ℕ) (t : BlockTable) (c : Cursor) (e : Refusal) → n < 9 → is_there (list_at n) t.refs ≡ true
    → read (list_over (step_of (list_at n)) t) c ≡ Err e → read (left_to_read n t) c ≡ Err e
unfolding lists_of values_listed second_listed dcs_listed
list_stops zero t c e l there refused =
    then_refused (list_over splits_step t) (λ v. list_over (units_step parts.Modes) v >>= (λ w. values_listed w)) c e refused
list_stops (suc zero) t c e l there refused = then_refused (list_over (units_step parts.Modes) t) (λ v. values_listed v) c e refused
list_stops (suc (suc zero)) t c e l there refused = vectors_stop references.First (λ v. behind_first v) t c e refused
list_stops (suc (suc (suc zero))) t c e l there refused =
    then_refused (list_over (units_step (parts.Down references.First)) t) (λ v. behind_first v) c e refused
list_stops (suc (suc (suc (suc zero)))) t c e l there refused =
    ap (λ (b : Bool). read ((if b then vectors_listed references.Second t else done t) >>= (λ v. dcs_listed v)) c) there
    ∙ vectors_stop references.Second (λ v. dcs_listed v) t c e refused
list_stops (suc (suc (suc (suc (suc zero))))) t c e l there refused =
    ap (λ (b : Bool). read ((if b then list_over (units_step (parts.Down references.Second)) t else done t) >>= (λ v. dcs_listed v)) c) there
    ∙ then_refused (list_over (units_step (parts.Down references.Second)) t) (λ v. dcs_listed v) c e refused
list_stops (suc (suc (suc (suc (suc (suc zero)))))) t c e l there refused =
    then_refused (list_over (units_step (parts.Dc components.Y)) t) (λ v. list_over (units_step (parts.Dc components.U)) v >>= (λ w. list_over (units_step (parts.Dc components.V)) w)) c e refused
list_stops (suc (suc (suc (suc (suc (suc (suc zero))))))) t c e l there refused =
    then_refused (list_over (units_step (parts.Dc components.U)) t) (λ v. list_over (units_step (parts.Dc components.V)) v) c e refused
list_stops (suc (suc (suc (suc (suc (suc (suc (suc zero)))))))) t c e l there refused = refused
list_stops (suc (suc (suc (suc (suc (suc (suc (suc (suc n))))))))) t c e l there refused = absurd (omega arith)

-- where it isn't there, the same is left
pub list_absent : (n : ℕ) (t : BlockTable) (c : Cursor) → n < 9 → is_there (list_at n) t.refs ≡ false → read (left_to_read n t) c ≡ read (left_to_read (n + 1) t) c
unfolding second_listed
list_absent zero t c l not = absurd (true≢false not)
list_absent (suc zero) t c l not = absurd (true≢false not)
list_absent (suc (suc zero)) t c l not = absurd (true≢false not)
list_absent (suc (suc (suc zero))) t c l not = absurd (true≢false not)
list_absent (suc (suc (suc (suc zero)))) t c l not =
    ap (λ (b : Bool). read ((if b then vectors_listed references.Second t else done t) >>= (λ v. dcs_listed v)) c) not
    ∙ ap (λ (b : Bool). read ((if b then list_over (units_step (parts.Down references.Second)) t else done t) >>= (λ v. dcs_listed v)) c) (sym not)
list_absent (suc (suc (suc (suc (suc zero))))) t c l not =
    ap (λ (b : Bool). read ((if b then list_over (units_step (parts.Down references.Second)) t else done t) >>= (λ v. dcs_listed v)) c) not
list_absent (suc (suc (suc (suc (suc (suc zero)))))) t c l not = absurd (true≢false not)
list_absent (suc (suc (suc (suc (suc (suc (suc zero))))))) t c l not = absurd (true≢false not)
list_absent (suc (suc (suc (suc (suc (suc (suc (suc zero)))))))) t c l not = absurd (true≢false not)
list_absent (suc (suc (suc (suc (suc (suc (suc (suc (suc n))))))))) t c l not = absurd (omega arith)

-- the list without a part comes first
pub splits_first : (n : ℕ) → n < 9 → list_at n ≡ None → n ≡ 0
splits_first zero l none = refl
splits_first (suc zero) l none = absurd (none-some _ (sym none))
splits_first (suc (suc zero)) l none = absurd (none-some _ (sym none))
splits_first (suc (suc (suc zero))) l none = absurd (none-some _ (sym none))
splits_first (suc (suc (suc (suc zero)))) l none = absurd (none-some _ (sym none))
splits_first (suc (suc (suc (suc (suc zero))))) l none = absurd (none-some _ (sym none))
splits_first (suc (suc (suc (suc (suc (suc zero)))))) l none = absurd (none-some _ (sym none))
splits_first (suc (suc (suc (suc (suc (suc (suc zero))))))) l none = absurd (none-some _ (sym none))
splits_first (suc (suc (suc (suc (suc (suc (suc (suc zero)))))))) l none = absurd (none-some _ (sym none))
splits_first (suc (suc (suc (suc (suc (suc (suc (suc (suc n))))))))) l none = absurd (omega arith)

-- the first n of a table's lists, where they are there
abbrev pub lists_before : BlockTable → ℕ → List (List Decision)
lists_before t zero = []
lists_before t (suc n) = lists_before t n ++ list_there (list_at n) t

pub lists_next : (t : BlockTable) (n : ℕ) → lists_before t (n + 1) ≡ lists_before t n ++ list_there (list_at n) t
lists_next t n = simp unary_clauses refl

nine_lists : (b : Bool) (s m a d a' d' y u v : List Decision)
    → ((((((((([] ++ (s ∷ [])) ++ (m ∷ [])) ++ (a ∷ [])) ++ (d ∷ [])) ++ (if b then a' ∷ [] else [])) ++ (if b then d' ∷ [] else [])) ++ (y ∷ [])) ++ (u ∷ [])) ++ (v ∷ []))
    ≡ (s ∷ m ∷ a ∷ d ∷ []) ++ ((if b then a' ∷ d' ∷ [] else []) ++ (y ∷ u ∷ v ∷ []))
nine_lists true s m a d a' d' y u v = refl
nine_lists false s m a d a' d' y u v = refl

-- all of them are nine at most
pub all_lists : (t : BlockTable) → lists_before t 9 ≡ block_decisions t (least_numbers t)
all_lists t = nine_lists (t.refs == 2) _ _ _ _ _ _ _ _ _

-- what broke off within the first lists broke off within more of them
broke_off_within : (t : BlockTable) (m n : ℕ) {old new : List Bool} → m ≤ n → HoldsFront old new (with_lists (lists_before t m) old) → HoldsFront old new (with_lists (lists_before t n) old)
broke_off_within t m zero {old} {new} l holds =
    let none : m ≡ 0 = omega arith in
    subst (λ (k : ℕ). HoldsFront old new (with_lists (lists_before t k) old)) none holds
broke_off_within t m (suc n) {old} {new} l holds =
    elim (cases_eq m (suc n)) [
      | inl e ↦ subst (λ (k : ℕ). HoldsFront old new (with_lists (lists_before t k) old)) e holds
      | inr not ↦ first_lists (lists_before t n) (list_there (list_at n) t) (broke_off_within t m n (omega arith) holds)
    ]

-- the writing of list n broke off
pub broke_off : (t : BlockTable) (n : ℕ) {old mid new : List Bool} → n < 9 → mid ≡ with_lists (lists_before t n) old → HoldsFront mid new (with_lists (list_there (list_at n) t) mid)
    → HoldsFront old new (with_lists (block_decisions t (least_numbers t)) old)
broke_off t n {old} {mid} {new} l written holds =
    let first : HoldsFront old new (with_lists (lists_before t (suc n)) old) = other_lists (lists_before t n) (list_there (list_at n) t) written holds in
    let all : HoldsFront old new (with_lists (lists_before t 9) old) = broke_off_within t (suc n) 9 (omega arith) first in
    subst (λ (ds : List (List Decision)). HoldsFront old new (with_lists ds old)) (all_lists t) all
