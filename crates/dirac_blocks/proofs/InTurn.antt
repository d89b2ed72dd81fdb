-- Lists of a table that are read one after another.
use Rattle.std.proofs.Common.{◌≡◌, ℕ, List, Ok, Err, Result, refl, ap, subst, sym, ◌∙◌}
use Rattle.dirac_common.specs.Chain.{◌>>=◌ as ◌>>◌}
use Rattle.dirac_common.specs.declared.faults.Cause.{Cause}
use Rattle.dirac_common.specs.declared.faults.Refusal.{Refusal}
use Rattle.dirac_arith.specs.Coded as coded
use Rattle.dirac_arith.specs.Deciding.{begin}
use Rattle.dirac_arith.specs.Reading.{Reading}
use Rattle.dirac_bits.specs.Cursor.{Cursor, place, aligned}
use Rattle.dirac_bits.specs.Fields.{uint_at, block_read_at}
use Rattle.dirac_bits.specs.Syntax.{Syntax, ◌>>=◌, read}
use Rattle.dirac_bits.specs.Then.{read_then}
use Rattle.dirac_blocks.specs.Grammar.{TableStep, blocks, empty_table, list_over, lists_of, table_from}
use Rattle.dirac_blocks.specs.Reached.{BlockIsRead, StepMoves}
use Rattle.dirac_block_table.specs.Tables.{BlockTable}

-- what refuses a list refuses them all
pub then_refused : (s : Syntax BlockTable) (f : BlockTable → Syntax BlockTable) (c : Cursor) (e : Refusal) → read s c ≡ Err e → read (s >>= f) c ≡ Err e
then_refused s f c e refused = read_then s f c ∙ ap (λ (q : Result (BlockTable × Cursor) Refusal). q >> (λ x. read (f x.0) x.1)) refused

-- a list is read from its block
pub list_found : (step : TableStep) (t u : BlockTable) (c one two three : Cursor) (len : ℕ) (block : List ℕ) (behind : Reading) → uint_at c ≡ Ok (len, one) → two ≡ aligned one → block_read_at len two ≡ Ok (block, three)
    → coded.read_coded (step t) (begin block) ≡ Ok (u, behind) → read (list_over step t) c ≡ Ok (u, three)
unfolding list_over
list_found step t u c one two three len block behind first second third found =
    let bytes = ap (λ (d : Cursor). block_read_at len d) (sym second) ∙ third in
    rw (first, bytes) (ap (λ (q : Result (BlockTable × Reading) Cause). read (table_from (place (aligned one)) q) three) found)

-- and is refused at its block
pub list_refused : (step : TableStep) (t : BlockTable) (c one two three : Cursor) (len : ℕ) (block : List ℕ) (cause : Cause) (at : ℕ) → uint_at c ≡ Ok (len, one) → two ≡ aligned one → block_read_at len two ≡ Ok (block, three)
    → coded.read_coded (step t) (begin block) ≡ Err cause → at ≡ place two → read (list_over step t) c ≡ Err (record { at = at; cause = cause })
unfolding list_over
list_refused step t c one two three len block cause at first second third refused here =
    let bytes = ap (λ (d : Cursor). block_read_at len d) (sym second) ∙ third in
    let place_is : place (aligned one) ≡ at = ap (λ (d : Cursor). place d) (sym second) ∙ sym here in
    rw (first, bytes)
    (ap (λ (q : Result (BlockTable × Reading) Cause). read (table_from (place (aligned one)) q) three) refused
    ∙ ap (λ (p : ℕ). let x : Result (BlockTable × Cursor) Refusal = Err (record { at = p; cause = cause }) in x) place_is)

-- its length is refused
pub length_refused : (step : TableStep) (t : BlockTable) (c : Cursor) (e : Refusal) → uint_at c ≡ Err e → read (list_over step t) c ≡ Err e
unfolding list_over
length_refused step t c e first = rw first refl

-- or there are fewer bytes than that
pub block_refused : (step : TableStep) (t : BlockTable) (c one two : Cursor) (len : ℕ) (e : Refusal) → uint_at c ≡ Ok (len, one) → two ≡ aligned one → block_read_at len two ≡ Err e → read (list_over step t) c ≡ Err e
unfolding list_over
block_refused step t c one two len e first second third =
    let none = ap (λ (d : Cursor). block_read_at len d) (sym second) ∙ third in
    rw (first, none) refl

-- a table is read as its lists are, from the next byte on
pub blocks_read : (across down refs : ℕ) (t : BlockTable) (c one : Cursor) (q : Result (BlockTable × Cursor) Refusal) → t ≡ empty_table across down refs → one ≡ aligned c
    → read (lists_of t) one ≡ q → read (blocks across down refs) c ≡ q
unfolding blocks
blocks_read across down refs t c one q made begun found =
    subst (λ (d : Cursor). read (lists_of (empty_table across down refs)) d ≡ q) begun (subst (λ (u : BlockTable). read (lists_of u) one ≡ q) made found)

-- what the steps read from a reading that begins, they read from its block
pub block_found : {A : Type 0} (r : Result A Cause) (steps : coded.Coded BlockTable) (block : List ℕ) (u : BlockTable) (start behind : Reading) → start ≡ begin block
    → StepMoves r u behind (coded.read_coded steps start) → BlockIsRead r u steps block
block_found (Ok x) steps block u start behind begun found = (behind, ap (λ (s : Reading). coded.read_coded steps s) (sym begun) ∙ found)
block_found (Err cause) steps block u start behind begun found = ap (λ (s : Reading). coded.read_coded steps s) (sym begun) ∙ found
