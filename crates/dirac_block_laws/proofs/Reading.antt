-- Fields one after another are read one after another.
use Rattle.std.proofs.Common.{◌≡◌, ℕ, List, [], ◌∷◌, length, Result, Ok, Err, refl, ap, ◌∙◌}
use Rattle.dirac_common.specs.declared.faults.Cause.{Cause}
use Rattle.dirac_common.specs.declared.faults.Refusal.{Refusal}
use Rattle.dirac_arith.specs.Coded as coded
use Rattle.dirac_arith.specs.Deciding.{begin}
use Rattle.dirac_arith.specs.Reading.{Reading}
use Rattle.dirac_common.specs.Chain.{◌>>=◌ as ◌>>◌}
use Rattle.dirac_bits.specs.Cursor.{Cursor, place, aligned}
use Rattle.dirac_bits.specs.Fields.{flag_at, uint_at, sint_at, literal_at, block_read_at}
use Rattle.dirac_bits.specs.Syntax.{Syntax, done, flag_then, uint_then, sint_then, literal_then, block_then, align_then, here_then, refuse, read, ◌>>=◌}
use Rattle.dirac_blocks.specs.Carried.{ReadsTo}
use Rattle.dirac_blocks.specs.Grammar.{TableStep, list_over, table_from}
use Rattle.dirac_block_table.specs.Tables.{BlockTable}
use Rattle.dirac_block_laws.specs.Standing.{one_block, some_blocks}

-- a refusal is no answer
apart : {A E : Type 0} (e : E) (x : A) → (let r : Result A E = Err e in r ≡ Ok x) → ⊥
apart e x h = cc

-- one answer
pub answer_same : {A E : Type 0} (x y : A) → (let r : Result A E = Ok x in r ≡ Ok y) → x ≡ y
answer_same {A = A} {E = E} x y e = ap (or_else x) e
  where
    or_else : {A E : Type 0} → A → Result A E → A
    or_else d (Ok x) = x
    or_else d (Err e) = d

-- a step that led to an answer
pub peel : {V X : Type 0} (r : Result V Refusal) (k : V → Result X Refusal) (x : X) → (r >> k) ≡ Ok x → (v : V) × (r ≡ Ok v) × (k v ≡ Ok x)
peel (Ok v) k x h = (v, refl, h)
peel (Err e) k x h = absurd (apart e x h)

-- fields and then others, that are read
pub then_read : {A B : Type 0} (s : Syntax A) (f : A → Syntax B) (c d : Cursor) (x : B) → read (s >>= f) c ≡ Ok (x, d)
    → (y : A) × (e : Cursor) × (read s c ≡ Ok (y, e)) × (read (f y) e ≡ Ok (x, d))
then_read (done y) f c d x h = (y, c, refl, h)
then_read (flag_then g) f c d x h =
    let p = peel (flag_at c) (λ b. read (g b.0 >>= f) b.1) (x, d) h in
    let q = then_read (g p.0.0) f p.0.1 d x p.2 in
    (q.0, q.1, ap (λ r. r >> (λ b. read (g b.0) b.1)) p.1 ∙ q.2, q.3)
then_read (uint_then g) f c d x h =
    let p = peel (uint_at c) (λ b. read (g b.0 >>= f) b.1) (x, d) h in
    let q = then_read (g p.0.0) f p.0.1 d x p.2 in
    (q.0, q.1, ap (λ r. r >> (λ b. read (g b.0) b.1)) p.1 ∙ q.2, q.3)
then_read (sint_then g) f c d x h =
    let p = peel (sint_at c) (λ b. read (g b.0 >>= f) b.1) (x, d) h in
    let q = then_read (g p.0.0) f p.0.1 d x p.2 in
    (q.0, q.1, ap (λ r. r >> (λ b. read (g b.0) b.1)) p.1 ∙ q.2, q.3)
then_read (literal_then g) f c d x h =
    let p = peel (literal_at c) (λ b. read (g b.0 >>= f) b.1) (x, d) h in
    let q = then_read (g p.0.0) f p.0.1 d x p.2 in
    (q.0, q.1, ap (λ r. r >> (λ b. read (g b.0) b.1)) p.1 ∙ q.2, q.3)
then_read (block_then len g) f c d x h =
    let p = peel (block_read_at len c) (λ b. read (g b.0 >>= f) b.1) (x, d) h in
    let q = then_read (g p.0.0) f p.0.1 d x p.2 in
    (q.0, q.1, ap (λ r. r >> (λ b. read (g b.0) b.1)) p.1 ∙ q.2, q.3)
then_read (align_then s) f c d x h = then_read s f (aligned c) d x h
then_read (here_then g) f c d x h = then_read (g (place c)) f c d x h
then_read (refuse at cause) f c d x h = absurd (apart (record { at = at; cause = cause }) (x, d) h)

-- and the other way round
pub read_then : {A B : Type 0} (s : Syntax A) (f : A → Syntax B) (c e d : Cursor) (y : A) (x : B) → read s c ≡ Ok (y, e) → read (f y) e ≡ Ok (x, d) → read (s >>= f) c ≡ Ok (x, d)
read_then (done z) f c e d y x h k = ap (λ p. read (f p.0) p.1) (answer_same (z, c) (y, e) h) ∙ k
read_then (flag_then g) f c e d y x h k =
    let p = peel (flag_at c) (λ b. read (g b.0) b.1) (y, e) h in
    ap (λ r. r >> (λ b. read (g b.0 >>= f) b.1)) p.1 ∙ read_then (g p.0.0) f p.0.1 e d y x p.2 k
read_then (uint_then g) f c e d y x h k =
    let p = peel (uint_at c) (λ b. read (g b.0) b.1) (y, e) h in
    ap (λ r. r >> (λ b. read (g b.0 >>= f) b.1)) p.1 ∙ read_then (g p.0.0) f p.0.1 e d y x p.2 k
read_then (sint_then g) f c e d y x h k =
    let p = peel (sint_at c) (λ b. read (g b.0) b.1) (y, e) h in
    ap (λ r. r >> (λ b. read (g b.0 >>= f) b.1)) p.1 ∙ read_then (g p.0.0) f p.0.1 e d y x p.2 k
read_then (literal_then g) f c e d y x h k =
    let p = peel (literal_at c) (λ b. read (g b.0) b.1) (y, e) h in
    ap (λ r. r >> (λ b. read (g b.0 >>= f) b.1)) p.1 ∙ read_then (g p.0.0) f p.0.1 e d y x p.2 k
read_then (block_then len g) f c e d y x h k =
    let p = peel (block_read_at len c) (λ b. read (g b.0) b.1) (y, e) h in
    ap (λ r. r >> (λ b. read (g b.0 >>= f) b.1)) p.1 ∙ read_then (g p.0.0) f p.0.1 e d y x p.2 k
read_then (align_then s) f c e d y x h k = read_then s f (aligned c) e d y x h k
read_then (here_then g) f c e d y x h k = read_then (g (place c)) f c e d y x h k
read_then (refuse at cause) f c e d y x h k = absurd (apart (record { at = at; cause = cause }) (y, e) h)

-- a table that a block read to
from_table : (at : ℕ) (r : Result (BlockTable × Reading) Cause) (c d : Cursor) (u : BlockTable) → read (table_from at r) c ≡ Ok (u, d)
    → (behind : Reading) × (r ≡ Ok (u, behind)) × (c ≡ d)
from_table at (Ok x) c d u h =
    let e = answer_same (x.0, c) (u, d) h in
    (x.1, ap (λ (p : BlockTable × Cursor). Ok (p.0, x.1)) e, ap (λ (p : BlockTable × Cursor). p.1) e)
from_table at (Err cause) c d u h = absurd (apart (record { at = at; cause = cause }) (u, d) h)

-- a list is read from the block that stands there
pub list_read : (step : TableStep) (t u : BlockTable) (c d : Cursor) → read (list_over step t) c ≡ Ok (u, d)
    → (block : List ℕ) × (read one_block c ≡ Ok (block, d)) × ReadsTo step t block u
unfolding list_over
list_read step t u c d h =
    let table : ℕ × Cursor → List ℕ × Cursor → Result (BlockTable × Cursor) Refusal =
    λ n bytes. read (table_from (place (aligned n.1)) (coded.read_coded (step t) (begin bytes.0))) bytes.1 in
    let bytes_only : List ℕ × Cursor → Result (List ℕ × Cursor) Refusal = λ bytes. Ok (bytes.0, bytes.1) in
    let p = peel (uint_at c) (λ n. block_read_at n.0 (aligned n.1) >> table n) (u, d) h in
    let q = peel (block_read_at p.0.0 (aligned p.0.1)) (table p.0) (u, d) p.2 in
    let r = from_table (place (aligned p.0.1)) (coded.read_coded (step t) (begin q.0.0)) q.0.1 d u q.2 in (
      q.0.0,
      ap (λ n. n >> (λ n. block_read_at n.0 (aligned n.1) >> bytes_only)) p.1 ∙ ap (λ b. b >> bytes_only) q.1 ∙ ap (λ (e : Cursor). Ok (q.0.0, e)) r.2,
      (r.0, r.1),
    )

-- and is read where it stands
pub read_list : (step : TableStep) (t u : BlockTable) (block : List ℕ) (c d : Cursor) → read one_block c ≡ Ok (block, d) → ReadsTo step t block u
    → read (list_over step t) c ≡ Ok (u, d)
unfolding list_over
read_list step t u block c d h reads =
    let table : ℕ × Cursor → List ℕ × Cursor → Result (BlockTable × Cursor) Refusal =
    λ n bytes. read (table_from (place (aligned n.1)) (coded.read_coded (step t) (begin bytes.0))) bytes.1 in
    let bytes_only : List ℕ × Cursor → Result (List ℕ × Cursor) Refusal = λ bytes. Ok (bytes.0, bytes.1) in
    let p = peel (uint_at c) (λ n. block_read_at n.0 (aligned n.1) >> bytes_only) (block, d) h in
    let q = peel (block_read_at p.0.0 (aligned p.0.1)) bytes_only (block, d) p.2 in
    let e = answer_same q.0 (block, d) q.2 in
    ap (λ n. n >> (λ n. block_read_at n.0 (aligned n.1) >> table n)) p.1 ∙ ap (λ b. b >> table p.0) q.1 ∙ ap (λ b. table p.0 b) e
    ∙ ap (λ (r : Result (BlockTable × Reading) Cause). read (table_from (place (aligned p.0.1)) r) d) reads.1

-- one block more, before
pub one_more : (block : List ℕ) (blocks : List (List ℕ)) (c e d : Cursor) → read one_block c ≡ Ok (block, e) → read (some_blocks (length blocks)) e ≡ Ok (blocks, d)
    → read (some_blocks (length (block ∷ blocks))) c ≡ Ok (block ∷ blocks, d)
unfolding some_blocks
one_more block blocks c e d one rest =
    let n = length blocks in
    read_then one_block (λ first. some_blocks n >>= (λ more. done (first ∷ more))) c e d block (block ∷ blocks) one
    (read_then (some_blocks n) (λ more. done (block ∷ more)) e d d blocks (block ∷ blocks) rest refl)

-- the first of several blocks
pub first_stands : (block : List ℕ) (blocks : List (List ℕ)) (c d : Cursor) → read (some_blocks (length (block ∷ blocks))) c ≡ Ok (block ∷ blocks, d)
    → (e : Cursor) × (read one_block c ≡ Ok (block, e)) × (read (some_blocks (length blocks)) e ≡ Ok (blocks, d))
unfolding some_blocks
first_stands block blocks c d h =
    let n = length blocks in
    let p = then_read one_block (λ first. some_blocks n >>= (λ more. done (first ∷ more))) c d (block ∷ blocks) h in
    let q = then_read (some_blocks n) (λ more. done (p.0 ∷ more)) p.1 d (block ∷ blocks) p.3 in
    let same = answer_same (p.0 ∷ q.0, q.1) (block ∷ blocks, d) q.3 in (
      p.1,
      p.2 ∙ ap (λ (l : List (List ℕ) × Cursor). Ok (head_of l.0, p.1)) same,
      q.2 ∙ ap (λ (l : List (List ℕ) × Cursor). Ok (tail_of l.0, l.1)) same,
    )
  where
    head_of : List (List ℕ) → List ℕ
    head_of [] = []
    head_of (b ∷ bs) = b

    tail_of : List (List ℕ) → List (List ℕ)
    tail_of [] = []
    tail_of (b ∷ bs) = bs
