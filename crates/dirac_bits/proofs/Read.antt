-- A header is read exactly where the bits left begin with a spelling of it.
use Rattle.std.proofs.Common.{◌≡◌, ℕ, ◌+◌, ◌*◌, ◌≤◌, Bool, List, [], ◌∷◌, ◌++◌, length, refl, subst, Result, Ok, Err}
use Rattle.dirac_common.specs.declared.faults.Refusal.{Refusal}
use Rattle.dirac_common.specs.Bits.{bits_of}
use Rattle.dirac_common.specs.Numbers as numbers
use Rattle.dirac_common.specs.Chain.{◌>>=◌}
use Rattle.dirac_bits.specs.Cursor.{Cursor, place, skip, aligned, Passes}
use Rattle.dirac_bits.specs.Fields.{flag_at, uint_at, sint_at, literal_at, block_read_at}
use Rattle.dirac_bits.specs.Syntax.{Syntax, done, flag_then, uint_then, sint_then, literal_then, block_then, align_then, here_then, refuse, read}
use Rattle.dirac_bits.specs.Spelling.{Spells}
use Rattle.dirac_bits.specs.Laws.{BeginsWith}
use Rattle.dirac_bits.proofs.Passing.{same_answer, same_cursor, none_passed, passes_none, passes_bit, passes_front, passes_join, passes_inside, passes_gap}
use Rattle.dirac_bits.proofs.Spelled.{flag_spelled, flag_read, uint_spelled, uint_read, sint_spelled, sint_read}
use Rattle.dirac_bits.proofs.Literals.{literal_spelled, literal_read}
use Rattle.dirac_bits.proofs.Blocks.{block_spelled, block_read}

-- ---- what is spelled is read

-- a field that is read, and the fields behind it
then_read : {X A : Type 0} (r : Result (X × Cursor) Refusal) (k : X × Cursor → Result (A × Cursor) Refusal) (v : X) (m : Cursor) (y : A × Cursor)
    → r ≡ Ok (v, m) → k (v, m) ≡ Ok y → (r >>= k) ≡ Ok y
then_read r k v m y first second = rw first second

pub spelled_read : {A : Type 0} (s : Syntax A) (x : A) (c d : Cursor) (bits : List Bool) → Spells s x c.at bits → Passes c bits d → read s c ≡ Ok (x, d)
spelled_read (done y) x c d bits e p =
    let end = none_passed c d (subst (λ (b : List Bool). Passes c b d) e.1 p) in
    rw (e.0, end) refl
spelled_read (flag_then f) x c d bits e p =
    let q = subst (λ (b : List Bool). Passes c b d) e.2 p in
    then_read (flag_at c) (λ b. read (f b.0) b.1) e.0 (skip 1 c) (x, d) (flag_spelled e.0 e.1 c d q)
    (spelled_read (f e.0) x (skip 1 c) d e.1 e.3 (passes_bit e.0 e.1 c d q).1)
spelled_read (uint_then f) x c d bits e p =
    let q = passes_front (numbers.uint e.0) e.1 c d (subst (λ (b : List Bool). Passes c b d) e.3 p) in
    let m = skip (length (numbers.uint e.0)) c in
    then_read (uint_at c) (λ n. read (f n.0) n.1) e.0 m (x, d) (uint_spelled e.0 c m e.2 q.0) (spelled_read (f e.0) x m d e.1 e.4 q.1)
spelled_read (sint_then f) x c d bits e p =
    let q = passes_front (numbers.sint e.0) e.1 c d (subst (λ (b : List Bool). Passes c b d) e.3 p) in
    let m = skip (length (numbers.sint e.0)) c in
    then_read (sint_at c) (λ n. read (f n.0) n.1) e.0 m (x, d) (sint_spelled e.0 c m e.2 q.0) (spelled_read (f e.0) x m d e.1 e.4 q.1)
spelled_read (literal_then f) x c d bits e p =
    let q = passes_front (numbers.literal e.0) e.1 c d (subst (λ (b : List Bool). Passes c b d) e.3 p) in
    let m = skip 32 c in
    then_read (literal_at c) (λ n. read (f n.0) n.1) e.0 m (x, d) (literal_spelled e.0 c m e.2 q.0) (spelled_read (f e.0) x m d e.1 e.4 q.1)
spelled_read (block_then len f) x c d bits e p =
    let q = passes_front (bits_of e.0) e.1 c d (subst (λ (b : List Bool). Passes c b d) e.3 p) in
    let m = skip (length (bits_of e.0)) c in
    then_read (block_read_at len c) (λ n. read (f n.0) n.1) e.0 m (x, d) (block_spelled e.0 len c m e.2.0 e.2.1 q.0) (spelled_read (f e.0) x m d e.1 e.4 q.1)
spelled_read (align_then s) x c d bits e p =
    let q = passes_front e.0 e.1 c d (subst (λ (b : List Bool). Passes c b d) e.3 p) in
    let m = skip (length e.0) c in
    let same : m ≡ aligned c = same_cursor m (aligned c) refl e.2 in
    subst (λ (n : Cursor). read s n ≡ Ok (x, d)) same (spelled_read s x m d e.1 e.4 q.1)
spelled_read (here_then f) x c d bits e p = spelled_read (f (place c)) x c d bits e p
spelled_read (refuse at cause) x c d bits e p = absurd e

-- ---- what is read is spelled

-- a field that was read, and the fields behind it
record Then {X A : Type 0} (r : Result (X × Cursor) Refusal) (k : X × Cursor → Result (A × Cursor) Refusal) (y : A × Cursor) : Type 0 where
  pub value : X
  pub behind : Cursor
  pub first : r ≡ Ok (value, behind)
  pub second : k (value, behind) ≡ Ok y

was_read : {X A : Type 0} (r : Result (X × Cursor) Refusal) (k : X × Cursor → Result (A × Cursor) Refusal) (y : A × Cursor) → (r >>= k) ≡ Ok y → Then r k y
was_read (Ok x) k y e = record { value = x.0; behind = x.1; first = refl; second = e }
was_read (Err refusal) k y e = absurd cc

-- the place behind so many bits
behind_at : {A : Type 0} (s : Syntax A) (x : A) (bits rest : List Bool) (c m : Cursor) → Passes c bits m → Spells s x m.at rest → Spells s x (c.at + length bits) rest
behind_at s x bits rest c m p e = subst (λ (k : ℕ). Spells s x k rest) p.moved e

pub read_spelled : {A : Type 0} (s : Syntax A) (x : A) (c d : Cursor) → c.at ≤ 8 * length c.bytes → read s c ≡ Ok (x, d) → BeginsWith s x c d
read_spelled (done y) x c d inside e =
    let same = same_answer y x c d (read (done y) c) refl e in
    record { bits = []; spells = (same.0, refl); passes = subst (λ (m : Cursor). Passes c [] m) same.1 (passes_none c) }
read_spelled (flag_then f) x c d inside e =
    let t = was_read (flag_at c) (λ b. read (f b.0) b.1) (x, d) e in
    let p = flag_read t.value c t.behind t.first in
    let more = read_spelled (f t.value) x t.behind d (passes_inside (t.value ∷ []) c t.behind p inside) t.second in
    record {
      bits = t.value ∷ more.bits;
      spells = (t.value, more.bits, refl, behind_at (f t.value) x (t.value ∷ []) more.bits c t.behind p more.spells);
      passes = passes_join (t.value ∷ []) more.bits c t.behind d p more.passes;
    }
read_spelled (uint_then f) x c d inside e =
    let t = was_read (uint_at c) (λ n. read (f n.0) n.1) (x, d) e in
    let p = uint_read t.value c t.behind t.first in
    let first = numbers.uint t.value in
    let more = read_spelled (f t.value) x t.behind d (passes_inside first c t.behind p.1 inside) t.second in
    record {
      bits = first ++ more.bits;
      spells = (t.value, more.bits, p.0, refl, behind_at (f t.value) x first more.bits c t.behind p.1 more.spells);
      passes = passes_join first more.bits c t.behind d p.1 more.passes;
    }
read_spelled (sint_then f) x c d inside e =
    let t = was_read (sint_at c) (λ n. read (f n.0) n.1) (x, d) e in
    let p = sint_read t.value c t.behind t.first in
    let first = numbers.sint t.value in
    let more = read_spelled (f t.value) x t.behind d (passes_inside first c t.behind p.passes inside) t.second in
    record {
      bits = first ++ more.bits;
      spells = (t.value, more.bits, p.below, refl, behind_at (f t.value) x first more.bits c t.behind p.passes more.spells);
      passes = passes_join first more.bits c t.behind d p.passes more.passes;
    }
read_spelled (literal_then f) x c d inside e =
    let t = was_read (literal_at c) (λ n. read (f n.0) n.1) (x, d) e in
    let p = literal_read t.value c t.behind t.first in
    let first = numbers.literal t.value in
    let more = read_spelled (f t.value) x t.behind d (passes_inside first c t.behind p.passes inside) t.second in
    record {
      bits = first ++ more.bits;
      spells = (t.value, more.bits, p.below, refl, behind_at (f t.value) x first more.bits c t.behind p.passes more.spells);
      passes = passes_join first more.bits c t.behind d p.passes more.passes;
    }
read_spelled (block_then len f) x c d inside e =
    let t = was_read (block_read_at len c) (λ n. read (f n.0) n.1) (x, d) e in
    let p = block_read t.value len c t.behind t.first in
    let first = bits_of t.value in
    let more = read_spelled (f t.value) x t.behind d (passes_inside first c t.behind p.passes inside) t.second in
    record {
      bits = first ++ more.bits;
      spells = (t.value, more.bits, (p.count, p.below), refl, behind_at (f t.value) x first more.bits c t.behind p.passes more.spells);
      passes = passes_join first more.bits c t.behind d p.passes more.passes;
    }
read_spelled (align_then s) x c d inside e =
    let gap = passes_gap c inside in
    let more = read_spelled s x (aligned c) d (passes_inside gap.0 c (aligned c) gap.2 inside) e in
    record {
      bits = gap.0 ++ more.bits;
      spells = (gap.0, more.bits, gap.1, refl, behind_at s x gap.0 more.bits c (aligned c) gap.2 more.spells);
      passes = passes_join gap.0 more.bits c (aligned c) d gap.2 more.passes;
    }
read_spelled (here_then f) x c d inside e =
    let more = read_spelled (f (place c)) x c d inside e in
    record { bits = more.bits; spells = more.spells; passes = more.passes }
read_spelled (refuse at cause) x c d inside e = absurd cc
