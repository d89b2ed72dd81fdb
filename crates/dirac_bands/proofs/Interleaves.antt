-- Lines whose values stand in turn.
use Rattle.std.proofs.Common.{◌≡◌, ◌≢◌, ℕ, ℤ, pos, ◌+◌, ◌*◌, ◌/◌, ◌%◌, ◌<◌, ◌≤◌, List, length, get_or, set, arith, refl, inl, inr, ap, sym, ◌∙◌, eq-eqb, ◌==◌, if◌then◌else◌}
use Rattle.std.proofs.lemmas.List.{get_or-set_same, get_or-set_other, length-set}
use Rattle.std.proofs.lemmas.List.FromFn.{fill_by_all, get_or-map-range_with_len}
use Rattle.std.proofs.lemmas.Bool.{cases_eq, ne_eqb}
use Rattle.dirac_common.specs.Table.{Table, table_at, row_of}
use Rattle.dirac_bands.specs.Interleaving.{interleaved_at, interleaved, every_other, joined_at}
use Rattle.dirac_common.proofs.Rows.{row_at}

pub at_even : (even odd : List ℤ) (n x : ℕ) → x ≡ 2 * n → interleaved_at even odd x ≡ get_or even n (pos 0)
at_even even odd n x e =
    let rem : x % 2 ≡ 0 = omega arith in
    let quot : x / 2 ≡ n = omega arith in
    rw (eq-eqb (x % 2) 0 rem, quot) refl

pub at_odd : (even odd : List ℤ) (n x : ℕ) → x ≡ 2 * n + 1 → interleaved_at even odd x ≡ get_or odd n (pos 0)
at_odd even odd n x e =
    let rem : x % 2 ≢ 0 = omega arith in
    let quot : x / 2 ≡ n = omega arith in
    rw (ne_eqb (x % 2) 0 rem, quot) refl

-- two more values are written
pub two_more : (even odd xs : List ℤ) (n : ℕ) (a b : ℤ) → ((x : ℕ) → x < 2 * n → get_or xs x (pos 0) ≡ interleaved_at even odd x) → 2 * n + 1 < length xs → a ≡ get_or even n (pos 0) → b ≡ get_or odd n (pos 0) → (x : ℕ) → x < 2 * (n + 1) → get_or (set (set xs (2 * n) a) (2 * n + 1) b) x (pos 0) ≡ interleaved_at even odd x
two_more even odd xs n a b before fits ea eb x l = elim (cases_eq x (2 * n + 1)) [
  | inl last ↦
      ap (λ i. get_or (set (set xs (2 * n) a) (2 * n + 1) b) i (pos 0)) last
      ∙ get_or-set_same (set xs (2 * n) a) (2 * n + 1) b (pos 0) (omega (arith, length-set xs (2 * n) a))
      ∙ eb ∙ sym (at_odd even odd n x last)
  | inr other ↦
      get_or-set_other (set xs (2 * n) a) (2 * n + 1) x b (pos 0) other
      ∙ elim (cases_eq x (2 * n)) [
        | inl first ↦
            ap (λ i. get_or (set xs (2 * n) a) i (pos 0)) first
            ∙ get_or-set_same xs (2 * n) a (pos 0) (omega arith)
            ∙ ea ∙ sym (at_even even odd n x first)
        | inr old ↦ get_or-set_other xs (2 * n) x a (pos 0) old ∙ before x (omega arith)
      ]
]

pub interleaved_all : (even odd xs : List ℤ) → length xs ≡ 2 * length even → ((x : ℕ) → x < 2 * length even → get_or xs x (pos 0) ≡ interleaved_at even odd x) → xs ≡ interleaved even odd
unfolding interleaved
interleaved_all even odd xs e each = fill_by_all (interleaved_at even odd) xs (2 * length even) (pos 0) e each

pub every_other_all : (line half : List ℤ) (first : ℕ) → length line ≡ 2 * length half → ((k : ℕ) → k < length half → get_or half k (pos 0) ≡ get_or line (2 * k + first) (pos 0)) → half ≡ every_other line first
unfolding every_other
every_other_all line half first e each =
    fill_by_all (λ n. get_or line (2 * n + first) (pos 0)) half (length line / 2) (pos 0) (omega arith) (λ k l. each k (omega arith))

pub interleaved_reads : (even odd : List ℤ) (x : ℕ) → x < 2 * length even → get_or (interleaved even odd) x (pos 0) ≡ interleaved_at even odd x
unfolding interleaved
interleaved_reads even odd x l =
    get_or-map-range_with_len (interleaved_at even odd) 0 (2 * length even) x x (pos 0) l (omega arith)

-- two rows in turn, at a place
rows_in_turn : (a b : Table) (n x : ℕ) (even odd : List ℤ) → even ≡ row_of a n → odd ≡ row_of b n → length even ≡ a.width → b.width ≡ a.width → x < 2 * a.width → get_or (interleaved even odd) x (pos 0) ≡ table_at (if x % 2 == 0 then a else b) (x / 2) n
rows_in_turn a b n x even odd ea eb len same l = interleaved_reads even odd x (omega (arith, len)) ∙ elim (cases_eq (x % 2) 0) [
  | inl zero ↦ rw (eq-eqb (x % 2) 0 zero) (ap (λ xs. get_or xs (x / 2) (pos 0)) ea ∙ row_at a (x / 2) n (omega arith))
  | inr one ↦ rw (ne_eqb (x % 2) 0 one) (ap (λ xs. get_or xs (x / 2) (pos 0)) eb ∙ row_at b (x / 2) n (omega arith))
]

-- the plane's even rows
pub even_row : (ll hl lh hh : Table) (n x : ℕ) (ws even odd : List ℤ) → ws ≡ interleaved even odd → even ≡ row_of ll n → odd ≡ row_of hl n → length even ≡ ll.width → hl.width ≡ ll.width → x < 2 * ll.width → get_or ws x (pos 0) ≡ joined_at ll hl lh hh x (2 * n)
even_row ll hl lh hh n x ws even odd e ea eb len same l =
    let rem : (2 * n) % 2 ≡ 0 = omega arith in
    let quot : (2 * n) / 2 ≡ n = omega arith in
    ap (λ xs. get_or xs x (pos 0)) e ∙ rw (eq-eqb ((2 * n) % 2) 0 rem, quot) (rows_in_turn ll hl n x even odd ea eb len same l)

-- the plane's odd rows
pub odd_row : (ll hl lh hh : Table) (n x : ℕ) (ws even odd : List ℤ) → ws ≡ interleaved even odd → even ≡ row_of lh n → odd ≡ row_of hh n → length even ≡ lh.width → hh.width ≡ lh.width → x < 2 * lh.width → get_or ws x (pos 0) ≡ joined_at ll hl lh hh x (2 * n + 1)
odd_row ll hl lh hh n x ws even odd e ea eb len same l =
    let rem : (2 * n + 1) % 2 ≢ 0 = omega arith in
    let quot : (2 * n + 1) / 2 ≡ n = omega arith in
    ap (λ xs. get_or xs x (pos 0)) e ∙ rw (ne_eqb ((2 * n + 1) % 2) 0 rem, quot) (rows_in_turn lh hh n x even odd ea eb len same l)

-- a row of a subband
pub band_row : (t : Table) (right below n x : ℕ) (ws line : List ℤ) → ws ≡ every_other line right → line ≡ row_of t (2 * n + below) → length line ≡ t.width → right ≤ 1 → x < t.width / 2 → get_or ws x (pos 0) ≡ table_at t (2 * x + right) (2 * n + below)
unfolding every_other
band_row t right below n x ws line e el len one l =
    ap (λ xs. get_or xs x (pos 0)) e
    ∙ get_or-map-range_with_len (λ k. get_or line (2 * k + right) (pos 0)) 0 (length line / 2) x x (pos 0) (omega (arith, len)) (omega arith)
    ∙ ap (λ xs. get_or xs (2 * x + right) (pos 0)) el
    ∙ row_at t (2 * x + right) (2 * n + below) (omega arith)
