-- The rows of a joined plane, whose values stand in turn.
use Rattle.std.proofs.Common.{◌≡◌, ◌≢◌, ℕ, ℤ, pos, ◌+◌, ◌-◌, ◌*◌, ◌/◌, ◌%◌, ◌<◌, List, length, map, take, drop, get_or, set, arith, inl, inr, ap, sym, ◌∙◌}
use Rattle.std.proofs.lemmas.Bool.{cases_eq}
use Rattle.std.proofs.lemmas.List.{get_or-set_same, get_or-set_other, length-map, get_or-map, take-map, drop-map}
use Rattle.std.proofs.lemmas.Nat.{div-mul-add, mod-mul-add}
use Rattle.dirac_common.specs.declared.formats.Kind.{Kind}
use Rattle.dirac_common.specs.Table.{row_of}
use Rattle.dirac_quant.specs.Quantiser.{restored}
use Rattle.dirac_bands.specs.Interleaving.{interleaved}
use Rattle.dirac_bands.proofs.Interleaves.{at_even, at_odd, interleaved_all}
use Rattle.dirac_coeffs.specs.declared.layout.CodedBand.{CodedBand}
use Rattle.dirac_synthesis.specs.Codeblocks.{restored_by_one}

-- one more value is written to every place of a step
pub one_more : (f : ℤ → ℤ) (xs line : List ℤ) (step first n : ℕ) (v : ℤ) → ((k : ℕ) → k < n → get_or line (k * step + first) (pos 0) ≡ f (get_or xs k (pos 0))) → first < step → n * step + first < length line → v ≡ f (get_or xs n (pos 0)) → (k : ℕ) → k < n + 1 → get_or (set line (n * step + first) v) (k * step + first) (pos 0) ≡ f (get_or xs k (pos 0))
one_more f xs line step first n v before below fits e k l = elim (cases_eq k n) [
  | inl last ↦ rw last (get_or-set_same line (n * step + first) v (pos 0) fits ∙ e)
  | inr other ↦
      let apart : k * step + first ≢ n * step + first = λ same. other (sym (div-mul-add k step first below) ∙ ap (λ p. p / step) same ∙ div-mul-add n step first below) in
      get_or-set_other line (n * step + first) (k * step + first) v (pos 0) apart ∙ before k (omega (arith, l, other))
]

-- a value at such a place leaves those of the other places
pub others_stay : (line old : List ℤ) (step first n : ℕ) (v : ℤ) → ((x : ℕ) → x % step ≢ first → get_or line x (pos 0) ≡ get_or old x (pos 0)) → first < step → (x : ℕ) → x % step ≢ first → get_or (set line (n * step + first) v) x (pos 0) ≡ get_or old x (pos 0)
others_stay line old step first n v before below x other =
    let apart : x ≢ n * step + first = λ same. other (ap (λ p. p % step) same ∙ mod-mul-add n step first below) in
    get_or-set_other line (n * step + first) x v (pos 0) apart ∙ before x other

-- a line whose even and odd places are written
pub in_turn : (even odd line : List ℤ) → length line ≡ 2 * length even → length odd ≡ length even
    → ((n : ℕ) → n < length even → get_or line (2 * n) (pos 0) ≡ get_or even n (pos 0)) → ((n : ℕ) → n < length even → get_or line (2 * n + 1) (pos 0) ≡ get_or odd n (pos 0))
    → line ≡ interleaved even odd
in_turn even odd line len same left right = interleaved_all even odd line len (λ x l. elim (cases_eq (x % 2) 0) [
  | inl zero ↦
      let place : x ≡ 2 * (x / 2) = omega (arith, zero) in
      ap (λ i. get_or line i (pos 0)) place ∙ left (x / 2) (omega (arith, l)) ∙ sym (at_even even odd (x / 2) x place)
  | inr one ↦
      let place : x ≡ 2 * (x / 2) + 1 = omega (arith, one) in
      ap (λ i. get_or line i (pos 0)) place ∙ right (x / 2) (omega (arith, l)) ∙ sym (at_odd even odd (x / 2) x place)
])

-- a line whose even places are written first, and then its odd ones
pub in_turn_after : (f : ℤ → ℤ) (even xs before line : List ℤ) → length line ≡ 2 * length even → length xs ≡ length even
    → ((n : ℕ) → n < length even → get_or before (2 * n) (pos 0) ≡ get_or even n (pos 0))
    → ((n : ℕ) → n < length xs → get_or line (n * 2 + 1) (pos 0) ≡ f (get_or xs n (pos 0)))
    → ((x : ℕ) → x % 2 ≢ 1 → get_or line x (pos 0) ≡ get_or before x (pos 0))
    → line ≡ interleaved even (map f xs)
in_turn_after f even xs before line len same left right stay =
    in_turn even (map f xs) line len (length-map xs f ∙ same)
    (λ n l. let place : (2 * n) % 2 ≢ 1 = omega arith in stay (2 * n) place ∙ left n l)
    (λ n l. let place : 2 * n + 1 ≡ n * 2 + 1 = omega arith in
    ap (λ i. get_or line i (pos 0)) place ∙ right n (omega (arith, l, same)) ∙ sym (get_or-map f xs n (pos 0) (pos 0) (omega (arith, l, same))))

-- the same where both come of other values
pub both_in_turn_after : (f g : ℤ → ℤ) (xs ys before line : List ℤ) → length line ≡ 2 * length xs → length ys ≡ length xs
    → ((n : ℕ) → n < length xs → get_or before (n * 2 + 0) (pos 0) ≡ f (get_or xs n (pos 0)))
    → ((n : ℕ) → n < length ys → get_or line (n * 2 + 1) (pos 0) ≡ g (get_or ys n (pos 0)))
    → ((x : ℕ) → x % 2 ≢ 1 → get_or line x (pos 0) ≡ get_or before x (pos 0))
    → line ≡ interleaved (map f xs) (map g ys)
both_in_turn_after f g xs ys before line len same left right stay =
    in_turn_after g (map f xs) ys before line (omega (arith, len, length-map xs f)) (omega (arith, same, length-map xs f))
    (λ n l. let place : 2 * n ≡ n * 2 + 0 = omega arith in
    ap (λ i. get_or before i (pos 0)) place ∙ left n (omega (arith, l, length-map xs f)) ∙ sym (get_or-map f xs n (pos 0) (pos 0) (omega (arith, l, length-map xs f))))
    right stay

-- a row of what a coded band stands for
pub restored_row : (kind : Kind) (b : CodedBand) (y : ℕ) (coded : List ℤ) → coded ≡ row_of b.table y → map (λ v. restored v b.index kind) coded ≡ row_of (restored_by_one kind b) y
restored_row kind b y coded e =
    ap (map (λ v. restored v b.index kind)) e
    ∙ sym (take-map (λ v. restored v b.index kind) (y * b.table.width + b.table.width - y * b.table.width) (drop (y * b.table.width) b.table.values))
    ∙ ap (take (y * b.table.width + b.table.width - y * b.table.width)) (sym (drop-map (λ v. restored v b.index kind) (y * b.table.width) b.table.values))
