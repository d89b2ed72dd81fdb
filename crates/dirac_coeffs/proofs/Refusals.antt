-- What is asked of a band: at least one decision; and what it is refused for: never the first bits of its block.
use Rattle.std.proofs.Common.{◌≡◌, ◌≢◌, ℕ, zero, suc, ℤ, pos, ◌+◌, ◌+ℤ◌, ◌<◌, ◌==◌, ◌&&◌, not, Bool, true, false, true≢false, List, inl, inr, set, sym, subst, refl, arith, eq-eqb, ne_eqb}
use Rattle.std.proofs.lemmas.Bool.{cases_Bool, cases_eq}
use Rattle.dirac_common.specs.declared.faults.Cause.{Cause}
use Rattle.dirac_common.specs.declared.faults.Cause.TheVariants.{CodeWord}
use Rattle.dirac_arith.specs.Coded.{Coded, and_then, done}
use Rattle.dirac_arith.proofs.CodedValues.{Open}
use Rattle.dirac_bands.specs.Geometry.{edge_of}
use Rattle.dirac_coeffs.specs.declared.layout.BandLayout.{BandLayout}
use Rattle.dirac_coeffs.specs.BandRead.{Content, band_content, value_step, row_step, filled_step, offset_step, unskipped_step, skipped_content, unless, flagged_coded, block_step, blocks_step, unread, band_coded}
use Rattle.dirac_coeffs.specs.Decisions.{frame_of}
use Rattle.dirac_coeffs.specs.Indices.{place_of, index_before, index_coded, index_from, is_index}
use Rattle.dirac_coeffs.specs.Layouts.{IsBandLayout, codeblock_extent, is_flagged}
use Rattle.dirac_coeffs.proofs.Edges.{edge_first, edge_last}
use Rattle.dirac_coeffs.proofs.OffsetsRead.{from_index, from_none}
use Rattle.dirac_coeffs.proofs.Steps.{RefusedFor, then_for, repeated_for, Asks, then_asks, behind_asks, repeated_asks}

offset_open : (mode index c : ℕ) (is : List ℕ) → Open (offset_step mode index c is)
unfolding offset_step
offset_open zero index c is = tt
offset_open (suc mode) index c is = tt

flagged_asks : (flagged : Bool) (skipped : Content) (u : Coded Content) → (flagged ≡ false → Asks u) → Asks (flagged_coded flagged skipped u)
flagged_asks false skipped u first = first refl
flagged_asks true skipped u first = tt

filled_asks : (layout : BandLayout) (parent : List ℤ) (cy cx : ℕ) (xs : List ℤ) → 0 < codeblock_extent layout.width layout.across cx → 0 < codeblock_extent layout.height layout.down cy → Asks (filled_step layout parent cy cx xs)
unfolding value_step
filled_asks layout parent cy cx xs wide high =
    let f = frame_of layout parent in
    let x = edge_of layout.width layout.across cx in
    let y = edge_of layout.height layout.down cy in
    let columns = codeblock_extent layout.width layout.across cx in
    repeated_asks (λ j. row_step f (y + j) x columns) (codeblock_extent layout.height layout.down cy) xs high (repeated_asks (λ i. value_step f (x + i) (y + 0)) columns xs wide tt)

-- without zero flags there is one codeblock
one_codeblock : (a d : ℕ) → not (a == 1 && d == 1) ≡ false → (a ≡ 1) × (d ≡ 1)
one_codeblock a d h =
    elim (cases_eq a 1) [
      | inl e ↦ elim (cases_eq d 1) [
        | inl e' ↦ (e, e')
        | inr n ↦ absurd (true≢false (rw (eq-eqb a 1 e, ne_eqb d 1 n) at h))
      ]
      | inr n ↦ absurd (true≢false (rw (ne_eqb a 1 n) at h))
    ]

one_span : (size count c : ℕ) → count ≡ 1 → c < count → codeblock_extent size count c ≡ size
one_span size count c one h =
    let first : c ≡ 0 = omega arith in
    let whole : codeblock_extent size 1 0 ≡ size = omega (arith, edge_first size 1, edge_last size 1 (omega arith)) in
    rw (one, first) whole

block_asks : (layout : BandLayout) (parent : List ℤ) (index cy cx : ℕ) (c : Content) → IsBandLayout layout → cy < layout.down → cx < layout.across → Asks (block_step layout parent index cy cx c)
unfolding block_step
block_asks layout parent index cy cx c is low left =
    flagged_asks (is_flagged layout) (skipped_content layout index cy cx c) (unskipped_step layout parent index cy cx c) (λ plain.
    let one = one_codeblock layout.across layout.down plain in
    behind_asks (offset_step layout.mode index (place_of layout cy cx) c.indices) (λ is. and_then (filled_step layout parent cy cx c.values) (λ xs. done (band_content xs is))) (offset_open layout.mode index (place_of layout cy cx) c.indices) (λ js.
    then_asks (filled_step layout parent cy cx c.values) (λ xs. done (band_content xs js))
    (filled_asks layout parent cy cx c.values (omega (arith, one_span layout.width layout.across cx one.0 left, is.width)) (omega (arith, one_span layout.height layout.down cy one.1 low, is.height)))))

-- a band needs a decision
pub band_asks : (layout : BandLayout) (parent : List ℤ) (index : ℕ) → IsBandLayout layout → Asks (band_coded layout parent index)
band_asks layout parent index is =
    let some : 0 < layout.down = omega (arith, is.down) in
    let more : 0 < layout.across = omega (arith, is.across) in
    repeated_asks (λ cy. blocks_step layout parent index cy layout.across) layout.down (unread layout index) some
    (repeated_asks (block_step layout parent index 0) layout.across (unread layout index) more (block_asks layout parent index 0 0 (unread layout index) is some more))

-- another cause than the first bits of the block
abbrev pub IsInside : Cause → Type 0
IsInside e = e ≢ CodeWord

flagged_for : (flagged : Bool) (skipped : Content) (u : Coded Content) → RefusedFor IsInside u → RefusedFor IsInside (flagged_coded flagged skipped u)
flagged_for false skipped u inside = inside
flagged_for true skipped u inside = told
  where
    told : (b : Bool) → RefusedFor IsInside (unless skipped u b)
    told true = tt
    told false = inside

from_for : (former : ℕ) (offset : ℤ) → RefusedFor IsInside (index_from former offset)
from_for former offset = elim (cases_Bool (is_index (pos former +ℤ offset))) [
  | inl fits ↦ subst (λ (s : Coded ℕ). RefusedFor IsInside s) (sym (from_index former offset fits)) tt
  | inr out ↦ subst (λ (s : Coded ℕ). RefusedFor IsInside s) (sym (from_none former offset out)) (λ e. absurd cc)
]

offset_for : (mode index c : ℕ) (is : List ℕ) → RefusedFor IsInside (offset_step mode index c is)
unfolding offset_step
offset_for zero index c is = tt
offset_for (suc mode) index c is = then_for IsInside (index_coded (index_before index is c)) (λ i. done (set is c i)) (λ offset. from_for (index_before index is c) offset) (λ i. tt)

filled_for : (layout : BandLayout) (parent : List ℤ) (cy cx : ℕ) (xs : List ℤ) → RefusedFor IsInside (filled_step layout parent cy cx xs)
unfolding value_step
filled_for layout parent cy cx xs =
    let f = frame_of layout parent in
    let x = edge_of layout.width layout.across cx in
    let y = edge_of layout.height layout.down cy in
    let columns = codeblock_extent layout.width layout.across cx in
    repeated_for IsInside (λ j. row_step f (y + j) x columns) (codeblock_extent layout.height layout.down cy) xs (λ j ys. repeated_for IsInside (λ i. value_step f (x + i) (y + j)) columns ys (λ i zs. λ v. tt))

block_for : (layout : BandLayout) (parent : List ℤ) (index cy cx : ℕ) (c : Content) → RefusedFor IsInside (block_step layout parent index cy cx c)
unfolding block_step
block_for layout parent index cy cx c =
    flagged_for (is_flagged layout) (skipped_content layout index cy cx c) (unskipped_step layout parent index cy cx c)
    (then_for IsInside (offset_step layout.mode index (place_of layout cy cx) c.indices) (λ is. and_then (filled_step layout parent cy cx c.values) (λ xs. done (band_content xs is))) (offset_for layout.mode index (place_of layout cy cx) c.indices)
    (λ is. then_for IsInside (filled_step layout parent cy cx c.values) (λ xs. done (band_content xs is)) (filled_for layout parent cy cx c.values) (λ xs. tt)))

pub band_for : (layout : BandLayout) (parent : List ℤ) (index : ℕ) → RefusedFor IsInside (band_coded layout parent index)
band_for layout parent index =
    repeated_for IsInside (λ cy. blocks_step layout parent index cy layout.across) layout.down (unread layout index)
    (λ cy c. repeated_for IsInside (block_step layout parent index cy) layout.across c (λ cx d. block_for layout parent index cy cx d))
