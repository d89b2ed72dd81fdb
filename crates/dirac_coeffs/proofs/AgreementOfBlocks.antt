-- The same of codeblocks, of rows of codeblocks, and of what a zero flag says.
use Rattle.std.proofs.Common.{◌≡◌, ℕ, zero, suc, ℤ, ◌+◌, ◌<◌, ◌≤◌, List, ◌++◌, refl, ap, ap₂, sym, ◌∙◌, arith}
use Rattle.std.proofs.Math.Numerals.{unary_clauses}
use Rattle.dirac_arith.specs.Interval.{Decision}
use Rattle.dirac_bands.specs.Geometry.{edge_of}
use Rattle.dirac_coeffs.specs.declared.layout.BandLayout.{BandLayout}
use Rattle.dirac_coeffs.specs.Carried.{SkippedIsZero}
use Rattle.dirac_coeffs.specs.Indices.{offset_part}
use Rattle.dirac_coeffs.specs.Decisions.{Mark, Marks, frame_of, flagged_part, block_part, blocks_part, bands_part}
use Rattle.dirac_coeffs.proofs.Places.{SameWithin}
use Rattle.dirac_coeffs.specs.Layouts.{IsBandLayout, codeblock_extent, is_flagged}
use Rattle.dirac_coeffs.proofs.Agreement.{rows_same}
use Rattle.dirac_coeffs.proofs.Edges.{edge_rises, edge_last, span_end, span_inside}
use Rattle.dirac_coeffs.proofs.Within.{same_less}

block_same : (layout : BandLayout) (parent xs ys : List ℤ) (cy cx : ℕ) (mark : Mark) → IsBandLayout layout → cx < layout.across
    → SameWithin layout.width xs ys (edge_of layout.width layout.across (cx + 1)) (edge_of layout.height layout.down (cy + 1))
    → block_part layout parent xs cy cx mark ≡ block_part layout parent ys cy cx mark
block_same layout parent xs ys cy cx mark is h s =
    let left = edge_of layout.width layout.across cx in
    let top = edge_of layout.height layout.down cy in
    let columns = codeblock_extent layout.width layout.across cx in
    let rows = codeblock_extent layout.height layout.down cy in
    let right : left + columns ≡ edge_of layout.width layout.across (cx + 1) = span_end layout.width layout.across cx (omega (arith, is.across)) in
    let bottom : top + rows ≡ edge_of layout.height layout.down (cy + 1) = span_end layout.height layout.down cy (omega (arith, is.down)) in
    let inner : SameWithin layout.width xs ys (left + columns) (top + rows) = same_less (omega arith) (omega arith) s in
    ap (λ ds. flagged_part (is_flagged layout) mark.skipped (offset_part layout.mode mark.offset ++ ds))
    (rows_same (frame_of layout parent) xs ys left columns top rows (span_inside layout.width layout.across cx h) inner)

pub blocks_next : (layout : BandLayout) (parent xs : List ℤ) (marks : ℕ → Mark) (cy n : ℕ) → blocks_part layout parent xs marks cy (n + 1) ≡ blocks_part layout parent xs marks cy n ++ block_part layout parent xs cy n (marks n)
unfolding blocks_part
blocks_next layout parent xs marks cy n = simp unary_clauses refl

pub blocks_same : (layout : BandLayout) (parent xs ys : List ℤ) (marks others : ℕ → Mark) (cy n : ℕ) → IsBandLayout layout → n ≤ layout.across → ((c : ℕ) → c < n → marks c ≡ others c)
    → SameWithin layout.width xs ys (edge_of layout.width layout.across n) (edge_of layout.height layout.down (cy + 1))
    → blocks_part layout parent xs marks cy n ≡ blocks_part layout parent ys others cy n
unfolding blocks_part
blocks_same layout parent xs ys marks others cy zero is h same s = refl
blocks_same layout parent xs ys marks others cy (suc n) is h same s =
    let down = edge_of layout.height layout.down (cy + 1) in
    let next : n + 1 ≡ suc n = omega arith in
    let here : SameWithin layout.width xs ys (edge_of layout.width layout.across (n + 1)) down = rw next s in
    let rises : edge_of layout.width layout.across n ≤ edge_of layout.width layout.across (suc n) = edge_rises layout.width layout.across n (suc n) (omega (arith, is.across)) (omega arith) in
    ap₂ (λ (a b : List Decision). a ++ b)
    (blocks_same layout parent xs ys marks others cy n is (omega arith) (λ c l. same c (omega arith)) (same_less rises (omega arith) s))
    (block_same layout parent xs ys cy n (marks n) is (omega arith) here ∙ ap (λ m. block_part layout parent ys cy n m) (same n (omega arith)))

pub bands_next : (layout : BandLayout) (parent xs : List ℤ) (marks : Marks) (n : ℕ) → bands_part layout parent xs marks (n + 1) ≡ bands_part layout parent xs marks n ++ blocks_part layout parent xs (marks n) n layout.across
unfolding bands_part
bands_next layout parent xs marks n = simp unary_clauses refl

pub bands_same : (layout : BandLayout) (parent xs ys : List ℤ) (marks others : Marks) (n : ℕ) → IsBandLayout layout → n ≤ layout.down → ((r c : ℕ) → r < n → c < layout.across → marks r c ≡ others r c)
    → SameWithin layout.width xs ys layout.width (edge_of layout.height layout.down n)
    → bands_part layout parent xs marks n ≡ bands_part layout parent ys others n
unfolding bands_part
bands_same layout parent xs ys marks others zero is h same s = refl
bands_same layout parent xs ys marks others (suc n) is h same s =
    let next : n + 1 ≡ suc n = omega arith in
    let w = layout.width in
    let bottom = edge_of layout.height layout.down (suc n) in
    let last : edge_of layout.width layout.across layout.across ≡ layout.width = edge_last layout.width layout.across (omega (arith, is.across)) in
    let here : SameWithin w xs ys (edge_of layout.width layout.across layout.across) (edge_of layout.height layout.down (n + 1)) = rw (last, next) s in
    let rises : edge_of layout.height layout.down n ≤ bottom = edge_rises layout.height layout.down n (suc n) (omega (arith, is.down)) (omega arith) in
    ap₂ (λ (a b : List Decision). a ++ b)
    (bands_same layout parent xs ys marks others n is (omega arith) (λ r c l. same r c (omega arith)) (same_less (omega arith) rises s))
    (blocks_same layout parent xs ys (marks n) (others n) n layout.across is (omega arith) (λ c l. same n c (omega arith) l) here)

-- what is zero stays zero where the values are the same
pub zeros_same : (layout : BandLayout) (xs ys : List ℤ) (cy cx : ℕ) (mark : Mark) → IsBandLayout layout → cx < layout.across
    → SameWithin layout.width xs ys (edge_of layout.width layout.across (cx + 1)) (edge_of layout.height layout.down (cy + 1))
    → SkippedIsZero layout xs cy cx mark → SkippedIsZero layout ys cy cx mark
zeros_same layout xs ys cy cx mark is h s z =
    λ flagged skipped i j p q.
    let right : edge_of layout.width layout.across cx + codeblock_extent layout.width layout.across cx ≡ edge_of layout.width layout.across (cx + 1) = span_end layout.width layout.across cx (omega (arith, is.across)) in
    let bottom : edge_of layout.height layout.down cy + codeblock_extent layout.height layout.down cy ≡ edge_of layout.height layout.down (cy + 1) = span_end layout.height layout.down cy (omega (arith, is.down)) in
    let inside = span_inside layout.width layout.across cx h in
    sym (s.each (edge_of layout.width layout.across cx + i) (edge_of layout.height layout.down cy + j) (omega arith) (omega arith) (omega arith)) ∙ z flagged skipped i j p q
