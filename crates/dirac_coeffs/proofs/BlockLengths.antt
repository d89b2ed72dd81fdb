-- The block of a subband is never too long for its length to be spelt: each value and offset takes at most 78 decisions, each
-- decision at most sixteen doublings, and a byte is written for eight of these.
use Rattle.std.proofs.Common.{◌≡◌, ℕ, zero, suc, ℤ, pos, negsuc, ◌+◌, ◌-◌, ◌*◌, ◌/◌, ◌^◌, ◌<◌, ◌≤◌, nat_lt, Bool, true, false, List, [], ◌∷◌, ◌++◌, length, refl, sym, ap, ◌∙◌, arith, inl, inr, length-append}
use Rattle.std.proofs.lemmas.Bool.{cases_Bool, cond-true, cond-false}
use Rattle.std.proofs.lemmas.Nat.{mul-le}
use Rattle.dirac_common.specs.Numbers.{digits_of}
use Rattle.dirac_common.proofs.Digits.{digits_few}
use Rattle.dirac_arith.specs.Interval.{Decision, Interval, least_passing, doublings_for, interval_kept, narrowed, narrowed_by, whole, interval_of}
use Rattle.dirac_arith.specs.Spelling.{follow_at, opening_digits, spelling, signed_spelling}
use Rattle.dirac_arith.specs.Written.{block_length, flushed_interval, flush}
use Rattle.dirac_arith.proofs.Bytes.{length-bytes_of}
use Rattle.dirac_bands.specs.Geometry.{edge_of}
use Rattle.dirac_coeffs.specs.declared.layout.BandLayout.{BandLayout}
use Rattle.dirac_coeffs.specs.Contexts.{band_value, bits_context}
use Rattle.dirac_coeffs.specs.Decisions.{Frame, Mark, Marks, frame_of, value_part, row_part, rows_part, flagged_part, block_part, blocks_part, bands_part, band_decisions, follow_here, sign_here}
use Rattle.dirac_coeffs.specs.Indices.{offset_part}
use Rattle.dirac_coeffs.specs.Laws.{BlocksAreShort}
use Rattle.dirac_coeffs.specs.Layouts.{codeblock_extent, is_flagged}
use Rattle.dirac_coeffs.specs.Written.{marks_of}
use Rattle.dirac_coeffs.proofs.Edges.{edge_last, span_end}

-- the least number that passes is at most the limit
least_most : (p : ℕ → Bool) (limit : ℕ) → least_passing p limit ≤ limit
least_most p zero = omega arith
least_most p (suc limit) =
    let rest = least_most (λ i. p (suc i)) limit in
    elim (cases_Bool (p 0)) [
      | inl here ↦ omega (arith, cond-true (p 0) 0 (suc (least_passing (λ i. p (suc i)) limit)) here)
      | inr other ↦ omega (arith, cond-false (p 0) 0 (suc (least_passing (λ i. p (suc i)) limit)) other)
    ]

-- a range needs at most sixteen doublings
doublings_most : (range : ℕ) → doublings_for range ≤ 16
unfolding doublings_for
doublings_most range = least_most (λ j. nat_lt 0x4000 (range * 2 ^ j)) 16

narrowed_most : (s : Interval) (context : ℕ) (truth : Bool) → (narrowed s (context, truth)).doublings ≤ s.doublings + 16
narrowed_most s context true = omega (arith, doublings_most (interval_kept s context true).range)
narrowed_most s context false = omega (arith, doublings_most (interval_kept s context false).range)

narrowed_by_most : (s : Interval) (ds : List Decision) → (narrowed_by s ds).doublings ≤ s.doublings + 16 * length ds
narrowed_by_most s [] = omega arith
narrowed_by_most s (d ∷ ds) = omega (arith, narrowed_most s d.0 d.1, narrowed_by_most (narrowed s d) ds)

-- the block for decisions has at most two bytes for each, and one more
flush_most : (ds : List Decision) → length (flush ds) ≤ 2 * length ds + 1
unfolding flushed_interval
flush_most [] = omega arith
flush_most (d ∷ ds) =
    let s = interval_of (d ∷ ds) in
    let m = block_length s.doublings in
    omega (arith, narrowed_by_most whole (d ∷ ds), length-bytes_of m ((s.low + s.range) / 2 ^ (16 + s.doublings - 8 * m) - 1))

-- two decisions for each digit
length-opening : (follow : List ℕ) (bits i : ℕ) (digits : List Bool) → length (opening_digits follow bits i digits) ≡ 2 * length digits
length-opening follow bits i [] = refl
length-opening follow bits i (b ∷ bs) = omega (arith, length-opening follow bits (i + 1) bs)

-- a number is spelt in at most 77 decisions, and a signed one in one more
spelling_most : (follow : List ℕ) (bits v : ℕ) → length (spelling follow bits v) ≤ 77
unfolding spelling
spelling_most follow bits v =
    let digits = digits_of v in
    let last : Decision = (follow_at follow (length digits), true) in
    omega (arith, length-append (opening_digits follow bits 0 digits) (last ∷ []), length-opening follow bits 0 digits, digits_few v)

signed_most : (follow : List ℕ) (bits sign : ℕ) (v : ℤ) → length (signed_spelling follow bits sign v) ≤ 78
unfolding signed_spelling
signed_most follow bits sign (pos zero) = omega (arith, spelling_most follow bits 0)
signed_most follow bits sign (pos (suc n)) =
    let last : Decision = (sign, false) in
    omega (arith, length-append (spelling follow bits (suc n)) (last ∷ []), spelling_most follow bits (suc n))
signed_most follow bits sign (negsuc n) =
    let last : Decision = (sign, true) in
    omega (arith, length-append (spelling follow bits (suc n)) (last ∷ []), spelling_most follow bits (suc n))

value_most : (f : Frame) (xs : List ℤ) (x y : ℕ) → length (value_part f xs x y) ≤ 78
value_most f xs x y = signed_most (follow_here f xs x y) bits_context (sign_here f xs x y) (band_value f.width xs x y)

row_most : (f : Frame) (xs : List ℤ) (y x n : ℕ) → length (row_part f xs y x n) ≤ 78 * n
unfolding row_part
row_most f xs y x zero = omega arith
row_most f xs y x (suc n) = omega (arith, length-append (row_part f xs y x n) (value_part f xs (x + n) y), row_most f xs y x n, value_most f xs (x + n) y)

rows_most : (f : Frame) (xs : List ℤ) (x count y n : ℕ) → length (rows_part f xs x count y n) ≤ 78 * (count * n)
unfolding rows_part
rows_most f xs x count y zero = omega arith
rows_most f xs x count y (suc n) = omega (arith, length-append (rows_part f xs x count y n) (row_part f xs (y + n) x count), rows_most f xs x count y n, row_most f xs (y + n) x count)

flagged_most : (flagged skipped : Bool) (ds : List Decision) → length (flagged_part flagged skipped ds) ≤ 1 + length ds
flagged_most false skipped ds = omega arith
flagged_most true true ds = omega arith
flagged_most true false ds = omega arith

offset_most : (mode : ℕ) (offset : ℤ) → length (offset_part mode offset) ≤ 78
offset_most zero offset = omega arith
offset_most (suc m) offset = signed_most (19 ∷ []) 20 21 offset

-- a codeblock: its flag, its offset, and the values of its columns and rows
block_most : (layout : BandLayout) (parent xs : List ℤ) (cy cx : ℕ) (mark : Mark)
    → length (block_part layout parent xs cy cx mark) ≤ 79 + 78 * (codeblock_extent layout.width layout.across cx * codeblock_extent layout.height layout.down cy)
block_most layout parent xs cy cx mark =
    let f = frame_of layout parent in
    let left = edge_of layout.width layout.across cx in
    let columns = codeblock_extent layout.width layout.across cx in
    let top = edge_of layout.height layout.down cy in
    let rows = codeblock_extent layout.height layout.down cy in
    let ds = offset_part layout.mode mark.offset in
    let values = rows_part f xs left columns top rows in
    omega (arith, flagged_most (is_flagged layout) mark.skipped (ds ++ values), length-append {A = Decision} ds values, offset_most layout.mode mark.offset, rows_most f xs left columns top rows)

-- parts that have each their flags and lines from an edge to the next, and of one size across these
grown : (all more n flags size left span right : ℕ) → all ≤ n * flags + 78 * (left * size) → more ≤ flags + 78 * (span * size) → left + span ≡ right → all + more ≤ suc n * flags + 78 * (right * size)
grown all more n flags size left span right before here sum = rw (sym sum) (omega (arith, before, here))

-- codeblocks of one row have the columns up to an edge
blocks_most : (layout : BandLayout) (parent xs : List ℤ) (marks : ℕ → Mark) (cy n : ℕ) → 0 < layout.across
    → length (blocks_part layout parent xs marks cy n) ≤ 79 * n + 78 * (edge_of layout.width layout.across n * codeblock_extent layout.height layout.down cy)
unfolding blocks_part
blocks_most layout parent xs marks cy zero some = omega arith
blocks_most layout parent xs marks cy (suc n) some =
    let w = layout.width in
    let next : n + 1 ≡ suc n = omega arith in
    let sum : edge_of w layout.across n + codeblock_extent w layout.across n ≡ edge_of w layout.across (suc n) = span_end w layout.across n some ∙ ap (λ c. edge_of w layout.across c) next in
    let both = grown (length (blocks_part layout parent xs marks cy n)) (length (block_part layout parent xs cy n (marks n))) n 79 (codeblock_extent layout.height layout.down cy)
    (edge_of w layout.across n) (codeblock_extent w layout.across n) (edge_of w layout.across (suc n)) (omega (arith, blocks_most layout parent xs marks cy n some)) (block_most layout parent xs cy n (marks n)) sum in
    rw (length-append (blocks_part layout parent xs marks cy n) (block_part layout parent xs cy n (marks n))) (omega (arith, both))

-- a row of codeblocks has the band's columns
row_of_blocks_most : (layout : BandLayout) (parent xs : List ℤ) (marks : ℕ → Mark) (cy : ℕ) → 0 < layout.across
    → length (blocks_part layout parent xs marks cy layout.across) ≤ 79 * layout.across + 78 * (codeblock_extent layout.height layout.down cy * layout.width)
row_of_blocks_most layout parent xs marks cy some =
    let last : edge_of layout.width layout.across layout.across ≡ layout.width = edge_last layout.width layout.across some in
    let most = blocks_most layout parent xs marks cy layout.across some in
    omega (arith, rw last at most)

-- rows of codeblocks have the rows up to an edge
bands_most : (layout : BandLayout) (parent xs : List ℤ) (marks : Marks) (n : ℕ) → 0 < layout.across → 0 < layout.down
    → length (bands_part layout parent xs marks n) ≤ n * (79 * layout.across) + 78 * (edge_of layout.height layout.down n * layout.width)
unfolding bands_part
bands_most layout parent xs marks zero some rows = omega arith
bands_most layout parent xs marks (suc n) some rows =
    let h = layout.height in
    let next : n + 1 ≡ suc n = omega arith in
    let sum : edge_of h layout.down n + codeblock_extent h layout.down n ≡ edge_of h layout.down (suc n) = span_end h layout.down n rows ∙ ap (λ c. edge_of h layout.down c) next in
    rw (length-append (bands_part layout parent xs marks n) (blocks_part layout parent xs (marks n) n layout.across))
    (grown (length (bands_part layout parent xs marks n)) (length (blocks_part layout parent xs (marks n) n layout.across)) n (79 * layout.across) layout.width
    (edge_of h layout.down n) (codeblock_extent h layout.down n) (edge_of h layout.down (suc n)) (bands_most layout parent xs marks n some rows) (row_of_blocks_most layout parent xs (marks n) n some) sum)

-- a band: a flag and an offset for each codeblock, and its values
decisions_most : (layout : BandLayout) (parent xs : List ℤ) (marks : Marks) → 0 < layout.across → 0 < layout.down
    → length (band_decisions layout parent xs marks) ≤ 79 * (layout.down * layout.across) + 78 * (layout.width * layout.height)
decisions_most layout parent xs marks some rows =
    let last : edge_of layout.height layout.down layout.down ≡ layout.height = edge_last layout.height layout.down rows in
    let most = bands_most layout parent xs marks layout.down some rows in
    omega (arith, rw last at most)

-- the block of a subband is short: its length can be spelt
pub block_short : BlocksAreShort
block_short layout parent index xs indices is =
    let ms = marks_of layout index xs indices in
    let ds = band_decisions layout parent xs ms in
    let flags = mul-le layout.down layout.across 8192 8192 is.down.1 is.across.1 in
    let values = mul-le layout.width layout.height 8192 8192 is.width.1 is.height.1 in
    omega (arith, flush_most ds, decisions_most layout parent xs ms (omega (arith, is.across)) (omega (arith, is.down)), flags, values)
