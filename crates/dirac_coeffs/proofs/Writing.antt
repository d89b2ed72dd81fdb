-- What an encoder has written, and that it is read back.
use Rattle.std.proofs.Common.{◌≡◌, ℕ, zero, suc, ℤ, pos, negsuc, ◌+◌, ◌-◌, ◌+ℤ◌, ◌-ℤ◌, ◌^◌, ◌<◌, min, Bool, true, false, List, [], ◌∷◌, ◌++◌, ◌&&◌, length, unsigned_abs, Ok, arith, lit<, refl, ap, sym, ◌∙◌}
use Rattle.std.proofs.lemmas.Int.{ints}
use Rattle.std.specs.List.{AllByRecursion}
use Rattle.std.proofs.lemmas.List.Elements.{All-from_recursion}
use Rattle.dirac_arith.specs.declared.contexts.TheConstants.{OFFSET_FOLLOW, OFFSET_DIGITS, OFFSET_SIGN}
use Rattle.dirac_arith.specs.Interval.{Decision, InContexts, Interval, narrowed, narrowed_by}
use Rattle.dirac_arith.specs.Spelling.{follow_at, signed_spelling, spelling, spelt}
use Rattle.dirac_arith.proofs.Encodings.{flushed_is_carried}
use Rattle.dirac_arith.proofs.InContexts.{AreBelow, in_append, in_signed}
use Rattle.dirac_arith.proofs.Numbers.{digits_none}
use Rattle.dirac_bands.specs.Geometry.{edge_of}
use Rattle.dirac_coeffs.specs.declared.layout.BandLayout.{BandLayout}
use Rattle.dirac_coeffs.specs.BandRead.{band_read, band_content}
use Rattle.dirac_coeffs.specs.Carried.{AreLawful, CarriesBand}
use Rattle.dirac_coeffs.specs.Indices.{place_of, index_at, index_before, offset_part}
use Rattle.dirac_coeffs.specs.Contexts.{band_value, value_left_of, value_above, value_in_corner, parent_of, is_zero, follow_of, sign_of, sign_neighbour, bits_context}
use Rattle.dirac_coeffs.specs.Decisions.{Frame, Mark, Marks, frame_of, follow_here, sign_here, value_part, row_part, rows_part, flagged_part, block_part, blocks_part, bands_part, band_decisions}
use Rattle.dirac_coeffs.specs.Layouts.{IsBandLayout, codeblock_extent, is_flagged}
use Rattle.dirac_coeffs.specs.Written.{AreIndicesOf, marks_of, block_of}
use Rattle.dirac_coeffs.proofs.Read.{band_found}
use Rattle.dirac_coeffs.proofs.ZeroTests.{zero_block_decides}

-- a list of contexts, of which the last one repeats
list_below : (follow : List ℕ) → 0 < length follow → AllByRecursion (λ c. c < 38) follow → AreBelow follow
list_below follow some all = record { each = λ i. (All-from_recursion (λ c. c < 38) follow all) (min i (length follow - 1)) 0 (omega arith) }

follow_below : (p n : Bool) → AreBelow (follow_of p n)
follow_below true true = list_below (follow_of true true) (lit< tt) (lit< tt, (lit< tt, (lit< tt, (lit< tt, (lit< tt, (lit< tt, tt))))))
follow_below true false = list_below (follow_of true false) (lit< tt) (lit< tt, (lit< tt, (lit< tt, (lit< tt, (lit< tt, (lit< tt, tt))))))
follow_below false true = list_below (follow_of false true) (lit< tt) (lit< tt, (lit< tt, (lit< tt, (lit< tt, (lit< tt, (lit< tt, tt))))))
follow_below false false = list_below (follow_of false false) (lit< tt) (lit< tt, (lit< tt, (lit< tt, (lit< tt, (lit< tt, (lit< tt, tt))))))

sign_below : (v : ℤ) → sign_of v < 38
sign_below (pos zero) = lit< tt
sign_below (pos (suc n)) = lit< tt
sign_below (negsuc n) = lit< tt

in_value : (f : Frame) (xs : List ℤ) (x y : ℕ) → InContexts (value_part f xs x y)
in_value f xs x y =
    in_signed (follow_here f xs x y) bits_context (sign_here f xs x y) (band_value f.width xs x y)
    (follow_below (is_zero (parent_of f.width f.parent x y)) (is_zero (value_left_of f.width xs x y) && (is_zero (value_above f.width xs x y) && is_zero (value_in_corner f.width xs x y))))
    (lit< tt) (sign_below (sign_neighbour f.band (value_left_of f.width xs x y) (value_above f.width xs x y)))

in_row : (f : Frame) (xs : List ℤ) (y x n : ℕ) → InContexts (row_part f xs y x n)
unfolding row_part
in_row f xs y x zero = tt
in_row f xs y x (suc n) = in_append (row_part f xs y x n) (value_part f xs (x + n) y) (in_row f xs y x n) (in_value f xs (x + n) y)

in_rows : (f : Frame) (xs : List ℤ) (x count y n : ℕ) → InContexts (rows_part f xs x count y n)
unfolding rows_part
in_rows f xs x count y zero = tt
in_rows f xs x count y (suc n) = in_append (rows_part f xs x count y n) (row_part f xs (y + n) x count) (in_rows f xs x count y n) (in_row f xs (y + n) x count)

in_offset : (mode : ℕ) (offset : ℤ) → InContexts (offset_part mode offset)
in_offset zero offset = tt
in_offset (suc m) offset = in_signed (19 ∷ []) 20 21 offset (list_below (19 ∷ []) (lit< tt) (lit< tt, tt)) (lit< tt) (lit< tt)

in_flagged : (flagged skipped : Bool) (ds : List Decision) → InContexts ds → InContexts (flagged_part flagged skipped ds)
in_flagged false skipped ds h = h
in_flagged true true ds h = (lit< tt, tt)
in_flagged true false ds h = (lit< tt, h)

in_blocks : (layout : BandLayout) (parent xs : List ℤ) (marks : ℕ → Mark) (cy n : ℕ) → InContexts (blocks_part layout parent xs marks cy n)
unfolding blocks_part
in_blocks layout parent xs marks cy zero = tt
in_blocks layout parent xs marks cy (suc n) =
    in_append (blocks_part layout parent xs marks cy n) (block_part layout parent xs cy n (marks n)) (in_blocks layout parent xs marks cy n)
    (in_flagged (is_flagged layout) (marks n).skipped
    (offset_part layout.mode (marks n).offset ++ rows_part (frame_of layout parent) xs (edge_of layout.width layout.across n) (codeblock_extent layout.width layout.across n) (edge_of layout.height layout.down cy) (codeblock_extent layout.height layout.down cy))
    (in_append (offset_part layout.mode (marks n).offset) (rows_part (frame_of layout parent) xs (edge_of layout.width layout.across n) (codeblock_extent layout.width layout.across n) (edge_of layout.height layout.down cy) (codeblock_extent layout.height layout.down cy))
    (in_offset layout.mode (marks n).offset)
    (in_rows (frame_of layout parent) xs (edge_of layout.width layout.across n) (codeblock_extent layout.width layout.across n) (edge_of layout.height layout.down cy) (codeblock_extent layout.height layout.down cy))))

pub in_bands : (layout : BandLayout) (parent xs : List ℤ) (marks : Marks) (n : ℕ) → InContexts (bands_part layout parent xs marks n)
unfolding bands_part
in_bands layout parent xs marks zero = tt
in_bands layout parent xs marks (suc n) =
    in_append (bands_part layout parent xs marks n) (blocks_part layout parent xs (marks n) n layout.across) (in_bands layout parent xs marks n) (in_blocks layout parent xs (marks n) n layout.across)

-- one true decision is all of a 0
pub zero_written : (s : Interval) (follow : List ℕ) (bits sign first : ℕ) (v : ℤ) → first ≡ follow_at follow 0 → v ≡ pos 0 → narrowed s (first, true) ≡ narrowed_by s (signed_spelling follow bits sign v)
unfolding signed_spelling spelling
zero_written s follow bits sign first v is none =
    ap (λ c. let d : Decision = (c, true) in narrowed s d) is
    ∙ ap (λ digits. narrowed_by s (spelt follow bits digits true)) (sym digits_none)
    ∙ ap (λ x. narrowed_by s (signed_spelling follow bits sign x)) (sym none)

-- a number under other names of its contexts and its value
pub number_written : {fs gs : List ℕ} {a b : ℕ} {u v : ℤ} (s : Interval) (bits : ℕ) → fs ≡ gs → a ≡ b → u ≡ v → narrowed_by s (signed_spelling fs bits a u) ≡ narrowed_by s (signed_spelling gs bits b v)
number_written s bits follow sign value = cc

-- the offset of an index in mode 1
pub offset_written : {u v : ℤ} (s : Interval) (mode : ℕ) → (mode ≡ 0 → ⊥) → u ≡ v → narrowed_by s (signed_spelling OFFSET_FOLLOW OFFSET_DIGITS OFFSET_SIGN u) ≡ narrowed_by s (offset_part mode v)
offset_written s zero other same = absurd (other refl)
offset_written s (suc mode) other same = ap (λ x. narrowed_by s (signed_spelling OFFSET_FOLLOW OFFSET_DIGITS OFFSET_SIGN x)) same

-- in mode 0 there is none
pub no_offset_written : (s : Interval) (mode : ℕ) (v : ℤ) → mode ≡ 0 → s ≡ narrowed_by s (offset_part mode v)
no_offset_written s zero v none = refl
no_offset_written s (suc mode) v none = absurd (omega arith)

-- what leads from an index to another can be spelt
pub difference_small : (a b : ℕ) → a < 2 ^ 8 → b < 2 ^ 8 → unsigned_abs (pos a -ℤ pos b) < 2 ^ 39 - 1
difference_small a b h k = grind (arith, ints)

difference_sums : (a b : ℕ) → pos a ≡ pos b +ℤ (pos a -ℤ pos b)
difference_sums a b = omega (arith, ints)

no_difference : (a b : ℕ) → a ≡ b → pos a -ℤ pos b ≡ pos 0
no_difference a b e = omega (arith, ints)

-- the block that is written carries the band
written_carried : (layout : BandLayout) (parent : List ℤ) (index : ℕ) (xs : List ℤ) (is : List ℕ) → AreLawful layout index xs is → AreIndicesOf layout index xs is → CarriesBand layout parent index (block_of layout parent index xs is) xs is (marks_of layout index xs is)
written_carried layout parent index xs is lawful of =
    let ms = marks_of layout index xs is in
    let i : ℕ → ℕ → ℕ = λ cy cx. index_at is (place_of layout cy cx) in
    let j : ℕ → ℕ → ℕ = λ cy cx. index_before index is (place_of layout cy cx) in
    record {
      lawful = lawful;
      zeros = λ cy cx l k flagged skipped. (zero_block_decides layout xs cy cx).0 skipped;
      indexed = λ cy cx l k.
          record {
            sum = difference_sums (i cy cx) (j cy cx);
            skipped = λ flagged skipped. no_difference (i cy cx) (j cy cx) (of.skipped cy cx l k flagged skipped);
            plain = λ mode. no_difference (i cy cx) (j cy cx) (of.plain cy cx l k mode);
          };
      carried = flushed_is_carried (band_decisions layout parent xs ms) (in_bands layout parent xs ms layout.down);
    }

-- so it reads to the band
pub written_read : (layout : BandLayout) (parent : List ℤ) (index : ℕ) (xs : List ℤ) (is : List ℕ) → IsBandLayout layout → AreLawful layout index xs is → AreIndicesOf layout index xs is → band_read layout parent index (block_of layout parent index xs is) ≡ Ok (band_content xs is)
written_read layout parent index xs is h lawful of = band_found layout parent index (block_of layout parent index xs is) xs is (marks_of layout index xs is) h (written_carried layout parent index xs is lawful of)
