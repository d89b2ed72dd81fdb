-- The bits of a band that is written spell it, so they are read as the same band.
use Rattle.std.proofs.Common.{◌≡◌, ◌≢◌, ℕ, ℤ, pos, ◌+◌, ◌*◌, ◌/◌, ◌^◌, ◌<◌, ◌==◌, if◌then◌else◌, nat_le, Bool, true, false, List, [], ◌∷◌, ◌++◌, length, replicate, Ok, refl, sym, ap, ap₂, ◌∙◌, subst, arith, inl, inr, lit<, append_assoc, append-nil, length-append, ne_eqb, le-leb}
use Rattle.std.specs.List.{AllByRecursion}
use Rattle.std.proofs.lemmas.Bool.{cases_Bool, and_from}
use Rattle.dirac_common.specs.declared.faults.Cause.TheVariants.{QuantIndex, CodeWord}
use Rattle.dirac_common.specs.Bits.{bits_of}
use Rattle.dirac_common.specs.Numbers.{uint}
use Rattle.dirac_arith.specs.Front.{front, first_bits}
use Rattle.dirac_bits.specs.Spelling.{Spells, SpelledBehind}
use Rattle.dirac_bits.specs.Syntax.{Syntax, done, refuse, block_then, align, here, between, ◌>>=◌}
use Rattle.dirac_bits.specs.Writing.{gap, up_to_byte}
use Rattle.dirac_bits.proofs.Fields.{gap_length-at}
use Rattle.dirac_arith.proofs.Encodings.{flush_bytes}
use Rattle.dirac_coeffs.specs.declared.layout.BandLayout.{BandLayout}
use Rattle.dirac_coeffs.specs.declared.layout.CodedBand.{CodedBand}
use Rattle.dirac_coeffs.specs.BandRead.{Content, band_content, band_read}
use Rattle.dirac_coeffs.specs.Indices.{all_equal}
use Rattle.dirac_arith.proofs.Carrieds.{no_answer}
use Rattle.dirac_coeffs.specs.Decisions.{band_decisions}
use Rattle.dirac_coeffs.specs.Grammar.{band, coded_band, band_from, band_table, zero_band, IsCodedBand}
use Rattle.dirac_coeffs.specs.Layouts.{IsBandLayout}
use Rattle.dirac_coeffs.specs.Written.{AreIndicesOf, marks_of, block_of, is_zero_band, with_band_block, with_band}
use Rattle.dirac_coeffs.proofs.BlockLengths.{block_short}
use Rattle.dirac_coeffs.proofs.Read.{ones_read}
use Rattle.dirac_coeffs.proofs.Writing.{written_read}
use Rattle.dirac_coeffs.proofs.ZeroTests.{all_zeros}

six_parts : (a b c d e f : List Bool) → ((((a ++ b) ++ c) ++ d) ++ e) ++ f ≡ a ++ (b ++ (c ++ (d ++ (e ++ f))))
six_parts a b c d e f = simp append_assoc

-- an empty block reads as ones
empty_ones : (block : List ℕ) → length block ≡ 0 → front block 16 ≡ 65535
unfolding front first_bits
empty_ones [] e = refl
empty_ones (b ∷ bs) e = absurd (omega arith)

block_some : (layout : BandLayout) (parent : List ℤ) (index : ℕ) (c : Content) (block : List ℕ) → band_read layout parent index block ≡ Ok c → length block ≢ 0
block_some layout parent index c block read e = no_answer (band_read layout parent index block) c CodeWord read (ones_read layout parent index block (empty_ones block e))

-- a coded band is its index, its indices and its values
coded_is : (layout : BandLayout) (b : CodedBand) → IsCodedBand layout b → (let same : CodedBand = record { index = b.index; indices = b.indices; table = band_table layout b.table.values } in b ≡ same)
coded_is layout b is =
    ap₂ (λ (w h : ℕ). let r : CodedBand = record { index = b.index; indices = b.indices; table = record { width = w; height = h; values = b.table.values } } in r) is.width is.height

zero_is : (layout : BandLayout) (b : CodedBand) → IsCodedBand layout b → b.index ≡ 0 → b.indices ≡ all_equal layout 0 → is_zero_band b.table.values ≡ true → b ≡ zero_band layout
zero_is layout b is index indices zeros =
    let values : b.table.values ≡ replicate (layout.width * layout.height) (pos 0) = all_zeros b.table.values zeros ∙ ap (λ n. replicate n (pos 0)) is.len in
    coded_is layout b is
    ∙ ap₂ (λ (i : ℕ) (is : List ℕ). let r : CodedBand = record { index = i; indices = is; table = band_table layout b.table.values } in r) index indices
    ∙ ap (λ (xs : List ℤ). let r : CodedBand = record { index = 0; indices = all_equal layout 0; table = band_table layout xs } in r) values

-- the index and the block
coded_spelled : (layout : BandLayout) (parent : List ℤ) (b : CodedBand) (block : List ℕ) (k : ℕ) (before : List Bool) → IsCodedBand layout b
    → length before ≡ k + length (uint b.index) → AllByRecursion (λ c. c < 2 ^ 8) block → band_read layout parent b.index block ≡ Ok (band_content b.table.values b.indices)
    → Spells (coded_band layout parent (length block)) b k (uint b.index ++ (gap before ++ bits_of block))
unfolding coded_band
coded_spelled layout parent b block k before is len bytes read =
    let at = k / 8 in
    let k1 = k + length (uint b.index) in
    let k2 = k1 + length (gap before) in
    let k3 = k2 + length (bits_of block) in
    let rest : ℕ → Syntax CodedBand = λ index. align >>= λ g. (here >>= λ place. block_then (length block) (λ bytes. band_from layout index place (band_read layout parent index bytes))) in
    let allowed : between 0 99 b.index ≡ true = and_from (nat_le 0 b.index) (nat_le b.index 99) (le-leb 0 b.index (omega arith)) (le-leb b.index 99 is.index) in
    let last : Spells (band_from layout b.index (k2 / 8) (band_read layout parent b.index block)) b k3 [] =
    subst (λ r. Spells (band_from layout b.index (k2 / 8) r) b k3 []) (sym read) (sym (coded_is layout b is), refl) in
    let tail : Spells (rest b.index) b k1 (gap before ++ bits_of block) =
    (gap before, bits_of block, gap_length-at before k1 len, refl, (block, [], (refl, bytes), sym (append-nil (bits_of block)), last)) in
    let small : b.index + 1 < 2 ^ 39 = omega (arith, is.index) in (
      b.index,
      gap before ++ bits_of block,
      small,
      refl,
      subst (λ t. Spells ((if t then done b.index else refuse at QuantIndex) >>= rest) b k1 (gap before ++ bits_of block)) (sym allowed) tail,
    )

-- a band of zeros
zeros_spelled : (layout : BandLayout) (parent : List ℤ) (b : CodedBand) (bits : List Bool) → b ≡ zero_band layout → SpelledBehind (band layout parent) b bits (up_to_byte bits ++ uint 0)
unfolding band
zeros_spelled layout parent b bits e =
    record {
      bits = gap bits ++ uint 0;
      is = append_assoc bits (gap bits) (uint 0);
      spells = (gap bits, uint 0, gap_length-at bits (length bits) refl, refl, (0, [], lit< tt, sym (append-nil (uint 0)), (sym e, refl)));
    }

-- a band with a block
block_spelled : (layout : BandLayout) (parent : List ℤ) (b : CodedBand) (bits : List Bool) → IsBandLayout layout → IsCodedBand layout b → AreIndicesOf layout b.index b.table.values b.indices → length (block_of layout parent b.index b.table.values b.indices) + 1 < 2 ^ 39
    → SpelledBehind (band layout parent) b bits (with_band_block b.index (block_of layout parent b.index b.table.values b.indices) (up_to_byte bits))
unfolding band
block_spelled layout parent b bits spot_is is of short =
    let xs = b.table.values in
    let js = b.indices in
    let block = block_of layout parent b.index xs js in
    let len = length block in
    let read : band_read layout parent b.index block ≡ Ok (band_content xs js) = written_read layout parent b.index xs js spot_is (record { len = is.len; small = is.small; count = is.count; own = is.index; each = is.each }) of in
    let before = (up_to_byte bits ++ uint len) ++ uint b.index in
    let k = length bits in
    let k1 = k + length (gap bits) in
    let k2 = k1 + length (uint len) in
    let behind : length before ≡ k2 + length (uint b.index) =
    omega (arith, length-append {A = Bool} (up_to_byte bits ++ uint len) (uint b.index), length-append {A = Bool} (up_to_byte bits) (uint len), length-append {A = Bool} bits (gap bits)) in
    let rest = uint b.index ++ (gap before ++ bits_of block) in
    let coded = coded_spelled layout parent b block k2 before is behind (flush_bytes (band_decisions layout parent xs (marks_of layout b.index xs js))) read in
    let some : (len == 0) ≡ false = ne_eqb len 0 (block_some layout parent b.index (band_content xs js) block read) in
    let chosen : Spells (if len == 0 then done (zero_band layout) else coded_band layout parent len) b k2 rest =
    subst (λ t. Spells (if t then done (zero_band layout) else coded_band layout parent len) b k2 rest) (sym some) coded in
    record {
      bits = gap bits ++ (uint len ++ rest);
      is = six_parts bits (gap bits) (uint len) (uint b.index) (gap before) (bits_of block);
      spells = (gap bits, uint len ++ rest, gap_length-at bits k refl, refl, (len, rest, short, refl, chosen));
    }

-- a band that is written is spelled: its block is short
pub band_spells : (layout : BandLayout) (parent : List ℤ) (b : CodedBand) (bits : List Bool) → IsBandLayout layout → IsCodedBand layout b
    → AreIndicesOf layout b.index b.table.values b.indices → (is_zero_band b.table.values ≡ true → b.index ≡ 0) → (is_zero_band b.table.values ≡ true → b.indices ≡ all_equal layout 0)
    → SpelledBehind (band layout parent) b bits (with_band layout parent b bits)
band_spells layout parent b bits spot_is is of index indices =
    elim (cases_Bool (is_zero_band b.table.values)) [
      | inl zeros ↦ rw zeros (zeros_spelled layout parent b bits (zero_is layout b is (index zeros) (indices zeros) zeros))
      | inr others ↦ rw others (block_spelled layout parent b bits spot_is is of (block_short layout parent b.index b.table.values b.indices spot_is))
    ]
