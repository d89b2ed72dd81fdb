-- Where the writing of a band breaks off.
use Rattle.std.proofs.Common.{◌≡◌, ℕ, ℤ, Bool, true, false, List, ◌++◌, if◌then◌else◌, length, refl, ap, ap₂, subst, ◌∙◌}
use Rattle.dirac_common.specs.Bits.{bits_of}
use Rattle.dirac_common.specs.Numbers.{uint}
use Rattle.dirac_bits.specs.Fronts.{HoldsFront}
use Rattle.dirac_bits.specs.Writing.{gap, up_to_byte}
use Rattle.dirac_bits.proofs.Fronts.{all_stand, later_stand, nothing_stands, more_stand, still_stand}
use Rattle.dirac_coeffs.specs.declared.layout.BandLayout.{BandLayout}
use Rattle.dirac_coeffs.specs.declared.layout.CodedBand.{CodedBand}
use Rattle.dirac_coeffs.specs.Written.{block_of, is_zero_band, with_band_block, with_band}

-- a block was to be written behind that
block_more : {old new all : List Bool} (index : ℕ) (block : List ℕ) → HoldsFront old new all → HoldsFront old new (with_band_block index block all)
block_more {old} {new} {all} index block holds =
    let len = uint (length block) in
    more_stand (bits_of block) (more_stand (gap ((all ++ len) ++ uint index)) (more_stand (uint index) (more_stand len holds)))

-- nothing of a block was written
pub no_block : {old new : List Bool} (index : ℕ) (block : List ℕ) → new ≡ old → HoldsFront old new (with_band_block index block old)
no_block {old} {new} index block same = block_more index block (nothing_stands same)

-- its length was written, and no more
pub index_left : {old one new : List Bool} (index : ℕ) (block : List ℕ) → one ≡ old ++ uint (length block) → new ≡ one → HoldsFront old new (with_band_block index block old)
index_left {old} {one} {new} index block first same =
    let len = uint (length block) in
    let none : HoldsFront old old old = nothing_stands refl in
    let some : HoldsFront old (old ++ len) (old ++ len) = all_stand (more_stand len none) in
    still_stand (more_stand (bits_of block) (more_stand (gap ((old ++ len) ++ uint index)) (more_stand (uint index) some))) (same ∙ first)

-- its length and the index were, and no more
pub gap_left : {old one two new : List Bool} (index : ℕ) (block : List ℕ) → one ≡ old ++ uint (length block) → two ≡ one ++ uint index → new ≡ two → HoldsFront old new (with_band_block index block old)
gap_left {old} {one} {two} {new} index block first second same =
    let len = uint (length block) in
    let all = (old ++ len) ++ uint index in
    let none : HoldsFront old old old = nothing_stands refl in
    let some : HoldsFront old all all = all_stand (more_stand (uint index) (more_stand len none)) in
    still_stand (more_stand (bits_of block) (more_stand (gap all) some)) (same ∙ second ∙ ap (λ l. l ++ uint index) first)

-- the bits before a block, one part behind the other
before_block : {one two three : List Bool} (old : List Bool) (index : ℕ) (block : List ℕ) → one ≡ old ++ uint (length block) → two ≡ one ++ uint index → three ≡ up_to_byte two → three ≡ up_to_byte ((old ++ uint (length block)) ++ uint index)
before_block old index block first second third = third ∙ ap (λ (l : List Bool). up_to_byte l) (second ∙ ap (λ l. l ++ uint index) first)

-- all but the block was
pub block_left : {old one two three new : List Bool} (index : ℕ) (block : List ℕ) → one ≡ old ++ uint (length block) → two ≡ one ++ uint index → three ≡ up_to_byte two → new ≡ three → HoldsFront old new (with_band_block index block old)
block_left {old} {one} {two} {three} {new} index block first second third same =
    let len = uint (length block) in
    let all = (old ++ len) ++ uint index in
    let none : HoldsFront old old old = nothing_stands refl in
    let some : HoldsFront old (up_to_byte all) (up_to_byte all) = all_stand (more_stand (gap all) (more_stand (uint index) (more_stand len none))) in
    still_stand (more_stand (bits_of block) some) (same ∙ before_block old index block first second third)

-- and so was the block
pub block_written : {one two three new : List Bool} (old : List Bool) (index : ℕ) (block : List ℕ) → one ≡ old ++ uint (length block) → two ≡ one ++ uint index → three ≡ up_to_byte two → new ≡ three ++ bits_of block → new ≡ with_band_block index block old
block_written old index block first second third last = last ∙ ap (λ l. l ++ bits_of block) (before_block old index block first second third)

either : {old new : List Bool} (t : Bool) (a b : List Bool) → HoldsFront old new a → HoldsFront old new b → HoldsFront old new (if t then a else b)
either true a b first second = first
either false a b first second = second

-- no more than the gap before a band was written
pub gap_alone : {old new : List Bool} (layout : BandLayout) (parent : List ℤ) (b : CodedBand) → HoldsFront old new (up_to_byte old) → HoldsFront old new (with_band layout parent b old)
gap_alone {old} {new} layout parent b holds =
    let start = up_to_byte old in
    let block = block_of layout parent b.index b.table.values b.indices in
    either (is_zero_band b.table.values) (start ++ uint 0) (with_band_block b.index block start) (more_stand (uint 0) holds) (block_more b.index block holds)

-- the gap before a band was written
pub gap_written : {new : List Bool} (layout : BandLayout) (parent : List ℤ) (b : CodedBand) (old : List Bool) → new ≡ up_to_byte old → HoldsFront old new (with_band layout parent b old)
gap_written {new} layout parent b old written =
    let none : HoldsFront old old old = nothing_stands refl in
    let some : HoldsFront old (up_to_byte old) (up_to_byte old) = all_stand (more_stand (gap old) none) in
    gap_alone layout parent b (still_stand some written)

-- a band of zeros behind its gap
pub zeros_written : {one new : List Bool} (layout : BandLayout) (parent : List ℤ) (b : CodedBand) (old : List Bool) → is_zero_band b.table.values ≡ true → one ≡ up_to_byte old → new ≡ one ++ uint 0 → new ≡ with_band layout parent b old
zeros_written layout parent b old zeros first second = rw zeros (second ∙ ap (λ l. l ++ uint 0) first)

-- another band behind it
pub band_written : {one new : List Bool} {values : List ℤ} (layout : BandLayout) (parent : List ℤ) (b : CodedBand) (old : List Bool) → is_zero_band b.table.values ≡ false → one ≡ up_to_byte old → values ≡ parent → new ≡ with_band_block b.index (block_of layout values b.index b.table.values b.indices) one
    → new ≡ with_band layout parent b old
band_written layout parent b old others first same second =
    rw others (second ∙ ap₂ (λ (p : List ℤ) (l : List Bool). with_band_block b.index (block_of layout p b.index b.table.values b.indices) l) same first)

-- and where its writing breaks off
pub band_left : {one new : List Bool} {values : List ℤ} (layout : BandLayout) (parent : List ℤ) (b : CodedBand) (old : List Bool) → is_zero_band b.table.values ≡ false → one ≡ up_to_byte old → values ≡ parent
    → HoldsFront one new (with_band_block b.index (block_of layout values b.index b.table.values b.indices) one) → HoldsFront old new (with_band layout parent b old)
band_left {one} {new} {values} layout parent b old others first same holds =
    let all : List ℤ → List Bool → List Bool = λ p l. with_band_block b.index (block_of layout p b.index b.table.values b.indices) l in
    let later : HoldsFront old new (all values one) = later_stand (gap old) first holds in
    rw others (subst (λ (l : List Bool). HoldsFront old new l) (ap₂ (λ (p : List ℤ) (l : List Bool). all p l) same first) later)
