-- Where the writing of lists breaks off.
use Rattle.std.proofs.Common.{◌≡◌, ℕ, Bool, List, [], ◌∷◌, ◌++◌, length, refl, sym, ap, subst, ◌∙◌}
use Rattle.dirac_common.specs.Bits.{bits_of}
use Rattle.dirac_common.specs.Numbers.{uint}
use Rattle.dirac_arith.specs.Interval.{Decision}
use Rattle.dirac_arith.specs.Written.{flush}
use Rattle.dirac_bits.specs.Fronts.{HoldsFront}
use Rattle.dirac_bits.specs.Writing.{gap}
use Rattle.dirac_bits.proofs.Fronts.{nothing_stands, all_stand, more_stand, still_stand, through_stand}
use Rattle.dirac_blocks.specs.Written.{with_block, with_lists}
use Rattle.dirac_blocks.proofs.Appended.{lists_append}

-- a block was to be written behind that
block_more : {old new all : List Bool} (block : List ℕ) → HoldsFront old new all → HoldsFront old new (with_block block all)
block_more {old} {new} {all} block holds =
    more_stand (bits_of block) (more_stand (gap (all ++ uint (length block))) (more_stand (uint (length block)) holds))

-- nothing of a block was written
pub no_block : {old new : List Bool} (block : List ℕ) → new ≡ old → HoldsFront old new (with_block block old)
no_block {old} {new} block same = block_more block (nothing_stands same)

-- its length was written, and no more
pub length_written : {one new : List Bool} (old : List Bool) (block : List ℕ) → one ≡ old ++ uint (length block) → new ≡ one → HoldsFront old new (with_block block old)
length_written {one} {new} old block first same =
    let all = old ++ uint (length block) in
    let none : HoldsFront old old old = nothing_stands refl in
    let some : HoldsFront old all all = all_stand (more_stand (uint (length block)) none) in
    still_stand (more_stand (bits_of block) (more_stand (gap all) some)) (same ∙ first)

-- all but the block was
pub gap_written : {one two new : List Bool} (old : List Bool) (block : List ℕ) → one ≡ old ++ uint (length block) → two ≡ one ++ gap one → new ≡ two → HoldsFront old new (with_block block old)
gap_written {one} {two} {new} old block first second same =
    let all = old ++ uint (length block) in
    let none : HoldsFront old old old = nothing_stands refl in
    let some : HoldsFront old (all ++ gap all) (all ++ gap all) = all_stand (more_stand (gap all) (more_stand (uint (length block)) none)) in
    still_stand (more_stand (bits_of block) some) (same ∙ second ∙ ap (λ l. l ++ gap l) first)

-- and so was the block
pub block_written : {one two new : List Bool} (old : List Bool) (block : List ℕ) → one ≡ old ++ uint (length block) → two ≡ one ++ gap one → new ≡ two ++ bits_of block → new ≡ with_block block old
block_written old block first second third = third ∙ ap (λ l. l ++ bits_of block) (second ∙ ap (λ l. l ++ gap l) first)

-- lists were to be written behind that
pub lists_more : (lists : List (List Decision)) {old new all : List Bool} → HoldsFront old new all → HoldsFront old new (with_lists lists all)
lists_more [] holds = holds
lists_more (ds ∷ lists) holds = lists_more lists (block_more (flush ds) holds)

-- it broke off within the first lists
pub first_lists : {old new : List Bool} (first rest : List (List Decision)) → HoldsFront old new (with_lists first old) → HoldsFront old new (with_lists (first ++ rest) old)
first_lists {old} {new} first rest holds =
    let longer : HoldsFront old new (with_lists rest (with_lists first old)) = lists_more rest holds in
    subst (λ (l : List Bool). HoldsFront old new l) (sym (lists_append first rest old)) longer

-- it broke off behind them
pub other_lists : {old mid new : List Bool} (first rest : List (List Decision)) → mid ≡ with_lists first old → HoldsFront mid new (with_lists rest mid)
    → HoldsFront old new (with_lists (first ++ rest) old)
other_lists {old} {mid} {new} first rest written holds =
    let whole : HoldsFront old (with_lists first old) (with_lists first old) = all_stand (lists_more first (nothing_stands {new = old} refl)) in
    let before : HoldsFront old mid (with_lists first old) = still_stand whole written in
    let later : HoldsFront old new (with_lists rest mid) = through_stand before holds in
    subst (λ (l : List Bool). HoldsFront old new l) (ap (with_lists rest) written ∙ sym (lists_append first rest old)) later
