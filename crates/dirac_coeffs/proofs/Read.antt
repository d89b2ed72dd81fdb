-- What a block reads to is the band that it carries, and it is refused where it breaks off.
use Rattle.std.proofs.Common.{◌≡◌, ◌≢◌, ℕ, ℤ, pos, ◌+◌, ◌*◌, ◌-◌, ◌^◌, ◌<◌, List, length, replicate, unsigned_abs, Result, Ok, Err, IfOk, Option, Some, None, sym, ap, ap₂, ◌∙◌, subst, arith, inl, inr, lit<, eq-eqb, ne_eqb, refl, ext_get_or, ◌/◌, ◌%◌, mod-lt, div-lt_iff_lt-mul, div-add-mod', get_or}
use Rattle.std.proofs.lemmas.Bool.{cases_lt, cases_eq}
use Rattle.std.proofs.lemmas.List.{get_or-replicate, get_or_past, length-replicate}
use Rattle.std.proofs.lemmas.List.Elements.{All-replicate}
use Rattle.dirac_common.specs.Chain.{◌>>=◌}
use Rattle.dirac_common.specs.Limits.{IsIndex}
use Rattle.dirac_common.specs.declared.faults.Cause.{Cause}
use Rattle.dirac_common.specs.declared.faults.Cause.TheVariants.{CodeWord, NumberTooLong, QuantIndex}
use Rattle.dirac_common.specs.Table.{Table}
use Rattle.dirac_common.specs.declared.faults.Stop.{Stop}
use Rattle.dirac_common.specs.declared.faults.Stop.TheVariants as stop
use Rattle.dirac_arith.specs.Carried.{Carries}
use Rattle.dirac_arith.specs.Coded.{DecisionsSpell, read_coded}
use Rattle.dirac_arith.specs.Deciding.{begin, after_all}
use Rattle.dirac_arith.specs.Front.{front}
use Rattle.dirac_arith.specs.Interval.{Decision}
use Rattle.dirac_arith.specs.Reading.{Reading}
use Rattle.dirac_arith.proofs.Carrieds.{no_answer, one_answer}
use Rattle.dirac_arith.proofs.CodedValues.{broken_is_refused, broken_refused, is_read, spelled_is_read}
use Rattle.dirac_arith.proofs.Led.{carried_reads, led_begin}
use Rattle.dirac_bands.specs.Geometry.{edge_of}
use Rattle.dirac_coeffs.specs.declared.layout.BandBlock.{BandBlock}
use Rattle.dirac_coeffs.specs.declared.layout.BandLayout.{BandLayout}
use Rattle.dirac_coeffs.specs.declared.layout.CodedBand.{CodedBand}
use Rattle.dirac_coeffs.specs.declared.store.Unread.{Unread}
use Rattle.dirac_coeffs.specs.declared.store.Unread.TheVariants as unread
use Rattle.dirac_coeffs.specs.Answers.{Fills, GivesBlock, GivesNarrow, Goes, Holds, RefusedBy, stopped_at}
use Rattle.dirac_coeffs.specs.BandRead.{Content, band_content, block_rows_step, blocks_step, unread, band_coded, band_read}
use Rattle.dirac_coeffs.specs.Carried.{AreLawful, AreSmall, CarriesBand, BandBreaksOff, CarriesLong, CarriesNoIndex}
use Rattle.dirac_coeffs.specs.Decisions.{Marks, band_decisions}
use Rattle.dirac_coeffs.specs.Grammar.{IsCodedBand}
use Rattle.dirac_coeffs.specs.Indices.{all_equal}
use Rattle.dirac_coeffs.specs.Laws.{BandIsRead, PlainIsEqual, LongIsRefused, NoIndexIsRefused, OnesInBandAreRefused, OneBandIsCarried, NoBandBesideLong, NoBandBesideNoIndex, NotLongAndNoIndex, OnesCarryNothing}
use Rattle.dirac_coeffs.specs.Layouts.{IsBandLayout}
use Rattle.dirac_coeffs.proofs.Edges.{edge_last}
use Rattle.dirac_coeffs.proofs.FillingOfBlocks.{Begun, BandTold, begun_on, bands_told}
use Rattle.dirac_coeffs.proofs.Indexed.{SameBefore, plain_equal}
use Rattle.dirac_coeffs.proofs.LeadingOfBlocks.{Finished, bands_lead}
use Rattle.dirac_coeffs.proofs.Places.{SameWithin, ZeroFrom}
use Rattle.dirac_coeffs.proofs.Refusals.{IsInside, band_asks, band_for}
use Rattle.dirac_coeffs.proofs.Steps.{asks_shut, broken_for}

-- before anything is read all values are zeros
zeros_first : (w n : ℕ) → ZeroFrom w 0 0 (replicate n (pos 0))
zeros_first w n =
    record {
      each = λ x y p q r.
          elim (cases_lt (y * w + x) n) [
            | inl inside ↦ get_or-replicate n (y * w + x) (pos 0) (pos 0) inside
            | inr past ↦ get_or_past (replicate n (pos 0)) (y * w + x) (pos 0) (omega (arith, length-replicate {A = ℤ} n (pos 0)))
          ];
    }

zeros_small : (n : ℕ) → AreSmall (replicate n (pos 0))
zeros_small n = All-replicate (λ v. unsigned_abs v < 2 ^ 39 - 1) n (pos 0) (lit< tt)

at_first : (layout : BandLayout) (index : ℕ) → IsIndex index → Begun layout index (unread layout index)
at_first layout index few =
    let n = layout.across * layout.down in
    record { len = length-replicate {A = ℤ} (layout.width * layout.height) (pos 0); count = length-replicate n index; plain = λ e. refl; own = few; each = All-replicate IsIndex n index few }

-- lists of one size that are the same at every place are one
same_lists : (w h : ℕ) (xs ys : List ℤ) → 0 < w → length xs ≡ w * h → length ys ≡ w * h → SameWithin w xs ys w h → xs ≡ ys
same_lists w h xs ys some len len' s =
    ext_get_or (pos 0) xs ys (len ∙ sym len') (λ k l.
    let row : k / w < h = (div-lt_iff_lt-mul {k = w} {x = k} {y = h} some).1 (omega arith) in
    let column : k % w < w = mod-lt k some in
    let place : k / w * w + k % w ≡ k = div-add-mod' k w in
    subst (λ i. get_or xs i (pos 0) ≡ get_or ys i (pos 0)) place (s.each (k % w) (k / w) column column row))

same_indices : (n : ℕ) (is js : List ℕ) → length is ≡ n → length js ≡ n → SameBefore n is js → is ≡ js
same_indices n is js len len' s = ext_get_or 0 is js (len ∙ sym len') (λ k l. s k (omega arith))

-- ---- what spells a band are its decisions

band_told : (layout : BandLayout) (parent : List ℤ) (index : ℕ) (c : Content) (ds : List Decision) → IsBandLayout layout → IsIndex index → DecisionsSpell (band_coded layout parent index) c ds
    → AreLawful layout index c.values c.indices × BandTold layout parent index c layout.down ds
band_told layout parent index c ds lawful few spells =
    let n = layout.width * layout.height in
    let first = at_first layout index few in
    let told = bands_told layout parent index (unread layout index) c layout.down ds lawful (omega arith) first (zeros_first layout.width n) spells in
    let at = begun_on told.0 first in
    (record { len = at.len; small = told.0.small (zeros_small n); count = at.count; own = few; each = at.each }, told.1)

band_spelled : (layout : BandLayout) (parent : List ℤ) (index : ℕ) (block : List ℕ) (xs : List ℤ) (is : List ℕ) (ms : Marks) → IsBandLayout layout → CarriesBand layout parent index block xs is ms
    → DecisionsSpell (band_coded layout parent index) (band_content xs is) (band_decisions layout parent xs ms)
band_spelled layout parent index block xs is ms lawful a =
    let ds = band_decisions layout parent xs ms in
    let f : Finished layout xs is = record { lawful = lawful; len = a.lawful.len; small = a.lawful.small; each = a.lawful.each } in
    let first = at_first layout index a.lawful.own in
    let zeros = zeros_first layout.width (layout.width * layout.height) in
    let g = bands_lead layout parent index (unread layout index) xs is ms layout.down f (omega arith) first zeros a.zeros a.indexed in
    let at = begun_on (bands_told layout parent index (unread layout index) g.d layout.down ds lawful (omega arith) first zeros g.spells).0 first in
    let last : edge_of layout.height layout.down layout.down ≡ layout.height = edge_last layout.height layout.down (omega (arith, lawful.down)) in
    let values : g.d.values ≡ xs = same_lists layout.width layout.height g.d.values xs (omega (arith, lawful.width)) at.len a.lawful.len (subst (λ b. SameWithin layout.width g.d.values xs layout.width b) last g.same) in
    let indices : g.d.indices ≡ is = same_indices (layout.down * layout.across) g.d.indices is (omega (arith, at.count)) (omega (arith, a.lawful.count)) g.known in
    subst (λ (d : Content). DecisionsSpell (band_coded layout parent index) d ds) (ap₂ (λ zs ks. band_content zs ks) values indices) g.spells

-- ---- what is read

-- the values and indices that are read
abbrev content_of : Result (Content × Reading) Cause → Result Content Cause
content_of r = r >>= λ c. Ok c.0

held : (r : Result (Content × Reading) Cause) (c : Content) → content_of r ≡ Ok c → (s : Reading) × (r ≡ Ok (c, s))
held (Ok x) c e =
    let same : x.0 ≡ c = one_answer (content_of (Ok x)) x.0 c refl e in
    (x.1, ap (λ (d : Content). let y : Result (Content × Reading) Cause = Ok (d, x.1) in y) same)
held (Err k) c e = absurd cc

shut : (r : Result (Content × Reading) Cause) (cause : Cause) → content_of r ≡ Err cause → r ≡ Err cause
shut (Ok x) cause e = absurd cc
shut (Err k) cause e = let same : k ≡ cause = cc in ap Err same

-- a block of ones reads to none
pub ones_read : (layout : BandLayout) (parent : List ℤ) (index : ℕ) (block : List ℕ) → front block 16 ≡ 65535 → band_read layout parent index block ≡ Err CodeWord
unfolding band_read
ones_read layout parent index block ones = rw (eq-eqb (front block 16) 65535 ones) refl

-- and another to what its decisions spell
other_read : (layout : BandLayout) (parent : List ℤ) (index : ℕ) (block : List ℕ) → front block 16 ≢ 65535 → band_read layout parent index block ≡ content_of (read_coded (band_coded layout parent index) (begin block))
unfolding band_read
other_read layout parent index block other = rw (ne_eqb (front block 16) 65535 other) refl

-- where a block breaks off its decisions are refused
broken_read : (layout : BandLayout) (parent : List ℤ) (index : ℕ) (block : List ℕ) (e : Cause) → BandBreaksOff layout parent index block e → read_coded (band_coded layout parent index) (begin block) ≡ Err e
broken_read layout parent index block e b = broken_refused (band_coded layout parent index) e b.0 (begin block) (after_all (begin block) b.0) (led_begin block) b.1 (carried_reads block b.0 b.2)

-- a block of ones carries nothing
read_shut : (layout : BandLayout) (parent : List ℤ) (index : ℕ) (block : List ℕ) → IsBandLayout layout → front block 16 ≡ 65535 → read_coded (band_coded layout parent index) (begin block) ≡ Err CodeWord
read_shut layout parent index block is ones = asks_shut (band_coded layout parent index) block (band_asks layout parent index is) ones

band_held : (layout : BandLayout) (parent : List ℤ) (index : ℕ) (block : List ℕ) (xs : List ℤ) (is : List ℕ) (ms : Marks) → IsBandLayout layout → CarriesBand layout parent index block xs is ms
    → read_coded (band_coded layout parent index) (begin block) ≡ Ok (band_content xs is, after_all (begin block) (band_decisions layout parent xs ms))
band_held layout parent index block xs is ms lawful a =
    is_read (band_coded layout parent index) (band_content xs is) (band_decisions layout parent xs ms) block (band_spelled layout parent index block xs is ms lawful a) a.carried

no_band : (layout : BandLayout) (parent : List ℤ) (index : ℕ) (block : List ℕ) (xs : List ℤ) (is : List ℕ) (ms : Marks) → IsBandLayout layout → front block 16 ≡ 65535 → CarriesBand layout parent index block xs is ms → ⊥
no_band layout parent index block xs is ms lawful ones a =
    no_answer (read_coded (band_coded layout parent index) (begin block)) (band_content xs is, after_all (begin block) (band_decisions layout parent xs ms)) CodeWord (band_held layout parent index block xs is ms lawful a) (read_shut layout parent index block lawful ones)

no_break : (layout : BandLayout) (parent : List ℤ) (index : ℕ) (block : List ℕ) (e : Cause) → e ≢ CodeWord → IsBandLayout layout → front block 16 ≡ 65535 → BandBreaksOff layout parent index block e → ⊥
no_break layout parent index block e inside is ones b =
    let both = sym (broken_read layout parent index block e b) ∙ read_shut layout parent index block is ones in
    let same : e ≡ CodeWord = cc in
    inside same

pub ones_carry_nothing : OnesCarryNothing
ones_carry_nothing layout parent index block is ones = (
  λ xs indices ms a. no_band layout parent index block xs indices ms is ones a,
  λ b. no_break layout parent index block NumberTooLong (λ e. absurd cc) is ones b,
  λ b. no_break layout parent index block QuantIndex (λ e. absurd cc) is ones b,
)

-- a band that is carried is read
pub band_found : (layout : BandLayout) (parent : List ℤ) (index : ℕ) (block : List ℕ) (xs : List ℤ) (is : List ℕ) (ms : Marks) → IsBandLayout layout → CarriesBand layout parent index block xs is ms → band_read layout parent index block ≡ Ok (band_content xs is)
band_found layout parent index block xs is ms lawful a =
    other_read layout parent index block (λ ones. no_band layout parent index block xs is ms lawful ones a)
    ∙ ap content_of (band_held layout parent index block xs is ms lawful a)

-- a block that breaks off is refused for its cause
break_found : (layout : BandLayout) (parent : List ℤ) (index : ℕ) (block : List ℕ) (e : Cause) → e ≢ CodeWord → IsBandLayout layout → BandBreaksOff layout parent index block e → band_read layout parent index block ≡ Err e
break_found layout parent index block e inside is b =
    other_read layout parent index block (λ ones. no_break layout parent index block e inside is ones b) ∙ ap content_of (broken_read layout parent index block e b)

-- what is read is carried
band_carried : (layout : BandLayout) (parent : List ℤ) (index : ℕ) (block : List ℕ) (xs : List ℤ) (is : List ℕ) → IsBandLayout layout → IsIndex index → band_read layout parent index block ≡ Ok (band_content xs is) → (ms : Marks) × CarriesBand layout parent index block xs is ms
band_carried layout parent index block xs is lawful few e =
    let other : front block 16 ≢ 65535 = λ ones. no_answer (band_read layout parent index block) (band_content xs is) CodeWord e (ones_read layout parent index block ones) in
    let c = band_content xs is in
    let spelled = (spelled_is_read (band_coded layout parent index) c block).0 (held (read_coded (band_coded layout parent index) (begin block)) c (sym (other_read layout parent index block other) ∙ e)) in
    let told = band_told layout parent index c spelled.0 lawful few spelled.1 in
    (told.1.marks, record { lawful = told.0; zeros = told.1.zeros; indexed = told.1.indexed; carried = subst (λ (ds : List Decision). Carries block ds) told.1.is spelled.2 })

-- where a block is refused, but for ones, it breaks off
other_refused : (layout : BandLayout) (parent : List ℤ) (index : ℕ) (block : List ℕ) (cause : Cause) → front block 16 ≢ 65535 → band_read layout parent index block ≡ Err cause → BandBreaksOff layout parent index block cause
other_refused layout parent index block cause other e =
    (broken_is_refused (band_coded layout parent index) cause block other).0 (shut (read_coded (band_coded layout parent index) (begin block)) cause (sym (other_read layout parent index block other) ∙ e))

break_carried : (layout : BandLayout) (parent : List ℤ) (index : ℕ) (block : List ℕ) (cause : Cause) → cause ≢ CodeWord → band_read layout parent index block ≡ Err cause → BandBreaksOff layout parent index block cause
break_carried layout parent index block cause inside e =
    other_refused layout parent index block cause (λ ones. let both = sym e ∙ ones_read layout parent index block ones in let same : cause ≡ CodeWord = cc in inside same) e

read_ones : (layout : BandLayout) (parent : List ℤ) (index : ℕ) (block : List ℕ) → band_read layout parent index block ≡ Err CodeWord → front block 16 ≡ 65535
read_ones layout parent index block e =
    elim (cases_eq (front block 16) 65535) [
      | inl ones ↦ ones
      | inr other ↦
          let b = other_refused layout parent index block CodeWord other e in
          absurd (broken_for IsInside (band_coded layout parent index) CodeWord b.0 (λ k. absurd cc) (band_for layout parent index) b.1 refl)
    ]

-- ---- the laws

pub band_is_read : BandIsRead
band_is_read layout parent index block xs is lawful few = (λ e. band_carried layout parent index block xs is lawful few e, λ a. band_found layout parent index block xs is a.0 lawful a.1)

pub plain_is_equal : PlainIsEqual
plain_is_equal layout parent index block xs is lawful few mode e =
    let a = band_carried layout parent index block xs is lawful few e in
    plain_equal layout index is a.0 (omega (arith, lawful.across)) a.1.lawful.count mode a.1.indexed

pub long_is_refused : LongIsRefused
long_is_refused layout parent index block lawful few = (break_carried layout parent index block NumberTooLong (λ e. absurd cc), break_found layout parent index block NumberTooLong (λ e. absurd cc) lawful)

pub no_index_is_refused : NoIndexIsRefused
no_index_is_refused layout parent index block lawful few = (break_carried layout parent index block QuantIndex (λ e. absurd cc), break_found layout parent index block QuantIndex (λ e. absurd cc) lawful)

pub ones_are_refused : OnesInBandAreRefused
ones_are_refused layout parent index block = (λ e. read_ones layout parent index block e, λ ones. ones_read layout parent index block ones)

-- so a block carries one of them at most
pub one_band : OneBandIsCarried
one_band layout parent index block xs ys is js ms ms' lawful a b =
    let same : band_content xs is ≡ band_content ys js = one_answer (band_read layout parent index block) (band_content xs is) (band_content ys js) (band_found layout parent index block xs is ms lawful a) (band_found layout parent index block ys js ms' lawful b) in
    (ap (λ (c : Content). c.values) same, ap (λ (c : Content). c.indices) same)

no_band_beside : (layout : BandLayout) (parent : List ℤ) (index : ℕ) (block : List ℕ) (xs : List ℤ) (is : List ℕ) (ms : Marks) (e : Cause) → e ≢ CodeWord → IsBandLayout layout → CarriesBand layout parent index block xs is ms → BandBreaksOff layout parent index block e → ⊥
no_band_beside layout parent index block xs is ms e inside lawful a b =
    no_answer (band_read layout parent index block) (band_content xs is) e (band_found layout parent index block xs is ms lawful a) (break_found layout parent index block e inside lawful b)

pub no_band_beside_long : NoBandBesideLong
no_band_beside_long layout parent index block xs is ms lawful a b = no_band_beside layout parent index block xs is ms NumberTooLong (λ e. absurd cc) lawful a b

pub no_band_beside_no_index : NoBandBesideNoIndex
no_band_beside_no_index layout parent index block xs is ms lawful a b = no_band_beside layout parent index block xs is ms QuantIndex (λ e. absurd cc) lawful a b

pub not_long_and_no_index : NotLongAndNoIndex
not_long_and_no_index layout parent index block lawful a b =
    let same : Err NumberTooLong ≡ Err QuantIndex = sym (broken_read layout parent index block NumberTooLong a) ∙ broken_read layout parent index block QuantIndex b in
    absurd cc

-- ---- what a reader reads

-- every block of a band reads to what its decisions spell
steps_read : (layout : BandLayout) (parent : List ℤ) (index : ℕ) (block : List ℕ) → IsBandLayout layout → band_read layout parent index block ≡ content_of (read_coded (band_coded layout parent index) (begin block))
steps_read layout parent index block lawful =
    elim (cases_eq (front block 16) 65535) [
      | inl ones ↦ ones_read layout parent index block ones ∙ ap content_of (sym (read_shut layout parent index block lawful ones))
      | inr other ↦ other_read layout parent index block other
    ]

-- from a table of zeros and the band's index on the block reads to what steps come to
steps_answer : (layout : BandLayout) (parent : List ℤ) (index : ℕ) (block : List ℕ) (vs : List ℤ) (is : List ℕ) (old : Reading) (r : Result (Content × Reading) Cause) → IsBandLayout layout
    → vs ≡ replicate (layout.width * layout.height) (pos 0) → is ≡ all_equal layout index → old ≡ begin block → read_coded (block_rows_step layout parent index layout.down (band_content vs is)) old ≡ r
    → band_read layout parent index block ≡ content_of r
steps_answer layout parent index block vs is old r lawful made equal first e =
    steps_read layout parent index block lawful
    ∙ ap content_of (ap (λ (q : Reading). read_coded (band_coded layout parent index) q) (sym first) ∙ ap (λ (c : Content). read_coded (block_rows_step layout parent index layout.down c) old) (ap₂ (λ xs ks. band_content xs ks) (sym made) (sym equal)) ∙ e)

-- so what was read into these is the block's band, if all of it fits
pub content_filled : {A : Type 0} (narrow : Type 0) (r : Result A Unread) (layout : BandLayout) (parent : List ℤ) (index : ℕ) (block : List ℕ) (vs : List ℤ) (is : List ℕ) (old new : Reading) (c : Content) → IsBandLayout layout
    → vs ≡ replicate (layout.width * layout.height) (pos 0) → is ≡ all_equal layout index → old ≡ begin block → Goes narrow r c new (read_coded (block_rows_step layout parent index layout.down (band_content vs is)) old)
    → Fills narrow r c (band_read layout parent index block)
content_filled narrow (Ok x) layout parent index block vs is old new c lawful made equal first goes = steps_answer layout parent index block vs is old (Ok (c, new)) lawful made equal first goes
content_filled narrow (Err (unread.Refused cause)) layout parent index block vs is old new c lawful made equal first goes = steps_answer layout parent index block vs is old (Err cause) lawful made equal first goes
content_filled narrow (Err unread.TooWide) layout parent index block vs is old new c lawful made equal first goes = goes

-- what is answered of it
pub block_held : (layout : BandLayout) (at : ℕ) (r : Result (Option BandBlock) Stop) (c : Content) (read : Result Content Cause) → Holds layout r c → read ≡ Ok c → GivesNarrow layout at r read
block_held layout at (Ok (Some b)) c read holds e =
    (rw holds.0 refl, e ∙ ap₂ (λ (xs : List ℤ) (is : List ℕ). let r : Result Content Cause = Ok (band_content xs is) in r) (sym (ap (λ (t : Table). t.values) holds.0)) (sym holds.1))
block_held layout at (Ok None) c read holds e = tt
block_held layout at (Err (stop.Refused q)) c read holds e = absurd holds
block_held layout at (Err stop.NoMemory) c read holds e = tt

pub some_held : (layout : BandLayout) (r : Result (Option BandBlock) Stop) (c : Content) → Holds layout r c → IfOk r (λ found. found ≡ None → ⊥)
some_held layout (Ok (Some b)) c holds = λ none. absurd cc
some_held layout (Ok None) c holds = absurd holds
some_held layout (Err e) c holds = tt

pub block_stopped : (layout : BandLayout) (at : ℕ) (narrow : Type 0) (e : Unread) (read : Result Content Cause) → RefusedBy narrow e read → GivesNarrow layout at (stopped_at at e) read
block_stopped layout at narrow (unread.Refused cause) read refused = (refl, refused)
block_stopped layout at narrow unread.TooWide read refused = tt

pub some_stopped : (at : ℕ) (narrow : Type 0) (e : Unread) (read : Result Content Cause) → RefusedBy narrow e read → (narrow → ⊥) → IfOk (stopped_at at e) (λ found. found ≡ None → ⊥)
some_stopped at narrow (unread.Refused cause) read refused other = tt
some_stopped at narrow unread.TooWide read refused other = λ none. other refused

-- the cause of a refusal
abbrev cause_in : Result BandBlock Stop → Cause
cause_in (Ok x) = CodeWord
cause_in (Err (stop.Refused q)) = q.cause
cause_in (Err stop.NoMemory) = CodeWord

pub block_lawful : (layout : BandLayout) (at : ℕ) (parent : List ℤ) (index : ℕ) (block : List ℕ) (r : Result BandBlock Stop) → IsBandLayout layout → IsIndex index → GivesBlock layout at r (band_read layout parent index block) → IfOk r (λ b. AreLawful layout index b.table.values b.indices)
block_lawful layout at parent index block (Ok b) lawful few given = (band_carried layout parent index block b.table.values b.indices lawful few given.1).1.lawful
block_lawful layout at parent index block (Err e) lawful few given = tt

pub block_plain : (layout : BandLayout) (at : ℕ) (parent : List ℤ) (index : ℕ) (block : List ℕ) (r : Result BandBlock Stop) → IsBandLayout layout → IsIndex index → GivesBlock layout at r (band_read layout parent index block) → IfOk r (λ b. layout.mode ≡ 0 → b.indices ≡ all_equal layout index)
block_plain layout at parent index block (Ok b) lawful few given = λ mode. plain_is_equal layout parent index block b.table.values b.indices lawful few mode given.1
block_plain layout at parent index block (Err e) lawful few given = tt

-- and the band of it is a coded one
pub block_coded : (layout : BandLayout) (at : ℕ) (parent : List ℤ) (index : ℕ) (block : List ℕ) (b : BandBlock) → IsBandLayout layout → IsIndex index → GivesBlock layout at (Ok b) (band_read layout parent index block)
    → (let c : CodedBand = record { index = index; indices = b.indices; table = b.table } in IsCodedBand layout c)
block_coded layout at parent index block b lawful few given =
    let l = (band_carried layout parent index block b.table.values b.indices lawful few given.1).1.lawful in
    record {
      index = few;
      width = ap (λ (t : Table). t.width) given.0;
      height = ap (λ (t : Table). t.height) given.0;
      len = l.len;
      small = l.small;
      count = l.count;
      each = l.each;
      plain = λ mode. plain_is_equal layout parent index block b.table.values b.indices lawful few mode given.1;
    }

-- a refusal has the cause that the block breaks off by
block_stops : (layout : BandLayout) (at : ℕ) (parent : List ℤ) (index : ℕ) (block : List ℕ) (r : Result BandBlock Stop) (cause : Cause) → r ≡ Err (stop.Refused (record { at = at; cause = cause })) → GivesBlock layout at r (band_read layout parent index block) → band_read layout parent index block ≡ Err cause
block_stops layout at parent index block (Ok b) cause e given = absurd cc
block_stops layout at parent index block (Err (stop.Refused q)) cause e given = given.1 ∙ ap (λ (k : Cause). let x : Result Content Cause = Err k in x) (ap cause_in e)
block_stops layout at parent index block (Err stop.NoMemory) cause e given = absurd cc

pub block_long : (layout : BandLayout) (at : ℕ) (parent : List ℤ) (index : ℕ) (block : List ℕ) (r : Result BandBlock Stop) → IsBandLayout layout → IsIndex index → GivesBlock layout at r (band_read layout parent index block) → r ≡ Err (stop.Refused (record { at = at; cause = NumberTooLong })) → CarriesLong layout parent index block
block_long layout at parent index block r lawful few given e =
    break_carried layout parent index block NumberTooLong (λ k. absurd cc) (block_stops layout at parent index block r NumberTooLong e given)

pub block_no_index : (layout : BandLayout) (at : ℕ) (parent : List ℤ) (index : ℕ) (block : List ℕ) (r : Result BandBlock Stop) → IsBandLayout layout → IsIndex index → GivesBlock layout at r (band_read layout parent index block) → r ≡ Err (stop.Refused (record { at = at; cause = QuantIndex })) → CarriesNoIndex layout parent index block
block_no_index layout at parent index block r lawful few given e =
    break_carried layout parent index block QuantIndex (λ k. absurd cc) (block_stops layout at parent index block r QuantIndex e given)

-- how far a band is read in row cy of codeblocks: to the first cx of them, behind all rows before it
pub record RowReached (layout : BandLayout) (parent : List ℤ) (index : ℕ) (old : Content) (start : Reading) (cy cx : ℕ) (c : Content) (r : Reading) : Type 0 where
  pub content : Content
  pub reading : Reading
  pub rows : read_coded (block_rows_step layout parent index cy old) start ≡ Ok (content, reading)
  pub row : read_coded (blocks_step layout parent index cy cx content) reading ≡ Ok (c, r)
