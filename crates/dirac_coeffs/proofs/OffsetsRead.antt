-- The index that an offset leads to, and a codeblock that is read behind its zero flag and its offset.
use Rattle.std.proofs.Common.{◌≡◌, ℕ, zero, suc, ℤ, pos, negsuc, ◌+ℤ◌, ◌≤◌, Bool, true, false, List, [], ◌∷◌, slice_set, unsigned_abs, Result, Ok, Err, refl, sym, ap, ◌∙◌, subst, arith}
use Rattle.std.proofs.lemmas.Bool.{false≢true}
use Rattle.std.proofs.lemmas.Int.{ints}
use Rattle.dirac_common.specs.Chain.{◌>>=◌}
use Rattle.dirac_common.specs.declared.faults.Cause.{Cause}
use Rattle.dirac_common.specs.declared.faults.Cause.TheVariants.{QuantIndex}
use Rattle.dirac_arith.specs.Coded.{Coded, decide, done, refuse, and_then, read_coded}
use Rattle.dirac_arith.specs.Deciding.{GivesReading, decision_read, signed_read}
use Rattle.dirac_arith.specs.Reading.{Reading}
use Rattle.dirac_arith.proofs.CodedValues.{then_is_read}
use Rattle.dirac_coeffs.specs.declared.store.Unread.{Unread}
use Rattle.dirac_coeffs.specs.declared.store.Unread.TheVariants as unread
use Rattle.dirac_coeffs.specs.declared.layout.BandLayout.{BandLayout}
use Rattle.dirac_coeffs.specs.Answers.{Flags, Goes, flag_told}
use Rattle.dirac_coeffs.specs.BandRead.{Content, band_content, filled_step, offset_step, unskipped_step, skipped_content, unless, flagged_coded, block_step}
use Rattle.dirac_coeffs.specs.Indices.{place_of, index_before, is_index, index_from, index_coded, with_former}
use Rattle.dirac_coeffs.specs.Layouts.{is_flagged}

-- a sum that is an index is from 0 to 99
pub index_few : (v : ℤ) → is_index v ≡ true → unsigned_abs v ≤ 99
index_few (pos n) h = grind (arith, ints)
index_few (negsuc n) h = absurd (false≢true h)

-- what a sum leads to that is an index, and one that is none
pub from_index : (former : ℕ) (offset : ℤ) → is_index (pos former +ℤ offset) ≡ true → index_from former offset ≡ done (unsigned_abs (pos former +ℤ offset))
from_index former offset fits = rw fits refl

pub from_none : (former : ℕ) (offset : ℤ) → is_index (pos former +ℤ offset) ≡ false → index_from former offset ≡ refuse QuantIndex
from_none former offset out = rw out refl

pub index_found : (former i : ℕ) (offset sum : ℤ) (old new : Reading) → signed_read (19 ∷ []) 20 21 old ≡ Ok (offset, new) → sum ≡ pos former +ℤ offset → is_index sum ≡ true → i ≡ unsigned_abs sum
    → read_coded (index_coded former) old ≡ Ok (i, new)
index_found former i offset sum old new found is fits e =
    rw found
    (ap (λ (c : Coded ℕ). read_coded c new) (from_index former offset (ap is_index (sym is) ∙ fits))
    ∙ ap (λ (n : ℕ). let a : Result (ℕ × Reading) Cause = Ok (n, new) in a) (ap unsigned_abs (sym is) ∙ sym e))

pub index_refused : (former : ℕ) (offset sum : ℤ) (old new : Reading) → signed_read (19 ∷ []) 20 21 old ≡ Ok (offset, new) → sum ≡ pos former +ℤ offset → is_index sum ≡ false → read_coded (index_coded former) old ≡ Err QuantIndex
index_refused former offset sum old new found is out =
    rw found (ap (λ (c : Coded ℕ). read_coded c new) (from_none former offset (ap is_index (sym is) ∙ out)))

pub index_stops : (former : ℕ) (old : Reading) (e : Cause) → signed_read (19 ∷ []) 20 21 old ≡ Err e → read_coded (index_coded former) old ≡ Err e
index_stops former old e found = rw found refl

-- a codeblock whose offset is refused, and one whose values are behind an offset that was read
pub unskipped_stops : (layout : BandLayout) (parent : List ℤ) (index cy cx : ℕ) (c : Content) (old : Reading) (e : Cause) → read_coded (offset_step layout.mode index (place_of layout cy cx) c.indices) old ≡ Err e
    → read_coded (unskipped_step layout parent index cy cx c) old ≡ Err e
unskipped_stops layout parent index cy cx c old e stops =
    then_is_read (offset_step layout.mode index (place_of layout cy cx) c.indices) (λ is. and_then (filled_step layout parent cy cx c.values) (λ xs. done (band_content xs is))) old ∙ rw stops refl

pub unskipped_moves : {A : Type 0} (narrow : Type 0) (r : Result A Unread) (layout : BandLayout) (parent : List ℤ) (index cy cx : ℕ) (xs zs : List ℤ) (is ks : List ℕ) (old mid new : Reading)
    → read_coded (offset_step layout.mode index (place_of layout cy cx) is) old ≡ Ok (ks, mid) → Goes narrow r zs new (read_coded (filled_step layout parent cy cx xs) mid)
    → Goes narrow r (band_content zs ks) new (read_coded (unskipped_step layout parent index cy cx (band_content xs is)) old)
unskipped_moves {A = A} narrow r layout parent index cy cx xs zs is ks old mid new before here =
    subst (λ q. Goes narrow r (band_content zs ks) new q) (sym behind) (told r here)
  where
    put : List ℤ → Coded Content
    put vs = done (band_content vs ks)

    behind : read_coded (unskipped_step layout parent index cy cx (band_content xs is)) old ≡ (read_coded (filled_step layout parent cy cx xs) mid >>= λ v. read_coded (put v.0) v.1)
    behind =
        then_is_read (offset_step layout.mode index (place_of layout cy cx) is) (λ js. and_then (filled_step layout parent cy cx xs) (λ vs. done (band_content vs js))) old
        ∙ rw before (then_is_read (filled_step layout parent cy cx xs) put mid)

    told : (q : Result A Unread) → Goes narrow q zs new (read_coded (filled_step layout parent cy cx xs) mid) → Goes narrow q (band_content zs ks) new (read_coded (filled_step layout parent cy cx xs) mid >>= λ v. read_coded (put v.0) v.1)
    told (Ok x) e = rw e refl
    told (Err (unread.Refused cause)) e = rw e refl
    told (Err unread.TooWide) e = e

-- in mode 0 no offset is read
pub no_offset_read : (mode index c : ℕ) (is : List ℕ) (r : Reading) → mode ≡ 0 → read_coded (offset_step mode index c is) r ≡ Ok (is, r)
unfolding offset_step
no_offset_read zero index c is r none = refl
no_offset_read (suc mode) index c is r none = absurd (omega arith)

-- in mode 1 the index that it leads to is noted
pub offset_found : (mode index c : ℕ) (is js : List ℕ) (former next : ℕ) (old new : Reading) → (mode ≡ 0 → ⊥) → former ≡ index_before index is c → read_coded (index_coded former) old ≡ Ok (next, new) → js ≡ slice_set is c next
    → read_coded (offset_step mode index c is) old ≡ Ok (js, new)
unfolding offset_step
offset_found zero index c is js former next old new other from found noted = absurd (other refl)
offset_found (suc mode) index c is js former next old new other from found noted =
    let step : ℕ × Reading → Result (List ℕ × Reading) Cause = λ x. read_coded (done (slice_set is c x.0)) x.1 in
    let read_is = ap (λ (f : ℕ). read_coded (index_coded f) old) (sym from) ∙ found in
    then_is_read (index_coded (index_before index is c)) (λ i. done (slice_set is c i)) old
    ∙ ap (λ (r : Result (ℕ × Reading) Cause). r >>= step) read_is
    ∙ ap (λ (l : List ℕ). let x : Result (List ℕ × Reading) Cause = Ok (l, new) in x) (sym noted)

pub offset_stops : (mode index c : ℕ) (is : List ℕ) (former : ℕ) (old : Reading) (cause : Cause) → (mode ≡ 0 → ⊥) → former ≡ index_before index is c → read_coded (index_coded former) old ≡ Err cause → read_coded (offset_step mode index c is) old ≡ Err cause
unfolding offset_step
offset_stops zero index c is former old cause other from stops = absurd (other refl)
offset_stops (suc mode) index c is former old cause other from stops =
    let step : ℕ × Reading → Result (List ℕ × Reading) Cause = λ x. read_coded (done (slice_set is c x.0)) x.1 in
    let read_is = ap (λ (f : ℕ). read_coded (index_coded f) old) (sym from) ∙ stops in
    then_is_read (index_coded (index_before index is c)) (λ i. done (slice_set is c i)) old ∙ ap (λ (r : Result (ℕ × Reading) Cause). r >>= step) read_is

-- where there is no zero flag none is read
pub no_flag : (layout : BandLayout) (flagged : Bool) (r : Reading) → flagged ≡ is_flagged layout → flagged ≡ false → Flags layout (Ok false) r r
no_flag layout true r is none = absurd (false≢true (sym none))
no_flag layout false r is none = λ skipped unskipped. ap (λ (f : Bool). read_coded (flagged_coded f skipped unskipped) r) (sym is)

-- and one that is read says what follows
pub flag_read : (layout : BandLayout) (flagged : Bool) (result : Result Bool Cause) (old new : Reading) → flagged ≡ is_flagged layout → flagged ≡ true → GivesReading result new (decision_read 18 old) → Flags layout result old new
flag_read layout false result old new is some gives = absurd (false≢true some)
flag_read layout true result old new is some gives =
    λ skipped unskipped. ap (λ (f : Bool). read_coded (flagged_coded f skipped unskipped) old) (sym is) ∙ told result gives skipped unskipped
  where
    told : (q : Result Bool Cause) → GivesReading q new (decision_read 18 old) → (skipped : Content) (unskipped : Coded Content) → read_coded (decide 18 (unless skipped unskipped)) old ≡ flag_told q skipped unskipped new
    told (Ok true) found skipped unskipped = rw found refl
    told (Ok false) found skipped unskipped = rw found refl
    told (Err cause) found skipped unskipped = rw found refl

-- a codeblock that its flag skips, one that it doesn't, and one whose flag is refused
pub block_skipped : (layout : BandLayout) (parent : List ℤ) (index cy cx : ℕ) (c : Content) (is : List ℕ) (old new : Reading) (skipped : Bool) → Flags layout (Ok skipped) old new → skipped ≡ true
    → is ≡ with_former layout.mode index (place_of layout cy cx) c.indices → read_coded (block_step layout parent index cy cx c) old ≡ Ok (band_content c.values is, new)
unfolding block_step
block_skipped layout parent index cy cx c is old new false flags skips noted = absurd (false≢true skips)
block_skipped layout parent index cy cx c is old new true flags skips noted =
    flags (skipped_content layout index cy cx c) (unskipped_step layout parent index cy cx c) ∙ ap (λ (ks : List ℕ). let r : Result (Content × Reading) Cause = Ok (band_content c.values ks, new) in r) (sym noted)

pub block_unskipped : {A : Type 0} (narrow : Type 0) (r : Result A Unread) (layout : BandLayout) (parent : List ℤ) (index cy cx : ℕ) (c d : Content) (old mid new : Reading) (skipped : Bool) → Flags layout (Ok skipped) old mid → skipped ≡ false
    → Goes narrow r d new (read_coded (unskipped_step layout parent index cy cx c) mid) → Goes narrow r d new (read_coded (block_step layout parent index cy cx c) old)
unfolding block_step
block_unskipped narrow r layout parent index cy cx c d old mid new true flags stays goes = absurd (false≢true (sym stays))
block_unskipped narrow r layout parent index cy cx c d old mid new false flags stays goes =
    subst (λ (q : Result (Content × Reading) Cause). Goes narrow r d new q) (sym (flags (skipped_content layout index cy cx c) (unskipped_step layout parent index cy cx c))) goes

pub block_refused : (layout : BandLayout) (parent : List ℤ) (index cy cx : ℕ) (c : Content) (old new : Reading) (cause : Cause) → Flags layout (Err cause) old new → read_coded (block_step layout parent index cy cx c) old ≡ Err cause
unfolding block_step
block_refused layout parent index cy cx c old new cause flags = flags (skipped_content layout index cy cx c) (unskipped_step layout parent index cy cx c)
