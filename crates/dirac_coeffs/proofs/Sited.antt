-- A band is read as its block is found, and then read there.
use Rattle.std.proofs.Common.{◌≡◌, ℕ, ℤ, pos, ◌*◌, ◌^◌, ◌-◌, ◌<◌, ◌≤◌, ◌==◌, if◌then◌else◌, Bool, true, false, List, Result, Ok, Err, Option, Some, None, refl, ap, ap₂, sym, ◌∙◌, arith, lit<, unsigned_abs, nat_le, le-leb, eq-eqb, ne_eqb}
use Rattle.std.proofs.lemmas.Bool.{and_from}
use Rattle.std.proofs.lemmas.Bool.Decides.{nat_tests}
use Rattle.std.proofs.lemmas.List.{length-replicate}
use Rattle.std.proofs.lemmas.List.Elements.{All-replicate}
use Rattle.dirac_common.specs.Limits.{IsIndex}
use Rattle.dirac_common.specs.Table.{Table}
use Rattle.dirac_common.specs.Chain.{◌>>=◌ as ◌>>◌}
use Rattle.dirac_common.specs.declared.limits.TheConstants.{LARGEST_INDEX}
use Rattle.dirac_common.specs.declared.faults.Cause.{Cause}
use Rattle.dirac_common.specs.declared.faults.Cause.TheVariants.{QuantIndex}
use Rattle.dirac_common.specs.declared.faults.Refusal.{Refusal}
use Rattle.dirac_common.specs.declared.faults.Stop.{Stop}
use Rattle.dirac_common.specs.declared.faults.Stop.TheVariants as stop
use Rattle.dirac_bits.specs.Answers.{ReadsOrStops}
use Rattle.dirac_bits.specs.Cursor.{Cursor, place, aligned}
use Rattle.dirac_bits.specs.Fields.{uint_at, block_read_at}
use Rattle.dirac_bits.specs.Syntax.{done, block_then, align, here, between, ◌>>=◌, read, refuse}
use Rattle.dirac_bits.specs.Then.{read_then}
use Rattle.dirac_coeffs.specs.declared.layout.BandLayout.{BandLayout}
use Rattle.dirac_coeffs.specs.declared.layout.CodedBand.{CodedBand}
use Rattle.dirac_coeffs.specs.Answers.{GivesOrStops}
use Rattle.dirac_coeffs.specs.BandRead.{Content, band_read}
use Rattle.dirac_coeffs.specs.Grammar.{band, coded_band, band_from, zero_band, IsCodedBand}
use Rattle.dirac_coeffs.specs.Held.{zeros_of}
use Rattle.dirac_coeffs.specs.Indices.{all_equal}
use Rattle.dirac_coeffs.specs.Sites.{Found, site, coded_site, band_with_content, coded_at, band_at, with_place_behind, BandsAreReadAtSites}

-- steps that are alike in two turns
two_turns : {A B C E : Type 0} (r : Result A E) (g : A → Result B E) (h : B → Result C E) (k : A → Result C E)
    → ((x : A) → k x ≡ (g x >> h)) → (r >> k) ≡ ((r >> g) >> h)
two_turns (Ok x) g h k same = same x
two_turns (Err e) g h k same = refl

-- a block that was found
from_block : (layout : BandLayout) (index at : ℕ) (c : Cursor) (r : Result Content Cause) → read (band_from layout index at r) c ≡ with_place_behind c (band_with_content layout index at r)
from_block layout index at c (Ok content) = refl
from_block layout index at c (Err cause) = refl

-- behind the index
behind_index : (layout : BandLayout) (parent : List ℤ) (len index : ℕ) (allowed : Bool) (at : ℕ) (c : Cursor)
    → read ((if allowed then done index else refuse at QuantIndex) >>= λ i. align >>= λ gap. here >>= λ at. block_then len (λ block. band_from layout i at (band_read layout parent i block))) c
    ≡ (read ((if allowed then done index else refuse at QuantIndex) >>= λ i. align >>= λ gap. here >>= λ at. block_then len (λ block. done (record { index = i; at = at; block = block }))) c
    >> λ x. with_place_behind x.1 (coded_at layout parent x.0))
behind_index layout parent len index false at c = refl
behind_index layout parent len index true at c =
    two_turns (block_read_at len (aligned c)) (λ bytes. Ok (record { index = index; at = place (aligned c); block = bytes.0 }, bytes.1)) (λ x. with_place_behind x.1 (coded_at layout parent x.0))
    (λ bytes. read (band_from layout index (place (aligned c)) (band_read layout parent index bytes.0)) bytes.1)
    (λ bytes. from_block layout index (place (aligned c)) bytes.1 (band_read layout parent index bytes.0))

pub coded_apart : (layout : BandLayout) (parent : List ℤ) (len : ℕ) (c : Cursor)
    → read (coded_band layout parent len) c ≡ (read (coded_site len) c >> λ x. with_place_behind x.1 (coded_at layout parent x.0))
unfolding coded_band coded_site
coded_apart layout parent len c =
    two_turns (uint_at c) _ _ _ (λ n. behind_index layout parent len n.0 (between 0 LARGEST_INDEX n.0) (place c) n.1)

-- behind the length
behind_length : (layout : BandLayout) (parent : List ℤ) (len : ℕ) (none : Bool) (c : Cursor)
    → read (if none then done (zero_band layout) else coded_band layout parent len) c
    ≡ (read (if none then done None else (coded_site len >>= λ s. done (Some s))) c >> λ x. with_place_behind x.1 (band_at layout parent x.0))
behind_length layout parent len true c = refl
behind_length layout parent len false c =
    coded_apart layout parent len c
    ∙ two_turns (read (coded_site len) c) (λ x. Ok (Some x.0, x.1)) (λ x. with_place_behind x.1 (band_at layout parent x.0)) (λ x. with_place_behind x.1 (coded_at layout parent x.0)) (λ x. refl)
    ∙ ap (λ (r : Result (Option Found × Cursor) Refusal). r >> λ x. with_place_behind x.1 (band_at layout parent x.0)) (sym (read_then (coded_site len) (λ s. done (Some s)) c))

pub bands_are_read_at_sites : BandsAreReadAtSites
unfolding band site
bands_are_read_at_sites layout parent c =
    two_turns (uint_at (aligned c)) _ _ _ (λ n. behind_length layout parent n.0 (n.0 == 0) n.1)

-- what is read at a site that was found
pub band_found : (layout : BandLayout) (parent : List ℤ) (c d : Cursor) (x : Option Found) (b : CodedBand)
    → read site c ≡ Ok (x, d) → band_at layout parent x ≡ Ok b → read (band layout parent) c ≡ Ok (b, d)
band_found layout parent c d x b found is =
    bands_are_read_at_sites layout parent c ∙ ap (λ (r : Result (Option Found × Cursor) Refusal). r >> λ y. with_place_behind y.1 (band_at layout parent y.0)) found ∙ ap (with_place_behind d) is

-- what is answered for a block that was found is what is read
pub band_reads : (layout : BandLayout) (parent : List ℤ) (c d : Cursor) (x : Option Found) (result : Result CodedBand Stop)
    → read site c ≡ Ok (x, d) → GivesOrStops result (band_at layout parent x) → ReadsOrStops result d (read (band layout parent) c)
band_reads layout parent c d x (Ok b) found is = band_found layout parent c d x b found is
band_reads layout parent c d x (Err (stop.Refused refusal)) found is =
    bands_are_read_at_sites layout parent c ∙ ap (λ (r : Result (Option Found × Cursor) Refusal). r >> λ y. with_place_behind y.1 (band_at layout parent y.0)) found ∙ ap (with_place_behind d) is
band_reads layout parent c d x (Err stop.NoMemory) found is = tt

-- a block that isn't found
pub band_refused : (layout : BandLayout) (parent : List ℤ) (c : Cursor) (refusal : Refusal) → read site c ≡ Err refusal → read (band layout parent) c ≡ Err refusal
band_refused layout parent c refusal is =
    bands_are_read_at_sites layout parent c ∙ ap (λ (r : Result (Option Found × Cursor) Refusal). r >> λ y. with_place_behind y.1 (band_at layout parent y.0)) is

-- the band of which nothing is coded
pub zeros_are : (layout : BandLayout) (is : List ℕ) (t : Table) → is ≡ all_equal layout 0 → t ≡ zeros_of layout.width layout.height → (let b : CodedBand = record { index = 0; indices = is; table = t } in b ≡ zero_band layout)
zeros_are layout is t equal zeros = ap₂ (λ (ks : List ℕ) (u : Table). let b : CodedBand = record { index = 0; indices = ks; table = u } in b) equal zeros

pub zero_lawful : (layout : BandLayout) → IsCodedBand layout (zero_band layout)
zero_lawful layout =
    record {
      index = omega arith;
      width = refl;
      height = refl;
      len = length-replicate {A = ℤ} (layout.width * layout.height) (pos 0);
      small = All-replicate (λ v. unsigned_abs v < 2 ^ 39 - 1) (layout.width * layout.height) (pos 0) (lit< tt);
      count = length-replicate {A = ℕ} (layout.across * layout.down) 0;
      each = All-replicate IsIndex (layout.across * layout.down) 0 (omega arith);
      plain = λ mode. refl;
    }

-- the block of a subband of which something is coded, found or refused
found_behind : (len index at p : ℕ) (block : List ℕ) (allowed : Bool) (d e : Cursor) → allowed ≡ true → at ≡ place (aligned d) → block_read_at len (aligned d) ≡ Ok (block, e)
    → read ((if allowed then done index else refuse p QuantIndex) >>= λ i. align >>= λ gap. here >>= λ a. block_then len (λ b. done (record { index = i; at = a; block = b }))) d
    ≡ (let s : Found = record { index = index; at = at; block = block } in Ok (s, e))
found_behind len index at p block false d e holds there found = absurd cc
found_behind len index at p block true d e holds there found =
    rw found (ap (λ a. let s : Found = record { index = index; at = a; block = block } in let r : Result (Found × Cursor) Refusal = Ok (s, e) in r) (sym there))

refused_behind : (len index p : ℕ) (allowed : Bool) (d : Cursor) (refusal : Refusal) → allowed ≡ true → block_read_at len (aligned d) ≡ Err refusal
    → read ((if allowed then done index else refuse p QuantIndex) >>= λ i. align >>= λ gap. here >>= λ a. block_then len (λ b. let s : Found = record { index = i; at = a; block = b } in done s)) d ≡ Err refusal
refused_behind len index p false d refusal holds found = absurd cc
refused_behind len index p true d refusal holds found = rw found refl

allowed_few : (index : ℕ) → index ≤ 99 → between 0 99 index ≡ true
allowed_few index small = and_from (nat_le 0 index) (nat_le index 99) (le-leb 0 index (omega arith)) (le-leb index 99 small)

pub coded_found : (len index at : ℕ) (block : List ℕ) (c d e : Cursor) → uint_at c ≡ Ok (index, d) → index ≤ 99 → at ≡ place (aligned d) → block_read_at len (aligned d) ≡ Ok (block, e)
    → read (coded_site len) c ≡ Ok (record { index = index; at = at; block = block }, e)
unfolding coded_site
coded_found len index at block c d e told small there found = rw told (found_behind len index at (place c) block (between 0 99 index) d e (allowed_few index small) there found)

pub coded_refused : (len index : ℕ) (c d : Cursor) (refusal : Refusal) → uint_at c ≡ Ok (index, d) → index ≤ 99 → block_read_at len (aligned d) ≡ Err refusal → read (coded_site len) c ≡ Err refusal
unfolding coded_site
coded_refused len index c d refusal told small found = rw told (refused_behind len index (place c) (between 0 99 index) d refusal (allowed_few index small) found)

-- and that of any
none_behind : (len : ℕ) (none : Bool) (d : Cursor) → none ≡ true → read (if none then done None else (coded_site len >>= λ s. done (Some s))) d ≡ Ok (None, d)
none_behind len false d holds = absurd cc
none_behind len true d holds = refl

site_behind : (len : ℕ) (none : Bool) (d : Cursor) (q : Result (Found × Cursor) Refusal) → none ≡ false → read (coded_site len) d ≡ q
    → read (if none then done None else (coded_site len >>= λ s. done (Some s))) d ≡ (q >> λ x. Ok (Some x.0, x.1))
site_behind len true d q holds found = absurd cc
site_behind len false d q holds found = read_then (coded_site len) (λ s. done (Some s)) d ∙ ap (λ (r : Result (Found × Cursor) Refusal). r >> λ x. Ok (Some x.0, x.1)) found

pub site_none : (len : ℕ) (c d : Cursor) → uint_at (aligned c) ≡ Ok (len, d) → len ≡ 0 → read site c ≡ Ok (None, d)
unfolding site
site_none len c d told none = rw told (none_behind len (len == 0) d (eq-eqb len 0 none))

pub site_found : (len : ℕ) (s : Found) (c d e : Cursor) → uint_at (aligned c) ≡ Ok (len, d) → (len ≡ 0 → ⊥) → read (coded_site len) d ≡ Ok (s, e) → read site c ≡ Ok (Some s, e)
unfolding site
site_found len s c d e told some found = rw told (site_behind len (len == 0) d (Ok (s, e)) (ne_eqb len 0 some) found)

pub site_refused : (len : ℕ) (c d : Cursor) (refusal : Refusal) → uint_at (aligned c) ≡ Ok (len, d) → (len ≡ 0 → ⊥) → read (coded_site len) d ≡ Err refusal → read site c ≡ Err refusal
unfolding site
site_refused len c d refusal told some found = rw told (site_behind len (len == 0) d (Err refusal) (ne_eqb len 0 some) found)

-- an index or a length that can't be read, and an index that is none
no_index_behind : (len index p : ℕ) (allowed : Bool) (d : Cursor) → allowed ≡ false
    → read ((if allowed then done index else refuse p QuantIndex) >>= λ i. align >>= λ gap. here >>= λ a. block_then len (λ b. let s : Found = record { index = i; at = a; block = b } in done s)) d ≡ Err (record { at = p; cause = QuantIndex })
no_index_behind len index p false d holds = refl
no_index_behind len index p true d holds = absurd cc

pub coded_no_index : (len index p : ℕ) (c d : Cursor) → uint_at c ≡ Ok (index, d) → 99 < index → p ≡ place c → read (coded_site len) c ≡ Err (record { at = p; cause = QuantIndex })
unfolding coded_site
coded_no_index len index p c d told large here =
    rw (told, here) (no_index_behind len index (place c) (between 0 99 index) d (gt-leb_false index large))
  where
    gt-leb_false : (n : ℕ) → 99 < n → between 0 99 n ≡ false
    gt-leb_false n more = grind (arith, nat_tests)

pub coded_unread : (len : ℕ) (c : Cursor) (refusal : Refusal) → uint_at c ≡ Err refusal → read (coded_site len) c ≡ Err refusal
unfolding coded_site
coded_unread len c refusal told = rw told refl

pub site_unread : (c : Cursor) (refusal : Refusal) → uint_at (aligned c) ≡ Err refusal → read site c ≡ Err refusal
unfolding site
site_unread c refusal told = rw told refl
