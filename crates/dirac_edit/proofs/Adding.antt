-- One sequence more, by what is written of it.
use Rattle.std.proofs.Common.{◌≡◌, ◌∙◌, ℕ, ◌+◌, Bool, true, false, List, [], map, Option, None, Some, ap, ap₂, sym}
use Rattle.std.proofs.lemmas.Bool.{cond-false, cond-true}
use Rattle.dirac_encode_laws.specs.Stream.{end_unit}
use Rattle.dirac_edit_laws.specs.Texts.{PictureText, SequenceText}
use Rattle.dirac_edit.specs.declared.joining.Merge.{Merge}
use Rattle.dirac_edit.specs.declared.keys.Keys.{Keys}
use Rattle.dirac_edit.specs.Merged.{Added, Latest, WritingProgress, added, added_behind, progress_behind, keys_among, length_behind, may_follow, moved_on, onto, own_sequence, shift_onto, units_behind, way_onto}

-- how far the writing is, by its parts
pub latest_is : (p : WritingProgress) (o o' : Option Latest) → o' ≡ p.latest → o ≡ o' → p.latest ≡ o
latest_is p o o' same is = sym same ∙ sym is

pub own_added : (p : WritingProgress) (s : SequenceText) → p.latest ≡ None → added p s ≡ own_sequence [] p.previous s (keys_among s.pictures)
own_added p s is = ap (λ (o : Option Latest). added_behind o p.previous s (keys_among s.pictures)) is

pub onto_added : (p : WritingProgress) (l : Latest) (s : SequenceText) → p.latest ≡ Some l → may_follow l s.header (keys_among s.pictures) ≡ true → added p s ≡ onto l p.previous s (keys_among s.pictures)
onto_added p l s is may =
    ap (λ (o : Option Latest). added_behind o p.previous s (keys_among s.pictures)) is ∙ cond-true (may_follow l s.header (keys_among s.pictures)) _ _ may

pub apart_added : (p : WritingProgress) (l : Latest) (s : SequenceText) → p.latest ≡ Some l → may_follow l s.header (keys_among s.pictures) ≡ false → added p s ≡ own_sequence (end_unit p.previous) 13 s (keys_among s.pictures)
apart_added p l s is may =
    ap (λ (o : Option Latest). added_behind o p.previous s (keys_among s.pictures)) is ∙ cond-false (may_follow l s.header (keys_among s.pictures)) _ _ may

-- what is asked of a sequence's header and keys
pub may_be : (l : Latest) (h h' : List ℕ) (k k' : Keys) (b : Bool) → h ≡ h' → k ≡ k' → may_follow l h k ≡ b → may_follow l h' k' ≡ b
may_be l h h' k k' b headers keys is = sym (ap₂ (λ (x : List ℕ) (y : Keys). may_follow l x y) headers keys) ∙ is

-- the sequence that was written last
pub own_latest : (x : Latest) (h h' : List ℕ) (k k' : Keys) → h ≡ h' → k ≡ k' → x ≡ record { header = h; first = k.first; high = k.above } → x ≡ record { header = h'; first = k'.first; high = k'.above }
own_latest x h h' k k' headers keys is = is ∙ ap₂ (λ (y : List ℕ) (z : Keys). let l : Latest = record { header = y; first = z.first; high = z.above } in l) headers keys

pub onto_latest : (x l : Latest) (k k' : Keys) (m : Merge) → k ≡ k' → m ≡ record { way = way_onto l k; high = shift_onto l k + k.above } → x ≡ record { header = l.header; first = l.first; high = m.high }
    → x ≡ record { header = l.header; first = l.first; high = shift_onto l k' + k'.above }
onto_latest x l k k' m keys so is =
    is ∙ ap (λ (y : Merge). let z : Latest = record { header = l.header; first = l.first; high = y.high } in z) so
    ∙ ap (λ (y : Keys). let z : Latest = record { header = l.header; first = l.first; high = shift_onto l y + y.above } in z) keys

-- the units that are appended, and the length of the last one
pub onto_bytes : (l : Latest) (k k' : Keys) (m : Merge) (previous previous' : ℕ) (ps ps' : List PictureText) → k ≡ k' → m ≡ record { way = way_onto l k; high = shift_onto l k + k.above } → previous ≡ previous' → ps ≡ ps'
    → units_behind previous (map (moved_on m.way) ps) ≡ units_behind previous' (map (moved_on (way_onto l k')) ps')
onto_bytes l k k' m previous previous' ps ps' keys so lengths pictures =
    ap (λ (y : Merge). units_behind previous (map (moved_on y.way) ps)) so ∙ ap (λ (y : Keys). units_behind previous (map (moved_on (way_onto l y)) ps)) keys
    ∙ ap₂ (λ (n : ℕ) (qs : List PictureText). units_behind n (map (moved_on (way_onto l k')) qs)) lengths pictures

pub onto_length : (l : Latest) (k k' : Keys) (m : Merge) (previous previous' : ℕ) (ps ps' : List PictureText) → k ≡ k' → m ≡ record { way = way_onto l k; high = shift_onto l k + k.above } → previous ≡ previous' → ps ≡ ps'
    → length_behind previous (map (moved_on m.way) ps) ≡ length_behind previous' (map (moved_on (way_onto l k')) ps')
onto_length l k k' m previous previous' ps ps' keys so lengths pictures =
    ap (λ (y : Merge). length_behind previous (map (moved_on y.way) ps)) so ∙ ap (λ (y : Keys). length_behind previous (map (moved_on (way_onto l y)) ps)) keys
    ∙ ap₂ (λ (n : ℕ) (qs : List PictureText). length_behind n (map (moved_on (way_onto l k')) qs)) lengths pictures

-- how far the writing is behind it
pub behind_is : (p : WritingProgress) (s : SequenceText) (a : Added) (l : Latest) (n : ℕ) → added p s ≡ a → l ≡ a.latest → n ≡ a.previous → ◌≡◌ {A = WritingProgress} (record { latest = Some l; previous = n }) (progress_behind p s)
behind_is p s a l n is last length =
    ap₂ (λ (x : Latest) (m : ℕ). let q : WritingProgress = record { latest = Some x; previous = m } in q) last length
    ∙ sym (ap (λ (x : Added). let q : WritingProgress = record { latest = Some x.latest; previous = x.previous } in q) is)

pub bytes_are : (p : WritingProgress) (s : SequenceText) (a : Added) (bytes : List ℕ) → added p s ≡ a → bytes ≡ a.bytes → bytes ≡ (added p s).bytes
bytes_are p s a bytes is same = same ∙ sym (ap (λ (x : Added). x.bytes) is)
