-- Sequences that are joined while they're written, one after another.
use Rattle.std.proofs.Common.{◌≡◌, ◌∙◌, ℕ, ◌+◌, ◌<◌, ◌≤◌, ◌^◌, List, ◌++◌, drop, map, length, get_or, true, false, Option, None, Some, refl, sym, ap, subst}
use Rattle.std.specs.Prelude.{is_none}
use Rattle.std.specs.Io.KnownBytes.{Appends}
use Rattle.dirac_io.specs.Writing.{AppendsFront}
use Rattle.dirac_encode_laws.specs.Stream.{end_unit}
use Rattle.dirac_edit_laws.specs.Joined.{Group, bare, bytes_or_bare, first_number, group_of, joined_sequences}
use Rattle.dirac_edit_laws.specs.Texts.{SequenceText, with_pictures}
use Rattle.dirac_edit.specs.Merged.{Latest, WritingProgress, added, progress_behind}
use Rattle.dirac_edit.proofs.Merging.{IsAt, IsStep, all_left, bare_left, empty_passed, left, none_next, one_more, sequence_next, tail_ended}
use Rattle.dirac_edit.proofs.Written.{IsWritten, left_as, none_written, part_written, piece_written}

-- the groups of the sequences from a place on
abbrev groups_left : List SequenceText → ℕ → List Group
groups_left all i = map group_of (with_pictures (drop i all))

-- the sequences before this place are written, behind which the writing is so far
pub record IsHere (all : List SequenceText) (p : WritingProgress) (i : ℕ) (taken taken' : Option (List ℕ)) : Type 0 where
  pub now : Option Group
  pub at : IsAt p.latest p.previous now
  pub written : IsWritten (bytes_or_bare all (joined_sequences all)) (left (bare all) p.previous now (map group_of (with_pictures (drop i all)))) taken taken'

pub here_first : (all : List SequenceText) (p : WritingProgress) (taken : Option (List ℕ)) → p ≡ record { latest = None; previous = 0 } → IsHere all p 0 taken taken
here_first all p taken is =
    let whole = bytes_or_bare all (joined_sequences all) in
    let begin : WritingProgress = record { latest = None; previous = 0 } in
    let first : IsHere all begin 0 taken taken = record {
      now = None;
      at = refl;
      written = left_as whole whole (left (bare all) 0 None (groups_left all 0)) taken taken (none_written whole taken) (all_left all);
    } in
    subst (λ (q : WritingProgress). IsHere all q 0 taken taken) (sym is) first

pub here_passed : (all : List SequenceText) (p : WritingProgress) (i : ℕ) (t : SequenceText) (taken taken' : Option (List ℕ)) → IsHere all p i taken taken' → i < length all → t ≡ get_or all i t → length t.pictures ≡ 0
    → IsHere all p (i + 1) taken taken'
here_passed all p i t taken taken' h inside is none = record {
  now = h.now;
  at = h.at;
  written = left_as (bytes_or_bare all (joined_sequences all)) _ (left (bare all) p.previous h.now (groups_left all (i + 1))) taken taken' h.written
      (ap (λ (ss : List SequenceText). left (bare all) p.previous h.now (map group_of ss)) (empty_passed all i t inside is none));
}

-- one more
stepped : (all : List SequenceText) (p : WritingProgress) (i : ℕ) (t : SequenceText) (taken taken' : Option (List ℕ)) (h : IsHere all p i taken taken') → i < length all → t ≡ get_or all i t → 0 < length t.pictures
    → (s : IsStep (bare all) p t h.now (groups_left all (i + 1)))
    → IsWritten (bytes_or_bare all (joined_sequences all)) ((added p t).bytes ++ left (bare all) (added p t).previous s.next (groups_left all (i + 1))) taken taken'
stepped all p i t taken taken' h inside is some s =
    left_as (bytes_or_bare all (joined_sequences all)) _ ((added p t).bytes ++ left (bare all) (added p t).previous s.next (groups_left all (i + 1))) taken taken' h.written
    (ap (λ (ss : List SequenceText). left (bare all) p.previous h.now (map group_of ss)) (sequence_next all i t inside is some) ∙ s.bytes)

pub here_next : (all : List SequenceText) (p p' : WritingProgress) (i : ℕ) (t : SequenceText) (taken taken' taken'' : Option (List ℕ)) → IsHere all p i taken taken' → i < length all → t ≡ get_or all i t → 0 < length t.pictures
    → first_number t.pictures < 2 ^ 32 → p' ≡ progress_behind p t → Appends taken' taken'' (added p t).bytes → IsHere all p' (i + 1) taken taken''
here_next all p p' i t taken taken' taken'' h inside is some small next more =
    let rest = groups_left all (i + 1) in
    let s : IsStep (bare all) p t h.now rest = one_more (bare all) p t h.now rest h.at some small in
    let there : IsHere all (progress_behind p t) (i + 1) taken taken'' = record {
      now = s.next;
      at = s.at;
      written = piece_written (bytes_or_bare all (joined_sequences all)) (added p t).bytes (left (bare all) (added p t).previous s.next rest) taken taken' taken'' (stepped all p i t taken taken' h inside is some s) more;
    } in
    subst (λ (q : WritingProgress). IsHere all q (i + 1) taken taken'') (sym next) there

pub here_stopped : (all : List SequenceText) (p : WritingProgress) (i : ℕ) (t : SequenceText) (taken taken' taken'' : Option (List ℕ)) → IsHere all p i taken taken' → i < length all → t ≡ get_or all i t → 0 < length t.pictures
    → first_number t.pictures < 2 ^ 32 → AppendsFront taken' taken'' (added p t).bytes → AppendsFront taken taken'' (bytes_or_bare all (joined_sequences all))
here_stopped all p i t taken taken' taken'' h inside is some small part =
    let rest = groups_left all (i + 1) in
    let s : IsStep (bare all) p t h.now rest = one_more (bare all) p t h.now rest h.at some small in
    part_written (bytes_or_bare all (joined_sequences all)) (added p t).bytes (left (bare all) (added p t).previous s.next rest) taken taken' taken'' (stepped all p i t taken taken' h inside is some s) part

-- behind the last one
ended_by : (all : List SequenceText) (l : Latest) (previous i : ℕ) (taken taken' : Option (List ℕ)) → length all ≤ i → IsHere all (record { latest = Some l; previous = previous }) i taken taken'
    → IsWritten (bytes_or_bare all (joined_sequences all)) (end_unit previous) taken taken'
ended_by all l previous i taken taken' past h =
    left_as (bytes_or_bare all (joined_sequences all)) _ (end_unit previous) taken taken' h.written
    (tail_ended (bare all) previous l h.now (groups_left all i) (ap (map group_of) (none_next all i past)) h.at)

bare_by : (all : List SequenceText) (previous i : ℕ) (taken taken' : Option (List ℕ)) → length all ≤ i → IsHere all (record { latest = None; previous = previous }) i taken taken'
    → IsWritten (bytes_or_bare all (joined_sequences all)) (bare all) taken taken'
bare_by all previous i taken taken' past h =
    left_as (bytes_or_bare all (joined_sequences all)) _ (bare all) taken taken' h.written
    (bare_left (bare all) previous h.now (groups_left all i) (ap (map group_of) (none_next all i past)) h.at)

-- whatever was written last
abbrev reached : Option Latest → ℕ → WritingProgress
reached latest previous = record { latest = latest; previous = previous }

ended_or : (all : List SequenceText) (o : Option Latest) (previous i : ℕ) (taken taken' : Option (List ℕ)) → length all ≤ i → is_none o ≡ false → IsHere all (reached o previous) i taken taken'
    → IsWritten (bytes_or_bare all (joined_sequences all)) (end_unit previous) taken taken'
ended_or all None previous i taken taken' past some h = absurd cc
ended_or all (Some l) previous i taken taken' past some h = ended_by all l previous i taken taken' past h

bare_or : (all : List SequenceText) (o : Option Latest) (previous i : ℕ) (taken taken' : Option (List ℕ)) → length all ≤ i → is_none o ≡ true → IsHere all (reached o previous) i taken taken'
    → IsWritten (bytes_or_bare all (joined_sequences all)) (bare all) taken taken'
bare_or all None previous i taken taken' past none h = bare_by all previous i taken taken' past h
bare_or all (Some l) previous i taken taken' past none h = absurd cc

pub here_ended : (all : List SequenceText) (p : WritingProgress) (i : ℕ) (taken taken' : Option (List ℕ)) → length all ≤ i → is_none p.latest ≡ false → IsHere all p i taken taken'
    → IsWritten (bytes_or_bare all (joined_sequences all)) (end_unit p.previous) taken taken'
here_ended all p i taken taken' past some h = ended_or all p.latest p.previous i taken taken' past some h

pub here_bare : (all : List SequenceText) (p : WritingProgress) (i : ℕ) (taken taken' : Option (List ℕ)) → length all ≤ i → is_none p.latest ≡ true → IsHere all p i taken taken'
    → IsWritten (bytes_or_bare all (joined_sequences all)) (bare all) taken taken'
here_bare all p i taken taken' past none h = bare_or all p.latest p.previous i taken taken' past none h
