-- The bytes of sequences and their pictures, piece by piece.
use Rattle.std.proofs.Common.{◌≡◌, ◌∙◌, ℕ, ◌+◌, ◌<◌, ◌≤◌, ◌==◌, Bool, false, List, [], ◌++◌, length, drop, get_or, nat_lt, ap, ap₂, arith, sym}
use Rattle.std.proofs.lemmas.Bool.{cond-true, eqb-false, lt-ltb}
use Rattle.std.proofs.lemmas.List.{drop_all}
use Rattle.dirac_encode_laws.specs.Stream.{end_unit, unit}
use Rattle.dirac_edit_laws.specs.Texts.{PictureText, SequenceText, with_pictures}
use Rattle.dirac_edit_laws.specs.Units.{pictures_bytes, sequence_bytes, sequences_bytes}
use Rattle.dirac_edit.proofs.Going.{left_at}

-- pictures from a place on
pictures_left : (pictures : List PictureText) (i : ℕ) (p : PictureText) (previous : ℕ) → i < length pictures → p ≡ get_or pictures i p
    → pictures_bytes previous (drop i pictures) ≡ unit p.code previous p.payload ++ pictures_bytes (13 + length p.payload) (drop (i + 1) pictures)
unfolding pictures_bytes
pictures_left pictures i p previous inside is = ap (pictures_bytes previous) (left_at pictures i p inside is)

-- the next of them, by the code and the payload that it is written with
pub next_picture : (pictures : List PictureText) (i : ℕ) (p : PictureText) (previous code next : ℕ) (payload : List ℕ) → i < length pictures → p ≡ get_or pictures i p → code ≡ p.code → payload ≡ p.payload → next ≡ 13 + length payload
    → pictures_bytes previous (drop i pictures) ≡ unit code previous payload ++ pictures_bytes next (drop (i + 1) pictures)
next_picture pictures i p previous code next payload inside is codes payloads long =
    pictures_left pictures i p previous inside is
    ∙ ap₂ (λ (n : ℕ) (bs : List ℕ). unit n previous bs ++ pictures_bytes (13 + length bs) (drop (i + 1) pictures)) (sym codes) (sym payloads)
    ∙ ap (λ n. unit code previous payload ++ pictures_bytes n (drop (i + 1) pictures)) (sym long)

pub no_picture_left : (pictures : List PictureText) (i previous : ℕ) → length pictures ≤ i → pictures_bytes previous (drop i pictures) ≡ end_unit previous
unfolding pictures_bytes
no_picture_left pictures i previous past = ap (pictures_bytes previous) (drop_all i pictures past)

-- a sequence that has some
pub has_pictures : (pictures pictures' : List PictureText) (is_empty : Bool) → pictures' ≡ pictures → is_empty ≡ (length pictures' == 0) → is_empty ≡ false → 0 < length pictures
has_pictures pictures pictures' is_empty same test filled = omega (arith, eqb-false (length pictures') 0 (sym test ∙ filled), ap length same)

-- sequences from a place on: one with pictures, none
pub sequence_left : (sequences : List SequenceText) (i : ℕ) (s : SequenceText) (previous : ℕ) → i < length sequences → s ≡ get_or sequences i s → 0 < length s.pictures
    → sequences_bytes previous (with_pictures (drop i sequences)) ≡ sequence_bytes previous s ++ sequences_bytes 13 (with_pictures (drop (i + 1) sequences))
unfolding sequences_bytes
sequence_left sequences i s previous inside is some =
    ap (λ ss. sequences_bytes previous (with_pictures ss)) (left_at sequences i s inside is)
    ∙ ap (sequences_bytes previous) (cond-true (nat_lt 0 (length s.pictures)) _ _ (lt-ltb 0 (length s.pictures) some))

pub no_sequence_left : (sequences : List SequenceText) (i previous : ℕ) → length sequences ≤ i → sequences_bytes previous (with_pictures (drop i sequences)) ≡ []
unfolding sequences_bytes
no_sequence_left sequences i previous past = ap (λ ss. sequences_bytes previous (with_pictures ss)) (drop_all i sequences past)
