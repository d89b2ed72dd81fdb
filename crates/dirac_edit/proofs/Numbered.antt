-- The units of pictures with new numbers, piece by piece.
use Rattle.std.proofs.Common.{◌≡◌, ◌∙◌, ℕ, ◌+◌, ◌%◌, ◌^◌, ◌<◌, ◌≤◌, List, [], ◌∷◌, ◌++◌, length, drop, get_or, map, ap, ap₂, arith, sym, append_assoc, Some}
use Rattle.std.specs.Prelude.{slice_get}
use Rattle.std.specs.Int.{to_be_bytes, w32}
use Rattle.std.proofs.lemmas.List.{drop_all}
use Rattle.dirac_common.specs.declared.codes.TheConstants.{SEQUENCE_HEADER}
use Rattle.dirac_units.specs.Writing.{info_bytes}
use Rattle.dirac_encode_laws.specs.Stream.{end_unit, info_for, unit}
use Rattle.dirac_edit_laws.specs.Joined.{bare, number_in_payload}
use Rattle.dirac_edit_laws.specs.Texts.{PictureText, SequenceText}
use Rattle.dirac_edit.specs.Merged.{length_behind, moved_on, units_behind}
use Rattle.dirac_edit.proofs.Going.{left_at}

-- a payload with a new number
abbrev pub numbered : ℕ → List ℕ → List ℕ
numbered number rest = to_be_bytes w32 number ++ rest

pub numbered_long : (number : ℕ) (rest : List ℕ) → 17 + length rest ≡ 13 + length (numbered number rest)
numbered_long number rest = omega arith

-- its unit: the parse info, the number and the rest
pub numbered_unit : (code previous number next : ℕ) (rest info bytes : List ℕ) → info ≡ info_bytes (record { code = code; next = next; previous = previous }) → next ≡ 17 + length rest → bytes ≡ to_be_bytes w32 number
    → (info ++ bytes) ++ rest ≡ unit code previous (numbered number rest)
numbered_unit code previous number next rest info bytes is long four =
    ap₂ (λ (xs ys : List ℕ). (xs ++ ys) ++ rest) (is ∙ ap (λ (n : ℕ). info_bytes (record { code = code; next = n; previous = previous })) (long ∙ numbered_long number rest)) four
    ∙ append_assoc (info_bytes (info_for code previous (numbered number rest))) (to_be_bytes w32 number) rest

-- a unit by what it is made of
same_numbered : (code code' previous number number' : ℕ) (rest rest' : List ℕ) → code ≡ code' → number ≡ number' → rest ≡ rest'
    → unit code previous (numbered number rest) ≡ unit code' previous (numbered number' rest')
same_numbered code code' previous number number' rest rest' codes numbers rests =
    ap (λ n. unit n previous (numbered number rest)) codes ∙ ap₂ (λ (n : ℕ) (bs : List ℕ). unit code' previous (numbered n bs)) numbers rests

-- pictures from a place on
units_left : (way : ℕ) (pictures : List PictureText) (i : ℕ) (p : PictureText) (previous : ℕ) → i < length pictures → p ≡ get_or pictures i p
    → units_behind previous (map (moved_on way) (drop i pictures))
    ≡ unit p.code previous (moved_on way p).payload ++ units_behind (13 + length (moved_on way p).payload) (map (moved_on way) (drop (i + 1) pictures))
unfolding units_behind
units_left way pictures i p previous inside is = ap (λ ps. units_behind previous (map (moved_on way) ps)) (left_at pictures i p inside is)

pub length_left : (way : ℕ) (pictures : List PictureText) (i : ℕ) (p : PictureText) (previous : ℕ) → i < length pictures → p ≡ get_or pictures i p
    → length_behind previous (map (moved_on way) (drop i pictures)) ≡ length_behind (13 + length (moved_on way p).payload) (map (moved_on way) (drop (i + 1) pictures))
unfolding length_behind
length_left way pictures i p previous inside is = ap (λ ps. length_behind previous (map (moved_on way) ps)) (left_at pictures i p inside is)

-- the next of them, by the code, the number and the rest that it is written with
pub next_length : (way : ℕ) (p : PictureText) (next : ℕ) (rest payload : List ℕ) → payload ≡ p.payload → rest ≡ drop 4 payload → next ≡ 17 + length rest → 13 + length (moved_on way p).payload ≡ next
next_length way p next rest payload payloads rests long =
    sym (long ∙ ap (λ bs. 17 + length bs) (rests ∙ ap (drop 4) payloads) ∙ numbered_long ((number_in_payload p.payload + way) % 2 ^ 32) (drop 4 p.payload))

pub next_unit : (way : ℕ) (pictures : List PictureText) (i : ℕ) (p : PictureText) (previous code number next : ℕ) (rest payload : List ℕ) → i < length pictures → p ≡ get_or pictures i p
    → payload ≡ p.payload → code ≡ p.code → number ≡ number_in_payload payload → rest ≡ drop 4 payload → next ≡ 17 + length rest
    → units_behind previous (map (moved_on way) (drop i pictures))
    ≡ unit code previous (numbered ((number + way) % 2 ^ 32) rest) ++ units_behind next (map (moved_on way) (drop (i + 1) pictures))
next_unit way pictures i p previous code number next rest payload inside is payloads codes numbers rests long =
    let n : (number + way) % 2 ^ 32 ≡ (number_in_payload p.payload + way) % 2 ^ 32 = ap (λ m. (m + way) % 2 ^ 32) (numbers ∙ ap number_in_payload payloads) in
    units_left way pictures i p previous inside is
    ∙ ap₂ (λ (bs : List ℕ) (m : ℕ). bs ++ units_behind m (map (moved_on way) (drop (i + 1) pictures)))
    (sym (same_numbered code p.code previous _ _ rest (drop 4 p.payload) codes n (rests ∙ ap (drop 4) payloads))) (next_length way p next rest payload payloads rests long)

pub no_unit_left : (way : ℕ) (pictures : List PictureText) (i previous : ℕ) → length pictures ≤ i → units_behind previous (map (moved_on way) (drop i pictures)) ≡ []
unfolding units_behind
no_unit_left way pictures i previous past = ap (λ ps. units_behind previous (map (moved_on way) ps)) (drop_all i pictures past)

pub no_length_left : (way : ℕ) (pictures : List PictureText) (i previous : ℕ) → length pictures ≤ i → length_behind previous (map (moved_on way) (drop i pictures)) ≡ previous
unfolding length_behind
no_length_left way pictures i previous past = ap (λ ps. length_behind previous (map (moved_on way) ps)) (drop_all i pictures past)

-- a stream without pictures, by its first sequence
pub bare_is : (sequences : List SequenceText) (s : SequenceText) → slice_get sequences 0 ≡ Some s → bare sequences ≡ unit SEQUENCE_HEADER 0 s.header ++ end_unit (13 + length s.header)
bare_is [] s is = absurd cc
bare_is (t ∷ sequences) s is =
    let same : t ≡ s = cc in
    ap (λ (x : SequenceText). unit SEQUENCE_HEADER 0 x.header ++ end_unit (13 + length x.header)) same
