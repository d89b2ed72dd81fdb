-- Lists of references whose pictures have the same numbers: the same pictures are read with both, and they stay alike.
use Rattle.std.proofs.Common.{◌≡◌, ◌∙◌, ℕ, ◌==◌, Bool, true, false, not, ◌&&◌, ◌||◌, if◌then◌else◌, List, [], ◌∷◌, ◌++◌, length, drop, map, nat_le, Option, None, Some, Result, Ok, Err, refl, sym, ap, ap₂}
use Rattle.std.specs.Prelude.{is_some}
use Rattle.std.specs.List.{filter, list_any}
use Rattle.std.proofs.lemmas.List.{length-map, map-append}
use Rattle.dirac_common.specs.Chain.{◌>>=◌ as ◌>>◌}
use Rattle.dirac_common.specs.Codes.{is_reference}
use Rattle.dirac_common.specs.declared.faults.Cause.TheVariants.{MissingReference}
use Rattle.dirac_common.specs.declared.faults.Refusal.{Refusal}
use Rattle.dirac_common.specs.declared.picture.Picture.{Picture}
use Rattle.dirac_bits.specs.Answers.{value_of}
use Rattle.dirac_bits.specs.Cursor.{Cursor, start}
use Rattle.dirac_bits.specs.Syntax.{Syntax, refuse, read}
use Rattle.dirac_bits.specs.Then.{read_then}
use Rattle.dirac_sequence_header.specs.declared.sequence.Sequence.{Sequence}
use Rattle.dirac_header.specs.declared.header.PictureHeader.{PictureHeader}
use Rattle.dirac_header.specs.Header.{header}
use Rattle.dirac_refs.specs.declared.ref_buffer.TheConstants.{MOST_REFERENCES}
use Rattle.dirac_refs.specs.References.{append, appended, as_reference, committed, listed, retire, without}
use Rattle.dirac_picture.specs.declared.coded.CodedPicture.{CodedPicture}
use Rattle.dirac_picture.specs.Grammar.{are_listed, body, is_listed, picture, picture_read}

-- the numbers of listed pictures
abbrev pub numbers : List Picture → List ℕ
numbers list = map (λ (p : Picture). p.number) list

found_or : (b t : Bool) (p : Picture) (o : Option Picture) → is_some o ≡ t → is_some (if b then Some p else o) ≡ (b || t)
found_or true t p o same = refl
found_or false t p o same = same

some_listed : (list : List Picture) (n : ℕ) → is_some (listed list n) ≡ list_any (λ m. m == n) (numbers list)
some_listed [] n = refl
some_listed (p ∷ list) n = found_or (p.number == n) (list_any (λ m. m == n) (numbers list)) p (listed list n) (some_listed list n)

same_listed : (xs ys : List Picture) (r : Option ℕ) → numbers xs ≡ numbers ys → is_listed xs r ≡ is_listed ys r
same_listed xs ys None same = refl
same_listed xs ys (Some n) same = some_listed xs n ∙ ap (list_any (λ m. m == n)) same ∙ sym (some_listed ys n)

stays_or : (b : Bool) (p : Picture) (list : List Picture) (ns : List ℕ) → numbers list ≡ ns → numbers (if b then p ∷ list else list) ≡ (if b then p.number ∷ ns else ns)
stays_or true p list ns same = ap (λ ms. p.number ∷ ms) same
stays_or false p list ns same = same

numbers_without : (n : ℕ) (list : List Picture) → numbers (without n list) ≡ filter (λ m. not (m == n)) (numbers list)
numbers_without n [] = refl
numbers_without n (p ∷ list) = stays_or (not (p.number == n)) p (without n list) (filter (λ m. not (m == n)) (numbers list)) (numbers_without n list)

same_without : (n : ℕ) (xs ys : List Picture) → numbers xs ≡ numbers ys → numbers (without n xs) ≡ numbers (without n ys)
same_without n xs ys same = numbers_without n xs ∙ ap (filter (λ m. not (m == n))) same ∙ sym (numbers_without n ys)

same_retire : (xs ys : List Picture) (r : Option ℕ) → numbers xs ≡ numbers ys → numbers (retire xs r) ≡ numbers (retire ys r)
same_retire xs ys None same = same
same_retire xs ys (Some n) same = same_without n xs ys same

numbers_append : (list : List Picture) (p : Picture) → numbers (append list p) ≡ (if nat_le MOST_REFERENCES (length (numbers list)) then drop 1 (numbers list) else numbers list) ++ p.number ∷ []
numbers_append list p =
    map-append (λ (q : Picture). q.number) (if nat_le MOST_REFERENCES (length list) then drop 1 list else list) (p ∷ [])
    ∙ ap (λ ns. ns ++ p.number ∷ []) (oldest (nat_le MOST_REFERENCES (length list)) list ∙ ap (λ (n : ℕ). if nat_le MOST_REFERENCES n then drop 1 (numbers list) else numbers list) (sym (length-map list (λ (q : Picture). q.number)))) where
      oldest : (b : Bool) (list : List Picture) → numbers (if b then drop 1 list else list) ≡ (if b then drop 1 (numbers list) else numbers list)
      oldest true [] = refl
      oldest true (q ∷ list) = refl
      oldest false list = refl

same_append : (xs ys : List Picture) (p q : Picture) → numbers xs ≡ numbers ys → p.number ≡ q.number → numbers (append xs p) ≡ numbers (append ys q)
same_append xs ys p q same one =
    numbers_append xs p ∙ ap (λ ns. (if nat_le MOST_REFERENCES (length ns) then drop 1 ns else ns) ++ p.number ∷ []) same
    ∙ ap (λ n. (if nat_le MOST_REFERENCES (length (numbers ys)) then drop 1 (numbers ys) else numbers ys) ++ n ∷ []) one ∙ sym (numbers_append ys q)

pub same_committed : (xs ys : List Picture) (r : Option ℕ) (code : ℕ) (p q : Picture) → numbers xs ≡ numbers ys → p.number ≡ q.number
    → numbers (committed xs r (as_reference code p)) ≡ numbers (committed ys r (as_reference code q))
same_committed xs ys r code p q same one =
    let left = retire xs r in
    let right = retire ys r in
    let kept : numbers left ≡ numbers right = same_retire xs ys r same in
    elim (is_reference code) as (λ b. numbers (appended left (if b then Some p else None)) ≡ numbers (appended right (if b then Some q else None))) [
      | false ↦ kept
      | true ↦ same_append (without p.number left) (without q.number right) p q (same_without p.number left right kept ∙ ap (λ n. numbers (without n right)) one) one
    ]

-- ---- pictures

-- the references that a header names are looked for by their numbers
pub same_named : (xs ys : List Picture) (head : PictureHeader) → numbers xs ≡ numbers ys → are_listed xs head ≡ are_listed ys head
same_named xs ys head same = ap₂ (λ (x y : Bool). x && y) (same_listed xs ys head.ref1 same) (same_listed xs ys head.ref2 same)

-- what is read behind a picture's header
abbrev pub behind : ℕ → Sequence → List Picture → PictureHeader → Syntax CodedPicture
behind code s refs head = if are_listed refs head then body code s head else refuse 0 MissingReference

same_behind : (code : ℕ) (s : Sequence) (xs ys : List Picture) (r : Result (PictureHeader × Cursor) Refusal) → numbers xs ≡ numbers ys
    → (r >> λ x. read (behind code s xs x.0) x.1) ≡ (r >> λ x. read (behind code s ys x.0) x.1)
same_behind code s xs ys (Err refusal) same = refl
same_behind code s xs ys (Ok x) same =
    ap (λ (b : Bool). read (if b then body code s x.0 else refuse 0 MissingReference) x.1) (same_named xs ys x.0 same)

-- a picture is read, or refused, in the same way
pub same_read : (code : ℕ) (s : Sequence) (xs ys : List Picture) (payload : List ℕ) → numbers xs ≡ numbers ys → picture_read code s xs payload ≡ picture_read code s ys payload
unfolding picture
same_read code s xs ys payload same =
    ap value_of
    (read_then (header code) (behind code s xs) (start payload)
    ∙ same_behind code s xs ys (read (header code) (start payload)) same
    ∙ sym (read_then (header code) (behind code s ys) (start payload)))
