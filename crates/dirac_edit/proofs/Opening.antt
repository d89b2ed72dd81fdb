-- What headers say of a part is what its rebuilt pictures say.
use Rattle.std.proofs.Common.{◌≡◌, ◌∙◌, ℕ, Bool, true, false, if◌then◌else◌, List, [], ◌∷◌, map, Option, None, Some, Result, Ok, Err, refl, sym, ap, ap₂}
use Rattle.std.specs.List.{AllByRecursion, filter}
use Rattle.dirac_common.specs.Chain.{◌>>=◌ as ◌>>◌}
use Rattle.dirac_common.specs.declared.faults.Cause.TheVariants.{MissingReference}
use Rattle.dirac_common.specs.declared.faults.Refusal.{Refusal}
use Rattle.dirac_common.specs.declared.picture.Picture.{Picture}
use Rattle.dirac_bits.specs.Answers.{value_of}
use Rattle.dirac_bits.specs.Cursor.{Cursor, start}
use Rattle.dirac_bits.specs.Syntax.{Syntax, done, refuse, ◌>>=◌, align, read}
use Rattle.dirac_bits.specs.Then.{read_then}
use Rattle.dirac_sequence_header.specs.declared.sequence.Sequence.{Sequence}
use Rattle.dirac_header.specs.declared.header.PictureHeader.{PictureHeader}
use Rattle.dirac_header.specs.Header.{header}
use Rattle.dirac_refs.specs.References.{as_reference, committed}
use Rattle.dirac_picture.specs.declared.coded.CodedMotion.{CodedMotion}
use Rattle.dirac_picture.specs.declared.coded.CodedPicture.{CodedPicture}
use Rattle.dirac_picture.specs.Grammar.{are_listed, body, motion, picture, picture_read, residual_unless, zero_residual}
use Rattle.dirac_picture.proofs.Every.{Every, every_any, every_then}
use Rattle.dirac_edit_laws.specs.Cut.{first_answer, is_between, open_among, open_from, part_rebuilt, restricted}
use Rattle.dirac_edit_laws.specs.Rebuilt.{AreRead, IsRead, RebuiltText, list_behind, rebuilt_behind, rebuilt_from, rebuilt_of, rebuilt_on, rebuilt_text}
use Rattle.dirac_edit_laws.specs.Texts.{PictureText, SequenceText}
use Rattle.dirac_edit.specs.Open.{first_open, first_open_among, header_in, list_behind_header, numbered, open_or}
use Rattle.dirac_edit_laws.proofs.Alike.{every_value}
use Rattle.dirac_edit.proofs.Lookups.{behind, numbers, same_committed, same_named}

-- a picture that was read has the header that its payload begins with, and its unit's parse code
record HasFront (code : ℕ) (head : PictureHeader) (coded : CodedPicture) : Type 0 where
  head_is : coded.header ≡ head
  code_is : coded.code ≡ code

abbrev with_residual : ℕ → Sequence → PictureHeader → Option CodedMotion → Bool → Syntax CodedPicture
with_residual code s head m none = residual_unless none s >>= λ coded. done (record { code = code; header = head; motion = m; residual = coded })

abbrev behind_gap : ℕ → Sequence → PictureHeader → Option CodedMotion → Syntax CodedPicture
behind_gap code s head m = align >>= λ gap. (zero_residual code >>= with_residual code s head m)

body_front : (code : ℕ) (s : Sequence) (head : PictureHeader) → Every (HasFront code head) (body code s head)
unfolding body
body_front code s head =
    let P : CodedPicture → Type 0 = HasFront code head in
    every_then (λ _. Unit {0}) P (motion code s) (behind_gap code s head) (every_any (motion code s)) (λ m _.
    every_then (λ _. Unit {0}) P (zero_residual code) (with_residual code s head m) (every_any (zero_residual code)) (λ none _.
    every_then (λ _. Unit {0}) P (residual_unless none s) (λ coded. done (record { code = code; header = head; motion = m; residual = coded })) (every_any (residual_unless none s)) (λ r _. record { head_is = refl; code_is = refl })))

behind_front : (code : ℕ) (s : Sequence) (refs : List Picture) (head : PictureHeader) (d : Cursor) (coded : CodedPicture) → value_of (read (behind code s refs head) d) ≡ Ok coded → HasFront code head coded
behind_front code s refs head d coded is =
    elim (are_listed refs head) as (λ b. value_of (read (if b then body code s head else refuse 0 MissingReference) d) ≡ Ok coded → HasFront code head coded) [
      | false ↦ λ bad. absurd cc
      | true ↦ λ good. every_value (HasFront code head) (body code s head) d coded (body_front code s head) good
    ] is

record HasHeader (code : ℕ) (r : Result PictureHeader Refusal) (coded : CodedPicture) : Type 0 where
  read_is : r ≡ Ok coded.header
  code_is : coded.code ≡ code

front_header : (code : ℕ) (s : Sequence) (refs : List Picture) (coded : CodedPicture) (r : Result (PictureHeader × Cursor) Refusal)
    → value_of (r >> λ x. read (behind code s refs x.0) x.1) ≡ Ok coded → HasHeader code (value_of r) coded
front_header code s refs coded (Err e) is = absurd cc
front_header code s refs coded (Ok x) is =
    let front : HasFront code x.0 coded = behind_front code s refs x.0 x.1 coded is in
    record { read_is = ap Ok (sym front.head_is); code_is = front.code_is }

header_is : (s : Sequence) (refs : List Picture) (p : PictureText) (coded : CodedPicture) → picture_read p.code s refs p.payload ≡ Ok coded → HasHeader p.code (header_in p) coded
unfolding picture
header_is s refs p coded is =
    front_header p.code s refs coded (read (header p.code) (start p.payload)) (sym (ap value_of (read_then (header p.code) (behind p.code s refs) (start p.payload))) ∙ is)

-- ---- a sequence

-- the rebuilt pictures of the part
abbrev between : ℕ → ℕ → RebuiltText → Bool
between a b r = is_between a b r.text

-- listed or not, on both sides
pick : (t : Bool) (list : List Picture) (index : ℕ) (next : List Picture → Option ℕ) (later : Option ℕ) (t' : Bool) → t ≡ t' → next list ≡ later → open_or index next (if t then Some list else None) ≡ (if t' then later else Some index)
pick true list index next later true e same = same
pick false list index next later false e same = refl
pick true list index next later false e same = absurd cc
pick false list index next later true e same = absurd cc

-- kept or not, on both sides
both_kept : (t : Bool) (xs ys : List Picture) (p : PictureText) (r : RebuiltText) (ps : List PictureText) (rs : List RebuiltText) → first_open xs (p ∷ ps) ≡ open_from ys (r ∷ rs) → first_open xs ps ≡ open_from ys rs
    → first_open xs (if t then p ∷ ps else ps) ≡ open_from ys (if t then r ∷ rs else rs)
both_kept true xs ys p r ps rs with_it without_it = with_it
both_kept false xs ys p r ps rs with_it without_it = without_it

same_step : (a b : ℕ) (s : Sequence) (p : PictureText) (pictures : List PictureText) (whole xs ys : List Picture) (coded : CodedPicture) → picture_read p.code s whole p.payload ≡ Ok coded → numbers xs ≡ numbers ys
    → ((xs ys : List Picture) → numbers xs ≡ numbers ys → first_open xs (filter (is_between a b) pictures) ≡ open_from ys (filter (between a b) (rebuilt_from s (list_behind whole (rebuilt_text s whole p coded)) pictures)))
    → first_open xs (filter (is_between a b) (p ∷ pictures)) ≡ open_from ys (filter (between a b) (rebuilt_from s whole (p ∷ pictures)))
unfolding first_open open_from rebuilt_from
same_step a b s p pictures whole xs ys coded is same later =
    let r : RebuiltText = rebuilt_text s whole p coded in
    let rest : List RebuiltText = rebuilt_from s (list_behind whole r) pictures in
    let head : HasHeader p.code (header_in p) coded = header_is s whole p coded is in
    let all : rebuilt_from s whole (p ∷ pictures) ≡ r ∷ rest = ap (rebuilt_on s whole p (λ next. rebuilt_from s next pictures)) is in
    let kept : numbers (committed xs coded.header.retire (as_reference p.code (numbered coded.header.number))) ≡ numbers (list_behind ys r) =
    same_committed xs ys coded.header.retire p.code (numbered coded.header.number) r.picture same refl
    ∙ ap (λ (n : ℕ). numbers (committed ys coded.header.retire (as_reference n r.picture))) (sym head.code_is) in
    let listed_same : are_listed xs coded.header ≡ are_listed ys coded.header = same_named xs ys coded.header same in
    let step : first_open xs (p ∷ filter (is_between a b) pictures) ≡ open_from ys (r ∷ filter (between a b) rest) =
    ap (λ h. open_or p.index (λ next. first_open next (filter (is_between a b) pictures)) (list_behind_header xs p.code h)) head.read_is
    ∙ pick (are_listed xs coded.header) (committed xs coded.header.retire (as_reference p.code (numbered coded.header.number))) p.index (λ next. first_open next (filter (is_between a b) pictures))
    (open_from (list_behind ys r) (filter (between a b) rest)) (are_listed ys coded.header) listed_same
    (later (committed xs coded.header.retire (as_reference p.code (numbered coded.header.number))) (list_behind ys r) kept) in
    both_kept (is_between a b p) xs ys p r (filter (is_between a b) pictures) (filter (between a b) rest) step (later xs ys same)
    ∙ sym (ap (λ (l : List RebuiltText). open_from ys (filter (between a b) l)) all)

same_open : (a b : ℕ) (s : Sequence) (pictures : List PictureText) (whole xs ys : List Picture) → AreRead s whole pictures → numbers xs ≡ numbers ys
    → first_open xs (filter (is_between a b) pictures) ≡ open_from ys (filter (between a b) (rebuilt_from s whole pictures))
unfolding first_open open_from rebuilt_from AreRead
same_open a b s [] whole xs ys read same = refl
same_open a b s (p ∷ pictures) whole xs ys read same =
    same_step a b s p pictures whole xs ys read.0 read.1 same (λ xs ys e. same_open a b s pictures (list_behind whole (rebuilt_text s whole p read.0)) xs ys read.2 e)

open_in : (a b : ℕ) (t : SequenceText) → IsRead t → first_open [] (restricted a b t).pictures ≡ open_from [] (part_rebuilt a b t)
unfolding rebuilt_of
open_in a b t read =
    same_open a b read.sequence t.pictures [] [] [] read.pictures refl
    ∙ sym (ap (λ r. open_from [] (filter (between a b) (rebuilt_behind t.pictures r))) read.header)

-- the first open unit of a part
pub open_is : (a b : ℕ) (ts : List SequenceText) → AllByRecursion IsRead ts → first_open_among (map (restricted a b) ts) ≡ open_among a b ts
unfolding first_open_among open_among
open_is a b [] read = refl
open_is a b (t ∷ ts) read = ap₂ first_answer (open_in a b t read.0) (open_is a b ts read.1)
