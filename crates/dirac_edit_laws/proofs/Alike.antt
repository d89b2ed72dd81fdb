-- The pictures of a part are read and rebuilt as in the whole.
use Rattle.std.proofs.Common.{◌≡◌, ℕ, Bool, true, false, if◌then◌else◌, List, Option, None, Some, Result, Ok, Err, refl, sym, ◌∙◌, ap, ap₂, subst}
use Rattle.std.specs.Prelude.{is_some}
use Rattle.std.proofs.lemmas.Bool.{and_from, and_parts}
use Rattle.dirac_common.specs.Chain.{◌>>=◌ as ◌>>◌}
use Rattle.dirac_common.specs.declared.faults.Cause.TheVariants.{MissingReference}
use Rattle.dirac_common.specs.declared.faults.Refusal.{Refusal}
use Rattle.dirac_common.specs.declared.picture.Picture.{Picture}
use Rattle.dirac_bits.specs.Answers.{value_of}
use Rattle.dirac_bits.specs.Cursor.{Cursor, start}
use Rattle.dirac_bits.specs.Syntax.{Syntax, done, refuse, ◌>>=◌, align, read}
use Rattle.dirac_bits.specs.Then.{read_then}
use Rattle.dirac_sequence_header.specs.declared.sequence.Sequence.{Sequence}
use Rattle.dirac_header.specs.declared.header.PictureHeader.{PictureHeader}
use Rattle.dirac_header.specs.Header.{header}
use Rattle.dirac_refs.specs.References.{listed}
use Rattle.dirac_picture.specs.declared.coded.CodedMotion.{CodedMotion}
use Rattle.dirac_picture.specs.declared.coded.CodedPicture.{CodedPicture}
use Rattle.dirac_picture.specs.declared.coded.CodedResidual.{CodedResidual}
use Rattle.dirac_picture.specs.Grammar.{are_listed, body, is_listed, motion, picture, picture_read, residual_unless, zero_residual}
use Rattle.dirac_picture.proofs.Every.{Every, every_any, every_read, every_then}
use Rattle.dirac_common.specs.declared.formats.Component.{Component}
use Rattle.dirac_common.specs.declared.formats.Component.TheVariants as component
use Rattle.dirac_content.specs.Content.{named, plane_samples, predicted_among, rebuilt, residual_among, samples_from}
use Rattle.dirac_synthesis.specs.Residual.{clipped, with_prediction}
use Rattle.dirac_common.specs.declared.formats.Kind.TheVariants.{Inter}
use Rattle.dirac_common.specs.Table.{Table}
use Rattle.dirac_edit_laws.specs.Restricted.{IsRestricted}
use Rattle.dirac_edit_laws.specs.Alike.{ClosedPicturesAreAlike, PicturesOfPartsAreOfTheWhole}
use Rattle.dirac_edit_laws.proofs.Restricted.{listed_in_whole}

-- ---- rebuilt

named_alike : (whole inside : List Picture) (r : Option ℕ) → IsRestricted whole inside → is_listed inside r ≡ true → named inside r ≡ named whole r
named_alike whole inside None w is = refl
named_alike whole inside (Some n) w is =
    elim (listed inside n) as (λ o. listed inside n ≡ o → is_some o ≡ true → o ≡ listed whole n) [
      | None ↦ λ e none. absurd cc
      | Some p ↦ λ e some. sym (listed_in_whole whole inside n p w e)
    ] refl is

samples_alike : (s : Sequence) (whole inside : List Picture) (head : PictureHeader) (m : Option CodedMotion) (r : Option CodedResidual) (p : Component) → named inside head.ref1 ≡ named whole head.ref1 → named inside head.ref2 ≡ named whole head.ref2
    → samples_from s inside head m r p ≡ samples_from s whole head m r p
samples_alike s whole inside head None r p first second = refl
samples_alike s whole inside head (Some m) r p first second =
    ap₂ (λ (a b : Option Picture). clipped (with_prediction (residual_among s Inter p r) (predicted_among s m a b p))) first second

rebuilt_alike : (s : Sequence) (whole inside : List Picture) (coded : CodedPicture) → IsRestricted whole inside → are_listed inside coded.header ≡ true → rebuilt s inside coded ≡ rebuilt s whole coded
rebuilt_alike s whole inside coded w is =
    let both = and_parts (is_listed inside coded.header.ref1) (is_listed inside coded.header.ref2) is in
    let first = named_alike whole inside coded.header.ref1 w both.0 in
    let second = named_alike whole inside coded.header.ref2 w both.1 in
    let same : (p : Component) → plane_samples s inside coded p ≡ plane_samples s whole coded p = λ p. samples_alike s whole inside coded.header coded.motion coded.residual p first second in
    let y = same component.Y in
    let u = same component.U in
    let v = same component.V in
    let now = rebuilt s inside coded in
    ap (λ (t : Table). let q : Picture = record { number = now.number; y = t; u = now.u; v = now.v } in q) y
    ∙ ap (λ (t : Table). let q : Picture = record { number = now.number; y = plane_samples s whole coded component.Y; u = t; v = now.v } in q) u
    ∙ ap (λ (t : Table). let q : Picture = record { number = now.number; y = plane_samples s whole coded component.Y; u = plane_samples s whole coded component.U; v = t } in q) v

-- ---- read

-- a picture has the header that was read
-- its fields behind the flag of the residual, behind the gap, and all of them
abbrev pub with_residual : ℕ → Sequence → PictureHeader → Option CodedMotion → Bool → Syntax CodedPicture
with_residual code s head m none = residual_unless none s >>= λ coded. done (record { code = code; header = head; motion = m; residual = coded })

abbrev pub behind_gap : ℕ → Sequence → PictureHeader → Option CodedMotion → Syntax CodedPicture
behind_gap code s head m = align >>= λ gap. (zero_residual code >>= with_residual code s head m)

pub body_header : (code : ℕ) (s : Sequence) (head : PictureHeader) → Every (λ (x : CodedPicture). x.header ≡ head) (body code s head)
unfolding body
body_header code s head =
    let P : CodedPicture → Type 0 = λ x. x.header ≡ head in
    every_then (λ _. Unit {0}) P (motion code s) (behind_gap code s head) (every_any (motion code s)) (λ m _.
    every_then (λ _. Unit {0}) P (zero_residual code) (with_residual code s head m) (every_any (zero_residual code)) (λ none _.
    every_then (λ _. Unit {0}) P (residual_unless none s) (λ coded. done (record { code = code; header = head; motion = m; residual = coded })) (every_any (residual_unless none s)) (λ r _. refl)))

pub every_value : (P : CodedPicture → Type 0) (syntax : Syntax CodedPicture) (c : Cursor) (coded : CodedPicture) → Every P syntax → value_of (read syntax c) ≡ Ok coded → P coded
every_value P syntax c coded every is =
    elim (read syntax c) as (λ r. read syntax c ≡ r → value_of r ≡ Ok coded → P coded) [
      | Err e ↦ λ at bad. absurd cc
      | Ok x ↦ λ at good. let same : x.0 ≡ coded = cc in subst P same (every_read P syntax c x.1 x.0 every at)
    ] refl is

-- the fields behind the header
abbrev behind : ℕ → Sequence → List Picture → PictureHeader → Syntax CodedPicture
behind code s refs head = if are_listed refs head then body code s head else refuse 0 MissingReference

behind_alike : (code : ℕ) (s : Sequence) (whole inside : List Picture) (head : PictureHeader) (d : Cursor) (coded : CodedPicture) → are_listed inside coded.header ≡ true
    → value_of (read (behind code s whole head) d) ≡ Ok coded → value_of (read (behind code s inside head) d) ≡ Ok coded
behind_alike code s whole inside head d coded closed is =
    elim (are_listed whole head) as (λ b. value_of (read (if b then body code s head else refuse 0 MissingReference) d) ≡ Ok coded → value_of (read (behind code s inside head) d) ≡ Ok coded) [
      | false ↦ λ bad. absurd cc
      | true ↦ λ good.
          let same : coded.header ≡ head = every_value (λ (x : CodedPicture). x.header ≡ head) (body code s head) d coded (body_header code s head) good in
          let there : are_listed inside head ≡ true = ap (are_listed inside) (sym same) ∙ closed in
          ap (λ (b : Bool). value_of (read (if b then body code s head else refuse 0 MissingReference) d)) there ∙ good
    ] is

front_alike : (code : ℕ) (s : Sequence) (whole inside : List Picture) (coded : CodedPicture) (r : Result (PictureHeader × Cursor) Refusal) → are_listed inside coded.header ≡ true
    → value_of (r >> λ x. read (behind code s whole x.0) x.1) ≡ Ok coded → value_of (r >> λ x. read (behind code s inside x.0) x.1) ≡ Ok coded
front_alike code s whole inside coded (Err e) closed is = absurd cc
front_alike code s whole inside coded (Ok x) closed is = behind_alike code s whole inside x.0 x.1 coded closed is

read_alike : (code : ℕ) (s : Sequence) (whole inside : List Picture) (payload : List ℕ) (coded : CodedPicture) → picture_read code s whole payload ≡ Ok coded → are_listed inside coded.header ≡ true → picture_read code s inside payload ≡ Ok coded
unfolding picture
read_alike code s whole inside payload coded is closed =
    ap value_of (read_then (header code) (behind code s inside) (start payload))
    ∙ front_alike code s whole inside coded (read (header code) (start payload)) closed
    (sym (ap value_of (read_then (header code) (behind code s whole) (start payload))) ∙ is)

-- the law
pub closed_alike : ClosedPicturesAreAlike
closed_alike s whole inside code payload coded w is closed = record {
  read = read_alike code s whole inside payload coded is closed;
  same = rebuilt_alike s whole inside coded w closed;
}

-- ---- from the part to the whole

listed_behind : (whole inside : List Picture) (r : Option ℕ) → IsRestricted whole inside → is_listed inside r ≡ true → is_listed whole r ≡ true
listed_behind whole inside None w is = refl
listed_behind whole inside (Some n) w is = let same : listed inside n ≡ listed whole n = named_alike whole inside (Some n) w is in sym (ap (λ (o : Option Picture). is_some o) same) ∙ is

pub all_listed : (whole inside : List Picture) (head : PictureHeader) → IsRestricted whole inside → are_listed inside head ≡ true → are_listed whole head ≡ true
all_listed whole inside head w is =
    let both = and_parts (is_listed inside head.ref1) (is_listed inside head.ref2) is in
    and_from (is_listed whole head.ref1) (is_listed whole head.ref2) (listed_behind whole inside head.ref1 w both.0) (listed_behind whole inside head.ref2 w both.1)

-- both answers of the reading
record Passes (whole inside : List Picture) (coded : CodedPicture) (r : Result CodedPicture Refusal) : Type 0 where
  pub read : r ≡ Ok coded
  pub closed : are_listed inside coded.header ≡ true

behind_whole : (code : ℕ) (s : Sequence) (whole inside : List Picture) (head : PictureHeader) (d : Cursor) (coded : CodedPicture) → IsRestricted whole inside
    → value_of (read (behind code s inside head) d) ≡ Ok coded → Passes whole inside coded (value_of (read (behind code s whole head) d))
behind_whole code s whole inside head d coded w is =
    elim (are_listed inside head) as (λ b. are_listed inside head ≡ b → value_of (read (if b then body code s head else refuse 0 MissingReference) d) ≡ Ok coded → Passes whole inside coded (value_of (read (behind code s whole head) d))) [
      | false ↦ λ e bad. absurd cc
      | true ↦ λ e good.
          let same : coded.header ≡ head = every_value (λ (x : CodedPicture). x.header ≡ head) (body code s head) d coded (body_header code s head) good in
          record {
            read = ap (λ (b : Bool). value_of (read (if b then body code s head else refuse 0 MissingReference) d)) (all_listed whole inside head w e) ∙ good;
            closed = ap (are_listed inside) same ∙ e;
          }
    ] refl is

front_whole : (code : ℕ) (s : Sequence) (whole inside : List Picture) (coded : CodedPicture) (r : Result (PictureHeader × Cursor) Refusal) → IsRestricted whole inside
    → value_of (r >> λ x. read (behind code s inside x.0) x.1) ≡ Ok coded → Passes whole inside coded (value_of (r >> λ x. read (behind code s whole x.0) x.1))
front_whole code s whole inside coded (Err e) w is = absurd cc
front_whole code s whole inside coded (Ok x) w is = behind_whole code s whole inside x.0 x.1 coded w is

-- the law
pub parts_of_whole : PicturesOfPartsAreOfTheWhole
unfolding picture
parts_of_whole s whole inside code payload coded w is =
    let passes = front_whole code s whole inside coded (read (header code) (start payload)) w (sym (ap value_of (read_then (header code) (behind code s inside) (start payload))) ∙ is) in
    record {
      read = ap value_of (read_then (header code) (behind code s whole) (start payload)) ∙ passes.read;
      closed = passes.closed;
      same = rebuilt_alike s whole inside coded w passes.closed;
    }
