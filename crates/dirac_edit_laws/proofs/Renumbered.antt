-- A sequence whose numbers are moved on, behind others: its pictures are read and rebuilt as before but for the numbers.
use Rattle.std.proofs.Common.{◌≡◌, ◌==◌, inl, inr, ℕ, ◌+◌, ◌%◌, ◌<◌, ◌≤◌, ◌^◌, if◌then◌else◌, not, Bool, true, false, List, [], ◌∷◌, ◌++◌, length, drop, map, nat_le, Option, None, Some, Ok, refl, sym, ◌∙◌, ap, ap₂, subst, arith, eq-eqb, ne_eqb}
use Rattle.std.specs.Prelude.{is_some}
use Rattle.std.specs.List.{AllByRecursion}
use Rattle.std.proofs.lemmas.Bool.{and_from, and_parts, cases_eq, eqb-true}
use Rattle.std.proofs.lemmas.List.{length-map, map-append}
use Rattle.dirac_common.specs.declared.formats.Component.{Component}
use Rattle.dirac_common.specs.declared.formats.Component.TheVariants as component
use Rattle.dirac_common.specs.declared.formats.Kind.TheVariants.{Inter}
use Rattle.dirac_common.specs.declared.picture.Picture.{Picture}
use Rattle.dirac_common.specs.Table.{Table}
use Rattle.dirac_sequence_header.specs.declared.sequence.Sequence.{Sequence}
use Rattle.dirac_common.specs.Codes.{is_reference}
use Rattle.dirac_header.specs.declared.header.PictureHeader.{PictureHeader}
use Rattle.dirac_refs.specs.References.{append, appended, as_reference, committed, is_listed, listed, retire, without}
use Rattle.dirac_refs.proofs.Listed.{few_committed}
use Rattle.dirac_picture.specs.declared.coded.CodedMotion.{CodedMotion}
use Rattle.dirac_picture.specs.declared.coded.CodedPicture.{CodedPicture}
use Rattle.dirac_picture.specs.declared.coded.CodedResidual.{CodedResidual}
use Rattle.dirac_picture.specs.Grammar.{are_listed, picture_read}
use Rattle.dirac_plan_laws.proofs.Each.{each_append, each_drop}
use Rattle.dirac_content.specs.Content.{named, plane_samples, predicted_among, rebuilt, residual_among, samples_from}
use Rattle.dirac_synthesis.specs.Residual.{clipped, with_prediction}
use Rattle.dirac_edit_laws.specs.Joined.{number_in_payload}
use Rattle.dirac_edit_laws.specs.Rebuilt.{AreRead, RebuiltText, list_behind, rebuilt_from, rebuilt_text}
use Rattle.dirac_edit_laws.specs.Restricted.{IsRestricted}
use Rattle.dirac_edit_laws.specs.Texts.{PictureText}
use Rattle.dirac_edit_laws.proofs.Alike.{parts_of_whole}
use Rattle.dirac_edit_laws.proofs.Closed.{one_rebuilt}
use Rattle.dirac_edit_laws.proofs.Cutting.{Fits, FitsPicture}
use Rattle.dirac_edit_laws.proofs.Onward.{IsBelow, IsReadOnward, ListsOnward, coded_onward, header_onward, onward, onward_of, payload_onward, read_onward}
use Rattle.dirac_edit_laws.proofs.Restricted.{keeps_committed, listed_in_whole}
use Rattle.dirac_encode_laws.proofs.Sourcing.{all_filtered}

-- a picture whose number is moved on
abbrev pub picture_onward : ℕ → Picture → Picture
picture_onward d p = record { number = onward d p.number; y = p.y; u = p.u; v = p.v }

-- all numbers are below 2 ^ 32
abbrev pub AreBelow : List Picture → Type 0
AreBelow list = AllByRecursion (λ (p : Picture). p.number < 2 ^ 32) list

-- ---- lists

onward_inside : (d a b : ℕ) → a < 2 ^ 32 → b < 2 ^ 32 → (a + d) % 2 ^ 32 ≡ (b + d) % 2 ^ 32 → a ≡ b
onward_inside d a b la lb e = omega arith

same_test : (d a b : ℕ) → a < 2 ^ 32 → b < 2 ^ 32 → (onward d a == onward d b) ≡ (a == b)
same_test d a b la lb = elim (cases_eq a b) [
  | inl e ↦ eq-eqb (onward d a) (onward d b) (ap (onward d) e) ∙ sym (eq-eqb a b e)
  | inr n ↦ ne_eqb (onward d a) (onward d b) (λ e. n (onward_inside d a b la lb e)) ∙ sym (ne_eqb a b n)
]

-- what is listed is listed moved on
found_onward : (d : ℕ) (list : List Picture) (n : ℕ) (q : Picture) → AreBelow list → listed list n ≡ Some q → listed (map (picture_onward d) list) (onward d n) ≡ Some (picture_onward d q)
found_onward d [] n q all is = absurd cc
found_onward d (p ∷ list) n q all is =
    elim (p.number == n) as (λ b. (p.number == n) ≡ b → (if b then Some p else listed list n) ≡ Some q → listed (map (picture_onward d) (p ∷ list)) (onward d n) ≡ Some (picture_onward d q)) [
      | true ↦ λ e found.
          let here : p ≡ q = cc in
          let yes : (onward d p.number == onward d n) ≡ true = eq-eqb (onward d p.number) (onward d n) (ap (onward d) (eqb-true p.number n e)) in
          ap (λ (b : Bool). if b then Some (picture_onward d p) else listed (map (picture_onward d) list) (onward d n)) yes ∙ ap (λ x. Some (picture_onward d x)) here
      | false ↦ λ e later.
          let small : n < 2 ^ 32 = found_below list n q all.1 later in
          let no : (onward d p.number == onward d n) ≡ false = same_test d p.number n all.0 small ∙ e in
          ap (λ (b : Bool). if b then Some (picture_onward d p) else listed (map (picture_onward d) list) (onward d n)) no ∙ found_onward d list n q all.1 later
    ] refl is
  where
    found_below : (list : List Picture) (n : ℕ) (q : Picture) → AreBelow list → listed list n ≡ Some q → n < 2 ^ 32
    found_below [] n q all is = absurd cc
    found_below (p ∷ list) n q all is =
        elim (p.number == n) as (λ b. (p.number == n) ≡ b → (if b then Some p else listed list n) ≡ Some q → n < 2 ^ 32) [
          | true ↦ λ e found. subst (λ m. m < 2 ^ 32) (eqb-true p.number n e) all.0
          | false ↦ λ e later. found_below list n q all.1 later
        ] refl is

without_onward : (d n : ℕ) (list : List Picture) → n < 2 ^ 32 → AreBelow list → without (onward d n) (map (picture_onward d) list) ≡ map (picture_onward d) (without n list)
without_onward d n [] small all = refl
without_onward d n (p ∷ list) small all =
    let rest = without_onward d n list small all.1 in
    let test = same_test d p.number n all.0 small in
    ap (λ (b : Bool). if not b then picture_onward d p ∷ without (onward d n) (map (picture_onward d) list) else without (onward d n) (map (picture_onward d) list)) test
    ∙ (elim (p.number == n) as (λ b. (if not b then picture_onward d p ∷ without (onward d n) (map (picture_onward d) list) else without (onward d n) (map (picture_onward d) list)) ≡ map (picture_onward d) (if not b then p ∷ without n list else without n list)) [
      | true ↦ rest
      | false ↦ ap (λ l. picture_onward d p ∷ l) rest
    ])

retire_onward : (d : ℕ) (list : List Picture) (r : Option ℕ) → IsBelow r → AreBelow list → retire (map (picture_onward d) list) (onward_of d r) ≡ map (picture_onward d) (retire list r)
unfolding IsBelow
retire_onward d list None small all = refl
retire_onward d list (Some n) small all = without_onward d n list small all

with_last : (d : ℕ) (list : List Picture) (p : Picture) (b : Bool) → (if b then drop 1 (map (picture_onward d) list) else map (picture_onward d) list) ++ picture_onward d p ∷ [] ≡ map (picture_onward d) ((if b then drop 1 list else list) ++ p ∷ [])
with_last d [] p true = refl
with_last d (q ∷ list) p true = sym (map-append (picture_onward d) list (p ∷ []))
with_last d list p false = sym (map-append (picture_onward d) list (p ∷ []))

append_onward : (d : ℕ) (list : List Picture) (p : Picture) → append (map (picture_onward d) list) (picture_onward d p) ≡ map (picture_onward d) (append list p)
append_onward d list p =
    let f = picture_onward d in
    ap (λ n. (if nat_le 8 n then drop 1 (map f list) else map f list) ++ f p ∷ []) (length-map list f) ∙ with_last d list p (nat_le 8 (length list))

-- as a list
abbrev listing : Option Picture → List Picture
listing None = []
listing (Some p) = p ∷ []

-- a reference, moved on
abbrev reference_onward : ℕ → Option Picture → Option Picture
reference_onward d None = None
reference_onward d (Some p) = Some (picture_onward d p)

appended_onward : (d : ℕ) (list : List Picture) (reference : Option Picture) → AreBelow list → AllByRecursion (λ (p : Picture). p.number < 2 ^ 32) (listing reference) → appended (map (picture_onward d) list) (reference_onward d reference) ≡ map (picture_onward d) (appended list reference)
appended_onward d list None all small = refl
appended_onward d list (Some p) all small = ap (λ l. append l (picture_onward d p)) (without_onward d p.number list small.0 all) ∙ append_onward d (without p.number list) p

retired_below : (list : List Picture) (r : Option ℕ) → AreBelow list → AreBelow (retire list r)
retired_below list None all = all
retired_below list (Some n) all = all_filtered (λ (p : Picture). p.number < 2 ^ 32) (λ p. not (p.number == n)) list all

append_below : (list : List Picture) (p : Picture) (b : Bool) → AreBelow list → p.number < 2 ^ 32 → AreBelow ((if b then drop 1 list else list) ++ p ∷ [])
append_below list p true all small = each_append (λ (q : Picture). q.number < 2 ^ 32) (drop 1 list) (p ∷ []) (each_drop (λ (q : Picture). q.number < 2 ^ 32) 1 list all) (small, tt)
append_below list p false all small = each_append (λ (q : Picture). q.number < 2 ^ 32) list (p ∷ []) all (small, tt)

appended_below : (list : List Picture) (reference : Option Picture) → AreBelow list → AreBelow (listing reference) → AreBelow (appended list reference)
appended_below list None all small = all
appended_below list (Some p) all small = append_below (without p.number list) p (nat_le 8 (length (without p.number list))) (all_filtered (λ (q : Picture). q.number < 2 ^ 32) (λ q. not (q.number == p.number)) list all) small.0

reference_is : (d code : ℕ) (p : Picture) → as_reference code (picture_onward d p) ≡ reference_onward d (as_reference code p)
reference_is d code p =
    elim (is_reference code) as (λ b. (if b then Some (picture_onward d p) else None) ≡ reference_onward d (if b then Some p else None)) [
      | true ↦ refl
      | false ↦ refl
    ]

reference_below : (code : ℕ) (p : Picture) → p.number < 2 ^ 32 → AreBelow (listing (as_reference code p))
reference_below code p small =
    elim (is_reference code) as (λ b. AreBelow (listing (if b then Some p else None))) [
      | true ↦ (small, tt)
      | false ↦ tt
    ]

-- ---- one picture

-- the reference that a header names
pub named_onward : (d : ℕ) (inside whole : List Picture) (o : Option ℕ) → AreBelow inside → IsRestricted whole (map (picture_onward d) inside) → is_listed inside o ≡ true
    → named whole (onward_of d o) ≡ reference_onward d (named inside o)
named_onward d inside whole None all r is = refl
named_onward d inside whole (Some n) all r is =
    elim (listed inside n) as (λ x. listed inside n ≡ x → is_some x ≡ true → listed whole (onward d n) ≡ reference_onward d x) [
      | None ↦ λ e none. absurd cc
      | Some q ↦ λ e some. listed_in_whole whole (map (picture_onward d) inside) (onward d n) (picture_onward d q) r (found_onward d inside n q all e)
    ] refl is

listed_onward : (d : ℕ) (inside whole : List Picture) (o : Option ℕ) → AreBelow inside → IsRestricted whole (map (picture_onward d) inside) → is_listed inside o ≡ true → is_listed whole (onward_of d o) ≡ true
listed_onward d inside whole None all r is = refl
listed_onward d inside whole (Some n) all r is =
    elim (listed inside n) as (λ x. listed whole (onward d n) ≡ reference_onward d x → is_some x ≡ true → is_some (listed whole (onward d n)) ≡ true) [
      | None ↦ λ e none. absurd cc
      | Some q ↦ λ e some. ap (λ (x : Option Picture). is_some x) e
    ] (named_onward d inside whole (Some n) all r is) is

lists_onward : (d : ℕ) (inside whole : List Picture) → AreBelow inside → IsRestricted whole (map (picture_onward d) inside) → ListsOnward d inside whole
lists_onward d inside whole all r h is =
    let both = and_parts (is_listed inside h.ref1) (is_listed inside h.ref2) is in
    and_from (is_listed whole (onward_of d h.ref1)) (is_listed whole (onward_of d h.ref2)) (listed_onward d inside whole h.ref1 all r both.0) (listed_onward d inside whole h.ref2 all r both.1)

pub predicted_onward : (s : Sequence) (m : CodedMotion) (d : ℕ) (a b : Option Picture) (c : Component) → predicted_among s m (reference_onward d a) (reference_onward d b) c ≡ predicted_among s m a b c
predicted_onward s m d None b c = refl
predicted_onward s m d (Some p) None component.Y = refl
predicted_onward s m d (Some p) None component.U = refl
predicted_onward s m d (Some p) None component.V = refl
predicted_onward s m d (Some p) (Some q) component.Y = refl
predicted_onward s m d (Some p) (Some q) component.U = refl
predicted_onward s m d (Some p) (Some q) component.V = refl

samples_onward : (s : Sequence) (d : ℕ) (inside whole : List Picture) (h : PictureHeader) (m : Option CodedMotion) (r : Option CodedResidual) (c : Component) → named whole (onward_of d h.ref1) ≡ reference_onward d (named inside h.ref1)
    → named whole (onward_of d h.ref2) ≡ reference_onward d (named inside h.ref2) → samples_from s whole (header_onward d h) m r c ≡ samples_from s inside h m r c
samples_onward s d inside whole h None r c first second = refl
samples_onward s d inside whole h (Some m) r c first second =
    ap₂ (λ (a b : Option Picture). clipped (with_prediction (residual_among s Inter c r) (predicted_among s m a b c))) first second
    ∙ ap (λ values. clipped (with_prediction (residual_among s Inter c r) values)) (predicted_onward s m d (named inside h.ref1) (named inside h.ref2) c)

rebuilt_onward : (s : Sequence) (d : ℕ) (inside whole : List Picture) (coded : CodedPicture) → AreBelow inside → IsRestricted whole (map (picture_onward d) inside) → are_listed inside coded.header ≡ true
    → rebuilt s whole (coded_onward d coded) ≡ picture_onward d (rebuilt s inside coded)
rebuilt_onward s d inside whole coded all r is =
    let both = and_parts (is_listed inside coded.header.ref1) (is_listed inside coded.header.ref2) is in
    let first = named_onward d inside whole coded.header.ref1 all r both.0 in
    let second = named_onward d inside whole coded.header.ref2 all r both.1 in
    let same : (c : Component) → plane_samples s whole (coded_onward d coded) c ≡ plane_samples s inside coded c = λ c. samples_onward s d inside whole coded.header coded.motion coded.residual c first second in
    let n = onward d coded.header.number in
    let mine : Component → Table = plane_samples s whole (coded_onward d coded) in
    let old : Component → Table = plane_samples s inside coded in
    ap (λ (t : Table). let q : Picture = record { number = n; y = t; u = mine component.U; v = mine component.V } in q) (same component.Y)
    ∙ ap (λ (t : Table). let q : Picture = record { number = n; y = old component.Y; u = t; v = mine component.V } in q) (same component.U)
    ∙ ap (λ (t : Table). let q : Picture = record { number = n; y = old component.Y; u = old component.U; v = t } in q) (same component.V)

-- ---- one picture more

-- a picture's unit with its numbers moved on, and what it is rebuilt to
abbrev pub text_onward : ℕ → PictureText → PictureText
text_onward d p = record { index = p.index; points = p.points; code = p.code; payload = payload_onward d p.payload }

abbrev pub rebuilt_text_onward : ℕ → RebuiltText → RebuiltText
rebuilt_text_onward d r = record { text = text_onward d r.text; coded = coded_onward d r.coded; picture = picture_onward d r.picture }

-- it has the number that its payload begins with
pub record IsNumbered (r : RebuiltText) : Type 0 where
  pub number : r.picture.number ≡ number_in_payload r.text.payload
  pub small : number_in_payload r.text.payload < 2 ^ 32
  pub long : 4 ≤ length r.text.payload

pub record OneOnward (s : Sequence) (d : ℕ) (inside whole : List Picture) (p : PictureText) (coded : CodedPicture) : Type 0 where
  pub read : picture_read p.code s whole (payload_onward d p.payload) ≡ Ok (coded_onward d coded)
  pub same : rebuilt_text s whole (text_onward d p) (coded_onward d coded) ≡ rebuilt_text_onward d (rebuilt_text s inside p coded)
  pub behind : IsRestricted (list_behind whole (rebuilt_text_onward d (rebuilt_text s inside p coded))) (map (picture_onward d) (list_behind inside (rebuilt_text s inside p coded)))
  pub few : length (list_behind whole (rebuilt_text_onward d (rebuilt_text s inside p coded))) ≤ 8
  pub below : AreBelow (list_behind inside (rebuilt_text s inside p coded))
  pub numbered : IsNumbered (rebuilt_text s inside p coded)

committed_onward : (d : ℕ) (list : List Picture) (retired : Option ℕ) (reference : Option Picture) → AreBelow list → IsBelow retired → AreBelow (listing reference)
    → committed (map (picture_onward d) list) (onward_of d retired) (reference_onward d reference) ≡ map (picture_onward d) (committed list retired reference)
committed_onward d list retired reference all small below =
    ap (λ l. appended l (reference_onward d reference)) (retire_onward d list retired small all)
    ∙ appended_onward d (retire list retired) reference (retired_below list retired all) below

closed_header : (s : Sequence) (inside : List Picture) (p : PictureText) (coded : CodedPicture) → picture_read p.code s inside p.payload ≡ Ok coded → are_listed inside coded.header ≡ true
closed_header s inside p coded is =
    let itself : IsRestricted inside inside = record { outside = []; split = refl; apart = λ number q e. refl } in
    (parts_of_whole s inside inside p.code p.payload coded itself is).closed

pub one_onward : (s : Sequence) (d : ℕ) (inside whole : List Picture) (p : PictureText) (coded : CodedPicture) → IsRestricted whole (map (picture_onward d) inside) → length whole ≤ 8 → AreBelow inside → Fits p.payload
    → picture_read p.code s inside p.payload ≡ Ok coded → OneOnward s d inside whole p coded
one_onward s d inside whole p coded r few all fits is =
    let f = picture_onward d in
    let m : IsReadOnward p.code s whole p.payload d coded = read_onward p.code s inside whole p.payload d coded fits.below (lists_onward d inside whole all r) is in
    let q = rebuilt s inside coded in
    let small : q.number < 2 ^ 32 = subst (λ n. n < 2 ^ 32) (sym m.number) m.small in
    let again = rebuilt_onward s d inside whole coded all r (closed_header s inside p coded is) in
    let reference = as_reference coded.code q in
    let retired = onward_of d coded.header.retire in
    let restricted = keeps_committed whole (map f inside) retired (reference_onward d reference) r few in
    let below = reference_below coded.code q small in
    let lists : committed (map f inside) retired (reference_onward d reference) ≡ map f (committed inside coded.header.retire reference) = committed_onward d inside coded.header.retire reference all m.retires below in
    let moved = reference_is d coded.code q in
    record {
      read = m.read;
      same = ap (λ (x : Picture). let t : RebuiltText = record { text = text_onward d p; coded = coded_onward d coded; picture = x } in t) again;
      behind =
          subst (λ (l : List Picture). IsRestricted (committed whole retired (as_reference coded.code (f q))) l) lists
          (subst (λ (x : Option Picture). IsRestricted (committed whole retired x) (committed (map f inside) retired (reference_onward d reference))) (sym moved) restricted);
      few = few_committed whole retired (as_reference coded.code (f q)) few;
      below = appended_below (retire inside coded.header.retire) reference (retired_below inside coded.header.retire all) below;
      numbered = record { number = m.number; small = m.small; long = m.long };
    }

-- ---- all pictures

-- the unit alone
abbrev pub text_in : RebuiltText → PictureText
text_in r = r.text

pub record AreOnward (s : Sequence) (d : ℕ) (inside whole : List Picture) (pictures : List PictureText) : Type 0 where
  pub read : AreRead s whole (map (text_onward d) pictures)
  pub same : rebuilt_from s whole (map (text_onward d) pictures) ≡ map (rebuilt_text_onward d) (rebuilt_from s inside pictures)
  pub numbered : AllByRecursion IsNumbered (rebuilt_from s inside pictures)
  pub texts : map text_in (rebuilt_from s inside pictures) ≡ pictures

pub all_onward : (pictures : List PictureText) (s : Sequence) (d : ℕ) (inside whole : List Picture) → IsRestricted whole (map (picture_onward d) inside) → length whole ≤ 8 → AreBelow inside → AllByRecursion FitsPicture pictures
    → AreRead s inside pictures → AreOnward s d inside whole pictures
unfolding AreRead rebuilt_from
all_onward [] s d inside whole r few all fits read = record { read = tt; same = refl; numbered = tt; texts = refl }
all_onward (p ∷ pictures) s d inside whole r few all fits read =
    let coded = read.0 in
    let one = one_onward s d inside whole p coded r few all fits.0.payload read.1 in
    let first = rebuilt_text s inside p coded in
    let first' = rebuilt_text_onward d first in
    let rest = all_onward pictures s d (list_behind inside first) (list_behind whole first') one.behind one.few one.below fits.1 read.2 in
    let qs = map (text_onward d) pictures in
    let front = one_rebuilt s inside p pictures coded read.1 in
    let mine : RebuiltText → List RebuiltText = λ t. t ∷ rebuilt_from s (list_behind whole t) qs in
    record {
      read = (coded_onward d coded, one.read, subst (λ (t : RebuiltText). AreRead s (list_behind whole t) qs) (sym one.same) rest.read);
      same =
          one_rebuilt s whole (text_onward d p) qs (coded_onward d coded) one.read ∙ ap mine one.same ∙ ap (λ rs. first' ∷ rs) rest.same
          ∙ sym (ap (map (rebuilt_text_onward d)) front);
      numbered = subst (AllByRecursion IsNumbered) (sym front) (one.numbered, rest.numbered);
      texts = ap (map text_in) front ∙ ap (λ ps. p ∷ ps) rest.texts;
    }
