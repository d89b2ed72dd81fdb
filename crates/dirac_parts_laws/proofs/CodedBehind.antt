-- Sources that are coded behind others are coded as they are alone, but for their numbers.
use Rattle.std.proofs.Common.{◌≡◌, ◌<◌, ◌≤◌, ◌+◌, ◌^◌, if◌then◌else◌, true, ℕ, List, [], ◌∷◌, ◌++◌, length, map, drop, Option, None, Some, option_map, refl, sym, ◌∙◌, ap, ap₂, arith}
use Rattle.std.specs.Prelude.{IfSome}
use Rattle.std.specs.Int.{to_be_bytes, w32}
use Rattle.std.proofs.lemmas.Bool.{and_parts}
use Rattle.std.proofs.lemmas.Nat.{from_be_bytes-to_be_bytes_4}
use Rattle.dirac_common.specs.declared.formats.Component.{Component}
use Rattle.dirac_common.specs.declared.formats.Component.TheVariants as component
use Rattle.dirac_common.specs.declared.picture.Picture.{Picture}
use Rattle.dirac_common.specs.Table.{Table}
use Rattle.dirac_types.specs.declared.settings.Settings.{Settings}
use Rattle.dirac_sequence.specs.Written.{sequence_of}
use Rattle.dirac_header.specs.declared.header.PictureHeader.{PictureHeader}
use Rattle.dirac_header.specs.Written.{NumbersHave32Bits}
use Rattle.dirac_refs.specs.References.{is_listed}
use Rattle.dirac_block_table.specs.Tables.{BlockTable}
use Rattle.dirac_picture.specs.declared.coded.CodedMotion.{CodedMotion}
use Rattle.dirac_picture.specs.declared.coded.CodedPicture.{CodedPicture}
use Rattle.dirac_picture.specs.declared.coded.CodedResidual.{CodedResidual}
use Rattle.dirac_picture.specs.Grammar.{are_listed, is_intra}
use Rattle.dirac_content.specs.Content.{named, plane_of, predicted_among, rebuilt}
use Rattle.dirac_plan.specs.declared.planned.Planned.{Planned}
use Rattle.dirac_plan_laws.specs.Headers.{header_of}
use Rattle.dirac_motion.specs.Chosen.{blocks_among, chosen}
use Rattle.dirac_encode_laws.specs.Coded.{quantised_bands_of, coded_of, kind_of, residual_plane, plane_less_prediction, motion_of, residual_of, residual_unless_left_out, transform_of}
use Rattle.dirac_encode_laws.specs.Coding.{Job, Made, coded_under, made, refs_after}
use Rattle.dirac_encode_laws.specs.Laws.{AreMade, IsMade}
use Rattle.dirac_encode_laws.specs.Payloads.{motion_with, payload_of}
use Rattle.dirac_edit_laws.specs.Joined.{number_in_payload}
use Rattle.dirac_edit_laws.specs.Restricted.{IsRestricted}
use Rattle.dirac_edit_laws.specs.Texts.{PictureText}
use Rattle.dirac_edit_laws.proofs.Cutting.{Fits}
use Rattle.dirac_edit_laws.proofs.EncodedMade.{coded_from}
use Rattle.dirac_edit_laws.proofs.Onward.{coded_onward, header_onward, onward, onward_of, payload_onward}
use Rattle.dirac_edit_laws.proofs.Renumbered.{AreBelow, named_onward, one_onward, picture_onward, predicted_onward}
use Rattle.dirac_parts_laws.specs.Payloads.{coded_behind, header_behind}
use Rattle.dirac_parts_laws.proofs.Payloads.{payload_begins, payloads_keep}

-- a planned picture, its source, and what they become, their numbers moved on
abbrev pub planned_onward : ℕ → Planned → Planned
planned_onward d q = record { number = onward d q.number; code = q.code; ref1 = onward_of d q.ref1; ref2 = onward_of d q.ref2; retire = onward_of d q.retire }

abbrev pub job_onward : ℕ → Job → Job
job_onward d j = record { planned = planned_onward d j.planned; source = picture_onward d j.source }

abbrev pub made_onward : ℕ → Made → Made
made_onward d m = record { coded = coded_onward d m.coded; payload = payload_onward d m.payload; shown = picture_onward d m.shown }

-- ---- the motion

-- a picture that was looked up, moved on
abbrev reference_onward : ℕ → Option Picture → Option Picture
reference_onward d None = None
reference_onward d (Some p) = Some (picture_onward d p)

among_onward : (t : Settings) (p : Picture) (d : ℕ) (a b : Option Picture) → blocks_among t (picture_onward d p) (reference_onward d a) (reference_onward d b) ≡ blocks_among t p a b
among_onward t p d None None = refl
among_onward t p d None (Some b) = refl
among_onward t p d (Some a) None = refl
among_onward t p d (Some a) (Some b) = refl

-- what is looked up in a list is looked up, moved on, in the other
record Finds (d : ℕ) (inside whole : List Picture) (h : PictureHeader) : Type 0 where
  pub first : named whole (onward_of d h.ref1) ≡ reference_onward d (named inside h.ref1)
  pub second : named whole (onward_of d h.ref2) ≡ reference_onward d (named inside h.ref2)

finds : (d : ℕ) (inside whole : List Picture) (h : PictureHeader) → AreBelow inside → IsRestricted whole (map (picture_onward d) inside) → are_listed inside h ≡ true → Finds d inside whole h
finds d inside whole h below r is =
    let both = and_parts (is_listed inside h.ref1) (is_listed inside h.ref2) is in
    record { first = named_onward d inside whole h.ref1 below r both.0; second = named_onward d inside whole h.ref2 below r both.1 }

chosen_onward : (t : Settings) (d : ℕ) (inside whole : List Picture) (q : Planned) (p : Picture) → Finds d inside whole (header_of q) → chosen t whole (planned_onward d q) (picture_onward d p) ≡ chosen t inside q p
unfolding chosen
chosen_onward t d inside whole q p f =
    ap₂ (λ (a b : Option Picture). blocks_among t (picture_onward d p) a b) f.first f.second ∙ among_onward t p d (named inside q.ref1) (named inside q.ref2)

motion_onward : (t : Settings) (d : ℕ) (inside whole : List Picture) (q : Planned) (p : Picture) → Finds d inside whole (header_of q) → motion_of t whole (planned_onward d q) (picture_onward d p) ≡ motion_of t inside q p
motion_onward t d inside whole q p f = ap (λ (b : BlockTable). if is_intra q.code then None else Some (motion_with t b)) (chosen_onward t d inside whole q p f)

-- ---- the residual

plane_onward : (d : ℕ) (p : Picture) (c : Component) → plane_of (picture_onward d p) c ≡ plane_of p c
plane_onward d p component.Y = refl
plane_onward d p component.U = refl
plane_onward d p component.V = refl

left_onward : (t : Settings) (d : ℕ) (inside whole : List Picture) (h : PictureHeader) (m : Option CodedMotion) (p : Picture) (c : Component) → Finds d inside whole h
    → residual_plane t whole (header_onward d h) m (picture_onward d p) c ≡ residual_plane t inside h m p c
left_onward t d inside whole h None p c f = plane_onward d p c
left_onward t d inside whole h (Some m) p c f =
    let s = sequence_of t in
    ap₂ (λ (a b : Option Picture). plane_less_prediction (plane_of (picture_onward d p) c) (predicted_among s m a b c)) f.first f.second
    ∙ ap (plane_less_prediction (plane_of (picture_onward d p) c)) (predicted_onward s m d (named inside h.ref1) (named inside h.ref2) c)
    ∙ ap (λ (x : Table). plane_less_prediction x (predicted_among s m (named inside h.ref1) (named inside h.ref2) c)) (plane_onward d p c)

residual_onward : (t : Settings) (d : ℕ) (inside whole : List Picture) (h : PictureHeader) (m : Option CodedMotion) (p : Picture) → Finds d inside whole h
    → residual_of t whole (header_onward d h) m (picture_onward d p) ≡ residual_of t inside h m p
residual_onward t d inside whole h m p f =
    let make : Table → Table → Table → CodedResidual = λ y u v. record { transform = transform_of t; y = quantised_bands_of t (kind_of m) y; u = quantised_bands_of t (kind_of m) u; v = quantised_bands_of t (kind_of m) v } in
    let h' = header_onward d h in
    let p' = picture_onward d p in
    ap (λ y. make y (residual_plane t whole h' m p' component.U) (residual_plane t whole h' m p' component.V)) (left_onward t d inside whole h m p component.Y f)
    ∙ ap₂ (λ (u v : Table). make (residual_plane t inside h m p component.Y) u v) (left_onward t d inside whole h m p component.U f) (left_onward t d inside whole h m p component.V f)

coded_same : (t : Settings) (d : ℕ) (inside whole : List Picture) (q : Planned) (p : Picture) → Finds d inside whole (header_of q) → coded_of t whole (planned_onward d q) (picture_onward d p) ≡ coded_onward d (coded_of t inside q p)
coded_same t d inside whole q p f =
    let h = header_of q in
    let make : Option CodedMotion → CodedResidual → CodedPicture = λ m r. record { code = q.code; header = header_onward d h; motion = m; residual = residual_unless_left_out t m r } in
    ap (λ (m : Option CodedMotion). make m (residual_of t whole (header_onward d h) m (picture_onward d p))) (motion_onward t d inside whole q p f)
    ∙ ap (make (motion_of t inside q p)) (residual_onward t d inside whole h (motion_of t inside q p) p f)

-- ---- the payload

pub plus_is : (d n : ℕ) → n + d < 2 ^ 32 → n + d ≡ onward d n
plus_is d n small = omega arith

pub option_is : (d : ℕ) (o : Option ℕ) → IfSome (option_map (λ n. n + d) o) (λ n. n < 2 ^ 32) → option_map (λ n. n + d) o ≡ onward_of d o
option_is d None small = refl
option_is d (Some n) small = ap Some (plus_is d n small)

header_is : (d : ℕ) (h : PictureHeader) → NumbersHave32Bits (header_behind d h) → header_behind d h ≡ header_onward d h
header_is d h range =
    let make : ℕ → Option ℕ → Option ℕ → Option ℕ → PictureHeader = λ n a b c. record { number = n; ref1 = a; ref2 = b; retire = c } in
    ap (λ n. make n (option_map (λ m. m + d) h.ref1) (option_map (λ m. m + d) h.ref2) (option_map (λ m. m + d) h.retire)) (plus_is d h.number range.number)
    ∙ ap₂ (λ (a b : Option ℕ). make (onward d h.number) a b (option_map (λ m. m + d) h.retire)) (option_is d h.ref1 range.first) (option_is d h.ref2 range.second)
    ∙ ap (make (onward d h.number) (onward_of d h.ref1) (onward_of d h.ref2)) (option_is d h.retire range.retired)

pub coded_is : (d : ℕ) (c : CodedPicture) → NumbersHave32Bits (header_behind d c.header) → coded_behind d c ≡ coded_onward d c
coded_is d c range = ap (λ (h : PictureHeader). let x : CodedPicture = record { code = c.code; header = h; motion = c.motion; residual = c.residual } in x) (header_is d c.header range)

payload_same : (t : Settings) (d : ℕ) (c : CodedPicture) → NumbersHave32Bits (header_behind d c.header) → payload_of t (coded_onward d c) ≡ payload_onward d (payload_of t c)
payload_same t d c range =
    let s = sequence_of t in
    let n = c.header.number in
    let small : n < 2 ^ 32 = omega (arith, range.number) in
    let begin = payload_begins s t.blocks t.precision c in
    let number : number_in_payload (payload_of t c) ≡ n = ap number_in_payload begin ∙ from_be_bytes-to_be_bytes_4 n small in
    ap (payload_of t) (sym (coded_is d c range)) ∙ payloads_keep s t.blocks t.precision d c range
    ∙ ap (λ x. to_be_bytes w32 x ++ drop 4 (payload_of t c)) (plus_is d n range.number ∙ sym (ap (onward d) number))

-- ---- one picture

record IsMadeOnward (t : Settings) (d : ℕ) (inside whole : List Picture) (j : Job) : Type 0 where
  pub same : made t whole (job_onward d j) ≡ made_onward d (made t inside j)
  pub behind : IsRestricted (refs_after whole (made_onward d (made t inside j))) (map (picture_onward d) (refs_after inside (made t inside j)))
  pub few : length (refs_after whole (made_onward d (made t inside j))) ≤ 8
  pub below : AreBelow (refs_after inside (made t inside j))

made_same : (t : Settings) (d : ℕ) (inside whole : List Picture) (j : Job) → IsRestricted whole (map (picture_onward d) inside) → length whole ≤ 8 → AreBelow inside → IsMade t inside (made t inside j) → Fits (made t inside j).payload
    → NumbersHave32Bits (header_behind d (header_of j.planned)) → IsMadeOnward t d inside whole j
made_same t d inside whole j r few below is fits range =
    let s = sequence_of t in
    let m = made t inside j in
    let c = m.coded in
    let text : PictureText = record { index = 0; points = 0; code = c.code; payload = m.payload } in
    let one = one_onward s d inside whole text c r few below fits is.read in
    let coded = coded_same t d inside whole j.planned j.source (finds d inside whole (header_of j.planned) below r is.found) in
    let make : CodedPicture → List ℕ → Picture → Made = λ x payload shown. record { coded = x; payload = payload; shown = shown } in
    record {
      same =
          ap (λ (x : CodedPicture). make x (payload_of t x) (rebuilt s whole x)) coded
          ∙ ap₂ (λ (l : List ℕ) (p : Picture). make (coded_onward d c) l p) (payload_same t d c range) (ap (λ x. x.picture) one.same);
      behind = one.behind;
      few = one.few;
      below = one.below;
    }

-- ---- all pictures

-- their payloads fit, and their numbers, moved on, are in range
pub record CanMove (t : Settings) (d : ℕ) (j : Job) (m : Made) : Type 0 where
  pub fits : Fits m.payload
  pub range : NumbersHave32Bits (header_behind d (header_of j.planned))

unfoldable pub AllCanMove : Settings → ℕ → List Picture → List Job → Type 0
AllCanMove t d refs [] = Unit {0}
AllCanMove t d refs (j ∷ jobs) = CanMove t d j (made t refs j) × AllCanMove t d (refs_after refs (made t refs j)) jobs

pub coded_behind_others : (jobs : List Job) (t : Settings) (d : ℕ) (inside whole : List Picture) → IsRestricted whole (map (picture_onward d) inside) → length whole ≤ 8 → AreBelow inside → AreMade t inside (coded_from t inside jobs)
    → AllCanMove t d inside jobs → coded_from t whole (map (job_onward d) jobs) ≡ map (made_onward d) (coded_from t inside jobs)
unfolding coded_under AllCanMove
coded_behind_others [] t d inside whole r few below all can = refl
coded_behind_others (j ∷ jobs) t d inside whole r few below all can =
    let m = made t inside j in
    let m' = made_onward d m in
    let one = made_same t d inside whole j r few below all.0 can.0.fits can.0.range in
    let rest = coded_behind_others jobs t d (refs_after inside m) (refs_after whole m') one.behind one.few one.below all.1 can.1 in
    ap (λ (x : Made). x ∷ coded_from t (refs_after whole x) (map (job_onward d) jobs)) one.same ∙ ap (λ (l : List Made). m' ∷ l) rest
