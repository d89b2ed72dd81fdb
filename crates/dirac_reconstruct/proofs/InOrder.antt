-- The parts of a picture in their order.
use Rattle.std.proofs.Common.{◌≡◌, true, false, ℕ, ◌+◌, ◌-◌, ◌*◌, ◌<◌, ◌≤◌, List, [], ◌++◌, length, take, Option, None, Some, refl, sym, ap, ◌∙◌, subst, arith}
use Rattle.std.proofs.lemmas.List.{get_or-take, length-take-le, take-take}
use Rattle.std.proofs.lemmas.Option.{same_Some}
use Rattle.std.specs.Prelude.{IfSome, IsSome, slice_index_or}
use Rattle.dirac_common.specs.Table.{Table}
use Rattle.dirac_common.specs.Bits.{bits_of}
use Rattle.dirac_common.specs.declared.formats.Component.{Component}
use Rattle.dirac_common.specs.declared.formats.Component.TheVariants as component
use Rattle.dirac_sequence_header.specs.declared.sequence.Sequence.{Sequence}
use Rattle.dirac_sequence_header.specs.Sizes.{plane_height, plane_width}
use Rattle.dirac_picture.specs.declared.coded.CodedResidual.{CodedResidual}
use Rattle.dirac_picture.specs.Bands.{band_count, bands_of}
use Rattle.dirac_picture.specs.declared.texts.Texts.{Texts}
use Rattle.dirac_picture.specs.Texts.{AreTexts, IsTextOf, text_before, text_of_plane}
use Rattle.dirac_picture.specs.Writable.{IsWritten}
use Rattle.dirac_picture.proofs.Apart.{all_text, text_and_one}
use Rattle.dirac_content.specs.Content.{plane_samples}
use Rattle.dirac_rows.specs.Answers.{AnswerRows}
use Rattle.dirac_reconstruct.specs.declared.parts.Part.{Part}
use Rattle.dirac_reconstruct.specs.declared.showing.Finishing.{Finishing}
use Rattle.dirac_reconstruct.specs.Finishing.{IsFinishable}
use Rattle.dirac_reconstruct.specs.Parts.{bands_each, bands_per_plane, ArePartsOf, EndsWithTexts, HasAllText, HasSamples, HasText, HasTextBefore, IsPartOfPlane, IsPartAt}

-- how many bands a plane of a written residual has
counted : (s : Sequence) (r : CodedResidual) (o : Component) → IsWritten s r → length (bands_of r o) ≡ band_count r.transform.depth
counted s r component.Y is = is.lawful.y.count
counted s r component.U is = is.lawful.u.count
counted s r component.V is = is.lawful.v.count

-- ---- the bytes of a plane

one_more : (s : Sequence) (o : Option CodedResidual) (component : Component) (n : ℕ) (old one new : List ℕ) → IfSome o (IsWritten s) → n < bands_each o
    → IfSome o (λ r. bits_of old ≡ text_before r.transform (plane_width s component) (plane_height s component) (bands_of r component) n)
    → IfSome o (λ r. IsTextOf s r component n (bits_of one)) → new ≡ old ++ one
    → IfSome o (λ r. bits_of new ≡ text_before r.transform (plane_width s component) (plane_height s component) (bands_of r component) (n + 1))
one_more s None component n old one new written few so_far is all = tt
one_more s (Some r) component n old one new written few so_far is all =
    text_and_one r.transform (plane_width s component) (plane_height s component) (bands_of r component) n old one new
    (let c = counted s r component written in omega (arith, c, few)) so_far is all

pub text_more : (f : Finishing) (component : Component) (n : ℕ) (old one new : List ℕ) → IfSome f.coded.now.residual (IsWritten f.sequence.now) → n < bands_per_plane f
    → HasTextBefore f component n old → IfSome f.coded.now.residual (λ r. IsTextOf f.sequence.now r component n (bits_of one)) → new ≡ old ++ one → HasTextBefore f component (n + 1) new
text_more f component n old one new written few so_far is all = one_more f.sequence.now f.coded.now.residual component n old one new written few so_far is all

all_of : (s : Sequence) (o : Option CodedResidual) (component : Component) (n : ℕ) (bytes : List ℕ) → IfSome o (IsWritten s) → bands_each o ≤ n
    → IfSome o (λ r. bits_of bytes ≡ text_before r.transform (plane_width s component) (plane_height s component) (bands_of r component) n)
    → IfSome o (λ r. bits_of bytes ≡ text_of_plane s r component)
all_of s None component n bytes written all is = tt
all_of s (Some r) component n bytes written all is =
    is ∙ all_text r.transform (plane_width s component) (plane_height s component) (bands_of r component) n (let c = counted s r component written in omega (arith, c, all))

pub text_whole : (f : Finishing) (component : Component) (n : ℕ) (bytes : List ℕ) → IfSome f.coded.now.residual (IsWritten f.sequence.now) → bands_per_plane f ≤ n → HasTextBefore f component n bytes
    → HasAllText f component bytes
text_whole f component n bytes written all is = all_of f.sequence.now f.coded.now.residual component n bytes written all is

no_bytes : (s : Sequence) (o : Option CodedResidual) (component : Component)
    → IfSome o (λ r. bits_of [] ≡ text_before r.transform (plane_width s component) (plane_height s component) (bands_of r component) 0)
no_bytes s None component = tt
no_bytes s (Some r) component = refl

pub text_none : (f : Finishing) (component : Component) (bytes : List ℕ) → bytes ≡ [] → HasTextBefore f component 0 bytes
text_none f component bytes none =
    subst (λ (l : List ℕ). HasTextBefore f component 0 l) (sym none) (no_bytes f.sequence.now f.coded.now.residual component)

-- ---- the parts at the end of a list

-- the last of the first m
pub last_taken : {X : Type 0} (xs ys : List X) (m : ℕ) (d x : X) → m ≤ length xs → 0 < m → ys ≡ take m xs → x ≡ slice_index_or ys (length ys - 1) d → x ≡ slice_index_or xs (m - 1) d
last_taken {X = X} xs ys m d x few some e is =
    let len : length ys ≡ m = ap length e ∙ length-take-le m xs few in
    is ∙ ap (λ k. slice_index_or ys (k - 1) d) len ∙ ap (λ (l : List X). slice_index_or l (m - 1) d) e ∙ get_or-take m xs (m - 1) d (omega (arith, some))

pub but_last : {X : Type 0} (xs ys zs : List X) (m k : ℕ) → m ≤ length xs → ys ≡ take m xs → zs ≡ take (length ys - 1) ys → k ≡ m - 1 → zs ≡ take k xs
but_last {X = X} xs ys zs m k few e f g =
    let len : length ys ≡ m = ap length e ∙ length-take-le m xs few in
    f ∙ ap (λ i. take (i - 1) ys) len ∙ ap (λ (l : List X). take (m - 1) l) e ∙ take-take (m - 1) m xs (omega arith) ∙ ap (λ i. take i xs) (sym g)

-- one band more
pub taken_text : (f : Finishing) (o : Component) (xs ys : List Part) (n : ℕ) (part : Part) (old new : List ℕ) → IsFinishable f → bands_per_plane f < length xs → n < bands_per_plane f
    → ys ≡ take (length xs - n) xs → ((d : Part) → part ≡ slice_index_or ys (length ys - 1) d) → EndsWithTexts f o xs → HasTextBefore f o n old → new ≡ old ++ part.text.items
    → HasTextBefore f o (n + 1) new
taken_text f o xs ys n part old new can few below so_far last ends is all =
    let place : length xs - n - 1 ≡ length xs - 1 - n = omega arith in
    let here : part ≡ slice_index_or xs (length xs - 1 - n) part =
    last_taken xs ys (length xs - n) part part (omega arith) (omega (arith, few, below)) so_far (last part) ∙ ap (λ i. slice_index_or xs i part) place in
    text_more f o n old part.text.items new can.written below is (subst (λ (x : Part). HasText f o n x) (sym here) (ends n part below)) all

-- the parts of a plane end with its bands
pub ends_with_texts : (f : Finishing) (o : Component) (parts : List Part) → bands_per_plane f < length parts → ArePartsOf f o (length parts - bands_per_plane f - 1) parts → EndsWithTexts f o parts
ends_with_texts f o parts few are n d l =
    let k : ℕ = bands_per_plane f - n in
    let place : length parts - bands_per_plane f - 1 + k ≡ length parts - 1 - n = omega (arith, few, l) in
    let together : k + n ≡ bands_per_plane f = omega (arith, l) in
    subst (λ i. HasText f o n (slice_index_or parts i d)) place ((are k d (omega arith)).text n l together)

-- ---- the parts of the planes

parts_from : (f : Finishing) (o : Component) (xs ys : List Part) (base m : ℕ) → ys ≡ take m xs → base + bands_per_plane f < m → ArePartsOf f o base xs → ArePartsOf f o base ys
parts_from f o xs ys base m e few are k d l =
    subst (λ (x : Part). IsPartOfPlane f o k x)
    (sym (ap (λ (ls : List Part). slice_index_or ls (base + k) d) e ∙ get_or-take m xs (base + k) d (omega (arith, few, l)))) (are k d l)

pub parts_of_v : (f : Finishing) (xs : List Part) → AnswerRows (IsPartAt f) (3 * (bands_per_plane f + 1)) xs → ArePartsOf f component.V (length xs - bands_per_plane f - 1) xs
parts_of_v f xs are k d l =
    let base : length xs - bands_per_plane f - 1 ≡ 2 * (bands_per_plane f + 1) = let c = are.0 in omega (arith, c) in
    let row = length xs - bands_per_plane f - 1 + k in
    (are.1 row d (omega (arith, base, l))).v k l (omega (arith, base))

all_of_u : (f : Finishing) (xs : List Part) → AnswerRows (IsPartAt f) (3 * (bands_per_plane f + 1)) xs → ArePartsOf f component.U (bands_per_plane f + 1) xs
all_of_u f xs are k d l = (are.1 (bands_per_plane f + 1 + k) d (omega (arith, l))).u k l refl

all_of_y : (f : Finishing) (xs : List Part) → AnswerRows (IsPartAt f) (3 * (bands_per_plane f + 1)) xs → ArePartsOf f component.Y 0 xs
all_of_y f xs are k d l = (are.1 (0 + k) d (omega (arith, l))).y k l (omega arith)

pub count_of_u : (f : Finishing) (xs ys : List Part) → AnswerRows (IsPartAt f) (3 * (bands_per_plane f + 1)) xs → ys ≡ take (length xs - bands_per_plane f - 1) xs → length ys ≡ 2 * (bands_per_plane f + 1)
count_of_u f xs ys are e =
    let c = are.0 in
    let len = ap length e ∙ length-take-le (length xs - bands_per_plane f - 1) xs (omega arith) in
    len ∙ (let base : length xs - bands_per_plane f - 1 ≡ 2 * (bands_per_plane f + 1) = omega (arith, c) in base)

pub parts_of_u : (f : Finishing) (xs ys : List Part) → AnswerRows (IsPartAt f) (3 * (bands_per_plane f + 1)) xs → ys ≡ take (length xs - bands_per_plane f - 1) xs → ArePartsOf f component.U (length ys - bands_per_plane f - 1) ys
parts_of_u f xs ys are e =
    let count = are.0 in
    let c = count_of_u f xs ys are e in
    let base : length ys - bands_per_plane f - 1 ≡ bands_per_plane f + 1 = omega (arith, c) in
    subst (λ i. ArePartsOf f component.U i ys) (sym base)
    (parts_from f component.U xs ys (bands_per_plane f + 1) (length xs - bands_per_plane f - 1) e (omega (arith, count)) (all_of_u f xs are))

pub parts_of_y : (f : Finishing) (xs ys zs : List Part) → AnswerRows (IsPartAt f) (3 * (bands_per_plane f + 1)) xs → ys ≡ take (length xs - bands_per_plane f - 1) xs → zs ≡ take (length ys - bands_per_plane f - 1) ys
    → ArePartsOf f component.Y (length zs - bands_per_plane f - 1) zs
parts_of_y f xs ys zs are e g =
    let count = are.0 in
    let c = count_of_u f xs ys are e in
    let len = ap length g ∙ length-take-le (length ys - bands_per_plane f - 1) ys (omega arith) in
    let base : length zs - bands_per_plane f - 1 ≡ 0 = omega (arith, c, len) in
    subst (λ i. ArePartsOf f component.Y i zs) (sym base)
    (parts_from f component.Y ys zs 0 (length ys - bands_per_plane f - 1) g (omega (arith, c))
    (parts_from f component.Y xs ys 0 (length xs - bands_per_plane f - 1) e (omega (arith, count)) (all_of_y f xs are)))

-- the first part of a plane has its samples
pub samples_at : (f : Finishing) (o : Component) (parts : List Part) (base : ℕ) (d : Part) → ArePartsOf f o base parts → IsSome (slice_index_or parts base d).shown
samples_at f o parts base d are =
    let here : base + 0 ≡ base = omega arith in
    subst (λ i. IsSome (slice_index_or parts i d).shown) here (subst (λ (x : Option Table). IsSome x) (sym ((are 0 d (omega arith)).shown refl)) refl)

-- there it is, then
pub some_at_end : (f : Finishing) (xs ys : List Part) (part : Part) → bands_per_plane f < length xs → ys ≡ take (length xs - bands_per_plane f) xs → ((d : Part) → part ≡ slice_index_or ys (length ys - 1) d)
    → ((d : Part) → IsSome (slice_index_or xs (length xs - bands_per_plane f - 1) d).shown) → part.shown ≡ None → ⊥
some_at_end f xs ys part few rest last some none =
    let here : part ≡ slice_index_or xs (length xs - bands_per_plane f - 1) part = last_taken xs ys (length xs - bands_per_plane f) part part (omega arith) (omega (arith, few)) rest (last part) in
    let is : IsSome part.shown = subst (λ (x : Part). IsSome x.shown) (sym here) (some part) in
    let never : false ≡ true = subst (λ (o : Option Table). IsSome o) none is in
    cc

-- what is taken of a plane
pub plane_taken : (f : Finishing) (o : Component) (xs ys : List Part) (part : Part) (text : List ℕ) (shown : Table) → bands_per_plane f < length xs → ys ≡ take (length xs - bands_per_plane f) xs
    → ((d : Part) → part ≡ slice_index_or ys (length ys - 1) d) → ArePartsOf f o (length xs - bands_per_plane f - 1) xs → HasAllText f o text → part.shown ≡ Some shown
    → HasAllText f o text × (shown ≡ plane_samples f.sequence.now f.refs.now f.coded.now o)
plane_taken f o xs ys part text shown few rest last are whole is =
    let here : part ≡ slice_index_or xs (length xs - bands_per_plane f - 1) part = last_taken xs ys (length xs - bands_per_plane f) part part (omega arith) (omega (arith, few)) rest (last part) in
    let place : length xs - bands_per_plane f - 1 + 0 ≡ length xs - bands_per_plane f - 1 = omega arith in
    let there : HasSamples f o (slice_index_or xs (length xs - bands_per_plane f - 1) part) =
    subst (λ i. HasSamples f o (slice_index_or xs i part)) place ((are 0 part (omega arith)).shown refl) in
    let samples : HasSamples f o part = subst (λ (x : Part). HasSamples f o x) (sym here) there in
    (whole, same_Some shown (plane_samples f.sequence.now f.refs.now f.coded.now o) (sym is ∙ samples))

pub count_of_y : (f : Finishing) (xs ys zs : List Part) → AnswerRows (IsPartAt f) (3 * (bands_per_plane f + 1)) xs → ys ≡ take (length xs - bands_per_plane f - 1) xs → zs ≡ take (length ys - bands_per_plane f - 1) ys
    → length zs ≡ bands_per_plane f + 1
count_of_y f xs ys zs are e g =
    let c = count_of_u f xs ys are e in
    let len = ap length g ∙ length-take-le (length ys - bands_per_plane f - 1) ys (omega arith) in
    omega (arith, c, len)

-- the bytes of all planes
pub texts_together : (f : Finishing) (x : Texts) → HasAllText f component.Y x.y.items → HasAllText f component.U x.u.items → HasAllText f component.V x.v.items
    → IfSome f.coded.now.residual (λ r. AreTexts f.sequence.now r x)
texts_together f x y u v = together f.sequence.now f.coded.now.residual y u v
  where
    together : (s : Sequence) (o : Option CodedResidual) → IfSome o (λ r. bits_of x.y.items ≡ text_of_plane s r component.Y) → IfSome o (λ r. bits_of x.u.items ≡ text_of_plane s r component.U)
        → IfSome o (λ r. bits_of x.v.items ≡ text_of_plane s r component.V) → IfSome o (λ r. AreTexts s r x)
    together s None y u v = tt
    together s (Some r) y u v = record { y = y; u = u; v = v }
