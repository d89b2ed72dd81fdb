-- Bands that are written apart are the same as those that are written behind others.
use Rattle.std.proofs.Common.{◌≡◌, ℕ, ◌+◌, ◌-◌, ◌%◌, ◌<◌, ◌≤◌, Bool, true, false, if◌then◌else◌, List, [], ◌∷◌, ◌++◌, length, take, Some, refl, sym, ap, ap₂, ◌∙◌, subst, arith, append_assoc, append-nil, length-append}
use Rattle.std.specs.Prelude.{replicate, slice_get, ℤ}
use Rattle.std.proofs.lemmas.List.{length-replicate, length-take-le, take_all}
use Rattle.dirac_common.specs.Bits.{bits_of}
use Rattle.dirac_common.specs.Numbers.{uint}
use Rattle.dirac_common.specs.declared.formats.Component.{Component}
use Rattle.dirac_common.specs.declared.formats.Component.TheVariants as component
use Rattle.dirac_bits.specs.Writing.{IsWhole, gap, up_to_byte}
use Rattle.dirac_bits.proofs.Bits.{length-bits_of}
use Rattle.dirac_bits.proofs.Runs.{bits_of-append}
use Rattle.dirac_sequence_header.specs.declared.sequence.Sequence.{Sequence}
use Rattle.dirac_sequence_header.specs.Lawful.{IsSequence}
use Rattle.dirac_sequence_header.specs.Sizes.{picture_height, plane_height, plane_width}
use Rattle.dirac_parameters.specs.declared.transform.Transform.{Transform}
use Rattle.dirac_header.specs.Written.{transform_bits}
use Rattle.dirac_coeffs.specs.declared.layout.BandLayout.{BandLayout}
use Rattle.dirac_coeffs.specs.declared.layout.CodedBand.{CodedBand}
use Rattle.dirac_coeffs.specs.Written.{block_of, is_zero_band, with_band, with_band_block}
use Rattle.dirac_picture.specs.declared.coded.CodedResidual.{CodedResidual}
use Rattle.dirac_picture.specs.Bands.{bands_of, layout_of, parent_values}
use Rattle.dirac_picture.specs.Fits.{AreBandsOf, IsLayout, IsPlaneSize}
use Rattle.dirac_picture.proofs.Chroma.{part_size}
use Rattle.dirac_picture.proofs.Lawful.{layout_lawful}
use Rattle.dirac_picture.specs.declared.texts.Texts.{Texts}
use Rattle.dirac_picture.proofs.Taken.{listed_at, taken_more}
use Rattle.dirac_picture.specs.Texts.{AreTexts, IsBandText, with_all_planes, text_before, text_of_plane}
use Rattle.dirac_picture.specs.Writable.{AreWritable, IsWritten}
use Rattle.dirac_picture.specs.Written.{with_bands, with_plane, with_planes, with_residual}

-- ---- bits up to a byte's end

whole_up : (bits : List Bool) → IsWhole (up_to_byte bits)
whole_up bits = omega (arith, length-append bits (gap bits), length-replicate ((8 - length bits % 8) % 8) false)

gap_behind : (old bits : List Bool) → IsWhole old → gap (old ++ bits) ≡ gap bits
gap_behind old bits whole =
    let same : (8 - length (old ++ bits) % 8) % 8 ≡ (8 - length bits % 8) % 8 = omega (arith, length-append old bits, whole) in
    ap (λ n. replicate n false) same

up_behind : (old bits : List Bool) → IsWhole old → up_to_byte (old ++ bits) ≡ old ++ up_to_byte bits
up_behind old bits whole = ap (λ g. (old ++ bits) ++ g) (gap_behind old bits whole) ∙ append_assoc old bits (gap bits)

up_whole : (bits : List Bool) → IsWhole bits → up_to_byte bits ≡ bits
up_whole bits whole =
    let none : (8 - length bits % 8) % 8 ≡ 0 = omega (arith, whole) in
    ap (λ n. bits ++ replicate n false) none ∙ append-nil bits

up_twice : (bits : List Bool) → up_to_byte (up_to_byte bits) ≡ up_to_byte bits
up_twice bits = up_whole (up_to_byte bits) (whole_up bits)

pub up_is_whole : (bits new : List Bool) → new ≡ up_to_byte bits → IsWhole new
up_is_whole bits new e = subst (λ (l : List Bool). IsWhole l) (sym e) (whole_up bits)

pub bytes_after : (old new : List Bool) (bytes : List ℕ) → IsWhole old → new ≡ old ++ bits_of bytes → IsWhole new
bytes_after old new bytes whole e =
    let len : length new ≡ length (old ++ bits_of bytes) = ap length e in
    omega (arith, len, length-append old (bits_of bytes), length-bits_of bytes, whole)

-- ---- bands behind whole bytes

block_behind : (index : ℕ) (block : List ℕ) (old bits : List Bool) → IsWhole old → with_band_block index block (old ++ bits) ≡ old ++ with_band_block index block bits
block_behind index block old bits whole =
    let fields : List Bool = (bits ++ uint (length block)) ++ uint index in
    let parts : ((old ++ bits) ++ uint (length block)) ++ uint index ≡ old ++ fields =
    ap (λ l. l ++ uint index) (append_assoc old bits (uint (length block))) ∙ append_assoc old (bits ++ uint (length block)) (uint index) in
    ap (λ l. up_to_byte l ++ bits_of block) parts ∙ ap (λ l. l ++ bits_of block) (up_behind old fields whole) ∙ append_assoc old (up_to_byte fields) (bits_of block)

either_behind : (b : Bool) (index : ℕ) (block : List ℕ) (old bits : List Bool) → IsWhole old
    → (if b then up_to_byte (old ++ bits) ++ uint 0 else with_band_block index block (up_to_byte (old ++ bits))) ≡ old ++ (if b then up_to_byte bits ++ uint 0 else with_band_block index block (up_to_byte bits))
either_behind true index block old bits whole = ap (λ l. l ++ uint 0) (up_behind old bits whole) ∙ append_assoc old (up_to_byte bits) (uint 0)
either_behind false index block old bits whole = ap (with_band_block index block) (up_behind old bits whole) ∙ block_behind index block old (up_to_byte bits) whole

band_behind : (layout : BandLayout) (parent : List ℤ) (b : CodedBand) (old bits : List Bool) → IsWhole old → with_band layout parent b (old ++ bits) ≡ old ++ with_band layout parent b bits
band_behind layout parent b old bits whole = either_behind (is_zero_band b.table.values) b.index (block_of layout parent b.index b.table.values b.indices) old bits whole

bands_behind : (t : Transform) (width height : ℕ) (before bands : List CodedBand) (old bits : List Bool) → IsWhole old → with_bands t width height before bands (old ++ bits) ≡ old ++ with_bands t width height before bands bits
bands_behind t width height before [] old bits whole = refl
bands_behind t width height before (b ∷ bands) old bits whole =
    let layout = layout_of t width height (length before) in
    ap (with_bands t width height (before ++ b ∷ []) bands) (band_behind layout (parent_values before) b old bits whole)
    ∙ bands_behind t width height (before ++ b ∷ []) bands old (with_band layout (parent_values before) b bits) whole

-- a band begins at a byte
band_from_byte : (layout : BandLayout) (parent : List ℤ) (b : CodedBand) (bits : List Bool) → with_band layout parent b (up_to_byte bits) ≡ with_band layout parent b bits
band_from_byte layout parent b bits =
    ap (λ l. if is_zero_band b.table.values then l ++ uint 0 else with_band_block b.index (block_of layout parent b.index b.table.values b.indices) l) (up_twice bits)

bands_from_byte : (t : Transform) (width height : ℕ) (bands : List CodedBand) (bits : List Bool) → 0 < length bands → with_plane t width height bands (up_to_byte bits) ≡ with_plane t width height bands bits
bands_from_byte t width height [] bits some = absurd (omega arith)
bands_from_byte t width height (b ∷ bands) bits some =
    ap (with_bands t width height (b ∷ []) bands) (band_from_byte (layout_of t width height 0) (parent_values []) b bits)

-- so a plane can be written apart
plane_apart : (t : Transform) (width height : ℕ) (bands : List CodedBand) (bits : List Bool) → 0 < length bands
    → up_to_byte (with_plane t width height bands bits) ≡ up_to_byte bits ++ up_to_byte (with_plane t width height bands [])
plane_apart t width height bands bits some =
    ap up_to_byte
    (sym (bands_from_byte t width height bands bits some) ∙ ap (with_plane t width height bands) (sym (append-nil (up_to_byte bits)))
    ∙ bands_behind t width height [] bands (up_to_byte bits) [] (whole_up bits))
    ∙ up_behind (up_to_byte bits) (with_plane t width height bands []) (whole_up bits)

-- and so can a band
band_apart : (layout : BandLayout) (parent : List ℤ) (b : CodedBand) (bits : List Bool) → up_to_byte (with_band layout parent b bits) ≡ up_to_byte bits ++ up_to_byte (with_band layout parent b [])
band_apart layout parent b bits =
    ap up_to_byte
    (sym (band_from_byte layout parent b bits) ∙ ap (with_band layout parent b) (sym (append-nil (up_to_byte bits)))
    ∙ band_behind layout parent b (up_to_byte bits) [] (whole_up bits))
    ∙ up_behind (up_to_byte bits) (with_band layout parent b []) (whole_up bits)

-- one band behind others
bands_and_one : (t : Transform) (width height : ℕ) (before bands : List CodedBand) (b : CodedBand) (bits : List Bool)
    → with_bands t width height before (bands ++ b ∷ []) bits ≡ with_band (layout_of t width height (length (before ++ bands))) (parent_values (before ++ bands)) b (with_bands t width height before bands bits)
bands_and_one t width height before [] b bits =
    ap (λ (l : List CodedBand). with_band (layout_of t width height (length l)) (parent_values l) b bits) (sym (append-nil before))
bands_and_one t width height before (x ∷ bands) b bits =
    let next = with_band (layout_of t width height (length before)) (parent_values before) x bits in
    bands_and_one t width height (before ++ x ∷ []) bands b next
    ∙ ap (λ (l : List CodedBand). with_band (layout_of t width height (length l)) (parent_values l) b (with_bands t width height (before ++ x ∷ []) bands next)) (append_assoc before (x ∷ []) bands)

-- one band more behind the first n
text_more : (t : Transform) (width height : ℕ) (bands : List CodedBand) (n : ℕ) (b : CodedBand) → n < length bands → slice_get bands n ≡ Some b
    → text_before t width height bands (n + 1) ≡ text_before t width height bands n ++ up_to_byte (with_band (layout_of t width height n) (parent_values (take n bands)) b [])
text_more t width height bands n b few is =
    let before = take n bands in
    let old = with_plane t width height before [] in
    let len : length before ≡ n = length-take-le n bands (omega arith) in
    ap (λ (l : List CodedBand). up_to_byte (with_plane t width height l [])) (taken_more bands n (n + 1) b refl is)
    ∙ ap up_to_byte (bands_and_one t width height [] before b [])
    ∙ ap (λ k. up_to_byte (with_band (layout_of t width height k) (parent_values before) b old)) len
    ∙ band_apart (layout_of t width height n) (parent_values before) b old

-- the bytes of bands, put one behind another, are those of the first bands of a plane
pub text_and_one : (t : Transform) (width height : ℕ) (bands : List CodedBand) (n : ℕ) (old one new : List ℕ) → n < length bands
    → bits_of old ≡ text_before t width height bands n → IsBandText t width height bands n (bits_of one) → new ≡ old ++ one
    → bits_of new ≡ text_before t width height bands (n + 1)
text_and_one t width height bands n old one new few so_far is all =
    let here = listed_at bands n few in
    ap bits_of all ∙ bits_of-append old one ∙ ap₂ (λ (x y : List Bool). x ++ y) so_far (is here.0 here.1)
    ∙ sym (text_more t width height bands n here.0 few here.1)

pub all_text : (t : Transform) (width height : ℕ) (bands : List CodedBand) (n : ℕ) → length bands ≤ n → text_before t width height bands n ≡ up_to_byte (with_plane t width height bands [])
all_text t width height bands n all = ap (λ (l : List CodedBand). up_to_byte (with_plane t width height l [])) (take_all n bands all)

-- ---- the planes of a residual

some_bands : (t : Transform) (width height : ℕ) (bands : List CodedBand) → AreBandsOf t width height bands → 0 < length bands
some_bands t width height bands is = omega (arith, is.count)

with_text : (s : Sequence) (r : CodedResidual) (o : Component) (bits before text : List Bool) → 0 < length (bands_of r o) → up_to_byte bits ≡ before → text ≡ text_of_plane s r o
    → up_to_byte (with_plane r.transform (plane_width s o) (plane_height s o) (bands_of r o) bits) ≡ before ++ text
with_text s r o bits before text some e f =
    plane_apart r.transform (plane_width s o) (plane_height s o) (bands_of r o) bits some ∙ ap₂ (λ (a b : List Bool). a ++ b) e (sym f)

planes_apart : (s : Sequence) (r : CodedResidual) (x : Texts) (bits : List Bool) → IsWritten s r → AreTexts s r x → up_to_byte (with_planes s r bits) ≡ with_all_planes bits (bits_of x.y.items) (bits_of x.u.items) (bits_of x.v.items)
planes_apart s r x bits is texts =
    let t = r.transform in
    let luma = with_plane t (plane_width s component.Y) (plane_height s component.Y) r.y bits in
    let both = with_plane t (plane_width s component.U) (plane_height s component.U) r.u luma in
    let y = up_to_byte bits ++ bits_of x.y.items in
    let u = y ++ bits_of x.u.items in
    let after_y : up_to_byte luma ≡ y = with_text s r component.Y bits (up_to_byte bits) (bits_of x.y.items) (some_bands t _ _ r.y is.lawful.y) refl texts.y in
    let after_u : up_to_byte both ≡ u = with_text s r component.U luma y (bits_of x.u.items) (some_bands t _ _ r.u is.lawful.u) after_y texts.u in
    with_text s r component.V both u (bits_of x.v.items) (some_bands t _ _ r.v is.lawful.v) after_u texts.v

pub residual_apart : (s : Sequence) (r : CodedResidual) (x : Texts) (old mid new : List Bool) → IsWritten s r → AreTexts s r x → mid ≡ old ++ transform_bits r.transform
    → new ≡ with_all_planes mid (bits_of x.y.items) (bits_of x.u.items) (bits_of x.v.items) → new ≡ up_to_byte (with_residual s r old)
residual_apart s r x old mid new is texts e f =
    f ∙ sym (planes_apart s r x mid is texts) ∙ ap (λ l. up_to_byte (with_planes s r l)) e

-- what is asked of the bands of one plane
pub text_asked : (s : Sequence) (r : CodedResidual) (o : Component) → IsSequence s → IsWritten s r
    → IsLayout r.transform × IsPlaneSize (plane_width s o) (plane_height s o) × AreBandsOf r.transform (plane_width s o) (plane_height s o) (bands_of r o) × AreWritable r.transform (plane_width s o) (plane_height s o) (bands_of r o)
text_asked s r o lawful is =
    let luma = part_size s component.Y lawful in
    let layout = layout_lawful s.width (picture_height s) r.transform luma.across.1 luma.down.1 is.lawful.transform in
    (layout, part_size s o lawful, bands_asked o, writable_asked o)
  where
    bands_asked : (o : Component) → AreBandsOf r.transform (plane_width s o) (plane_height s o) (bands_of r o)
    bands_asked component.Y = is.lawful.y
    bands_asked component.U = is.lawful.u
    bands_asked component.V = is.lawful.v

    writable_asked : (o : Component) → AreWritable r.transform (plane_width s o) (plane_height s o) (bands_of r o)
    writable_asked component.Y = is.y
    writable_asked component.U = is.u
    writable_asked component.V = is.v
