-- Rows of a picture's samples, from rows of its residual and of what is predicted; and where its parts begin.
use Rattle.std.proofs.Common.{◌≡◌, ℕ, ℤ, pos, ◌+◌, ◌-◌, ◌*◌, ◌/◌, ◌<◌, ◌≤◌, ◌+ℤ◌, ◌++◌, List, Option, None, Some, replicate, ap, ap₂, sym, ◌∙◌, arith, refl, length, drop}
use Rattle.std.proofs.Math.Nat.{div-mul-le_self, le_trans, mul-le-mul_left}
use Rattle.std.proofs.lemmas.List.{length-map, length-replicate, take_at}
use Rattle.std.proofs.lemmas.List.FromFn.{length-map-range_with_len}
use Rattle.std.proofs.lemmas.Nat.{div-mul-add, le-div}
use Rattle.std.proofs.lemmas.Simd.{length-zip2}
use Rattle.dirac_common.specs.declared.formats.Component.{Component}
use Rattle.dirac_common.specs.declared.formats.Component.TheVariants as component
use Rattle.dirac_common.specs.declared.formats.Kind.{Kind}
use Rattle.dirac_common.specs.declared.formats.Kind.TheVariants.{Intra as OfIntra, Inter as OfInter}
use Rattle.dirac_common.specs.declared.picture.Picture.{Picture}
use Rattle.dirac_common.specs.Samples.{clip}
use Rattle.dirac_common.specs.Table.{Table, filled, table_at, table_of, with_values}
use Rattle.dirac_sequence_header.specs.declared.sequence.Sequence.{Sequence}
use Rattle.dirac_sequence_header.specs.Lawful.{IsSequence}
use Rattle.dirac_obmc.specs.Compensation.{predicted_at}
use Rattle.dirac_synthesis.specs.Residual.{clipped, rows_between, summed_with, with_prediction}
use Rattle.dirac_picture.specs.declared.coded.CodedResidual.{CodedResidual}
use Rattle.dirac_picture.proofs.Chroma.{part_size}
use Rattle.dirac_rebuild.proofs.Residuals.{residual_size}
use Rattle.dirac_content.specs.Content.{compensation, height_of, residual_among, width_of}
use Rattle.dirac_slices.specs.declared.basis.Basis.{Basis}
use Rattle.dirac_slices.specs.declared.basis.Basis.TheVariants.{Intra as FromIntra, Inter as FromInter}
use Rattle.dirac_slices.specs.declared.intra.Intra.{Intra}
use Rattle.dirac_slices.specs.declared.filled.Parts.{Parts}
use Rattle.dirac_slices.specs.Basis.{planes_of, basis_sequence, IsBasis}
use Rattle.dirac_slices.specs.Given.{lent_inter, Lent, predicted_between}
use Rattle.dirac_slices.specs.Parts.{second_half_of, first_half_of, first_row_of_parts, part_values, room_in, end_row_of_parts, AreFilled, AreSomeParts, HaveRoom}
use Rattle.dirac_slices.specs.Places.{first_row}
use Rattle.dirac_slices.specs.Samples.{intra_planes, inter_planes, samples_between, values_between, FitPlanes, FitsPlane}
use Rattle.dirac_slices.proofs.Strips.{clip_strip, filled_length, from_first, sum_strip, room_joined, told, values_joined}

-- a plane is what its samples tell
plane_whole : (s : Sequence) (c : Component) (t : Table) → IsSequence s → FitsPlane s c t → table_of (width_of s c) (height_of s c) (table_at t) ≡ t
plane_whole s c t lawful fits = sym (told (table_at t) t (width_of s c) (height_of s c) fits.across fits.down (part_size s c lawful).across.0 fits.whole (λ x y p q. refl))

-- a residual has as many values as its plane
pub residual_length : (s : Sequence) (kind : Kind) (c : Component) (coded : Option CodedResidual) (t : Table) → t ≡ residual_among s kind c coded
    → length t.values ≡ width_of s c * height_of s c
unfolding filled
residual_length s kind c None t is = ap (λ (x : Table). length x.values) is ∙ length-replicate (width_of s c * height_of s c) (pos 0)
residual_length s kind c (Some r) t is = ap (λ (x : Table). length x.values) is ∙ length-map-range_with_len _ 0 (width_of s c * height_of s c)

-- the planes of an intra picture
pub intra_fit : (i : Intra) → FitPlanes i.sequence.now (intra_planes i)
intra_fit i c =
    let t = residual_among i.sequence.now OfIntra c i.residual.now in
    let size = residual_size i.sequence.now OfIntra c i.residual.now t refl in
    record {
      across = size.0;
      down = size.1;
      whole = length-map t.values clip ∙ residual_length i.sequence.now OfIntra c i.residual.now t refl;
    }

-- and of an inter picture
pub inter_fit : (g : Lent) → FitPlanes g.sequence (inter_planes g)
inter_fit g c =
    let t = residual_among g.sequence OfInter c g.residual in
    let size = residual_size g.sequence OfInter c g.residual t refl in
    let len = residual_length g.sequence OfInter c g.residual t refl in
    let f = predicted_at (compensation g.sequence g.motion g.first g.second c) in
    let ps = filled (width_of g.sequence c) (height_of g.sequence c) f in
    let alike : length t.values ≡ length ps = len ∙ sym (filled_length (width_of g.sequence c) (height_of g.sequence c) f) in
    record {
      across = size.0;
      down = size.1;
      whole = length-map (summed_with t.values ps) clip ∙ length-zip2 (λ (v : ℤ) (o : ℤ). v +ℤ o) t.values ps alike ∙ len;
    }

-- rows of a residual
pub strip_size : (s : Sequence) (kind : Kind) (c : Component) (coded : Option CodedResidual) (from to : ℕ) (rows : Table) → rows ≡ rows_between from to (residual_among s kind c coded)
    → (rows.width ≡ width_of s c) × (rows.height ≡ to - from) × (length rows.values ≡ width_of s c * (to - from))
strip_size s kind c coded from to rows is =
    let t = residual_among s kind c coded in
    let across : t.width ≡ width_of s c = (residual_size s kind c coded t refl).0 in (
      ap (λ (u : Table). u.width) is ∙ across,
      ap (λ (u : Table). u.height) is,
      ap (λ (u : Table). length u.values) is ∙ filled_length t.width (to - from) (λ x y. table_at t x (from + y)) ∙ ap (λ n. n * (to - from)) across,
    )

-- rows told by the size of their plane
strip_told : (s : Sequence) (kind : Kind) (c : Component) (coded : Option CodedResidual) (from to : ℕ) (rows : Table) → rows ≡ rows_between from to (residual_among s kind c coded)
    → rows ≡ table_of (width_of s c) (to - from) (λ x y. table_at (residual_among s kind c coded) x (from + y))
strip_told s kind c coded from to rows is =
    let t = residual_among s kind c coded in
    is ∙ ap (λ n. table_of n (to - from) (λ x y. table_at t x (from + y))) (residual_size s kind c coded t refl).0

-- rows of an intra picture
pub intra_between : (i : Intra) (c : Component) (rows out : Table) (from to : ℕ) → IsSequence i.sequence.now → from < to → to ≤ height_of i.sequence.now c
    → rows ≡ rows_between from to (residual_among i.sequence.now OfIntra c i.residual.now) → out ≡ clipped rows → out ≡ samples_between i.sequence.now (intra_planes i) c from to
intra_between i c rows out from to lawful some inside is made =
    let s = i.sequence.now in
    let t = residual_among s OfIntra c i.residual.now in
    made
    ∙ clip_strip t rows (width_of s c) (height_of s c) (to - from) from (part_size s c lawful).across.0 (omega arith)
    (residual_size s OfIntra c i.residual.now t refl).0 (residual_length s OfIntra c i.residual.now t refl) (strip_told s OfIntra c i.residual.now from to rows is)

-- and of an inter picture
pub inter_between : (g : Lent) (c : Component) (rows predicted out : Table) (from to : ℕ) → IsSequence g.sequence → from < to → to ≤ height_of g.sequence c
    → rows ≡ rows_between from to (residual_among g.sequence OfInter c g.residual) → predicted ≡ predicted_between g c from to → out ≡ clipped (with_prediction rows predicted.values)
    → out ≡ samples_between g.sequence (inter_planes g) c from to
inter_between g c rows predicted out from to lawful some inside is of made =
    let s = g.sequence in
    let t = residual_among s OfInter c g.residual in
    let f = predicted_at (compensation g.sequence g.motion g.first g.second c) in
    made
    ∙ sum_strip t rows f (filled (width_of s c) (height_of s c) f) predicted.values (width_of s c) (height_of s c) (to - from) from (part_size s c lawful).across.0 (omega arith)
    (residual_size s OfInter c g.residual t refl).0 (residual_length s OfInter c g.residual t refl) (strip_told s OfInter c g.residual from to rows is) refl (ap (λ (u : Table). u.values) of)

-- as many values are predicted for rows
pub predicted_length : (g : Lent) (c : Component) (predicted : Table) (from to : ℕ) → predicted ≡ predicted_between g c from to → length predicted.values ≡ width_of g.sequence c * (to - from)
predicted_length g c predicted from to is =
    ap (λ (t : Table). length t.values) is
    ∙ filled_length (width_of g.sequence c) (to - from) (λ x y. predicted_at (compensation g.sequence g.motion g.first g.second c) x (from + y))

-- the first rows of parts stand in order
pub rows_grow : (h all n m : ℕ) → 0 < all → n ≤ m → first_row h all n ≤ first_row h all m
unfolding first_row
rows_grow h all n m some l = le-div (h * n / all) (h * m) all some (le_trans (div-mul-le_self (h * n) all) (mul-le-mul_left h l))

-- no part begins before the first row, and the last one ends with the last row
pub rows_begin : (h all : ℕ) → 0 < all → first_row h all 0 ≡ 0
unfolding first_row
rows_begin h all some = let none : h * 0 ≡ 0 * all + 0 = omega arith in ap (λ n. n / all) none ∙ div-mul-add 0 all 0 some

pub rows_end : (h all : ℕ) → 0 < all → first_row h all all ≡ h
unfolding first_row
rows_end h all some = let whole : h * all ≡ h * all + 0 = omega arith in ap (λ n. n / all) whole ∙ div-mul-add h all 0 some

pub rows_inside : (h all n : ℕ) → 0 < all → n ≤ all → first_row h all n ≤ h
rows_inside h all n some l = let at_most : first_row h all n ≤ first_row h all all = rows_grow h all n all some l in omega (arith, at_most, rows_end h all some)

-- the rows of the halves stand in order
rows_halve : (h : ℕ) (p : Parts) → AreSomeParts p → (first_row h p.all p.first ≤ first_row h p.all (first_half_of p).end) × (first_row h p.all (first_half_of p).end ≤ first_row h p.all p.end)
rows_halve h p are =
    let some = are.some in let inside = are.inside in
    let all : 0 < p.all = omega arith in
    (rows_grow h p.all p.first (first_half_of p).end all (omega arith), rows_grow h p.all (first_half_of p).end p.end all (omega arith))

-- the halves have as much room together
pub room_halved : (s : Sequence) (p : Parts) (c : Component) → AreSomeParts p → room_in s (first_half_of p) c + room_in s (second_half_of p) c ≡ room_in s p c
unfolding room_in
room_halved s p c are =
    let h = height_of s c in
    let order = rows_halve h p are in
    room_joined (width_of s c) (first_row h p.all p.first) (first_row h p.all (first_half_of p).end) (first_row h p.all p.end) order.0 order.1

-- as many values stand in parts as in their rows
pub room_of_rows : (s : Sequence) (p : Parts) (c : Component) (from to n : ℕ) → from ≡ first_row_of_parts s p c → to ≡ end_row_of_parts s p c → n ≡ width_of s c * (to - from) → n ≡ room_in s p c
unfolding room_in
room_of_rows s p c from to n ef et e = e ∙ ap₂ (λ a b. width_of s c * (b - a)) ef et

pub rows_of_room : (s : Sequence) (p : Parts) (c : Component) (from to n : ℕ) → from ≡ first_row_of_parts s p c → to ≡ end_row_of_parts s p c → n ≡ room_in s p c → n ≡ width_of s c * (to - from)
unfolding room_in
rows_of_room s p c from to n ef et e = e ∙ sym (ap₂ (λ a b. width_of s c * (b - a)) ef et)

pub part_of_rows : (s : Sequence) (planes : Component → Table) (p : Parts) (c : Component) (from to : ℕ) (xs : List ℤ) → from ≡ first_row_of_parts s p c → to ≡ end_row_of_parts s p c
    → xs ≡ values_between s planes c from to → xs ≡ part_values s planes p c
unfolding part_values
part_of_rows s planes p c from to xs ef et e = e ∙ ap₂ (λ a b. values_between s planes c a b) ef et

-- and hold together what all parts hold
part_joined : (s : Sequence) (planes : Component → Table) (p : Parts) (c : Component) → IsSequence s → AreSomeParts p
    → part_values s planes (first_half_of p) c ++ part_values s planes (second_half_of p) c ≡ part_values s planes p c
unfolding part_values
part_joined s planes p c lawful are =
    let h = height_of s c in
    let order = rows_halve h p are in
    values_joined (table_at (planes c)) (width_of s c) (first_row h p.all p.first) (first_row h p.all (first_half_of p).end) (first_row h p.all p.end) (part_size s c lawful).across.0 order.0 order.1

pub filled_halves : (s : Sequence) (planes : Component → Table) (p : Parts) (ys us vs ys' us' vs' : List ℤ) → IsSequence s → AreSomeParts p
    → AreFilled s planes (first_half_of p) ys us vs → AreFilled s planes (second_half_of p) ys' us' vs' → AreFilled s planes p (ys ++ ys') (us ++ us') (vs ++ vs')
filled_halves s planes p ys us vs ys' us' vs' lawful are front back = record {
  y = ap₂ ◌++◌ front.y back.y ∙ part_joined s planes p component.Y lawful are;
  u = ap₂ ◌++◌ front.u back.u ∙ part_joined s planes p component.U lawful are;
  v = ap₂ ◌++◌ front.v back.v ∙ part_joined s planes p component.V lawful are;
}

-- a plane that all parts were written to
plane_written : (s : Sequence) (planes : Component → Table) (c : Component) (all : ℕ) (t : Table) (ws : List ℤ) → IsSequence s → FitsPlane s c (planes c) → FitsPlane s c t → 0 < all
    → ws ≡ part_values s planes (record { first = 0; end = all; all = all }) c → record { width = t.width; height = t.height; values = ws } ≡ planes c
unfolding part_values
plane_written s planes c all t ws lawful fits room some written =
    let w = width_of s c in
    let h = height_of s c in
    let whole : ws ≡ filled w h (table_at (planes c)) = written
    ∙ ap (λ n. values_between s planes c n (first_row h all all)) (rows_begin h all some)
    ∙ ap (λ n. values_between s planes c 0 n) (rows_end h all some)
    ∙ from_first (table_at (planes c)) w h (part_size s c lawful).across.0 in
    ap (λ (vs : List ℤ). record { width = t.width; height = t.height; values = vs }) whole
    ∙ ap (λ n. record { width = n; height = t.height; values = filled w h (table_at (planes c)) }) room.across
    ∙ ap (λ n. record { width = w; height = n; values = filled w h (table_at (planes c)) }) room.down
    ∙ plane_whole s c (planes c) lawful fits

-- what a picture is made from has a lawful sequence, and its planes have their sizes
pub basis_lawful : (b : Basis) → IsBasis b → IsSequence (basis_sequence b)
basis_lawful (FromIntra i) is = is.0.sequence
basis_lawful (FromInter i) is = is.0.sequence

pub basis_fit : (b : Basis) → FitPlanes (basis_sequence b) (planes_of b)
basis_fit (FromIntra i) = intra_fit i.intra.now
basis_fit (FromInter i) = inter_fit (lent_inter i.inter.now)

-- and there is room for all parts in planes of the right sizes
room_whole : (s : Sequence) (c : Component) (all : ℕ) (t : Table) → 0 < all → FitsPlane s c t → length t.values ≡ room_in s (record { first = 0; end = all; all = all }) c
unfolding room_in
room_whole s c all t some fits =
    let begins = rows_begin (height_of s c) all some in
    let ends = rows_end (height_of s c) all some in
    let rows : first_row (height_of s c) all all - first_row (height_of s c) all 0 ≡ height_of s c = omega (arith, begins, ends) in
    fits.whole ∙ sym (ap (λ n. width_of s c * n) rows)

pub have_room : (s : Sequence) (all : ℕ) (y u v : Table) → 0 < all → FitsPlane s component.Y y → FitsPlane s component.U u → FitsPlane s component.V v
    → HaveRoom s (record { first = 0; end = all; all = all }) y.values u.values v.values
have_room s all y u v some fy fu fv = record {
  y = room_whole s component.Y all y some fy;
  u = room_whole s component.U all u some fu;
  v = room_whole s component.V all v some fv;
}

-- a plane whose samples are all written
plane_whole_of : (s : Sequence) (planes : Component → Table) (c : Component) (all : ℕ) (t : Table) (ws : List ℤ) → IsSequence s → FitsPlane s c (planes c) → FitsPlane s c t → 0 < all
    → ws ≡ part_values s planes (record { first = 0; end = all; all = all }) c → with_values t ws ≡ planes c
plane_whole_of s planes c all t ws lawful fits room some is =
    let whole = plane_written s planes c all t ws lawful fits room some is in
    let long : length ws ≡ length t.values = ap (λ (u : Table). length u.values) whole ∙ fits.whole ∙ sym room.whole in
    ap (λ (vs : List ℤ). record { width = t.width; height = t.height; values = vs }) (take_at ws (drop (length ws) t.values) (length t.values) long) ∙ whole

-- the planes of a picture
pub planes_written : (b : Basis) (all : ℕ) (y u v : Table) (ys us vs : List ℤ) → IsBasis b → 0 < all
    → FitsPlane (basis_sequence b) component.Y y → FitsPlane (basis_sequence b) component.U u → FitsPlane (basis_sequence b) component.V v
    → AreFilled (basis_sequence b) (planes_of b) (record { first = 0; end = all; all = all }) ys us vs
    → (with_values y ys ≡ planes_of b component.Y) × (with_values u us ≡ planes_of b component.U) × (with_values v vs ≡ planes_of b component.V)
planes_written b all y u v ys us vs is some fy fu fv full =
    let s = basis_sequence b in
    let lawful = basis_lawful b is in
    let fit = basis_fit b in (
      plane_whole_of s (planes_of b) component.Y all y ys lawful (fit component.Y) fy some full.y,
      plane_whole_of s (planes_of b) component.U all u us lawful (fit component.U) fu some full.u,
      plane_whole_of s (planes_of b) component.V all v vs lawful (fit component.V) fv some full.v,
    )

-- as many values stand in rows
pub samples_long : (s : Sequence) (planes : Component → Table) (c : Component) (from to : ℕ) (t : Table) → t ≡ samples_between s planes c from to → length t.values ≡ width_of s c * (to - from)
samples_long s planes c from to t is = ap (λ (u : Table). length u.values) is ∙ filled_length (width_of s c) (to - from) (λ x y. table_at (planes c) x (from + y))

-- room for a plane
pub room_made : (s : Sequence) (c : Component) (w h : ℕ) (t : Table) → w ≡ width_of s c → h ≡ height_of s c → t ≡ record { width = w; height = h; values = replicate (w * h) (pos 0) } → FitsPlane s c t
room_made s c w h t ew eh is = record {
  across = ap (λ (u : Table). u.width) is ∙ ew;
  down = ap (λ (u : Table). u.height) is ∙ eh;
  whole = ap (λ (u : Table). length u.values) is ∙ length-replicate (w * h) (pos 0) ∙ ap₂ (λ a b. a * b) ew eh;
}

-- the rows of a plane by other names
pub height_is : (s r : Sequence) (c d : Component) (h : ℕ) → h ≡ height_of r d → r ≡ s → d ≡ c → h ≡ height_of s c
height_is s r c d h e es ed = e ∙ ap₂ height_of es ed

-- a picture by its planes
abbrev pub picture_from : ℕ → Table → Table → Table → Picture
picture_from n y u v = record { number = n; y = y; u = u; v = v }

pub same_picture : (n : ℕ) (y y' u u' v v' : Table) → y ≡ y' → u ≡ u' → v ≡ v' → picture_from n y u v ≡ picture_from n y' u' v'
same_picture n y y' u u' v v' ey eu ev = ap (λ a. picture_from n a u v) ey ∙ ap (λ b. picture_from n y' b v) eu ∙ ap (λ d. picture_from n y' u' d) ev
