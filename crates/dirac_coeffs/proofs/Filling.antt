-- What spells the values of a codeblock: each value is put behind those that its contexts are read off, so the contexts of
-- the values so far are those of the finished ones.
use Rattle.std.proofs.Common.{◌≡◌, ℕ, zero, suc, ℤ, pos, ◌+◌, ◌-◌, ◌*◌, ◌^◌, ◌<◌, ◌≤◌, List, [], ◌++◌, length, set, unsigned_abs, refl, sym, ap, ap₂, ◌∙◌, subst, arith, append-nil}
use Rattle.std.proofs.lemmas.List.{get_or-set_same}
use Rattle.std.proofs.lemmas.List.Elements.{All-set}
use Rattle.dirac_arith.specs.Coded.{Coded, DecisionsSpell, repeated}
use Rattle.dirac_arith.specs.Interval.{Decision}
use Rattle.dirac_bands.specs.Geometry.{edge_of}
use Rattle.dirac_coeffs.specs.declared.layout.BandLayout.{BandLayout}
use Rattle.dirac_coeffs.specs.BandRead.{value_step, row_step, rows_step, filled_step}
use Rattle.dirac_coeffs.specs.Carried.{AreSmall}
use Rattle.dirac_coeffs.specs.Contexts.{band_value}
use Rattle.dirac_coeffs.specs.Decisions.{Frame, frame_of, value_part, row_part, rows_part}
use Rattle.dirac_coeffs.specs.Layouts.{IsBandLayout, codeblock_extent}
use Rattle.dirac_coeffs.proofs.Agreement.{value_here, value_contexts, row_same, rows_same}
use Rattle.dirac_coeffs.proofs.Edges.{rows_inside, span_end, span_inside}
use Rattle.dirac_coeffs.proofs.Places.{KeptOutside, SameWithin}
use Rattle.dirac_coeffs.proofs.Steps.{then_told, then_tells}
use Rattle.dirac_coeffs.proofs.Within.{kept_refl, kept_join, kept_above, kept_left, set_kept, same_less, same_more}

-- a place of the list
inside_place : (w h x y len : ℕ) → x < w → y < h → len ≡ w * h → y * w + x < len
inside_place w h x y len p q e = omega (arith, rows_inside (y + 1) w h len (omega arith) e)

-- ---- what is spelled are values, and their decisions

-- values that are changed in these columns and rows alone, by the decisions that they tell
pub record Fills (w left right top bottom : ℕ) (xs zs : List ℤ) (part : List ℤ → List Decision) (ds : List Decision) : Type 0 where
  pub kept : KeptOutside w left right top bottom xs zs
  pub small : AreSmall xs → AreSmall zs
  pub is : ds ≡ part zs

-- one part behind another
fills_join : {w left right top bottom l r t b l' r' t' b' : ℕ} {xs ys zs : List ℤ} {p q : List ℤ → List Decision} {ds es all : List Decision}
    → (left ≤ l) × (r ≤ right) × (top ≤ t) × (b ≤ bottom)
    → (left ≤ l') × (r' ≤ right) × (top ≤ t') × (b' ≤ bottom)
    → all ≡ ds ++ es → p ys ≡ p zs → Fills w l r t b xs ys p ds → Fills w l' r' t' b' ys zs q es → Fills w left right top bottom xs zs (λ vs. p vs ++ q vs) all
fills_join h h' e same first second =
    record {
      kept = kept_join h h' first.kept second.kept;
      small = λ all. second.small (first.small all);
      is = e ∙ ap₂ (λ (a b : List Decision). a ++ b) (first.is ∙ same) second.is;
    }

-- a value among its neighbours, once it is stored
value_stored : (f : Frame) (xs : List ℤ) (x y : ℕ) (v : ℤ) → x < f.width → y * f.width + x < length xs
    → value_here f xs x y v ≡ value_part f (set xs (y * f.width + x) v) x y
value_stored f xs x y v h inside =
    let w = f.width in
    let ys = set xs (y * w + x) v in
    let k = set_kept w xs x y v h in
    let here : v ≡ band_value w ys x y = sym (get_or-set_same xs (y * w + x) v (pos 0) inside) in
    ap (λ z. value_here f xs x y z) here ∙ sym (value_contexts f xs ys x y h (kept_left (omega arith) k) (kept_above (omega arith) k))

value_told : (f : Frame) (xs zs : List ℤ) (x y : ℕ) (ds : List Decision) → x < f.width → y * f.width + x < length xs → DecisionsSpell (value_step f x y xs) zs ds
    → Fills f.width x (x + 1) y (y + 1) xs zs (λ vs. value_part f vs x y) ds
unfolding value_step
value_told f xs zs x y ds h inside spells =
    let v = spells.0 in
    subst (λ (vs : List ℤ). Fills f.width x (x + 1) y (y + 1) xs vs (λ us. value_part f us x y) ds) spells.4.0 (
    record {
      kept = set_kept f.width xs x y v h;
      small = λ all. All-set (λ z. unsigned_abs z < 2 ^ 39 - 1) xs (y * f.width + x) v spells.2 all;
      is = spells.3 ∙ ap (λ (l : List Decision). value_here f xs x y v ++ l) spells.4.1 ∙ append-nil (value_here f xs x y v) ∙ value_stored f xs x y v h inside;
    }
    )

-- nothing is changed by no decision
fills_none : {w left right top bottom : ℕ} {xs zs : List ℤ} {part : List ℤ → List Decision} {ds : List Decision} → xs ≡ zs → ds ≡ [] → part zs ≡ [] → Fills w left right top bottom xs zs part ds
fills_none {w = w} {left = left} {right = right} {top = top} {bottom = bottom} {xs = xs} same e none =
    record { kept = subst (λ (vs : List ℤ). KeptOutside w left right top bottom xs vs) same kept_refl; small = λ all. subst AreSmall same all; is = e ∙ sym none }

-- the first n values of a row
row_told : (f : Frame) (xs zs : List ℤ) (x y h n : ℕ) (ds : List Decision) → x + n ≤ f.width → y < h → length xs ≡ f.width * h → DecisionsSpell (row_step f y x n xs) zs ds
    → Fills f.width x (x + n) y (y + 1) xs zs (λ vs. row_part f vs y x n) ds
unfolding row_part repeated
row_told f xs zs x y h zero ds wide low len spells = fills_none spells.0 spells.1 refl
row_told f xs zs x y h (suc n) ds wide low len spells =
    let t = then_told (row_step f y x n xs) (value_step f (x + n) y) zs ds spells in
    let a = row_told f xs t.x x y h n t.ds (omega arith) low len t.first in
    let b = value_told f t.x zs (x + n) y t.es (omega arith) (inside_place f.width h (x + n) y (length t.x) (omega arith) low (a.kept.len ∙ len)) t.second in
    fills_join (omega arith, omega arith, omega arith, omega arith) (omega arith, omega arith, omega arith, omega arith) t.is (row_same f t.x zs x y n (omega arith) (kept_left (omega arith) b.kept)) a b

-- the first n rows of a codeblock
rows_told : (f : Frame) (xs zs : List ℤ) (x count y h n : ℕ) (ds : List Decision) → x + count ≤ f.width → y + n ≤ h → length xs ≡ f.width * h → DecisionsSpell (rows_step f x count y n xs) zs ds
    → Fills f.width x (x + count) y (y + n) xs zs (λ vs. rows_part f vs x count y n) ds
unfolding rows_part repeated
rows_told f xs zs x count y h zero ds wide low len spells = fills_none spells.0 spells.1 refl
rows_told f xs zs x count y h (suc n) ds wide low len spells =
    let t = then_told (rows_step f x count y n xs) (row_step f (y + n) x count) zs ds spells in
    let a = rows_told f xs t.x x count y h n t.ds wide (omega arith) len t.first in
    let b = row_told f t.x zs x (y + n) h count t.es wide (omega arith) (a.kept.len ∙ len) t.second in
    fills_join (omega arith, omega arith, omega arith, omega arith) (omega arith, omega arith, omega arith, omega arith) t.is (rows_same f t.x zs x count y n wide (kept_above (omega arith) b.kept)) a b

-- ---- finished values are spelled

-- what agrees with the finished values above a part and left of it, still does where the part is changed
pub same_over : {w left right top bottom r b : ℕ} {xs zs ys : List ℤ} → b ≤ top → KeptOutside w left right top bottom xs zs → SameWithin w xs ys r b → SameWithin w zs ys r b
same_over h k s = record { each = λ x y p q t. sym (k.over x y p (omega arith)) ∙ s.each x y p q t }

same_left : {w left right top bottom r b : ℕ} {xs zs ys : List ℤ} → r ≤ left → KeptOutside w left right top bottom xs zs → SameWithin w xs ys r b → SameWithin w zs ys r b
same_left h k s = record { each = λ x y p q t. sym (k.before x y p (omega arith)) ∙ s.each x y p q t }

-- decisions spell values which agree with the finished ones up to a column and a row
pub record Leads (w right bottom : ℕ) (ys : List ℤ) (s : Coded (List ℤ)) (ds : List Decision) : Type 0 where
  pub zs : List ℤ
  pub spells : DecisionsSpell s zs ds
  pub same : SameWithin w zs ys right bottom

-- one value
value_leads : (f : Frame) (xs ys : List ℤ) (x y : ℕ) → AreSmall ys → x < f.width → y * f.width + x < length xs → length ys ≡ length xs
    → SameWithin f.width xs ys x (y + 1) → SameWithin f.width xs ys (x + 1) y
    → Leads f.width (x + 1) (y + 1) ys (value_step f x y xs) (value_part f ys x y)
unfolding value_step
value_leads f xs ys x y small h inside len left over =
    let w = f.width in
    let v = band_value w ys x y in
    let few : unsigned_abs v < 2 ^ 39 - 1 = small (y * w + x) (pos 0) (omega arith) in
    let kept = set_kept w xs x y v h in
    record {
      zs = set xs (y * w + x) v;
      spells = (v, [], few, value_contexts f xs ys x y h left over ∙ sym (append-nil (value_here f xs x y v)), (refl, refl));
      same = same_more (same_left (omega arith) kept left) (same_over (omega arith) kept over) (get_or-set_same xs (y * w + x) v (pos 0) inside);
    }

-- n values of a row
row_leads : (f : Frame) (xs ys : List ℤ) (x y count h n : ℕ) → AreSmall ys → x + count ≤ f.width → n ≤ count → y < h → length xs ≡ f.width * h → length ys ≡ length xs
    → SameWithin f.width xs ys x (y + 1) → SameWithin f.width xs ys (x + count) y
    → Leads f.width (x + n) (y + 1) ys (row_step f y x n xs) (row_part f ys y x n)
unfolding row_part repeated
row_leads f xs ys x y count h zero small wide few low size len left over = record { zs = xs; spells = (refl, refl); same = same_less (omega arith) (omega arith) left }
row_leads f xs ys x y count h (suc n) small wide few low size len left over =
    let g = row_leads f xs ys x y count h n small wide (omega arith) low size len left over in
    let kept = (row_told f xs g.zs x y h n (row_part f ys y x n) (omega arith) low size g.spells).kept in
    let k = value_leads f g.zs ys (x + n) y small (omega arith) (inside_place f.width h (x + n) y (length g.zs) (omega arith) low (kept.len ∙ size)) (len ∙ sym kept.len)
    g.same (same_over (omega arith) kept (same_less (omega arith) (omega arith) over)) in
    record {
      zs = k.zs;
      spells = then_tells (row_step f y x n xs) (value_step f (x + n) y) g.zs k.zs (row_part f ys y x n) (value_part f ys (x + n) y) g.spells k.spells;
      same = same_less (omega arith) (omega arith) k.same;
    }

-- n rows of a codeblock
rows_lead : (f : Frame) (xs ys : List ℤ) (x count y rows h n : ℕ) → AreSmall ys → x + count ≤ f.width → n ≤ rows → y + rows ≤ h → length xs ≡ f.width * h → length ys ≡ length xs
    → SameWithin f.width xs ys x (y + rows) → SameWithin f.width xs ys (x + count) y
    → Leads f.width (x + count) (y + n) ys (rows_step f x count y n xs) (rows_part f ys x count y n)
unfolding rows_part repeated
rows_lead f xs ys x count y rows h zero small wide few low size len left over = record { zs = xs; spells = (refl, refl); same = same_less (omega arith) (omega arith) over }
rows_lead f xs ys x count y rows h (suc n) small wide few low size len left over =
    let g = rows_lead f xs ys x count y rows h n small wide (omega arith) low size len left over in
    let kept = (rows_told f xs g.zs x count y h n (rows_part f ys x count y n) wide (omega arith) size g.spells).kept in
    let k = row_leads f g.zs ys x (y + n) count h count small wide (omega arith) (omega arith) (kept.len ∙ size) (len ∙ sym kept.len)
    (same_left (omega arith) kept (same_less (omega arith) (omega arith) left)) g.same in
    record {
      zs = k.zs;
      spells = then_tells (rows_step f x count y n xs) (row_step f (y + n) x count) g.zs k.zs (rows_part f ys x count y n) (row_part f ys (y + n) x count) g.spells k.spells;
      same = same_less (omega arith) (omega arith) k.same;
    }

-- ---- of a codeblock

-- its values
abbrev pub values_part : BandLayout → List ℤ → List ℤ → ℕ → ℕ → List Decision
values_part layout parent xs cy cx =
    rows_part (frame_of layout parent) xs (edge_of layout.width layout.across cx) (codeblock_extent layout.width layout.across cx) (edge_of layout.height layout.down cy) (codeblock_extent layout.height layout.down cy)

pub filled_told : (layout : BandLayout) (parent xs zs : List ℤ) (cy cx : ℕ) (ds : List Decision) → IsBandLayout layout → cy < layout.down → cx < layout.across → length xs ≡ layout.width * layout.height → DecisionsSpell (filled_step layout parent cy cx xs) zs ds
    → Fills layout.width (edge_of layout.width layout.across cx) (edge_of layout.width layout.across (cx + 1)) (edge_of layout.height layout.down cy) (edge_of layout.height layout.down (cy + 1)) xs zs (λ vs. values_part layout parent vs cy cx) ds
filled_told layout parent xs zs cy cx ds is low left len spells =
    let x = edge_of layout.width layout.across cx in
    let y = edge_of layout.height layout.down cy in
    let columns = codeblock_extent layout.width layout.across cx in
    let rows = codeblock_extent layout.height layout.down cy in
    let right : x + columns ≡ edge_of layout.width layout.across (cx + 1) = span_end layout.width layout.across cx (omega arith) in
    let bottom : y + rows ≡ edge_of layout.height layout.down (cy + 1) = span_end layout.height layout.down cy (omega arith) in
    let P : ℕ → ℕ → Type 0 = λ r b. Fills layout.width x r y b xs zs (λ vs. values_part layout parent vs cy cx) ds in
    let told : P (x + columns) (y + rows) = rows_told (frame_of layout parent) xs zs x columns y layout.height rows ds (span_inside layout.width layout.across cx left) (span_inside layout.height layout.down cy low) len spells in
    subst (λ r. P r (edge_of layout.height layout.down (cy + 1))) right (subst (λ b. P (x + columns) b) bottom told)

pub filled_leads : (layout : BandLayout) (parent xs ys : List ℤ) (cy cx : ℕ) → cy < layout.down → cx < layout.across → AreSmall ys → length xs ≡ layout.width * layout.height → length ys ≡ layout.width * layout.height
    → SameWithin layout.width xs ys (edge_of layout.width layout.across cx) (edge_of layout.height layout.down (cy + 1)) → SameWithin layout.width xs ys (edge_of layout.width layout.across (cx + 1)) (edge_of layout.height layout.down cy)
    → Leads layout.width (edge_of layout.width layout.across (cx + 1)) (edge_of layout.height layout.down (cy + 1)) ys (filled_step layout parent cy cx xs) (values_part layout parent ys cy cx)
filled_leads layout parent xs ys cy cx low inside small size len left over =
    let x = edge_of layout.width layout.across cx in
    let y = edge_of layout.height layout.down cy in
    let columns = codeblock_extent layout.width layout.across cx in
    let rows = codeblock_extent layout.height layout.down cy in
    let right : x + columns ≡ edge_of layout.width layout.across (cx + 1) = span_end layout.width layout.across cx (omega arith) in
    let bottom : y + rows ≡ edge_of layout.height layout.down (cy + 1) = span_end layout.height layout.down cy (omega arith) in
    let led = rows_lead (frame_of layout parent) xs ys x columns y rows layout.height rows small (span_inside layout.width layout.across cx inside) (omega arith) (span_inside layout.height layout.down cy low) size (len ∙ sym size)
    (same_less (omega arith) (omega arith) left) (same_less (omega arith) (omega arith) over) in
    record { zs = led.zs; spells = led.spells; same = same_less (omega arith) (omega arith) led.same }
