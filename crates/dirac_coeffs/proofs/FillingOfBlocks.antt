-- What spells codeblocks and their rows: each is put behind those before, so the values, the indices and the marks so far
-- are those of the finished band.
use Rattle.std.proofs.Common.{◌≡◌, ◌≢◌, ℕ, zero, suc, ℤ, pos, negsuc, ◌+◌, ◌*◌, ◌+ℤ◌, ◌<◌, ◌≤◌, ◌==◌, ◌⊎◌, if◌then◌else◌, Bool, true, false, List, [], ◌∷◌, ◌++◌, length, set, unsigned_abs, refl, sym, ap, ap₂, ◌∙◌, subst, arith, inl, inr, append-nil, eq-eqb, ne_eqb}
use Rattle.std.specs.List.{All}
use Rattle.std.proofs.lemmas.Bool.{cases_lt, cases_Bool, false≢true}
use Rattle.std.proofs.lemmas.Int.{ints}
use Rattle.dirac_common.specs.Limits.{IsIndex}
use Rattle.dirac_arith.specs.Coded.{Coded, DecisionsSpell, and_then, done, repeated}
use Rattle.dirac_arith.specs.Interval.{Decision}
use Rattle.dirac_arith.specs.Spelling.{signed_spelling}
use Rattle.dirac_bands.specs.Geometry.{edge_of}
use Rattle.dirac_coeffs.specs.declared.layout.BandLayout.{BandLayout}
use Rattle.dirac_coeffs.specs.BandRead.{Content, band_content, filled_step, offset_step, unskipped_step, skipped_content, unless, flagged_coded, block_step, blocks_step, block_rows_step}
use Rattle.dirac_coeffs.specs.Carried.{AreSmall, IsIndexed, SkippedIsZero}
use Rattle.dirac_coeffs.specs.Decisions.{Mark, Marks, flagged_part, block_part, blocks_part, bands_part}
use Rattle.dirac_coeffs.specs.Indices.{place_of, index_before, all_equal, is_index, offset_part, with_former}
use Rattle.dirac_coeffs.specs.Layouts.{IsBandLayout, is_flagged}
use Rattle.dirac_coeffs.proofs.AgreementOfBlocks.{blocks_same, blocks_next, bands_same, bands_next, zeros_same}
use Rattle.dirac_coeffs.proofs.Edges.{edge_rises, edge_most, edge_last, span_inside}
use Rattle.dirac_coeffs.proofs.Filling.{values_part, filled_told}
use Rattle.dirac_coeffs.proofs.Indexed.{Noted, noted_none, noted_join, set_noted, set_indexed, same_indexed, indexed_same, equal_same, none_added, before_few, place_less, place_inside}
use Rattle.dirac_coeffs.proofs.OffsetsRead.{from_index, from_none}
use Rattle.dirac_coeffs.proofs.Places.{KeptOutside, SameWithin, ZeroFrom}
use Rattle.dirac_coeffs.proofs.Steps.{then_told}
use Rattle.dirac_coeffs.proofs.Within.{kept_refl, kept_join, kept_above, kept_left, same_less, zero_right, zero_below}

-- as many values and indices as there are, and in mode 0 the band's index alone
pub record Begun (layout : BandLayout) (index : ℕ) (c : Content) : Type 0 where
  pub len : length c.values ≡ layout.width * layout.height
  pub count : length c.indices ≡ layout.across * layout.down
  pub plain : layout.mode ≡ 0 → c.indices ≡ all_equal layout index
  pub own : IsIndex index
  pub each : All IsIndex c.indices

-- values that are changed in these columns and rows alone, and indices that are changed from this place on
pub record Went (layout : BandLayout) (left right top bottom from : ℕ) (c d : Content) : Type 0 where
  pub kept : KeptOutside layout.width left right top bottom c.values d.values
  pub small : AreSmall c.values → AreSmall d.values
  pub noted : Noted layout from c.indices d.indices

pub begun_on : {layout : BandLayout} {index left right top bottom from : ℕ} {c d : Content} → Went layout left right top bottom from c d → Begun layout index c → Begun layout index d
begun_on w b = record { len = w.kept.len ∙ b.len; count = w.noted.len ∙ b.count; plain = λ e. w.noted.plain e ∙ b.plain e; own = b.own; each = w.noted.lawful b.each }

went_none : {layout : BandLayout} {left right top bottom from : ℕ} {c d : Content} → c ≡ d → Went layout left right top bottom from c d
went_none {layout = layout} {left = left} {right = right} {top = top} {bottom = bottom} {from = from} {c = c} same =
    subst (λ (x : Content). Went layout left right top bottom from c x) same (record { kept = kept_refl; small = λ all. all; noted = noted_none })

went_join : {layout : BandLayout} {left right top bottom from l r t b f l' r' t' b' f' : ℕ} {c d e : Content}
    → (left ≤ l) × (r ≤ right) × (top ≤ t) × (b ≤ bottom)
    → (left ≤ l') × (r' ≤ right) × (top ≤ t') × (b' ≤ bottom)
    → (from ≤ f) × (from ≤ f')
    → Went layout l r t b f c d → Went layout l' r' t' b' f' d e → Went layout left right top bottom from c e
went_join h h' k v w = record { kept = kept_join h h' v.kept w.kept; small = λ all. w.small (v.small all); noted = noted_join k.0 k.1 v.noted w.noted }

-- ---- a codeblock

-- a codeblock's mark that isn't skipped
abbrev pub unskipped : ℤ → Mark
unskipped offset = record { skipped = false; offset = offset }

-- the offset of a codeblock
record OffsetTold (layout : BandLayout) (index : ℕ) (old js : List ℕ) (cy cx mode : ℕ) (ds : List Decision) : Type 0 where
  offset : ℤ
  indexed : IsIndexed layout index js cy cx (unskipped offset)
  noted : Noted layout (place_of layout cy cx) old js
  is : ds ≡ offset_part mode offset

fitting : (v : ℤ) → is_index v ≡ true → IsIndex (unsigned_abs v) × (pos (unsigned_abs v) ≡ v)
fitting (pos n) h = (grind (arith, ints), refl)
fitting (negsuc n) h = absurd (false≢true h)

offset_told : (layout : BandLayout) (index : ℕ) (c : Content) (js : List ℕ) (cy cx mode : ℕ) (ds : List Decision) → cy < layout.down → cx < layout.across → Begun layout index c → layout.mode ≡ mode
    → DecisionsSpell (offset_step mode index (place_of layout cy cx) c.indices) js ds → OffsetTold layout index c.indices js cy cx mode ds
unfolding offset_step
offset_told layout index c js cy cx zero ds low left at e spells =
    subst (λ (ks : List ℕ). OffsetTold layout index c.indices ks cy cx zero ds) spells.0 (
    record { offset = pos 0; indexed = same_indexed layout index c.indices cy cx (unskipped (pos 0)) refl (equal_same layout index c.indices cy cx (at.plain e) low left); noted = noted_none; is = spells.1 }
    )
offset_told layout index c js cy cx (suc m) ds low left at e spells =
    let place = place_of layout cy cx in
    let former = index_before index c.indices place in
    let offset = spells.0 in
    let sum = pos former +ℤ offset in
    let put : ℕ → Coded (List ℕ) = λ i. done (set c.indices place i) in
    let moded : layout.mode ≢ 0 = λ none. absurd (omega (arith, e, none)) in
    let inside : place < length c.indices = omega (arith, place_inside layout cy cx low left, at.count) in
    elim (cases_Bool (is_index sum)) [
      | inl fits ↦
          let i = unsigned_abs sum in
          let few = fitting sum fits in
          let here = subst (λ (s : Coded ℕ). DecisionsSpell (and_then s put) js spells.1) (from_index former offset fits) spells.4 in
          subst (λ (ks : List ℕ). OffsetTold layout index c.indices ks cy cx (suc m) ds) here.0 (
          record {
            offset = offset;
            indexed = set_indexed layout index c.indices cy cx i (unskipped offset) inside moded few.1 (λ f k. absurd (false≢true k));
            noted = set_noted layout c.indices place i moded few.0;
            is = spells.3 ∙ ap (λ (l : List Decision). signed_spelling (19 ∷ []) 20 21 offset ++ l) here.1 ∙ append-nil (signed_spelling (19 ∷ []) 20 21 offset);
          }
          )
      | inr out ↦ absurd (subst (λ (s : Coded ℕ). DecisionsSpell (and_then s put) js spells.1) (from_none former offset out) spells.4)
    ]

-- a codeblock's columns and rows, and its place
abbrev WentBlock : BandLayout → ℕ → ℕ → Content → Content → Type 0
WentBlock layout cy cx c d =
    Went layout (edge_of layout.width layout.across cx) (edge_of layout.width layout.across (cx + 1)) (edge_of layout.height layout.down cy) (edge_of layout.height layout.down (cy + 1)) (place_of layout cy cx) c d

-- one that isn't skipped
record UnskippedTold (layout : BandLayout) (parent : List ℤ) (index cy cx : ℕ) (c d : Content) (ds : List Decision) : Type 0 where
  went : WentBlock layout cy cx c d
  offset : ℤ
  indexed : IsIndexed layout index d.indices cy cx (unskipped offset)
  is : ds ≡ offset_part layout.mode offset ++ values_part layout parent d.values cy cx

unskipped_told : (layout : BandLayout) (parent : List ℤ) (index cy cx : ℕ) (c d : Content) (ds : List Decision) → IsBandLayout layout → cy < layout.down → cx < layout.across → Begun layout index c
    → DecisionsSpell (unskipped_step layout parent index cy cx c) d ds → UnskippedTold layout parent index cy cx c d ds
unskipped_told layout parent index cy cx c d ds is low left at spells =
    let t = then_told (offset_step layout.mode index (place_of layout cy cx) c.indices) (λ js. and_then (filled_step layout parent cy cx c.values) (λ xs. done (band_content xs js))) d ds spells in
    let o = offset_told layout index c t.x cy cx layout.mode t.ds low left at refl t.first in
    let u = then_told (filled_step layout parent cy cx c.values) (λ xs. done (band_content xs t.x)) d t.es t.second in
    let v = filled_told layout parent c.values u.x cy cx u.ds is low left at.len u.first in
    subst (λ (x : Content). UnskippedTold layout parent index cy cx c x ds) u.second.0 (
    record {
      went = record { kept = v.kept; small = v.small; noted = o.noted };
      offset = o.offset;
      indexed = o.indexed;
      is = t.is ∙ ap₂ (λ (a b : List Decision). a ++ b) o.is (u.is ∙ ap₂ (λ (a b : List Decision). a ++ b) v.is u.second.1 ∙ append-nil (values_part layout parent u.x cy cx));
    }
    )

-- what a zero flag tells, where there is one
flagged_told : (flagged : Bool) (skipped d : Content) (u : Coded Content) (ds : List Decision) → DecisionsSpell (flagged_coded flagged skipped u) d ds
    → ((flagged ≡ true) × (skipped ≡ d) × ((es : List Decision) → ds ≡ flagged_part flagged true es)) ⊎ ((es : List Decision) × DecisionsSpell u d es × (ds ≡ flagged_part flagged false es))
flagged_told false skipped d u ds spells = inr (ds, spells, refl)
flagged_told true skipped d u ds spells = told spells.0 spells.1 spells.3 spells.4
  where
    told : (b : Bool) (rest : List Decision) → (let flag : Decision = (18, b) in ds ≡ flag ∷ rest) → DecisionsSpell (unless skipped u b) d rest
        → ((true ≡ true) × (skipped ≡ d) × ((es : List Decision) → ds ≡ flagged_part true true es)) ⊎ ((es : List Decision) × DecisionsSpell u d es × (ds ≡ flagged_part true false es))
    told true rest e s = inl (refl, s.0, λ es. e ∙ ap (λ (l : List Decision). let flag : Decision = (18, true) in flag ∷ l) s.1)
    told false rest e s = inr (rest, s, e)

-- the indices with that of a skipped codeblock
pub former_noted : (layout : BandLayout) (index : ℕ) (c : Content) (cy cx mode : ℕ) (mark : Mark) → cy < layout.down → cx < layout.across → Begun layout index c → layout.mode ≡ mode → mark.offset ≡ pos 0
    → Noted layout (place_of layout cy cx) c.indices (with_former mode index (place_of layout cy cx) c.indices) × IsIndexed layout index (with_former mode index (place_of layout cy cx) c.indices) cy cx mark
former_noted layout index c cy cx zero mark low left at e none = (noted_none, same_indexed layout index c.indices cy cx mark none (equal_same layout index c.indices cy cx (at.plain e) low left))
former_noted layout index c cy cx (suc m) mark low left at e none =
    let is = c.indices in
    let place = place_of layout cy cx in
    let former = index_before index is place in
    let moded : layout.mode ≢ 0 = λ zero. absurd (omega (arith, e, zero)) in
    let inside : place < length is = omega (arith, place_inside layout cy cx low left, at.count) in
    let sum : pos former ≡ pos former +ℤ mark.offset = none_added former former refl ∙ ap (λ o. pos former +ℤ o) (sym none) in
    (set_noted layout is place former moded (before_few index is place at.own at.each), set_indexed layout index is cy cx former mark inside moded sum (λ f k. none))

-- a codeblock
pub record BlockTold (layout : BandLayout) (parent : List ℤ) (index cy cx : ℕ) (c d : Content) (ds : List Decision) : Type 0 where
  pub went : WentBlock layout cy cx c d
  pub mark : Mark
  pub zeros : SkippedIsZero layout d.values cy cx mark
  pub indexed : IsIndexed layout index d.indices cy cx mark
  pub is : ds ≡ block_part layout parent d.values cy cx mark

pub block_told : (layout : BandLayout) (parent : List ℤ) (index cy cx : ℕ) (c d : Content) (ds : List Decision) → IsBandLayout layout → cy < layout.down → cx < layout.across → Begun layout index c
    → ZeroFrom layout.width (edge_of layout.width layout.across cx) (edge_of layout.height layout.down cy) c.values → DecisionsSpell (block_step layout parent index cy cx c) d ds → BlockTold layout parent index cy cx c d ds
unfolding block_step
block_told layout parent index cy cx c d ds is low left at clear spells =
    elim (flagged_told (is_flagged layout) (skipped_content layout index cy cx c) d (unskipped_step layout parent index cy cx c) ds spells) [
      | inl skip ↦
          let mark : Mark = record { skipped = true; offset = pos 0 } in
          let x = edge_of layout.width layout.across cx in
          let y = edge_of layout.height layout.down cy in
          let inside = span_inside layout.width layout.across cx left in
          let noted = former_noted layout index c cy cx layout.mode mark low left at refl refl in
          subst (λ (x : Content). BlockTold layout parent index cy cx c x ds) skip.1 (
          record {
            went = record { kept = kept_refl; small = λ all. all; noted = noted.0 };
            mark = mark;
            zeros = λ flagged skipped i j p q. clear.each (x + i) (y + j) (omega arith) (omega arith) (omega arith);
            indexed = noted.1;
            is = skip.2 (offset_part layout.mode (pos 0) ++ values_part layout parent c.values cy cx);
          }
          )
      | inr more ↦
          let u = unskipped_told layout parent index cy cx c d more.0 is low left at more.1 in
          record {
            went = u.went;
            mark = unskipped u.offset;
            zeros = λ flagged skipped i j p q. absurd (false≢true skipped);
            indexed = u.indexed;
            is = more.2 ∙ ap (λ (l : List Decision). flagged_part (is_flagged layout) false l) u.is;
          }
    ]

-- ---- codeblocks

-- a choice at place n, the former ones elsewhere
abbrev put_at : {A : Type 0} → (ℕ → A) → ℕ → A → ℕ → A
put_at former n a c = if c == n then a else former c

put_here : {A : Type 0} (former : ℕ → A) (n : ℕ) (a : A) → put_at former n a n ≡ a
put_here former n a = rw (eq-eqb n n refl) refl

put_before : {A : Type 0} (former : ℕ → A) (n : ℕ) (a : A) (c : ℕ) → c < n → former c ≡ put_at former n a c
put_before former n a c h = let other : c ≡ n → ⊥ = λ e. omega arith in rw (ne_eqb c n other) refl

-- a choice that is made for each place up to here
chosen : {A : Type 0} (P : ℕ → A → Type 0) (former : ℕ → A) (n : ℕ) (a : A) → ((c : ℕ) → c < n → P c (former c)) → P n a → (c : ℕ) → c < n + 1 → P c (put_at former n a c)
chosen P former n a before here c l =
    elim (cases_lt c n) [
      | inl b ↦ subst (λ m. P c m) (put_before former n a c b) (before c b)
      | inr b ↦ let same : n ≡ c = omega arith in subst (λ k. P k (put_at former n a k)) same (subst (λ m. P n m) (sym (put_here former n a)) here)
    ]

-- the first n codeblocks of row cy
pub record BlocksTold (layout : BandLayout) (parent : List ℤ) (index : ℕ) (d : Content) (cy n : ℕ) (ds : List Decision) : Type 0 where
  pub marks : ℕ → Mark
  pub zeros : (cx : ℕ) → cx < n → SkippedIsZero layout d.values cy cx (marks cx)
  pub indexed : (cx : ℕ) → cx < n → IsIndexed layout index d.indices cy cx (marks cx)
  pub is : ds ≡ blocks_part layout parent d.values marks cy n

blocks_more : {ds es all : List Decision} {c d : Content} (layout : BandLayout) (parent : List ℤ) (index cy n : ℕ) → IsBandLayout layout → n < layout.across → all ≡ ds ++ es
    → BlocksTold layout parent index c cy n ds → BlockTold layout parent index cy n c d es → BlocksTold layout parent index d cy (n + 1) all
blocks_more {c = c} {d = d} layout parent index cy n lawful h e p b =
    let xs = c.values in
    let ys = d.values in
    let marks = put_at p.marks n b.mark in
    let same : SameWithin layout.width xs ys (edge_of layout.width layout.across n) (edge_of layout.height layout.down (cy + 1)) = kept_left (omega arith) b.went.kept in
    let here : block_part layout parent ys cy n b.mark ≡ block_part layout parent ys cy n (marks n) = ap (λ m. block_part layout parent ys cy n m) (sym (put_here p.marks n b.mark)) in
    let zeros : (cx : ℕ) → cx < n → SkippedIsZero layout ys cy cx (p.marks cx) = λ cx l.
    let rises : edge_of layout.width layout.across (cx + 1) ≤ edge_of layout.width layout.across n = edge_rises layout.width layout.across (cx + 1) n (omega arith) (omega arith) in
    zeros_same layout xs ys cy cx (p.marks cx) lawful (omega arith) (same_less rises (omega arith) same) (p.zeros cx l) in
    let indexed : (cx : ℕ) → cx < n → IsIndexed layout index d.indices cy cx (p.marks cx) = λ cx l. indexed_same layout index c.indices d.indices cy cx (p.marks cx) (λ k m. b.went.noted.same k (omega arith)) (p.indexed cx l) in
    record {
      marks = marks;
      zeros = chosen (λ cx m. SkippedIsZero layout ys cy cx m) p.marks n b.mark zeros b.zeros;
      indexed = chosen (λ cx m. IsIndexed layout index d.indices cy cx m) p.marks n b.mark indexed b.indexed;
      is = e ∙ ap₂ (λ (x y : List Decision). x ++ y) (p.is ∙ blocks_same layout parent xs ys p.marks marks cy n lawful (omega arith) (put_before p.marks n b.mark) same) (b.is ∙ here) ∙ sym (blocks_next layout parent ys marks cy n);
    }

pub blocks_told : (layout : BandLayout) (parent : List ℤ) (index : ℕ) (c d : Content) (cy n : ℕ) (ds : List Decision) → IsBandLayout layout → cy < layout.down → n ≤ layout.across → Begun layout index c
    → ZeroFrom layout.width 0 (edge_of layout.height layout.down cy) c.values → DecisionsSpell (blocks_step layout parent index cy n c) d ds
    → Went layout 0 (edge_of layout.width layout.across n) (edge_of layout.height layout.down cy) (edge_of layout.height layout.down (cy + 1)) (cy * layout.across) c d × BlocksTold layout parent index d cy n ds
unfolding blocks_part repeated
blocks_told layout parent index c d cy zero ds is low few at clear spells =
    (went_none spells.0, record { marks = λ cx. unskipped (pos 0); zeros = λ cx l. absurd (omega arith); indexed = λ cx l. absurd (omega arith); is = spells.1 })
blocks_told layout parent index c d cy (suc n) ds is low few at clear spells =
    let w = layout.width in
    let next : n + 1 ≡ suc n = omega arith in
    let t = then_told (blocks_step layout parent index cy n c) (block_step layout parent index cy n) d ds spells in
    let a = blocks_told layout parent index c t.x cy n t.ds is low (omega arith) at clear t.first in
    let b = block_told layout parent index cy n t.x d t.es is low (omega arith) (begun_on a.0 at) (zero_right (omega arith) a.0.kept clear) t.second in
    let rises : edge_of w layout.across n ≤ edge_of w layout.across (n + 1) = edge_rises w layout.across n (n + 1) (omega arith) (omega arith) in
    let P : ℕ → Type 0 = λ m. Went layout 0 (edge_of w layout.across m) (edge_of layout.height layout.down cy) (edge_of layout.height layout.down (cy + 1)) (cy * layout.across) c d × BlocksTold layout parent index d cy m ds in
    let told : P (n + 1) = (went_join (omega arith, rises, omega arith, omega arith) (omega arith, omega arith, omega arith, omega arith) (omega arith, omega arith) a.0 b.went, blocks_more layout parent index cy n is (omega arith) t.is a.1 b) in
    subst P next told

-- the first n rows of codeblocks
pub record BandTold (layout : BandLayout) (parent : List ℤ) (index : ℕ) (d : Content) (n : ℕ) (ds : List Decision) : Type 0 where
  pub marks : Marks
  pub zeros : (cy cx : ℕ) → cy < n → cx < layout.across → SkippedIsZero layout d.values cy cx (marks cy cx)
  pub indexed : (cy cx : ℕ) → cy < n → cx < layout.across → IsIndexed layout index d.indices cy cx (marks cy cx)
  pub is : ds ≡ bands_part layout parent d.values marks n

bands_more : {ds es all : List Decision} {c d : Content} (layout : BandLayout) (parent : List ℤ) (index n : ℕ) → IsBandLayout layout → n < layout.down → all ≡ ds ++ es
    → Went layout 0 layout.width (edge_of layout.height layout.down n) (edge_of layout.height layout.down (n + 1)) (n * layout.across) c d
    → BandTold layout parent index c n ds → BlocksTold layout parent index d n layout.across es → BandTold layout parent index d (n + 1) all
bands_more {c = c} {d = d} layout parent index n lawful h e went p q =
    let xs = c.values in
    let ys = d.values in
    let marks = put_at p.marks n q.marks in
    let same : SameWithin layout.width xs ys layout.width (edge_of layout.height layout.down n) = kept_above (omega arith) went.kept in
    let before : bands_part layout parent xs p.marks n ≡ bands_part layout parent ys marks n = bands_same layout parent xs ys p.marks marks n lawful (omega arith) (λ r c l m. ap (λ row. row c) (put_before p.marks n q.marks r l)) same in
    let here : blocks_part layout parent ys q.marks n layout.across ≡ blocks_part layout parent ys (marks n) n layout.across = ap (λ row. blocks_part layout parent ys row n layout.across) (sym (put_here p.marks n q.marks)) in
    let P : ℕ → (ℕ → Mark) → Type 0 = λ cy row. (cx : ℕ) → cx < layout.across → SkippedIsZero layout ys cy cx (row cx) in
    let Q : ℕ → (ℕ → Mark) → Type 0 = λ cy row. (cx : ℕ) → cx < layout.across → IsIndexed layout index d.indices cy cx (row cx) in
    let zeros : (cy : ℕ) → cy < n → P cy (p.marks cy) = λ cy l cx m.
    let rises : edge_of layout.height layout.down (cy + 1) ≤ edge_of layout.height layout.down n = edge_rises layout.height layout.down (cy + 1) n (omega arith) (omega arith) in
    let inside : edge_of layout.width layout.across (cx + 1) ≤ layout.width = edge_most layout.width layout.across (cx + 1) (omega arith) (omega arith) in
    zeros_same layout xs ys cy cx (p.marks cy cx) lawful m (same_less inside rises same) (p.zeros cy cx l m) in
    let indexed : (cy : ℕ) → cy < n → Q cy (p.marks cy) = λ cy l cx m.
    let place = place_less layout cy cx n l m in
    indexed_same layout index c.indices d.indices cy cx (p.marks cy cx) (λ k i. went.noted.same k (omega (arith, place))) (p.indexed cy cx l m) in
    let all = chosen P p.marks n q.marks zeros q.zeros in
    let each = chosen Q p.marks n q.marks indexed q.indexed in
    record {
      marks = marks;
      zeros = λ cy cx l m. all cy l cx m;
      indexed = λ cy cx l m. each cy l cx m;
      is = e ∙ ap₂ (λ (x y : List Decision). x ++ y) (p.is ∙ before) (q.is ∙ here) ∙ sym (bands_next layout parent ys marks n);
    }

pub bands_told : (layout : BandLayout) (parent : List ℤ) (index : ℕ) (c d : Content) (n : ℕ) (ds : List Decision) → IsBandLayout layout → n ≤ layout.down → Begun layout index c
    → ZeroFrom layout.width 0 0 c.values → DecisionsSpell (block_rows_step layout parent index n c) d ds
    → Went layout 0 layout.width 0 (edge_of layout.height layout.down n) 0 c d × BandTold layout parent index d n ds
unfolding bands_part repeated
bands_told layout parent index c d zero ds is few at clear spells =
    (went_none spells.0, record { marks = λ cy cx. unskipped (pos 0); zeros = λ cy cx l m. absurd (omega arith); indexed = λ cy cx l m. absurd (omega arith); is = spells.1 })
bands_told layout parent index c d (suc n) ds is few at clear spells =
    let w = layout.width in
    let top = edge_of layout.height layout.down n in
    let bottom = edge_of layout.height layout.down (n + 1) in
    let next : n + 1 ≡ suc n = omega arith in
    let rises : top ≤ bottom = edge_rises layout.height layout.down n (n + 1) (omega arith) (omega arith) in
    let last : edge_of w layout.across layout.across ≡ w = edge_last w layout.across (omega (arith, is.across)) in
    let t = then_told (block_rows_step layout parent index n c) (λ x. blocks_step layout parent index n layout.across x) d ds spells in
    let a = bands_told layout parent index c t.x n t.ds is (omega arith) at clear t.first in
    let b = blocks_told layout parent index t.x d n layout.across t.es is (omega arith) (omega arith) (begun_on a.0 at) (zero_below (omega arith) a.0.kept clear) t.second in
    let went : Went layout 0 w top bottom (n * layout.across) t.x d = subst (λ r. Went layout 0 r top bottom (n * layout.across) t.x d) last b.0 in
    let P : ℕ → Type 0 = λ m. Went layout 0 w 0 (edge_of layout.height layout.down m) 0 c d × BandTold layout parent index d m ds in
    let told : P (n + 1) = (went_join (omega arith, omega arith, omega arith, rises) (omega arith, omega arith, omega arith, omega arith) (omega arith, omega arith) a.0 went, bands_more layout parent index n is (omega arith) t.is went a.1 b.1) in
    subst P next told
