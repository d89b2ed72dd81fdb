-- A finished band is spelled by its decisions: codeblock by codeblock, since contexts are read off the places before, and an
-- offset off the index before.
use Rattle.std.proofs.Common.{◌≡◌, ℕ, zero, suc, ℤ, pos, ◌+◌, ◌-◌, ◌*◌, ◌+ℤ◌, ◌^◌, ◌<◌, ◌≤◌, inl, inr, Bool, true, false, List, [], ◌∷◌, ◌++◌, length, set, unsigned_abs, refl, sym, ap, ◌∙◌, subst, arith, append-nil}
use Rattle.std.specs.List.{All}
use Rattle.std.proofs.lemmas.Bool.{cases_lt}
use Rattle.std.proofs.lemmas.Int.{ints}
use Rattle.std.proofs.lemmas.List.{get_or-set_same, get_or-set_other}
use Rattle.dirac_common.specs.Limits.{IsIndex}
use Rattle.dirac_arith.specs.Coded.{Coded, DecisionsSpell, and_then, done, repeated}
use Rattle.dirac_arith.specs.Interval.{Decision}
use Rattle.dirac_arith.specs.Spelling.{signed_spelling}
use Rattle.dirac_bands.specs.Geometry.{edge_of}
use Rattle.dirac_coeffs.specs.declared.layout.BandLayout.{BandLayout}
use Rattle.dirac_coeffs.specs.BandRead.{Content, band_content, filled_step, offset_step, unskipped_step, skipped_content, flagged_coded, block_step, blocks_step, block_rows_step}
use Rattle.dirac_coeffs.specs.Carried.{AreSmall, IsIndexed, IsZeroBlock, SkippedIsZero}
use Rattle.dirac_coeffs.specs.Contexts.{band_value}
use Rattle.dirac_coeffs.specs.Decisions.{Mark, Marks, flagged_part, block_part, blocks_part, bands_part}
use Rattle.dirac_coeffs.specs.Indices.{place_of, index_at, index_before, is_index, offset_part, with_former}
use Rattle.dirac_coeffs.specs.Layouts.{IsBandLayout, codeblock_extent, is_flagged}
use Rattle.dirac_coeffs.proofs.Edges.{edge_first, edge_most, edge_last, span_end, span_inside}
use Rattle.dirac_coeffs.proofs.Filling.{values_part, filled_leads, same_over}
use Rattle.dirac_coeffs.proofs.FillingOfBlocks.{Begun, begun_on, blocks_told, bands_told}
use Rattle.dirac_coeffs.proofs.Indexed.{SameBefore, before_same, before_few, equal_same, index_few, place_inside}
use Rattle.dirac_coeffs.proofs.OffsetsRead.{from_index}
use Rattle.dirac_coeffs.proofs.Places.{SameWithin, ZeroFrom}
use Rattle.dirac_coeffs.proofs.Steps.{then_tells}
use Rattle.dirac_coeffs.proofs.Within.{same_less, zero_right, zero_below}

-- the finished values and indices of a band
pub record Finished (layout : BandLayout) (ys : List ℤ) (js : List ℕ) : Type 0 where
  pub lawful : IsBandLayout layout
  pub len : length ys ≡ layout.width * layout.height
  pub small : AreSmall ys
  pub each : All IsIndex js

-- decisions spell values and indices which agree with the finished ones so far
pub record LeadsOn (layout : BandLayout) (right bottom to : ℕ) (ys : List ℤ) (js : List ℕ) (s : Coded Content) (ds : List Decision) : Type 0 where
  pub d : Content
  pub spells : DecisionsSpell s d ds
  pub same : SameWithin layout.width d.values ys right bottom
  pub known : SameBefore to d.indices js

-- ---- indices

-- one more index is known
known_more : (c : ℕ) (is ks js : List ℕ) → SameBefore c is js → SameBefore c is ks → index_at ks c ≡ index_at js c → SameBefore (c + 1) ks js
known_more c is ks js known kept e d l =
    elim (cases_lt d c) [
      | inl less ↦ sym (kept d less) ∙ known d less
      | inr more ↦ let same : d ≡ c = omega arith in rw same e
    ]

set_known : (c i : ℕ) (is js : List ℕ) → c < length is → SameBefore c is js → i ≡ index_at js c → SameBefore (c + 1) (set is c i) js
set_known c i is js inside known e =
    known_more c is (set is c i) js known (λ d l. sym (get_or-set_other is c d i 0 (λ same. omega arith))) (get_or-set_same is c i 0 inside ∙ e)

-- a sum that is an index
sum_fits : (former i : ℕ) (offset : ℤ) → i ≤ 99 → pos i ≡ pos former +ℤ offset → (is_index (pos former +ℤ offset) ≡ true) × (unsigned_abs (pos former +ℤ offset) ≡ i)
sum_fits former i offset h e = subst (λ (v : ℤ). (is_index v ≡ true) × (unsigned_abs v ≡ i)) e (grind (arith, ints), refl)

offset_small : (former i : ℕ) (offset : ℤ) → former ≤ 99 → i ≤ 99 → pos i ≡ pos former +ℤ offset → unsigned_abs offset < 2 ^ 39 - 1
offset_small former i offset h k e = grind (arith, ints)

-- where the offset is 0 the index is the one before
sum_same : (former i : ℕ) (offset : ℤ) → offset ≡ pos 0 → pos i ≡ pos former +ℤ offset → i ≡ former
sum_same former i offset none e = omega (arith, ints)

-- what an offset leads to
record OffsetLeads (mode index c : ℕ) (is js : List ℕ) (ds : List Decision) : Type 0 where
  ks : List ℕ
  spells : DecisionsSpell (offset_step mode index c is) ks ds
  known : SameBefore (c + 1) ks js

-- indices of which those before this codeblock are known
plain_known : (layout : BandLayout) (index : ℕ) (c : Content) (cy cx : ℕ) (mark : Mark) (js : List ℕ) → cy < layout.down → cx < layout.across → Begun layout index c → layout.mode ≡ 0
    → SameBefore (place_of layout cy cx) c.indices js → IsIndexed layout index js cy cx mark → mark.offset ≡ pos 0 → SameBefore (place_of layout cy cx + 1) c.indices js
plain_known layout index c cy cx mark js low left at plain known indexed none =
    let p = place_of layout cy cx in
    let mine : index_at c.indices p ≡ index_before index c.indices p = equal_same layout index c.indices cy cx (at.plain plain) low left in
    let theirs : index_at js p ≡ index_before index js p = sum_same (index_before index js p) (index_at js p) mark.offset none indexed.sum in
    known_more p c.indices c.indices js known (λ d l. refl) (mine ∙ before_same index c.indices js p known ∙ sym theirs)

offset_leads : (layout : BandLayout) (index : ℕ) (c : Content) (cy cx mode : ℕ) (mark : Mark) (js : List ℕ) → cy < layout.down → cx < layout.across → Begun layout index c → layout.mode ≡ mode
    → All IsIndex js → SameBefore (place_of layout cy cx) c.indices js → IsIndexed layout index js cy cx mark → OffsetLeads mode index (place_of layout cy cx) c.indices js (offset_part mode mark.offset)
unfolding offset_step
offset_leads layout index c cy cx zero mark js low left at e each known indexed =
    record { ks = c.indices; spells = (refl, refl); known = plain_known layout index c cy cx mark js low left at e known indexed (indexed.plain e) }
offset_leads layout index c cy cx (suc m) mark js low left at e each known indexed =
    let p = place_of layout cy cx in
    let i = index_at js p in
    let former = index_before index c.indices p in
    let ks = set c.indices p i in
    let put : ℕ → Coded (List ℕ) = λ n. done (set c.indices p n) in
    let inside : p < length c.indices = omega (arith, place_inside layout cy cx low left, at.count) in
    let sum : pos i ≡ pos former +ℤ mark.offset = indexed.sum ∙ ap (λ k. pos k +ℤ mark.offset) (sym (before_same index c.indices js p known)) in
    let fits = sum_fits former i mark.offset (index_few js p each) sum in
    let last : DecisionsSpell (and_then (done (unsigned_abs (pos former +ℤ mark.offset))) put) ks [] = (ap (λ n. set c.indices p n) fits.1, refl) in
    record {
      ks = ks;
      spells = (
        mark.offset,
        [],
        offset_small former i mark.offset (before_few index c.indices p at.own at.each) (index_few js p each) sum,
        sym (append-nil (signed_spelling (19 ∷ []) 20 21 mark.offset)),
        subst (λ (s : Coded ℕ). DecisionsSpell (and_then s put) ks []) (sym (from_index former mark.offset fits.0)) last,
      );
      known = set_known p i c.indices js inside known refl;
    }

-- the same where the codeblock is skipped
former_known : (layout : BandLayout) (index : ℕ) (c : Content) (cy cx mode : ℕ) (mark : Mark) (js : List ℕ) → cy < layout.down → cx < layout.across → Begun layout index c → layout.mode ≡ mode
    → SameBefore (place_of layout cy cx) c.indices js → IsIndexed layout index js cy cx mark → mark.offset ≡ pos 0
    → SameBefore (place_of layout cy cx + 1) (with_former mode index (place_of layout cy cx) c.indices) js
former_known layout index c cy cx zero mark js low left at e known indexed none = plain_known layout index c cy cx mark js low left at e known indexed none
former_known layout index c cy cx (suc m) mark js low left at e known indexed none =
    let p = place_of layout cy cx in
    let inside : p < length c.indices = omega (arith, place_inside layout cy cx low left, at.count) in
    let theirs : index_at js p ≡ index_before index js p = sum_same (index_before index js p) (index_at js p) mark.offset none indexed.sum in
    set_known p (index_before index c.indices p) c.indices js inside known (before_same index c.indices js p known ∙ sym theirs)

-- ---- a codeblock

-- what agrees with the finished band before codeblock cx of row cy
record Agrees (layout : BandLayout) (index : ℕ) (c : Content) (ys : List ℤ) (js : List ℕ) (cy cx : ℕ) : Type 0 where
  at : Begun layout index c
  left : SameWithin layout.width c.values ys (edge_of layout.width layout.across cx) (edge_of layout.height layout.down (cy + 1))
  over : SameWithin layout.width c.values ys (edge_of layout.width layout.across (cx + 1)) (edge_of layout.height layout.down cy)
  known : SameBefore (place_of layout cy cx) c.indices js

-- what leads to a codeblock's values and index
abbrev BlockLeads : BandLayout → List ℤ → List ℕ → ℕ → ℕ → Coded Content → List Decision → Type 0
BlockLeads layout ys js cy cx s ds = LeadsOn layout (edge_of layout.width layout.across (cx + 1)) (edge_of layout.height layout.down (cy + 1)) (place_of layout cy cx + 1) ys js s ds

unskipped_leads : (layout : BandLayout) (parent : List ℤ) (index : ℕ) (c : Content) (ys : List ℤ) (js : List ℕ) (cy cx : ℕ) (mark : Mark) → Finished layout ys js → cy < layout.down → cx < layout.across → Agrees layout index c ys js cy cx
    → IsIndexed layout index js cy cx mark → BlockLeads layout ys js cy cx (unskipped_step layout parent index cy cx c) (offset_part layout.mode mark.offset ++ values_part layout parent ys cy cx)
unskipped_leads layout parent index c ys js cy cx mark f low inside a indexed =
    let o = offset_leads layout index c cy cx layout.mode mark js low inside a.at refl f.each a.known indexed in
    let v = filled_leads layout parent c.values ys cy cx low inside f.small a.at.len f.len a.left a.over in
    let es = values_part layout parent ys cy cx in
    let put : List ℕ → List ℤ → Coded Content = λ is xs. done (band_content xs is) in
    let values : DecisionsSpell (and_then (filled_step layout parent cy cx c.values) (put o.ks)) (band_content v.zs o.ks) es =
    subst (λ (l : List Decision). DecisionsSpell (and_then (filled_step layout parent cy cx c.values) (put o.ks)) (band_content v.zs o.ks) l) (append-nil es)
    (then_tells (filled_step layout parent cy cx c.values) (put o.ks) v.zs (band_content v.zs o.ks) es [] v.spells (refl, refl)) in
    record {
      d = band_content v.zs o.ks;
      spells =
          then_tells (offset_step layout.mode index (place_of layout cy cx) c.indices) (λ is. and_then (filled_step layout parent cy cx c.values) (put is)) o.ks (band_content v.zs o.ks) (offset_part layout.mode mark.offset) es o.spells values;
      same = v.same;
      known = o.known;
    }

-- zeros in a rectangle, on both sides the same to its left and above it
zeros_meet : (w : ℕ) (xs ys : List ℤ) (left columns top rows : ℕ)
    → SameWithin w xs ys left (top + rows) → SameWithin w xs ys (left + columns) top
    → ((i j : ℕ) → i < columns → j < rows → band_value w xs (left + i) (top + j) ≡ pos 0)
    → ((i j : ℕ) → i < columns → j < rows → band_value w ys (left + i) (top + j) ≡ pos 0)
    → SameWithin w xs ys (left + columns) (top + rows)
zeros_meet w xs ys left columns top rows s t z z' =
    record {
      each = λ x y p q r.
          elim (cases_lt x left) [
            | inl a ↦ s.each x y p a r
            | inr a ↦ elim (cases_lt y top) [
              | inl b ↦ t.each x y p q b
              | inr b ↦
                  let column : x ≡ left + (x - left) = omega arith in
                  let row : y ≡ top + (y - top) = omega arith in
                  rw (column, row) (z (x - left) (y - top) (omega arith) (omega arith) ∙ sym (z' (x - left) (y - top) (omega arith) (omega arith)))
            ]
          ];
    }

skipped_same : (layout : BandLayout) (index : ℕ) (c : Content) (ys : List ℤ) (js : List ℕ) (cy cx : ℕ) → IsBandLayout layout → cx < layout.across → Agrees layout index c ys js cy cx
    → ZeroFrom layout.width (edge_of layout.width layout.across cx) (edge_of layout.height layout.down cy) c.values → IsZeroBlock layout ys cy cx
    → SameWithin layout.width c.values ys (edge_of layout.width layout.across (cx + 1)) (edge_of layout.height layout.down (cy + 1))
skipped_same layout index c ys js cy cx is inside a zeros theirs =
    let x = edge_of layout.width layout.across cx in
    let y = edge_of layout.height layout.down cy in
    let columns = codeblock_extent layout.width layout.across cx in
    let rows = codeblock_extent layout.height layout.down cy in
    let right : x + columns ≡ edge_of layout.width layout.across (cx + 1) = span_end layout.width layout.across cx (omega arith) in
    let bottom : y + rows ≡ edge_of layout.height layout.down (cy + 1) = span_end layout.height layout.down cy (omega (arith, is.down)) in
    let within = span_inside layout.width layout.across cx inside in
    same_less (omega arith) (omega arith) (zeros_meet layout.width c.values ys x columns y rows (same_less (omega arith) (omega arith) a.left) (same_less (omega arith) (omega arith) a.over)
    (λ i j h k. zeros.each (x + i) (y + j) (omega arith) (omega arith) (omega arith)) theirs)

-- a codeblock
block_leads : (layout : BandLayout) (parent : List ℤ) (index : ℕ) (c : Content) (ys : List ℤ) (js : List ℕ) (cy cx : ℕ) (mark : Mark) → Finished layout ys js → cy < layout.down → cx < layout.across → Agrees layout index c ys js cy cx
    → ZeroFrom layout.width (edge_of layout.width layout.across cx) (edge_of layout.height layout.down cy) c.values → SkippedIsZero layout ys cy cx mark → IsIndexed layout index js cy cx mark
    → BlockLeads layout ys js cy cx (block_step layout parent index cy cx c) (block_part layout parent ys cy cx mark)
unfolding block_step
block_leads layout parent index c ys js cy cx mark f low inside a zeros theirs indexed = led (is_flagged layout) mark.skipped theirs indexed.skipped
  where
    u : Coded Content
    u = unskipped_step layout parent index cy cx c

    k : Content
    k = skipped_content layout index cy cx c

    es : List Decision
    es = offset_part layout.mode mark.offset ++ values_part layout parent ys cy cx

    go : BlockLeads layout ys js cy cx u es
    go = unskipped_leads layout parent index c ys js cy cx mark f low inside a indexed

    led : (flagged skipped : Bool) → (flagged ≡ true → skipped ≡ true → IsZeroBlock layout ys cy cx) → (flagged ≡ true → skipped ≡ true → mark.offset ≡ pos 0) → BlockLeads layout ys js cy cx (flagged_coded flagged k u) (flagged_part flagged skipped es)
    led false skipped empty none = go
    led true false empty none = record { d = go.d; spells = (false, es, tt, refl, go.spells); same = go.same; known = go.known }
    led true true empty none =
        record {
          d = k;
          spells = (true, [], tt, refl, (refl, refl));
          same = skipped_same layout index c ys js cy cx f.lawful inside a zeros (empty refl refl);
          known = former_known layout index c cy cx layout.mode mark js low inside a.at refl a.known indexed (none refl refl);
        }

-- ---- codeblocks

-- the first n codeblocks of row cy
blocks_lead : (layout : BandLayout) (parent : List ℤ) (index : ℕ) (c : Content) (ys : List ℤ) (js : List ℕ) (marks : ℕ → Mark) (cy n : ℕ) → Finished layout ys js → cy < layout.down → n ≤ layout.across
    → Begun layout index c → SameWithin layout.width c.values ys layout.width (edge_of layout.height layout.down cy) → SameBefore (cy * layout.across) c.indices js → ZeroFrom layout.width 0 (edge_of layout.height layout.down cy) c.values
    → ((cx : ℕ) → cx < n → SkippedIsZero layout ys cy cx (marks cx)) → ((cx : ℕ) → cx < n → IsIndexed layout index js cy cx (marks cx))
    → LeadsOn layout (edge_of layout.width layout.across n) (edge_of layout.height layout.down (cy + 1)) (cy * layout.across + n) ys js (blocks_step layout parent index cy n c) (blocks_part layout parent ys marks cy n)
unfolding blocks_part repeated
blocks_lead layout parent index c ys js marks cy zero f low few at over known zeros theirs indexed =
    record {
      d = c;
      spells = (refl, refl);
      same = record { each = λ x y a b c. absurd (omega (arith, edge_first layout.width layout.across)) };
      known = λ d l. known d (omega arith);
    }
blocks_lead layout parent index c ys js marks cy (suc n) f low few at over known zeros theirs indexed =
    let w = layout.width in
    let next : n + 1 ≡ suc n = omega arith in
    let ds = blocks_part layout parent ys marks cy n in
    let g = blocks_lead layout parent index c ys js marks cy n f low (omega arith) at over known zeros (λ cx l. theirs cx (omega arith)) (λ cx l. indexed cx (omega arith)) in
    let went = (blocks_told layout parent index c g.d cy n ds f.lawful low (omega arith) at zeros g.spells).0 in
    let most : edge_of w layout.across (n + 1) ≤ w = edge_most w layout.across (n + 1) (omega arith) (omega arith) in
    let a : Agrees layout index g.d ys js cy n = record { at = begun_on went at; left = g.same; over = same_over (omega arith) went.kept (same_less most (omega arith) over); known = g.known } in
    let k = block_leads layout parent index g.d ys js cy n (marks n) f low (omega arith) a (zero_right (omega arith) went.kept zeros) (theirs n (omega arith)) (indexed n (omega arith)) in
    let P : ℕ → Type 0 = λ m. LeadsOn layout (edge_of w layout.across m) (edge_of layout.height layout.down (cy + 1)) (cy * layout.across + m) ys js (blocks_step layout parent index cy (suc n) c) (blocks_part layout parent ys marks cy (suc n)) in
    let lead : P (n + 1) = record {
      d = k.d;
      spells = then_tells (blocks_step layout parent index cy n c) (block_step layout parent index cy n) g.d k.d ds (block_part layout parent ys cy n (marks n)) g.spells k.spells;
      same = k.same;
      known = λ d l. k.known d (omega arith);
    } in
    subst P next lead

-- the first n rows of codeblocks
pub bands_lead : (layout : BandLayout) (parent : List ℤ) (index : ℕ) (c : Content) (ys : List ℤ) (js : List ℕ) (marks : Marks) (n : ℕ) → Finished layout ys js → n ≤ layout.down
    → Begun layout index c → ZeroFrom layout.width 0 0 c.values
    → ((cy cx : ℕ) → cy < n → cx < layout.across → SkippedIsZero layout ys cy cx (marks cy cx)) → ((cy cx : ℕ) → cy < n → cx < layout.across → IsIndexed layout index js cy cx (marks cy cx))
    → LeadsOn layout layout.width (edge_of layout.height layout.down n) (n * layout.across) ys js (block_rows_step layout parent index n c) (bands_part layout parent ys marks n)
unfolding bands_part repeated
bands_lead layout parent index c ys js marks zero f few at zeros theirs indexed =
    record {
      d = c;
      spells = (refl, refl);
      same = record { each = λ x y a b c. absurd (omega (arith, edge_first layout.height layout.down)) };
      known = λ d l. absurd (omega arith);
    }
bands_lead layout parent index c ys js marks (suc n) f few at zeros theirs indexed =
    let w = layout.width in
    let next : n + 1 ≡ suc n = omega arith in
    let ds = bands_part layout parent ys marks n in
    let g = bands_lead layout parent index c ys js marks n f (omega arith) at zeros (λ cy cx l m. theirs cy cx (omega arith) m) (λ cy cx l m. indexed cy cx (omega arith) m) in
    let went = (bands_told layout parent index c g.d n ds f.lawful (omega arith) at zeros g.spells).0 in
    let last : edge_of w layout.across layout.across ≡ w = edge_last w layout.across (omega (arith, f.lawful.across)) in
    let k = blocks_lead layout parent index g.d ys js (marks n) n layout.across f (omega arith) (omega arith) (begun_on went at) g.same g.known (zero_below (omega arith) went.kept zeros) (λ cx l. theirs n cx (omega arith) l) (λ cx l. indexed n cx (omega arith) l) in
    let P : ℕ → Type 0 = λ m. LeadsOn layout w (edge_of layout.height layout.down m) (m * layout.across) ys js (block_rows_step layout parent index (suc n) c) (bands_part layout parent ys marks (suc n)) in
    let lead : P (n + 1) = record {
      d = k.d;
      spells = then_tells (block_rows_step layout parent index n c) (λ x. blocks_step layout parent index n layout.across x) g.d k.d ds (blocks_part layout parent ys (marks n) n layout.across) g.spells k.spells;
      same = same_less {xs = k.d.values} (omega (arith, last)) (omega arith) k.same;
      known = λ d l. k.known d (omega (arith, l));
    } in
    subst P next lead
