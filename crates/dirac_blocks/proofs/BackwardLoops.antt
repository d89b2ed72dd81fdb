-- Lists that are read are carried, unit by unit and superblock by superblock.
use Rattle.std.proofs.Common.{◌≡◌, ℕ, zero, suc, ◌+◌, ◌*◌, ◌^◌, ◌<◌, ◌≤◌, inl, inr, List, [], ◌++◌, Result, Ok, refl, sym, ap, ◌∙◌, arith, subst}
use Rattle.std.proofs.lemmas.Bool.{cases_lt}
use Rattle.dirac_common.specs.declared.faults.Cause.{Cause}
use Rattle.dirac_arith.specs.Coded.{done, read_coded, repeated}
use Rattle.dirac_arith.specs.Deciding.{begin}
use Rattle.dirac_arith.specs.Interval.{Decision}
use Rattle.dirac_arith.specs.Reading.{Reading, DecisionsAreRead}
use Rattle.dirac_arith.proofs.Carrieds.{IsLed}
use Rattle.dirac_arith.proofs.CodedValues.{then_is_read}
use Rattle.dirac_arith.proofs.Led.{led_begin, led_more, reads_nothing, reads_carried}
use Rattle.dirac_arith.proofs.Spellings.{reads_more}
use Rattle.dirac_block_table.specs.declared.block.Block.{Block}
use Rattle.dirac_blocks.specs.declared.parts.ListKind.{ListKind}
use Rattle.dirac_blocks.specs.Carried.{with_list_part}
use Rattle.dirac_blocks.specs.Decisions.{unit_row, unit_rows, superblock_part, superblock_row, superblock_rows, unit_decisions}
use Rattle.dirac_blocks.specs.Grammar.{TableStep, with_unit, unit_coded, unit_read_step, unit_row_step, unit_rows_step, superblock_step}
use Rattle.dirac_blocks.specs.Laws.{ReadIsCarried}
use Rattle.dirac_blocks.specs.Parts.{part_at}
use Rattle.dirac_blocks.specs.Reached.{SameShape, IsFirstOfUnit}
use Rattle.dirac_block_table.specs.Tables.{BlockTable, IsBlockTable, block_at, split_at, unit_size}
use Rattle.dirac_blocks.proofs.Backwards.{passed, moved_to, unit_came}
use Rattle.dirac_blocks.proofs.Filled.{square}
use Rattle.dirac_block_table.proofs.Fills.{filled_inside, filled_outside, unit_lawful, split_few, unit_placed}
use Rattle.dirac_block_table.proofs.Putting.{IsOutside}
use Rattle.dirac_blocks.proofs.Nearby.{Near, SameWithin, near_within}
use Rattle.dirac_blocks.proofs.Shapes.{shape_join, shape_refl, split_same, unit_same, unit_of_superblock, units_fill}

-- steps came from one table to another, and read the decisions of a rectangle
pub record Came (part : ListKind) (m : BlockTable) (r : Reading) (t : BlockTable) (s : Reading) (left right top bottom : ℕ) (decisions : BlockTable → List Decision) : Type 0 where
  pub lawful : IsBlockTable t
  pub shape : SameShape m t
  pub inside : (x y : ℕ) → left ≤ x → x < right → top ≤ y → y < bottom → with_list_part part (block_at m x y) (block_at t x y) ≡ block_at t x y
  pub outside : (x y : ℕ) → x < 4 * m.across → IsOutside left right top bottom x y → block_at t x y ≡ block_at m x y
  pub led : IsLed s
  pub reads : (u : BlockTable) → SameShape t u → SameWithin t u right bottom → DecisionsAreRead r (decisions u) s

-- no step
nothing_came : (part : ListKind) (m t : BlockTable) (r s : Reading) (left right top bottom : ℕ) (decisions : BlockTable → List Decision) → IsBlockTable m → IsLed r
    → ((x y : ℕ) → left ≤ x → x < right → top ≤ y → y < bottom → ⊥)
    → ((u : BlockTable) → decisions u ≡ []) → (let p : Result (BlockTable × Reading) Cause = Ok (m, r) in p ≡ Ok (t, s))
    → Came part m r t s left right top bottom decisions
nothing_came part m t r s left right top bottom decisions inv led empty none e =
    let here : Came part m r m r left right top bottom decisions = record {
      lawful = inv;
      shape = shape_refl m;
      inside = λ x y a b c d. absurd (empty x y a b c d);
      outside = λ x y p o. refl;
      led = led;
      reads = λ u k w. subst (λ (ds : List Decision). DecisionsAreRead r ds r) (sym (none u)) (reads_nothing r);
    } in
    moved_to (λ (x : BlockTable) (y : Reading). Came part m r x y left right top bottom decisions) e here

-- steps whose rectangles lie beside one another
beside_came : {part : ListKind} {m q t : BlockTable} {r p s : Reading} {left middle end top bottom : ℕ} {first then' whole : BlockTable → List Decision} (right : ℕ)
    → left ≤ middle → middle ≤ right → right ≤ 4 * m.across → end ≡ right → ((u : BlockTable) → SameShape t u → whole u ≡ first u ++ then' u)
    → Came part m r q p left middle top bottom first → Came part q p t s middle end top bottom then' → Came part m r t s left right top bottom whole
beside_came {part = part} {m = m} {q = q} {t = t} {r = r} {p = p} {s = s} {middle = middle} {first = first} {then' = then'} right low high fits is split g h =
    let across = g.shape.across in
    record {
      lawful = h.lawful;
      shape = shape_join m q t g.shape h.shape;
      inside = λ x y a b c d.
          elim (cases_lt x middle) [
            | inl l ↦ subst (λ (z : Block). with_list_part part (block_at m x y) z ≡ z) (sym (h.outside x y (omega arith) (inl (inl l)))) (g.inside x y a l c d)
            | inr l ↦ subst (λ (z : Block). with_list_part part z (block_at t x y) ≡ block_at t x y) (g.outside x y (omega arith) (inl (inr l))) (h.inside x y l (omega arith) c d)
          ];
      outside = λ x y l o.
          elim o [
            | inl a ↦ elim a [
              | inl b ↦ h.outside x y (omega arith) (inl (inl (omega arith))) ∙ g.outside x y l (inl (inl b))
              | inr b ↦ h.outside x y (omega arith) (inl (inr (omega arith))) ∙ g.outside x y l (inl (inr (omega arith)))
            ]
            | inr a ↦ h.outside x y (omega arith) (inr a) ∙ g.outside x y l (inr a)
          ];
      led = h.led;
      reads = λ u k w.
          let before = g.reads u (shape_join q t u h.shape k) (record { each = λ x y a b. sym (h.outside x y (omega arith) (inl (inl a))) ∙ w.each x y (omega arith) b }) in
          let behind = h.reads u k (record { each = λ x y a b. w.each x y (omega arith) b }) in
          subst (λ (ds : List Decision). DecisionsAreRead r ds s) (sym (split u k)) (reads_more r p s (first u) (then' u) before behind);
    }

-- and below one another
below_came : {part : ListKind} {m q t : BlockTable} {r p s : Reading} {left right top middle end : ℕ} {first then' whole : BlockTable → List Decision} (bottom : ℕ)
    → top ≤ middle → middle ≤ bottom → right ≤ 4 * m.across → end ≡ bottom → ((u : BlockTable) → SameShape t u → whole u ≡ first u ++ then' u)
    → Came part m r q p left right top middle first → Came part q p t s left right middle end then' → Came part m r t s left right top bottom whole
below_came {part = part} {m = m} {q = q} {t = t} {r = r} {p = p} {s = s} {middle = middle} {first = first} {then' = then'} bottom low high fits is split g h =
    let across = g.shape.across in
    record {
      lawful = h.lawful;
      shape = shape_join m q t g.shape h.shape;
      inside = λ x y a b c d.
          elim (cases_lt y middle) [
            | inl l ↦ subst (λ (z : Block). with_list_part part (block_at m x y) z ≡ z) (sym (h.outside x y (omega arith) (inr (inl l)))) (g.inside x y a b c l)
            | inr l ↦ subst (λ (z : Block). with_list_part part z (block_at t x y) ≡ block_at t x y) (g.outside x y (omega arith) (inr (inr l))) (h.inside x y a b l (omega arith))
          ];
      outside = λ x y l o.
          elim o [
            | inl a ↦ h.outside x y (omega arith) (inl a) ∙ g.outside x y l (inl a)
            | inr a ↦ elim a [
              | inl b ↦ h.outside x y (omega arith) (inr (inl (omega arith))) ∙ g.outside x y l (inr (inl b))
              | inr b ↦ h.outside x y (omega arith) (inr (inr (omega arith))) ∙ g.outside x y l (inr (inr (omega arith)))
            ]
          ];
      led = h.led;
      reads = λ u k w.
          let before = g.reads u (shape_join q t u h.shape k) (record { each = λ x y a b. sym (h.outside x y (omega arith) (inr (inl b))) ∙ w.each x y a (omega arith) }) in
          let behind = h.reads u k (record { each = λ x y a b. w.each x y a (omega arith) }) in
          subst (λ (ds : List Decision). DecisionsAreRead r ds s) (sym (split u k)) (reads_more r p s (first u) (then' u) before behind);
    }

-- a unit
unit_step_came : (part : ListKind) (m t : BlockTable) (size i j : ℕ) (r s : Reading) → IsBlockTable m → IsFirstOfUnit m size i j → IsLed r
    → read_coded (unit_read_step part size i j m) r ≡ Ok (t, s)
    → Came part m r t s i (i + size) j (j + size) (λ u. part_at part u i j)
unfolding unit_read_step
unit_step_came part m t size i j r s inv unit led e =
    let placed = unit_placed m size i j inv unit in
    let some = placed.some in
    let columns = placed.columns in
    let rows = placed.row in
    let q = passed (read_coded (unit_coded part m i j) r) (λ b. let x : Result (BlockTable × Reading) Cause = Ok (with_unit m size i j b.0, b.1) in x) (t, s)
    (sym (then_is_read (unit_coded part m i j) (λ c. done (with_unit m size i j c)) r) ∙ e) in
    let b = q.value.0 in
    let mid = q.value.1 in
    let came = unit_came part m i j b r mid inv led q.first in
    let new = with_unit m size i j b in
    let outside' = filled_outside m size i j b inv unit in
    let near : (u : BlockTable) → SameWithin new u (i + size) (j + size) → Near m u i j = λ u w.
    near_within m u i j (record { each = λ x y p q. sym (outside' x y (omega arith) (inl (inl p))) ∙ w.each x y (omega arith) (omega arith) })
    (record { each = λ x y p q. sym (outside' x y (omega arith) (inr (inl q))) ∙ w.each x y (omega arith) (omega arith) }) in
    let filled : (u : BlockTable) → SameWithin new u (i + size) (j + size) → block_at u i j ≡ b = λ u w.
    sym (w.each i j (omega arith) (omega arith)) ∙ filled_inside m size i j b inv unit i j (omega arith) (omega arith) (omega arith) (omega arith) in
    let here : Came part m r new mid i (i + size) j (j + size) (λ u. part_at part u i j) = record {
      lawful = unit_lawful m size i j b inv unit came.lawful;
      shape = record { across = refl; down = refl; refs = refl; splits = refl };
      inside = λ x y a c d f.
          subst (λ (z : Block). with_list_part part (block_at m x y) z ≡ z) (sym (filled_inside m size i j b inv unit x y a c d f))
          (subst (λ (z : Block). with_list_part part z b ≡ b) (sym (square m size i j inv unit x y a c d f)) came.is);
      outside = outside';
      led = led_more r mid (part_at part new i j) led (came.reads new refl (near new (record { each = λ x y p q. refl })) (filled new (record { each = λ x y p q. refl })));
      reads = λ u k w. came.reads u k.refs (near u w) (filled u w);
    } in
    moved_to (λ (x : BlockTable) (y : Reading). Came part m r x y i (i + size) j (j + size) (λ u. part_at part u i j)) q.next here

-- n units of a row
pub row_came : (part : ListKind) (m t : BlockTable) (size i j n : ℕ) (r s : Reading) → IsBlockTable m → ((k : ℕ) → k < n → IsFirstOfUnit m size (i + k * size) j) → IsLed r
    → i + n * size ≤ 4 * m.across
    → read_coded (unit_row_step part size i j n m) r ≡ Ok (t, s)
    → Came part m r t s i (i + n * size) j (j + size) (λ u. unit_row (part_at part u) size i j n)
unfolding unit_row repeated
row_came part m t size i j zero r s inv units led fits e =
    nothing_came part m t r s i (i + 0 * size) j (j + size) (λ u. unit_row (part_at part u) size i j 0) inv led (λ x y a b c d. omega arith) (λ u. refl) e
row_came part m t size i j (suc n) r s inv units led fits e =
    let step = λ (k : ℕ). unit_read_step part size (i + k * size) j in
    let end : suc n * size ≡ n * size + size = omega arith in
    let q = passed (read_coded (repeated step n m) r) (λ x. read_coded (step n x.0) x.1) (t, s) (sym (then_is_read (repeated step n m) (step n) r) ∙ e) in
    let g = row_came part m q.value.0 size i j n r q.value.1 inv (λ k l. units k (omega arith)) led (omega arith) q.first in
    let h = unit_step_came part q.value.0 t size (i + n * size) j q.value.1 s g.lawful (unit_same m q.value.0 size (i + n * size) j g.shape (units n (omega arith))) g.led q.next in
    let width : 4 * q.value.0.across ≡ 4 * m.across = ap (λ (k : ℕ). 4 * k) g.shape.across in
    beside_came (i + suc n * size) (omega arith) (omega arith) (omega arith) (omega arith) (λ u k. refl) g h

-- n rows of units
pub rows_came : (part : ListKind) (m t : BlockTable) (size across i j n : ℕ) (r s : Reading) → IsBlockTable m
    → ((k l : ℕ) → k < across → l < n → IsFirstOfUnit m size (i + k * size) (j + l * size)) → IsLed r → i + across * size ≤ 4 * m.across
    → read_coded (unit_rows_step part size across i j n m) r ≡ Ok (t, s)
    → Came part m r t s i (i + across * size) j (j + n * size) (λ u. unit_rows (part_at part u) size across i j n)
unfolding unit_rows repeated
rows_came part m t size across i j zero r s inv units led fits e =
    nothing_came part m t r s i (i + across * size) j (j + 0 * size) (λ u. unit_rows (part_at part u) size across i j 0) inv led (λ x y a b c d. omega arith) (λ u. refl) e
rows_came part m t size across i j (suc n) r s inv units led fits e =
    let step : ℕ → TableStep = λ k. unit_row_step part size i (j + k * size) across in
    let end : suc n * size ≡ n * size + size = omega arith in
    let q = passed (read_coded (repeated step n m) r) (λ x. read_coded (step n x.0) x.1) (t, s) (sym (then_is_read (repeated step n m) (step n) r) ∙ e) in
    let g = rows_came part m q.value.0 size across i j n r q.value.1 inv (λ k l p o. units k l p (omega arith)) led fits q.first in
    let width : 4 * q.value.0.across ≡ 4 * m.across = ap (λ (k : ℕ). 4 * k) g.shape.across in
    let h = row_came part q.value.0 t size i (j + n * size) across q.value.1 s g.lawful
    (λ k l. unit_same m q.value.0 size (i + k * size) (j + n * size) g.shape (units k n l (omega arith))) g.led (omega arith) q.next in
    below_came (j + suc n * size) (omega arith) (omega arith) fits (omega arith) (λ u k. refl) g h

-- a superblock
pub superblock_came : (part : ListKind) (m t : BlockTable) (sx sy : ℕ) (r s : Reading) → IsBlockTable m → sx < m.across → sy < m.down → IsLed r
    → read_coded (superblock_step part sy sx m) r ≡ Ok (t, s)
    → Came part m r t s (4 * sx) (4 * sx + 4) (4 * sy) (4 * sy + 4) (λ u. superblock_part (part_at part u) m sx sy)
unfolding superblock_step
superblock_came part m t sx sy r s inv hx hy led e =
    let k = split_at m sx sy in
    let two : k ≤ 2 = split_few m sx sy inv hx hy in
    let size = unit_size k in
    let fill : 2 ^ k * size ≡ 4 = units_fill k two in
    let g = rows_came part m t size (2 ^ k) (4 * sx) (4 * sy) (2 ^ k) r s inv (λ a b p q. unit_of_superblock m sx sy a b hx hy p q) led (omega arith) e in
    let P : ℕ → Type 0 = λ n. Came part m r t s (4 * sx) (4 * sx + n) (4 * sy) (4 * sy + n) (λ u. superblock_part (part_at part u) m sx sy) in
    subst P fill g

superblock_shape : (part : ListKind) (m u v : BlockTable) (sx sy : ℕ) → SameShape m u → superblock_part (part_at part v) m sx sy ≡ superblock_part (part_at part v) u sx sy
superblock_shape part m u v sx sy s =
    ap (λ (k : ℕ). unit_rows (part_at part v) (unit_size k) (2 ^ k) (4 * sx) (4 * sy) (2 ^ k)) (sym (split_same m u sx sy s))

-- n superblocks of a row
pub superblocks_came : (part : ListKind) (m t : BlockTable) (sy n : ℕ) (r s : Reading) → IsBlockTable m → n ≤ m.across → sy < m.down → IsLed r
    → read_coded (repeated (superblock_step part sy) n m) r ≡ Ok (t, s)
    → Came part m r t s 0 (4 * n) (4 * sy) (4 * sy + 4) (λ u. superblock_row (part_at part u) u sy n)
unfolding superblock_row repeated
superblocks_came part m t sy zero r s inv few hy led e =
    nothing_came part m t r s 0 (4 * 0) (4 * sy) (4 * sy + 4) (λ u. superblock_row (part_at part u) u sy 0) inv led (λ x y a b c d. omega arith) (λ u. refl) e
superblocks_came part m t sy (suc n) r s inv few hy led e =
    let q = passed (read_coded (repeated (superblock_step part sy) n m) r) (λ x. read_coded (superblock_step part sy n x.0) x.1) (t, s) (sym (then_is_read (repeated (superblock_step part sy) n m) (superblock_step part sy n) r) ∙ e) in
    let g = superblocks_came part m q.value.0 sy n r q.value.1 inv (omega arith) hy led q.first in
    let across = g.shape.across in
    let down = g.shape.down in
    let h = superblock_came part q.value.0 t n sy q.value.1 s g.lawful (omega arith) (omega arith) g.led q.next in
    beside_came (4 * suc n) (omega arith) (omega arith) (omega arith) (omega arith)
    (λ u k. ap (λ (ds : List Decision). superblock_row (part_at part u) u sy n ++ ds) (sym (superblock_shape part q.value.0 u u n sy (shape_join q.value.0 t u h.shape k)))) g h

-- n rows of superblocks
pub superblock_rows_came : (part : ListKind) (m t : BlockTable) (across n : ℕ) (r s : Reading) → IsBlockTable m → across ≡ m.across → n ≤ m.down → IsLed r
    → read_coded (repeated (λ sy. repeated (superblock_step part sy) across) n m) r ≡ Ok (t, s)
    → Came part m r t s 0 (4 * across) 0 (4 * n) (λ u. superblock_rows (part_at part u) u n)
unfolding superblock_rows repeated
superblock_rows_came part m t across zero r s inv all few led e =
    nothing_came part m t r s 0 (4 * across) 0 (4 * 0) (λ u. superblock_rows (part_at part u) u 0) inv led (λ x y a b c d. omega arith) (λ u. refl) e
superblock_rows_came part m t across (suc n) r s inv all few led e =
    let step : ℕ → TableStep = λ sy. repeated (superblock_step part sy) across in
    let q = passed (read_coded (repeated step n m) r) (λ x. read_coded (step n x.0) x.1) (t, s) (sym (then_is_read (repeated step n m) (step n) r) ∙ e) in
    let g = superblock_rows_came part m q.value.0 across n r q.value.1 inv all (omega arith) led q.first in
    let wide = g.shape.across in
    let high = g.shape.down in
    let h = superblocks_came part q.value.0 t n across q.value.1 s g.lawful (omega arith) (omega arith) g.led q.next in
    below_came (4 * suc n) (omega arith) (omega arith) (omega arith) (omega arith)
    (λ u k.
    let all' : u.across ≡ across = omega (arith, k.across, h.shape.across) in
    ap (λ (w : ℕ). superblock_rows (part_at part u) u n ++ superblock_row (part_at part u) u n w) all') g h

-- a whole list
pub read_is_carried : ReadIsCarried
read_is_carried part former t block inv h =
    let g = superblock_rows_came part former t former.across former.down (begin block) h.0 inv refl (omega arith) (led_begin block) h.1 in
    let reads = g.reads t (shape_refl t) (record { each = λ x y a b. refl }) in
    let same : superblock_rows (part_at part t) t former.down ≡ unit_decisions t (part_at part t) =
    ap (λ (n : ℕ). superblock_rows (part_at part t) t n) (sym g.shape.down) in
    record {
      lawful = g.lawful;
      rest = record { shape = g.shape; blocks = λ i j p q. g.inside i j (omega arith) p (omega arith) q };
      carried = reads_carried block (unit_decisions t (part_at part t)) h.0 (subst (λ (ds : List Decision). DecisionsAreRead (begin block) ds h.0) same reads);
    }
