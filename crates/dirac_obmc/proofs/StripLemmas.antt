-- Some rows of a plane as one list, to which blocks are added.
use Rattle.std.proofs.Common.{◌≡◌, ℕ, ℤ, pos, suc, ◌+◌, ◌-◌, ◌*◌, ◌/◌, ◌%◌, ◌^◌, ◌<◌, ◌≤◌, ◌+ℤ◌, ◌*ℤ◌, unsigned_abs, List, length, get_or, take, arith, refl, inl, inr, ap, ap₂, sym, ◌∙◌}
use Rattle.std.specs.List.{All}
use Rattle.std.proofs.Math.IntN.{zero-*ℤ}
use Rattle.std.proofs.Math.Nat.{mul_comm, suc-mul, zero-mul}
use Rattle.std.proofs.lemmas.Bool.{cases_lt}
use Rattle.std.proofs.lemmas.Int.{ints}
use Rattle.std.proofs.lemmas.List.{get_or_default, get_or-append_right, get_or-take, length-take-le}
use Rattle.std.proofs.lemmas.Slice.{take-put_mid}
use borrow.Rule.Slice.PartMut.{put_mid}
use Rattle.std.proofs.lemmas.Nat.{div-add-mod', div-mul-add, div_below, mod-mul-add, mod_below, mul-le, row_fits}
use Rattle.dirac_block_table.specs.declared.block.Block.{Block}
use Rattle.dirac_block_table.specs.Tables.{block_at}
use Rattle.dirac_obmc.specs.declared.rows.Lines.{Lines}
use Rattle.dirac_obmc.specs.declared.rows.Part.{Part}
use Rattle.dirac_obmc.specs.declared.rows.Span.{Span}
use Rattle.dirac_obmc.specs.declared.sums.Weighed.{Weighed}
use Rattle.dirac_obmc.specs.Adding.{Adds, AddsPart, AreWeighed, weighed_at}
use Rattle.dirac_obmc.specs.Compensation.{Compensation, IsCompensation, blocks_across, blocks_down, predicts, x_length, x_separation, y_length, y_separation}
use Rattle.dirac_obmc.specs.Directions.{IsSoundCompensation}
use Rattle.dirac_obmc.specs.Strips.{IsLines, IsPartOfRun, IsRun, IsSpan, run_added_at, run_share, run_term}
use Rattle.dirac_obmc.specs.Weights.{share}
use Rattle.dirac_obmc.proofs.AddLemmas.{add_zero, adds_none}
use Rattle.dirac_obmc.proofs.Bounds.{block_is, predicts_small}
use Rattle.dirac_obmc.proofs.Runs.{run_is, run_nothing_across, run_nothing_down, run_small}

-- the sums below place n have grown by f, all others are as they were
pub record AddsBelow (f : ℕ → ℤ) (n : ℕ) (old new : List ℤ) : Type 0 where
  pub len : length new ≡ length old
  pub done : (p : ℕ) → p < n → get_or new p (pos 0) ≡ get_or old p (pos 0) +ℤ f p
  pub rest : (p : ℕ) → n ≤ p → get_or new p (pos 0) ≡ get_or old p (pos 0)

unmoved : (x y : ℤ) → y ≡ pos 0 → x ≡ x +ℤ y
unmoved x y e = sym (add_zero x) ∙ ap (λ z. x +ℤ z) (sym e)

-- nothing is added below place n
pub below_none : (f : ℕ → ℤ) (n : ℕ) (xs : List ℤ) → ((p : ℕ) → p < n → f p ≡ pos 0) → AddsBelow f n xs xs
below_none f n xs h = record { len = refl; done = λ p l. unmoved (get_or xs p (pos 0)) (f p) (h p l); rest = λ p l. refl }

-- one more row of w places, of which f is 0 but at n of them from place s on
below_row : (f g : ℕ → ℤ) (w r s n e : ℕ) (xs ys zs : List ℤ) → AddsBelow f (r * w) xs ys → AddsPart (r * w + s) g n ys zs → s + n ≤ w → e ≡ r * w + w → ((k : ℕ) → k < n → g k ≡ f (r * w + (s + k)))
    → ((x : ℕ) → x < s → x < w → f (r * w + x) ≡ pos 0) → ((x : ℕ) → s + n ≤ x → x < w → f (r * w + x) ≡ pos 0) → AddsBelow f e xs zs
below_row f g w r s n e xs ys zs a b fits next same left right = record {
  len = b.len ∙ a.len;
  done = λ p l. elim (cases_lt p (r * w)) [
    | inl above ↦ b.before p (omega (arith, above)) ∙ a.done p above
    | inr here ↦ elim (cases_lt p (r * w + s)) [
      | inl before ↦
          let place : r * w + (p - r * w) ≡ p = omega (arith, here) in
          let none : f p ≡ pos 0 = ap f (sym place) ∙ left (p - r * w) (omega (arith, before, here)) (omega (arith, before, here, fits)) in
          b.before p before ∙ a.rest p here ∙ unmoved (get_or xs p (pos 0)) (f p) none
      | inr from ↦ elim (cases_lt p (r * w + s + n)) [
        | inl inside ↦
            let at : r * w + s + (p - (r * w + s)) ≡ p = omega (arith, from) in
            let place : r * w + (s + (p - (r * w + s))) ≡ p = omega (arith, from) in
            ap (λ i. get_or zs i (pos 0)) (sym at) ∙ b.done (p - (r * w + s)) (omega (arith, inside, from))
            ∙ ap₂ (λ (u v : ℤ). u +ℤ v) (ap (λ i. get_or ys i (pos 0)) at ∙ a.rest p here) (same (p - (r * w + s)) (omega (arith, inside, from)) ∙ ap f place)
        | inr past ↦
            let place : r * w + (p - r * w) ≡ p = omega (arith, here) in
            let none : f p ≡ pos 0 = ap f (sym place) ∙ right (p - r * w) (omega (arith, past, here)) (omega (arith, l, next, here)) in
            b.rest p past ∙ a.rest p here ∙ unmoved (get_or xs p (pos 0)) (f p) none
      ]
    ]
  ];
  rest = λ p l. b.rest p (omega (arith, l, next, fits)) ∙ a.rest p (omega (arith, l, next));
}

-- how large the sums are then
pub below_bounded : (f : ℕ → ℤ) (n a b c : ℕ) (xs ys : List ℤ) → AddsBelow f n xs ys → All (λ v. unsigned_abs v ≤ a) xs → ((p : ℕ) → p < n → p < length xs → unsigned_abs (f p) ≤ b) → a + b ≤ c
    → All (λ v. unsigned_abs v ≤ c) ys
below_bounded f n a b c xs ys s h g l k d inside =
    let old : unsigned_abs (get_or xs k (pos 0)) ≤ a = h k (pos 0) (omega (arith, inside, s.len)) in
    elim (cases_lt k n) [
      | inl here ↦ rw (get_or_default ys k d (pos 0) inside, s.done k here) (abs_within (get_or xs k (pos 0)) (f k) old (g k here (omega (arith, inside, s.len))))
      | inr past ↦ rw (get_or_default ys k d (pos 0) inside, s.rest k past) (omega (arith, old, l))
    ]
  where
    abs_within : (x y : ℤ) → unsigned_abs x ≤ a → unsigned_abs y ≤ b → unsigned_abs (x +ℤ y) ≤ c
    abs_within x y p q = omega (arith, ints)

-- nothing is added to the others
pub below_all : (f : ℕ → ℤ) (n m : ℕ) (xs ys : List ℤ) → AddsBelow f n xs ys → ((p : ℕ) → n ≤ p → p < m → f p ≡ pos 0) → Adds f m xs ys
below_all f n m xs ys s none = record {
  len = s.len;
  each = λ p l. elim (cases_lt p n) [
    | inl here ↦ s.done p here
    | inr past ↦ s.rest p past ∙ unmoved (get_or xs p (pos 0)) (f p) (none p past l)
  ];
}

-- a place of the list is one of a column and a row
pub column_inside : (m : Compensation) (p : ℕ) → IsCompensation m → p % m.width < m.width
column_inside m p h = mod_below p m.width (omega (arith, h.some_across))

pub row_inside : (m : Compensation) (first end p : ℕ) → IsCompensation m → p < m.width * (end - first) → p / m.width < end - first
row_inside m first end p h l = div_below p m.width (end - first) (omega (arith, h.some_across)) (omega (arith, l, mul_comm m.width (end - first)))

row_behind : (w e p : ℕ) → 0 < w → e * w ≤ p → e ≤ p / w
row_behind w e p some h = elim (cases_lt (p / w) e) [
  | inl low ↦ absurd (omega (arith, row_fits (p / w) w e w low (omega arith), div-add-mod' p w, mod_below p w some, h))
  | inr high ↦ high
]

run_row : (m : Compensation) (first r x j i n : ℕ) → x < m.width → run_added_at m first j i n (r * m.width + x) ≡ run_term m x (first + r) j i n
run_row m first r x j i n l =
    ap (λ a. run_term m a (first + (r * m.width + x) / m.width) j i n) (mod-mul-add r m.width x l) ∙ ap (λ b. run_term m x (first + b) j i n) (div-mul-add r m.width x l)

-- above the rows of a run and below them nothing is added
pub part_above : (m : Compensation) (first end : ℕ) (part : Part) (p : ℕ) → IsCompensation m → IsPartOfRun m first end part → p < (part.down.start - first) * m.width
    → run_added_at m first part.run.j part.run.i part.run.count p ≡ pos 0
part_above m first end part p h s l =
    let row = div_below p m.width (part.down.start - first) (omega (arith, h.some_across)) l in
    run_nothing_down m (p % m.width) (first + p / m.width) part.run.j part.run.i part.run.count (s.rows.before (first + p / m.width) (omega arith) (omega (arith, row)))

pub part_below : (m : Compensation) (first end : ℕ) (part : Part) (p : ℕ) → IsCompensation m → IsPartOfRun m first end part → (part.down.end - first) * m.width ≤ p → p < m.width * (end - first)
    → run_added_at m first part.run.j part.run.i part.run.count p ≡ pos 0
part_below m first end part p h s past l =
    let row = row_behind m.width (part.down.end - first) p (omega (arith, h.some_across)) past in
    run_nothing_down m (p % m.width) (first + p / m.width) part.run.j part.run.i part.run.count
    (s.rows.behind (first + p / m.width) (omega (arith, row)) (omega (arith, row_inside m first end p h l)))

-- what a run adds to a row
weighed_same : (a b c d : ℕ) (v w : ℤ) → a ≡ b → c ≡ d → v ≡ w → pos (a * c) *ℤ v ≡ pos (b * d) *ℤ w
weighed_same a b c d v w ea ec ev = ap (λ s. pos (s * c) *ℤ v) ea ∙ ap (λ s. pos (b * s) *ℤ v) ec ∙ ap (λ z. pos (b * d) *ℤ z) ev

-- a row of its values, and their weights
abbrev pub weighed_in : Lines → Part → ℕ → Weighed
weighed_in ls part y = record {
  values = part.values;
  at = (y - part.down.start) * part.width;
  weights = part.weights;
  down = get_or ls.weights.now (part.down.weights + (y - part.down.start)) 0;
}

pub part_row : (m : Compensation) (ls : Lines) (part : Part) (y : ℕ) (xs ys zs : List ℤ) → IsCompensation m → IsLines m ls → IsPartOfRun m ls.first ls.end part → part.down.start ≤ y → y < part.down.end
    → AddsBelow (run_added_at m ls.first part.run.j part.run.i part.run.count) ((y - ls.first) * m.width) xs ys
    → AddsPart ((y - ls.first) * m.width + part.left) (weighed_at (weighed_in ls part y)) (part.right - part.left) ys zs
    → AddsBelow (run_added_at m ls.first part.run.j part.run.i part.run.count) ((y + 1 - ls.first) * m.width) xs zs
unfolding weighed_at
part_row m ls part y xs ys zs h hs s from to a b =
    let first = ls.first in
    let i = part.run.i in
    let j = part.run.j in
    let n = part.run.count in
    let row : first + (y - ls.first) ≡ y = omega (arith, from, s.rows.from) in
    let next : (y + 1 - ls.first) * m.width ≡ suc (y - ls.first) * m.width = ap (λ n. n * m.width) (omega (arith, from, s.rows.from)) in
    let down : get_or ls.weights.now (part.down.weights + (y - part.down.start)) 0 ≡ share j (blocks_down m) (y_length m) (y_separation m) y =
    s.rows.weight ls.weights.now (y - part.down.start) hs.weights (omega (arith, from, to)) ∙ ap (share j (blocks_down m) (y_length m) (y_separation m)) (omega (arith, from)) in
    let told : (x : ℕ) → x < m.width → run_added_at m first j i n ((y - ls.first) * m.width + x) ≡ run_term m x y j i n =
    λ x l. run_row m first (y - ls.first) x j i n l ∙ ap (λ b. run_term m x b j i n) row in
    below_row (run_added_at m first j i n) _ m.width (y - ls.first) part.left (part.right - part.left) _ xs ys zs a b (omega (arith, s.some_columns, s.columns.to)) (omega (arith, next, suc-mul (y - ls.first) m.width))
    (λ k l. weighed_same _ _ _ _ _ _ (s.columns.weight k l) down
    (s.values (y - part.down.start) k (omega (arith, from, to)) (omega (arith, l, s.fits)) ∙ ap (predicts m (block_at m.blocks i j) (part.left + k)) (omega (arith, from)))
    ∙ sym (run_is m (part.left + k) y j i n s.run.same)
    ∙ sym (told (part.left + k) (omega (arith, l, s.columns.to))))
    (λ x l w. told x w ∙ run_nothing_across m x y j i n s.run.same (s.columns.before x l))
    (λ x l w. told x w ∙ run_nothing_across m x y j i n s.run.same (s.columns.behind x (omega (arith, l, s.some_columns)) w))

-- a weight 0 adds nothing
pub weighed_none : (w : Weighed) (k : ℕ) → get_or w.weights.now k 0 ≡ 0 → weighed_at w k ≡ pos 0
unfolding weighed_at
weighed_none w k e =
    let v = get_or w.values.now (w.at + k) (pos 0) in
    ap (λ s. pos (s * w.down) *ℤ v) e ∙ ap (λ s. pos s *ℤ v) (zero-mul w.down) ∙ zero-*ℤ v

-- how much it adds
pub part_small : (m : Compensation) (ls : Lines) (part : Part) (p : ℕ) → IsCompensation m → IsSoundCompensation m → IsLines m ls → IsPartOfRun m ls.first ls.end part → p < m.width * (ls.end - ls.first)
    → unsigned_abs (run_added_at m ls.first part.run.j part.run.i part.run.count p) ≤ 2 ^ 22
part_small m ls part p h sound hs s l =
    run_small m (p % m.width) (ls.first + p / m.width) part.run.j part.run.i part.run.count h sound (column_inside m p h) (omega (arith, row_inside m ls.first ls.end p h l, hs.inside)) s.run.down s.run.across

-- where its values, its weights and its sums stand
pub part_fits : (m : Compensation) (first end : ℕ) (part : Part) (y : ℕ) → IsPartOfRun m first end part → part.down.start ≤ y → y < part.down.end
    → ((y - first) * m.width + part.left) + (part.right - part.left) ≤ m.width * (end - first)
part_fits m first end part y s from to =
    omega (arith, row_fits (y - first) m.width (end - first) m.width (omega (arith, from, to, s.rows.from, s.rows.to)) (omega arith), s.columns.to, s.some_columns, mul_comm m.width (end - first))

pub part_low : (m : Compensation) (ls : Lines) (part : Part) (y : ℕ) → IsCompensation m → IsLines m ls → IsPartOfRun m ls.first ls.end part → part.down.start ≤ y → y < part.down.end → (y - ls.first) * m.width + part.left ≤ 16777216
part_low m ls part y h hs s from to =
    omega (arith, part_fits m ls.first ls.end part y s from to, mul-le m.width (ls.end - ls.first) 4096 4096 h.most_across (omega (arith, hs.inside, h.most_down)))

pub part_weighed : (m : Compensation) (ls : Lines) (part : Part) (y count : ℕ) → IsCompensation m → IsSoundCompensation m → IsLines m ls → IsPartOfRun m ls.first ls.end part → part.down.start ≤ y → y < part.down.end → count ≤ part.width
    → AreWeighed (weighed_in ls part y) count
part_weighed m ls part y count h sound hs s from to few = record {
  enough = omega (arith, row_fits (y - part.down.start) part.width (part.down.end - part.down.start) part.width (omega (arith, from, to)) (omega arith), s.whole, few);
  values = λ k l. rw (s.values (y - part.down.start) k (omega (arith, from, to)) (omega (arith, l, few)))
      (predicts_small m _ _ _ _ h sound (block_is m part.run.i part.run.j sound (omega (arith, s.run.some, s.run.across)) s.run.down));
  listed = omega (arith, s.listed, few);
  weights = s.columns.small;
  down = hs.weights.small (part.down.weights + (y - part.down.start)) 0 (omega (arith, hs.weights.whole, s.rows.listed (omega (arith, from, to)), from, to));
}

-- a run that holds no column or no row adds nothing
pub no_columns : (m : Compensation) (first end i j n left right : ℕ) (xs : List ℤ) → IsCompensation m → IsRun m i n j → right ≤ left
    → ((x : ℕ) → x < left → run_share (blocks_across m) (x_length m) (x_separation m) i n x ≡ 0)
    → ((x : ℕ) → right ≤ x → x < m.width → run_share (blocks_across m) (x_length m) (x_separation m) i n x ≡ 0) → Adds (run_added_at m first j i n) (m.width * (end - first)) xs xs
no_columns m first end i j n left right xs h r none before behind =
    adds_none (run_added_at m first j i n) (m.width * (end - first)) xs
    (λ p l. run_nothing_across m (p % m.width) (first + p / m.width) j i n r.same
    (elim (cases_lt (p % m.width) left) [
      | inl here ↦ before (p % m.width) here
      | inr past ↦ behind (p % m.width) (omega (arith, past, none)) (column_inside m p h)
    ]))

pub no_rows : (m : Compensation) (first end i j n : ℕ) (s : Span) (xs : List ℤ) → IsCompensation m → IsSpan j (blocks_down m) (y_length m) (y_separation m) first end s → s.end ≤ s.start
    → Adds (run_added_at m first j i n) (m.width * (end - first)) xs xs
no_rows m first end i j n s xs h a none =
    adds_none (run_added_at m first j i n) (m.width * (end - first)) xs
    (λ p l. run_nothing_down m (p % m.width) (first + p / m.width) j i n
    (elim (cases_lt (first + p / m.width) s.start) [
      | inl above ↦ a.before (first + p / m.width) (omega arith) above
      | inr below ↦ a.behind (first + p / m.width) (omega (arith, below, none)) (omega (arith, row_inside m first end p h l))
    ]))

-- room for so many rows
pub room_rows : (rows n w : ℕ) → n ≤ rows → w ≤ 64 → n * w ≤ 64 * rows
room_rows rows n w few small = omega (arith, mul-le n w rows 64 few small, mul_comm rows 64)

-- so many rows are whole rows
pub whole_rows : (len n w : ℕ) → len ≡ n * w → 1 ≤ w → len % w ≡ 0
whole_rows len n w e some =
    let more : len ≡ n * w + 0 = omega (arith, e) in
    ap (λ k. k % w) more ∙ mod-mul-add n w 0 (omega (arith, some))

-- a list whose front is written over
pub front_read : (k n : ℕ) (xs ws : List ℤ) → n < length ws → get_or (put_mid 0 k xs ws) n (pos 0) ≡ get_or ws n (pos 0)
front_read k n xs ws l =
    let same : n - 0 ≡ n = omega arith in
    sym (get_or-take (length ws) (put_mid 0 k xs ws) n (pos 0) l)
    ∙ ap (λ ys. get_or ys n (pos 0)) (take-put_mid 0 k xs ws (length ws) (omega arith) (omega arith))
    ∙ get_or-append_right (take 0 xs) ws 0 n (pos 0) (length-take-le 0 xs (omega arith)) (omega arith)
    ∙ ap (λ i. get_or ws i (pos 0)) same

-- what a block predicts at column k of row r of its rows
pub predicts_at : (m : Compensation) (a b : Block) (x y w r k : ℕ) → k < w → a ≡ b → predicts m a (x + (r * w + k) % w) (y + (r * w + k) / w) ≡ predicts m b (x + k) (y + r)
predicts_at m a b x y w r k l e =
    ap (λ q. predicts m a (x + q) (y + (r * w + k) / w)) (mod-mul-add r w k l) ∙ ap (λ q. predicts m a (x + k) (y + q)) (div-mul-add r w k l)
    ∙ ap (λ c. predicts m c (x + k) (y + r)) e
