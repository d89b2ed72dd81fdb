-- Blocks that stand side by side and are alike.
use Rattle.std.proofs.Common.{◌≡◌, ℕ, zero, suc, ℤ, pos, ◌+◌, ◌-◌, ◌*◌, ◌/◌, ◌^◌, ◌<◌, ◌≤◌, ◌+ℤ◌, ◌*ℤ◌, unsigned_abs, List, length, get_or, max, min, arith, ap, inl, inr, sym, subst, ◌∙◌}
use Rattle.std.specs.List.{All}
use Rattle.std.proofs.Math.IntN.{zero-*ℤ}
use Rattle.std.proofs.Math.Nat.{add-mul, zero-mul}
use Rattle.std.proofs.lemmas.Bool.{cases_lt}
use Rattle.std.proofs.lemmas.Int.{ints}
use Rattle.std.proofs.lemmas.List.{get_or_past, get_or_default}
use Rattle.std.proofs.lemmas.Nat.{mul-le}
use Rattle.dirac_block_table.specs.Tables.{block_at}
use Rattle.dirac_obmc.specs.declared.direction.Direction.{Direction}
use Rattle.dirac_obmc.specs.declared.rows.Columns.{Columns}
use Rattle.dirac_obmc.specs.declared.rows.Span.{Span}
use Rattle.dirac_obmc.specs.Adding.{Adds}
use Rattle.dirac_obmc.specs.Compensation.{Compensation, IsCompensation, blocks_across, blocks_down, predicts, term, signed_total, weight_of, x_length, x_separation, y_length, y_separation}
use Rattle.dirac_obmc.specs.Directions.{IsColumns, IsDirection, IsSoundCompensation}
use Rattle.dirac_obmc.specs.Strips.{AreRunWeights, IsRun, IsSpan, run_share, run_term}
use Rattle.dirac_obmc.specs.Weights.{IsOverlap, share, sum_below}
use Rattle.dirac_obmc.proofs.AddLemmas.{add_zero}
use Rattle.dirac_obmc.proofs.Added.{nothing_down}
use Rattle.dirac_obmc.proofs.Bounds.{row_small}
use Rattle.dirac_obmc.proofs.Eight.{eight}
use Rattle.dirac_obmc.proofs.FewTerms.{sum_none}
use Rattle.dirac_obmc.proofs.Flat.{total_weighed}
use Rattle.dirac_obmc.proofs.Shares.{share_before, share_behind}
use Rattle.dirac_obmc.proofs.SixtyFour.{sum_scaled}
use Rattle.dirac_obmc.proofs.Spans.{span_told}
use Rattle.dirac_obmc.proofs.Totals.{sum_grows, total_nothing}

regroup : (p q r : ℤ) → (p +ℤ q) +ℤ r ≡ p +ℤ (q +ℤ r)
regroup p q r = omega (arith, ints)

-- a sum in two parts
pub total_split : (f : ℕ → ℤ) (a n : ℕ) → signed_total f (a + n) ≡ signed_total f a +ℤ signed_total (λ k. f (a + k)) n
total_split f a zero =
    let all : a + 0 ≡ a = omega arith in
    ap (signed_total f) all ∙ sym (add_zero (signed_total f a))
total_split f a (suc n) =
    let next : a + suc n ≡ suc (a + n) = omega arith in
    ap (signed_total f) next ∙ ap (λ z. z +ℤ f (a + n)) (total_split f a n) ∙ regroup (signed_total f a) (signed_total (λ k. f (a + k)) n) (f (a + n))

pub sum_split : (f : ℕ → ℕ) (a n : ℕ) → sum_below f (a + n) ≡ sum_below f a + sum_below (λ k. f (a + k)) n
sum_split f a zero =
    let all : a + 0 ≡ a = omega arith in
    omega (arith, ap (sum_below f) all)
sum_split f a (suc n) =
    let next : a + suc n ≡ suc (a + n) = omega arith in
    omega (arith, ap (sum_below f) next, sum_split f a n)

-- the next few terms are added
pub adds_run : (f : ℕ → ℕ → ℤ) (a b c n : ℕ) (xs ys zs ws : List ℤ) → Adds (λ x. signed_total (f x) a) n xs ys → Adds (λ x. signed_total (λ k. f x (a + k)) b) n ys zs → c ≡ a + b → ws ≡ zs → Adds (λ x. signed_total (f x) c) n xs ws
adds_run f a b c n xs ys zs ws p q e same = subst (λ (vs : List ℤ). Adds (λ x. signed_total (f x) c) n xs vs) (sym same) (record {
  len = q.len ∙ p.len;
  each = λ x l.
      q.each x l ∙ ap (λ z. z +ℤ signed_total (λ k. f x (a + k)) b) (p.each x l) ∙ regroup (get_or xs x (pos 0)) (signed_total (f x) a) (signed_total (λ k. f x (a + k)) b)
      ∙ ap (λ z. get_or xs x (pos 0) +ℤ z) (sym (total_split (f x) a b)) ∙ ap (λ i. get_or xs x (pos 0) +ℤ signed_total (f x) i) (sym e);
})

-- what the blocks of a run add together
pub run_is : (m : Compensation) (x y j i n : ℕ) → ((k : ℕ) → k < n → block_at m.blocks (i + k) j ≡ block_at m.blocks i j)
    → run_term m x y j i n
    ≡ pos (run_share (blocks_across m) (x_length m) (x_separation m) i n x * share j (blocks_down m) (y_length m) (y_separation m) y) *ℤ predicts m (block_at m.blocks i j) x y
unfolding term
run_is m x y j i n same =
    total_weighed (λ k. term m x y j (i + k)) (λ k. weight_of m x y j (i + k)) (predicts m (block_at m.blocks i j) x y) n
    (λ k l. ap (λ b. pos (weight_of m x y j (i + k)) *ℤ predicts m b x y) (same k l))
    ∙ ap (λ w. pos w *ℤ predicts m (block_at m.blocks i j) x y)
    (sum_scaled (λ k. share (i + k) (blocks_across m) (x_length m) (x_separation m) x) (share j (blocks_down m) (y_length m) (y_separation m) y) n)

-- a run of no weight adds nothing
pub run_nothing_across : (m : Compensation) (x y j i n : ℕ) → ((k : ℕ) → k < n → block_at m.blocks (i + k) j ≡ block_at m.blocks i j)
    → run_share (blocks_across m) (x_length m) (x_separation m) i n x ≡ 0 → run_term m x y j i n ≡ pos 0
run_nothing_across m x y j i n same e =
    let d = share j (blocks_down m) (y_length m) (y_separation m) y in
    let v = predicts m (block_at m.blocks i j) x y in
    run_is m x y j i n same ∙ ap (λ s. pos (s * d) *ℤ v) e ∙ ap (λ w. pos w *ℤ v) (zero-mul d) ∙ zero-*ℤ v

pub run_nothing_down : (m : Compensation) (x y j i n : ℕ) → share j (blocks_down m) (y_length m) (y_separation m) y ≡ 0 → run_term m x y j i n ≡ pos 0
run_nothing_down m x y j i n e = total_nothing (λ k. term m x y j (i + k)) n (λ k l. nothing_down m x y j (i + k) e)

-- how much it adds
pub run_small : (m : Compensation) (x y j i n : ℕ) → IsCompensation m → IsSoundCompensation m → x < m.width → y < m.height → j < blocks_down m → i + n ≤ blocks_across m → unsigned_abs (run_term m x y j i n) ≤ 2 ^ 22
run_small m x y j i n h s right below k fits =
    apart (signed_total (term m x y j) i) (signed_total (λ b. term m x y j (i + b)) n) (row_small m x y j i h s right below k (omega (arith, fits)))
    (subst (λ (z : ℤ). unsigned_abs z ≤ 2 ^ 21) (total_split (term m x y j) i n) (row_small m x y j (i + n) h s right below k fits))
  where
    apart : (p q : ℤ) → unsigned_abs p ≤ 2 ^ 21 → unsigned_abs (p +ℤ q) ≤ 2 ^ 21 → unsigned_abs q ≤ 2 ^ 22
    apart p q a b = omega (arith, ints)

-- the weights of a run at a place
pub shares_small : (count len separation i n x : ℕ) → IsOverlap len separation → x < count * separation → i + n ≤ count → run_share count len separation i n x ≤ 8
shares_small count len separation i n x o inside fits =
    omega (
      arith,
      eight count len separation x o inside,
      sum_grows (λ b. share b count len separation x) (i + n) count fits,
      sum_split (λ b. share b count len separation x) i n,
    )

pub run_before : (count len separation i n x left : ℕ) → left ≡ max (i * separation - (len - separation) / 2) 0 → x < left → run_share count len separation i n x ≡ 0
run_before count len separation i n x left e l =
    sum_none (λ k. share (i + k) count len separation x) n
    (λ k b. share_before (i + k) count len separation x (omega (arith, e, l, mul-le i separation (i + k) separation (omega arith) (omega arith))))

pub run_behind : (count len separation i n x size right : ℕ) → IsOverlap len separation → 1 ≤ n → right ≡ min ((i + n - 1) * separation + len - (len - separation) / 2) size → right ≤ x → x < size
    → run_share count len separation i n x ≡ 0
run_behind count len separation i n x size right o some e past inside =
    sum_none (λ k. share (i + k) count len separation x) n
    (λ k b. share_behind (i + k) count len separation x
    (omega (arith, e, past, inside, o.least, mul-le (i + k) separation (i + n - 1) separation (omega (arith, b)) (omega arith))))

-- how many columns it has
pub run_wide : (len separation i n left right size : ℕ) → IsOverlap len separation → 1 ≤ n → left ≡ max (i * separation - (len - separation) / 2) 0
    → right ≡ min ((i + n - 1) * separation + len - (len - separation) / 2) size → (n - 1) * separation + len ≤ 64 → right - left ≤ 64
run_wide len separation i n left right size o some el er few =
    let last : i + n - 1 ≡ i + (n - 1) = omega (arith, some) in
    omega (arith, el, er, few, o.least, ap (λ b. b * separation) last, add-mul i (n - 1) separation)

-- the weights, told of a plane's blocks
pub shares_told : (count len separation size i n x : ℕ) (d : Direction) → IsDirection count len separation size d → run_share d.count d.length d.separation i n x ≡ run_share count len separation i n x
shares_told count len separation size i n x d h =
    ap (λ c. run_share c d.length d.separation i n x) h.count_is ∙ ap (λ l. run_share count l d.separation i n x) h.length_is
    ∙ ap (λ s. run_share count len s i n x) h.separation_is

pub overlap_told : (count len separation size : ℕ) (d : Direction) → IsDirection count len separation size d → IsOverlap len separation
overlap_told count len separation size d h =
    subst (λ (s : ℕ). IsOverlap len s) h.separation_is (subst (λ (l : ℕ). IsOverlap l d.separation) h.length_is h.overlap)

-- a run of one block, and one more
pub run_of_one : (m : Compensation) (i n j : ℕ) → i < blocks_across m → j < blocks_down m → x_length m ≤ 64 → n ≡ 1 → IsRun m i n j
run_of_one m i n j right below few e = record {
  some = omega arith;
  across = omega arith;
  down = below;
  same = λ k l. let here : i + k ≡ i = omega (arith, l, e) in ap (λ b. block_at m.blocks b j) here;
  fits =
      let none : n - 1 ≡ 0 = omega arith in
      omega (arith, few, ap (λ b. b * x_separation m) none, zero-mul (x_separation m));
}

pub run_more : (m : Compensation) (i n k j : ℕ) → IsRun m i n j → i + n < blocks_across m → n * x_separation m + x_length m ≤ 64 → block_at m.blocks (i + n) j ≡ block_at m.blocks i j → k ≡ n + 1 → IsRun m i k j
run_more m i n k j r inside few next e = record {
  some = omega arith;
  across = omega arith;
  down = r.down;
  same = λ b l. elim (cases_lt b n) [
    | inl before ↦ r.same b before
    | inr past ↦ let here : i + b ≡ i + n = omega (arith, past, l, e) in ap (λ a. block_at m.blocks a j) here ∙ next
  ];
  fits =
      let less : k - 1 ≡ n = omega (arith, e) in
      omega (arith, few, ap (λ b. b * x_separation m) less);
}

pub run_told : (m : Compensation) (i n j a b : ℕ) → IsRun m i n j → i ≡ a → n ≡ b → IsRun m a b j
run_told m i n j a b r ea eb = subst (λ (c : ℕ). IsRun m a c j) eb (subst (λ (c : ℕ). IsRun m c n j) ea r)

-- a list that is 0 within its length is 0 everywhere
pub zero_weights : (ws : List ℕ) (n : ℕ) → ((k : ℕ) → k < n → get_or ws k 0 ≡ 0) → length ws ≤ n → (k : ℕ) → get_or ws k 0 ≡ 0
zero_weights ws n h all k = elim (cases_lt k n) [
  | inl inside ↦ h k inside
  | inr past ↦ get_or_past {X = ℕ} ws k 0 (omega (arith, past, all))
]

pub all_small : (ws : List ℕ) → ((k : ℕ) → get_or ws k 0 ≤ 8) → All (λ w. w ≤ 8) ws
all_small ws small k d inside = rw (get_or_default ws k d 0 inside) (small k)

-- the columns of a plane that a run of blocks holds
pub record HoldsRun (m : Compensation) (i n left right : ℕ) : Type 0 where
  pub to : right ≤ m.width
  pub before : (x : ℕ) → x < left → run_share (blocks_across m) (x_length m) (x_separation m) i n x ≡ 0
  pub behind : (x : ℕ) → right ≤ x → x < m.width → run_share (blocks_across m) (x_length m) (x_separation m) i n x ≡ 0
  pub wide : right - left ≤ 64

pub holds_run : (m : Compensation) (c : Columns) (i n j : ℕ) (first last : Span) → IsColumns m c → IsRun m i n j → IsSpan i c.blocks.count c.blocks.length c.blocks.separation 0 m.width first
    → IsSpan (i + n - 1) c.blocks.count c.blocks.length c.blocks.separation 0 m.width last → HoldsRun m i n first.start last.end
holds_run m c i n j first last h r f l =
    let a = span_told i _ _ _ _ 0 m.width c.blocks first h.direction f in
    let b = span_told (i + n - 1) _ _ _ _ 0 m.width c.blocks last h.direction l in
    let overlap = overlap_told _ _ _ _ c.blocks h.direction in
    record {
      to = b.to;
      before = λ x k. run_before (blocks_across m) (x_length m) (x_separation m) i n x first.start a.start_is k;
      behind = λ x k inside. run_behind (blocks_across m) (x_length m) (x_separation m) i n x m.width last.end overlap r.some b.end_is k inside;
      wide = run_wide (x_length m) (x_separation m) i n first.start last.end m.width overlap r.some a.start_is b.end_is r.fits;
    }

pub run_weights_are : (m : Compensation) (c : Columns) (i n left right : ℕ) (ws : List ℕ) → IsColumns m c → HoldsRun m i n left right → right - left ≤ length ws
    → ((k : ℕ) → k < right - left → get_or ws k 0 ≡ run_share c.blocks.count c.blocks.length c.blocks.separation i n (left + k)) → ((k : ℕ) → right - left ≤ k → get_or ws k 0 ≡ 0)
    → ((k : ℕ) → get_or ws k 0 ≤ 8)
    → AreRunWeights (blocks_across m) (x_length m) (x_separation m) m.width i n left right ws
run_weights_are m c i n left right ws h r enough each past small = record {
  to = r.to;
  before = r.before;
  behind = r.behind;
  enough = enough;
  weight = λ k l. each k l ∙ shares_told _ _ _ _ i n (left + k) c.blocks h.direction;
  past = past;
  small = all_small ws small;
}
