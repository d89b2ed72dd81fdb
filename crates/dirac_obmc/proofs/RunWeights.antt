-- The weights that blocks side by side have together.
use Rattle.std.proofs.Common.{◌≡◌, ℕ, ◌+◌, ◌-◌, ◌*◌, ◌<◌, ◌≤◌, List, length, get_or, set, max, min, suc, arith, refl, ap, inl, inr, subst, sym, ◌∙◌}
use Rattle.std.proofs.lemmas.Bool.{cases_eq}
use Rattle.std.proofs.lemmas.List.{get_or-set_same, get_or-set_other}
use Rattle.std.proofs.lemmas.Nat.{mul-le, row_fits}
use Rattle.std.proofs.Math.Nat.{suc-mul}
use Rattle.dirac_obmc.specs.Adding.{PutWeights}
use Rattle.dirac_obmc.specs.Directions.{IsWeights}
use Rattle.dirac_obmc.specs.Strips.{AreRunParts, run_share}
use Rattle.dirac_obmc.specs.Weights.{IsOverlap, block_margin, share, sum_below}
use Rattle.dirac_obmc.proofs.Eight.{eight}
use Rattle.dirac_obmc.proofs.FewTerms.{sum_none, sum_one}
use Rattle.dirac_obmc.proofs.Runs.{sum_split}
use Rattle.dirac_obmc.proofs.Shares.{share_before, share_behind, share_inside, sized}

-- weights that are written over
pub weights_none : (place : ℕ) (f : ℕ → ℕ) (xs : List ℕ) → PutWeights place 0 f xs xs
weights_none place f xs = record { before = λ x l. refl; done = λ k l. absurd (omega arith); rest = λ x l. refl }

pub weights_more : (place : ℕ) (f : ℕ → ℕ) (n m : ℕ) (xs ys : List ℕ) (v : ℕ) → PutWeights place n f xs ys → place + n < length ys → m ≡ n + 1 → v ≡ f n → PutWeights place m f xs (set ys (place + n) v)
weights_more place f n m xs ys v h fits next e = record {
  before = λ x l. get_or-set_other ys (place + n) x v 0 (omega arith) ∙ h.before x l;
  done = λ k l. elim (cases_eq k n) [
    | inl here ↦ ap (λ i. get_or (set ys (place + n) v) (place + i) 0) here ∙ get_or-set_same ys (place + n) v 0 fits ∙ e ∙ ap f (sym here)
    | inr other ↦ get_or-set_other ys (place + n) (place + k) v 0 (omega arith) ∙ h.done k (omega arith)
  ];
  rest = λ x l. get_or-set_other ys (place + n) x v 0 (omega arith) ∙ h.rest x (omega arith);
}

pub weights_all : (place : ℕ) (f : ℕ → ℕ) (n count : ℕ) (xs ys : List ℕ) → PutWeights place n f xs ys → n ≡ count → PutWeights place count f xs ys
weights_all place f n count xs ys h e = subst (λ (i : ℕ). PutWeights place i f xs ys) e h

-- a weight in the list of all weights
pub weight_listed : (count len separation block x p : ℕ) (ws : List ℕ) → IsWeights count len separation ws → block < count → block * separation ≤ x + block_margin len separation
    → x + block_margin len separation < block * separation + len → p ≡ block * len + (x + block_margin len separation - block * separation) → get_or ws p 0 ≡ share block count len separation x
weight_listed count len separation block x p ws w inside from to e =
    let t = x + block_margin len separation - block * separation in
    ap (λ q. get_or ws q 0) e ∙ w.each block t inside (omega (arith, from, to)) ∙ sym (share_inside block count len separation x t (omega (arith, from)) (omega (arith, from, to)))

-- the first block alone holds a place, or the last one does
pub run_first : (count len separation i n x : ℕ) → 1 ≤ n → x + block_margin len separation < (i + 1) * separation → run_share count len separation i n x ≡ share i count len separation x
run_first count len separation i n x some l =
    let own : i + 0 ≡ i = omega arith in
    sum_one (λ k. share (i + k) count len separation x) n 0 (omega (arith, some))
    (λ k inside other. share_before (i + k) count len separation x (omega (arith, l, mul-le (i + 1) separation (i + k) separation (omega (arith, other)) (omega arith))))
    ∙ ap (λ b. share b count len separation x) own

pub run_last : (count len separation i n x : ℕ) → IsOverlap len separation → 1 ≤ n → (i + n - 1) * separation + block_margin len separation ≤ x
    → run_share count len separation i n x ≡ share (i + n - 1) count len separation x
run_last count len separation i n x o some l =
    let own : i + (n - 1) ≡ i + n - 1 = omega (arith, some) in
    let s = sized len separation o in
    sum_one (λ k. share (i + k) count len separation x) n (n - 1) (omega (arith, some))
    (λ k inside other. share_behind (i + k) count len separation x
    (omega (arith, l, s.length_is, row_fits (i + k) separation (i + n - 1) separation (omega (arith, inside, other, some)) (omega arith))))
    ∙ ap (λ b. share b count len separation x) own

-- no other block holds it
pub run_between : (count len separation i n x : ℕ) → IsOverlap len separation → 1 ≤ n → i + n ≤ count → x < count * separation → (i + 1) * separation ≤ x + block_margin len separation
    → x < (i + n - 1) * separation + block_margin len separation → run_share count len separation i n x ≡ 8
run_between count len separation i n x o some within inside from to =
    let s = sized len separation o in
    let f = λ (b : ℕ). share b count len separation x in
    let before : sum_below f i ≡ 0 = sum_none f i
    (λ b l. share_behind b count len separation x (omega (arith, from, s.length_is, s.half, row_fits b separation i separation l (omega arith), suc-mul i separation))) in
    let next : (i + n) * separation ≡ (i + n - 1) * separation + separation =
    let last : i + n ≡ (i + n - 1) + 1 = omega (arith, some) in
    omega (arith, ap (λ b. b * separation) last, suc-mul (i + n - 1) separation) in
    let behind : sum_below (λ k. f (i + n + k)) (count - (i + n)) ≡ 0 = sum_none (λ k. f (i + n + k)) (count - (i + n))
    (λ k l. share_before (i + n + k) count len separation x (omega (arith, to, s.half, next, mul-le (i + n) separation (i + n + k) separation (omega arith) (omega arith)))) in
    let all : i + n + (count - (i + n)) ≡ count = omega (arith, within) in
    omega (arith, eight count len separation x o inside, sum_split f (i + n) (count - (i + n)), sum_split f i n, before, behind, ap (sum_below f) all)

-- the columns of a run, in three parts
pub run_parts : (len separation i n left right single last : ℕ) → IsOverlap len separation → left ≡ i * separation - block_margin len separation
    → right + block_margin len separation ≤ (i + n - 1) * separation + len → left < right → single ≡ min ((i + 1) * separation - block_margin len separation) right
    → last ≡ max (min ((i + n - 1) * separation + block_margin len separation) right) single → AreRunParts len separation i n left right single last
run_parts len separation i n left right single last o el right_at ordered es et =
    let s = sized len separation o in
    let next : (i + 1) * separation ≡ i * separation + separation =
    let more : i + 1 ≡ suc i = omega arith in
    omega (arith, ap (λ b. b * separation) more, suc-mul i separation) in
    record {
      from = omega (arith, el, es, ordered, next, s.half);
      ordered = omega (arith, et);
      to = omega (arith, es, et);
      begun = omega (arith, el);
      first = λ x l. omega (arith, l, es, next, s.half, s.some);
      single_fits = omega (arith, es, next, s.half, s.some, o.least);
      between_from = λ x a b. omega (arith, a, b, es, et);
      between_to = λ x a b. omega (arith, a, b, et);
      behind = λ x a b. omega (arith, a, b, et);
      last_fits = omega (arith, es, et, right_at);
    }
