-- The places that a block holds.
use Rattle.std.proofs.Common.{◌≡◌, ℕ, ◌+◌, ◌-◌, ◌*◌, ◌/◌, ◌<◌, List, max, min, get_or, arith, ap, sym, subst, ◌∙◌}
use Rattle.std.proofs.lemmas.Nat.{row_fits}
use Rattle.dirac_obmc.specs.declared.direction.Direction.{Direction}
use Rattle.dirac_obmc.specs.declared.rows.Span.{Span}
use Rattle.dirac_obmc.specs.Directions.{IsDirection, IsWeights}
use Rattle.dirac_obmc.specs.Strips.{IsSpan}
use Rattle.dirac_obmc.specs.Weights.{IsOverlap, block_margin}
use Rattle.dirac_obmc.proofs.Shares.{share_before, share_behind, share_inside}

pub span_is : (block count len separation least most start end place : ℕ) → IsOverlap len separation → block < count → start ≡ max (block * separation - (len - separation) / 2) least
    → end ≡ min (block * separation + len - (len - separation) / 2) most → place ≡ block * len + (start + (len - separation) / 2 - block * separation)
    → IsSpan block count len separation least most (record { start = start; end = end; weights = place })
span_is block count len separation least most start end place o inside es ee ep = record {
  start_is = es;
  end_is = ee;
  from = omega (arith, es);
  to = omega (arith, ee);
  within_block = omega (arith, es, ee);
  before = λ x a b. share_before block count len separation x (omega (arith, es, a, b));
  behind = λ x a b. share_behind block count len separation x (omega (arith, ee, a, b, o.least));
  listed = λ some. omega (arith, some, row_fits block len count len inside (omega arith), es, ee, ep, o.least);
  weight = λ ws k w l.
      let t = start + (len - separation) / 2 - block * separation + k in
      let at : place + k ≡ block * len + t = omega (arith, ep) in
      let within : t < len = omega (arith, l, es, ee, o.least) in
      let here : start + k + block_margin len separation ≡ block * separation + t = omega (arith, es) in
      ap (λ p. get_or ws p 0) at ∙ w.each block t inside within ∙ sym (share_inside block count len separation (start + k) t here within);
}

-- the same, told of a plane's blocks
pub span_told : (block count len separation size least most : ℕ) (d : Direction) (s : Span) → IsDirection count len separation size d → IsSpan block d.count d.length d.separation least most s
    → IsSpan block count len separation least most s
span_told block count len separation size least most d s h i =
    subst (λ (n : ℕ). IsSpan block count len n least most s) h.separation_is
    (subst (λ (n : ℕ). IsSpan block count n d.separation least most s) h.length_is
    (subst (λ (n : ℕ). IsSpan block n d.length d.separation least most s) h.count_is i))

-- weights, told of a plane's blocks, and back
pub weights_told : (count len separation size : ℕ) (d : Direction) (ws : List ℕ) → IsDirection count len separation size d → IsWeights d.count d.length d.separation ws → IsWeights count len separation ws
weights_told count len separation size d ws h w =
    subst (λ (n : ℕ). IsWeights count len n ws) h.separation_is
    (subst (λ (n : ℕ). IsWeights count n d.separation ws) h.length_is (subst (λ (n : ℕ). IsWeights n d.length d.separation ws) h.count_is w))

pub weights_back : (count len separation size : ℕ) (d : Direction) (ws : List ℕ) → IsDirection count len separation size d → IsWeights count len separation ws → IsWeights d.count d.length d.separation ws
weights_back count len separation size d ws h w =
    subst (λ (n : ℕ). IsWeights d.count d.length n ws) (sym h.separation_is)
    (subst (λ (n : ℕ). IsWeights d.count n separation ws) (sym h.length_is) (subst (λ (n : ℕ). IsWeights n len separation ws) (sym h.count_is) w))
