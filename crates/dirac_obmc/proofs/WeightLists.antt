-- Lists of the weights of all blocks.
use Rattle.std.proofs.Common.{◌≡◌, ℕ, ◌+◌, ◌*◌, ◌/◌, ◌%◌, ◌<◌, ◌≤◌, List, length, get_or, set, replicate, arith, inl, inr, ap, ◌∙◌}
use Rattle.std.proofs.Math.Nat.{mul_comm}
use Rattle.std.proofs.lemmas.Bool.{cases_eq, cases_lt}
use Rattle.std.proofs.lemmas.List.{get_or-set_same, get_or-set_other, length-set, get_or_past, get_or-replicate, length-replicate, get_or_default}
use Rattle.std.proofs.lemmas.Nat.{mul-add-lt, div-mul-add, mod-mul-add}
use Rattle.dirac_obmc.specs.Directions.{IsWeights}
use Rattle.dirac_obmc.specs.Weights.{weight_at}

-- the places below place n hold their weights
pub record WeightsBelow (count len separation : ℕ) (ws : List ℕ) (n : ℕ) : Type 0 where
  pub whole : length ws ≡ count * len
  pub done : (p : ℕ) → p < n → get_or ws p 0 ≡ weight_at (p / len) count len separation (p % len)
  pub small : (p : ℕ) → get_or ws p 0 ≤ 8

pub weights_none : (count len separation n : ℕ) (ws : List ℕ) → ws ≡ replicate n 0 → n ≡ count * len → WeightsBelow count len separation ws 0
weights_none count len separation n ws e all = record {
  whole = ap length e ∙ length-replicate {A = ℕ} n 0 ∙ all;
  done = λ p l. absurd (omega arith);
  small = λ p. elim (cases_lt p n) [
    | inl inside ↦ rw (e, get_or-replicate {A = ℕ} n p 0 0 inside) (omega arith)
    | inr past ↦ rw (e, get_or_past {X = ℕ} (replicate n 0) p 0 (omega (arith, length-replicate {A = ℕ} n 0))) (omega arith)
  ];
}

pub weights_more : (count len separation n m : ℕ) (ws : List ℕ) (w : ℕ) → WeightsBelow count len separation ws n → n < count * len → m ≡ n + 1
    → w ≡ weight_at (n / len) count len separation (n % len) → w ≤ 8 → WeightsBelow count len separation (set ws n w) m
weights_more count len separation n m ws w r fits next e few = record {
  whole = length-set ws n w ∙ r.whole;
  done = λ p l. elim (cases_eq p n) [
    | inl here ↦
        ap (λ i. get_or (set ws n w) i 0) here ∙ get_or-set_same ws n w 0 (omega (arith, r.whole)) ∙ e
        ∙ ap (λ i. weight_at (i / len) count len separation (i % len)) (omega (arith, here))
    | inr other ↦ get_or-set_other ws n p w 0 other ∙ r.done p (omega arith)
  ];
  small = λ p. elim (cases_eq p n) [
    | inl here ↦ rw (here, get_or-set_same ws n w 0 (omega (arith, r.whole))) few
    | inr other ↦ rw (get_or-set_other ws n p w 0 other) (r.small p)
  ];
}

pub weights_all : (count len separation n : ℕ) (ws : List ℕ) → WeightsBelow count len separation ws n → count * len ≤ n → IsWeights count len separation ws
weights_all count len separation n ws r all = record {
  whole = r.whole;
  each = λ block t b l.
      r.done (block * len + t) (omega (arith, mul-add-lt block len t count b l, mul_comm len count))
      ∙ ap (λ i. weight_at i count len separation ((block * len + t) % len)) (div-mul-add block len t l)
      ∙ ap (λ i. weight_at block count len separation i) (mod-mul-add block len t l);
  small = λ k d inside. rw (get_or_default ws k d 0 inside) (r.small k);
}
