use Rattle.std.proofs.Common.{◌≡◌, pos, ◌+◌, ◌-◌, ◌*◌, slice_index_or, arith, inl, inr, ap, sym, ◌∙◌}
use Rattle.std.proofs.lemmas.Bool.{cases_lt}
use Rattle.dirac_lift.proofs.zeros.are_zeros.Goals as goal

pub whole-preserved : goal.whole-preserved
whole-preserved c k l = elim (cases_lt k (c.whole.i * 32)) [
  | inl before ↦ c.whole.invariant k before
  | inr from ↦
      let place : c.whole.i * 32 + (k - c.whole.i * 32) ≡ k = omega (arith, from) in
      ap (λ n. slice_index_or c.args.values.now n (pos 0)) (sym place) ∙ c.are_32_zeros.ensures c.if-not-are_32_zeros.false (k - c.whole.i * 32) (omega (arith, l, from))
]
