use Rattle.std.proofs.Common.{◌≡◌, pos, ◌+◌, ◌*◌, ◌%◌, slice_index_or, arith, inl, inr, ap, ◌∙◌}
use Rattle.std.proofs.lemmas.Bool.{cases_eq}
use Rattle.dirac_lift.specs.Lifting.{pair_read}
use Rattle.dirac_lift.specs.Rings.{ring_read}
use Rattle.dirac_lift.proofs.ZeroSteps.{part_zeros}
use Rattle.dirac_lift.proofs.rings.reads_zeros.Goals as goal

pub loop-k-preserved : goal.loop-k-preserved
loop-k-preserved c j x l a b =
    let w = c.args.size.width in
    let s = c.args.step in
    let row : pair_read s.lead c.args.size.half c.args.n c.loop-k.k ≡ c.min-row.result = omega arith in
    elim (cases_eq j c.loop-k.k) [
      | inl here ↦
          ap (ring_read s.lead w c.args.size.half c.args.other.now c.args.n x) here
          ∙ ap (λ r. slice_index_or c.args.other.now ((r % 16) * w + x) (pos 0)) row
          ∙ part_zeros c.args.other.now ((c.min-row.result % 16) * w + c.args.from) ((c.min-row.result % 16) * w + c.args.to) ((c.min-row.result % 16) * w + x) (c.are_zeros-zeros.ensures c.if-not-zeros.false) (omega (arith, a)) (omega (arith, b))
      | inr earlier ↦ c.loop-k.invariant j x (omega (arith, l, earlier)) a b
    ]
