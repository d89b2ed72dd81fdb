use Rattle.std.proofs.Common.{rules, ◌≡◌, ℕ, pos, slice_index_or, unsigned_abs, arith, ap, ◌∙◌}
use Rattle.std.specs.Int.{w32}
use Rattle.std.proofs.lemmas.Int.{to_z-of_z}
use mir.Val.{SFits}
use Rattle.dirac_coeffs.proofs.Largest.{all_bounded, bound_more, least_more}
use Rattle.dirac_coeffs.proofs.coefficients.largest_narrow.Goals as goal

pub loop-n-preserved : goal.loop-n-preserved
loop-n-preserved c =
    let f = λ (k : ℕ). unsigned_abs (slice_index_or c.args.values.now k (pos 0)) in
    let fits : SFits w32 (slice_index_or c.args.values.now c.loop-n.n (pos 0)) = search rules in
    let one : c.unsigned_abs.result ≡ f c.loop-n.n = c.unsigned_abs.ensures.value ∙ ap unsigned_abs (to_z-of_z w32 _ fits) in
    record {
      bound = bound_more f c.loop-n.n c.loop-n.largest c.unsigned_abs.result c.max-largest.result c.loop-n.invariant.bound one c.max-largest.ensures;
      least = least_more f c.loop-n.n c.loop-n.largest c.unsigned_abs.result c.max-largest.result c.loop-n.invariant.least one c.max-largest.ensures;
    }

pub returns : goal.returns
returns c = record {
  bound = all_bounded c.args.values.now c.loop-n.n c.loop-n.largest (omega arith) c.loop-n.invariant.bound;
  least = λ m all. c.loop-n.invariant.least m (λ k l. all k (pos 0) (omega (arith, l)));
}
