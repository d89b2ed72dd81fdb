use Rattle.std.proofs.Common.{◌≡◌, ℤ, pos, to_z, of_z, get_or, arith, rules, below_more, subst}
use Rattle.std.specs.Int.{w16}
use Rattle.dirac_upconvert.specs.HalfSamples.{IsSample}
use Rattle.dirac_upconvert.proofs.Halves.{all_samples}
use Rattle.dirac_search.proofs.bytes.are_samples.Goals as goal

pub loop-k-preserved : goal.loop-k-preserved
loop-k-preserved c =
    let told : to_z w16 (of_z w16 (get_or c.args.values.now c.loop-k.k (pos 0))) ≡ get_or c.args.values.now c.loop-k.k (pos 0) = search rules in
    below_more _ _ c.loop-k.invariant (subst (λ (z : ℤ). IsSample z) told (c.is_sample.ensures c.if-not-is_sample.false))

pub returns : goal.returns
returns c = λ _. all_samples c.args.values.now (λ k l. c.loop-k.invariant k (omega (arith, l)))
