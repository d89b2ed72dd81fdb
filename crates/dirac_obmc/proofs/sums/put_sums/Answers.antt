use Rattle.std.proofs.Common.{◌≡◌, pos, length, to_z, of_z, slice_index_or, arith, rules, refl, subst, ℕ}
use Rattle.std.specs.Int.{w32}
use Rattle.dirac_obmc.specs.Adding.{PutOver}
use Rattle.dirac_obmc.proofs.AddLemmas.{over_more, over_none}
use Rattle.dirac_obmc.proofs.sums.put_sums.Goals as goal

pub loop-k-init : goal.loop-k-init
loop-k-init c = over_none _ _ _

pub loop-k-preserved : goal.loop-k-preserved
loop-k-preserved c =
    let told : to_z w32 (of_z w32 (slice_index_or c.args.grown.now c.loop-k.k (pos 0))) ≡ slice_index_or c.args.grown.now c.loop-k.k (pos 0) = search rules in
    over_more _ _ c.loop-k.k _ _ _ _ c.loop-k.invariant (omega arith) refl told

pub returns : goal.returns
returns c =
    let all : c.loop-k.k ≡ length c.args.grown.now = omega arith in
    subst (λ (n : ℕ). PutOver c.args.place c.args.grown.now n c.args.sums.now c.loop-k.sums) all c.loop-k.invariant
