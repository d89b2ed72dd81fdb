use Rattle.std.proofs.Common.{◌≡◌, ◌+◌, pos, length, to_z, of_z, slice_index_or, arith, rules, refl, ◌∙◌}
use Rattle.std.specs.Int.{w8, w16}
use Rattle.std.proofs.lemmas.Int.{to_z-of_z}
use Rattle.dirac_upconvert.proofs.Lanes.{put_none, put_more, put_told}
use Rattle.dirac_upconvert.proofs.lines.put_narrowed.Goals as goal

pub loop-k-init : goal.loop-k-init
loop-k-init c = put_none _ _ _

pub loop-k-preserved : goal.loop-k-preserved
loop-k-preserved c =
    let told : to_z w16 (of_z w16 (slice_index_or c.args.samples.now c.loop-k.k (pos 0))) ≡ slice_index_or c.args.samples.now c.loop-k.k (pos 0) = search rules in
    put_more c.args.first c.loop-k.k (c.loop-k.k + 1) (c.args.first + c.loop-k.k) (λ k. slice_index_or c.args.samples.now k (pos 0)) c.args.out.now c.loop-k.out _ c.loop-k.invariant refl (omega arith) refl
    (to_z-of_z w8 _ (record { sfits = c.narrowed.type_inv }) ∙ c.narrowed.ensures ∙ told)

pub returns : goal.returns
returns c = put_told _ c.loop-k.k (length c.args.samples.now) _ _ _ _ c.loop-k.invariant (omega arith) (λ k l. refl)
