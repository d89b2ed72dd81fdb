use Rattle.std.proofs.Common.{rules, pos, slice_index_or, arith, ap, ◌∙◌}
use Rattle.std.specs.Int.{w16, w32}
use Rattle.std.proofs.lemmas.Int.{to_z-of_z}
use mir.Val.{SFits}
use Rattle.dirac_common.specs.Samples.{clip}
use Rattle.dirac_synthesis.proofs.Maps.{mapped_all, one_more_told}
use Rattle.dirac_synthesis.proofs.clip.clip_narrow_values.Goals as goal

pub loop-i-preserved : goal.loop-i-preserved
loop-i-preserved c =
    let value : SFits w32 (slice_index_or c.args.values.now c.loop-i.i (pos 0)) = search rules in
    one_more_told (λ k. clip (slice_index_or c.args.values.now k (pos 0))) c.loop-i.samples c.loop-i.i _ c.loop-i.invariant (omega arith)
    (to_z-of_z w16 _ (record { sfits = c.clip_narrow_value.type_inv }) ∙ c.clip_narrow_value.ensures ∙ ap clip (to_z-of_z w32 _ value))

pub returns : goal.returns
returns c = mapped_all clip c.args.values.now c.loop-i.samples c.loop-i.i (omega arith) c.loop-i.invariant (omega arith)
