use Rattle.std.proofs.Common.{◌^◌, arith, refl, ◌∙◌}
use Rattle.std.specs.Int.{w32}
use Rattle.std.proofs.lemmas.Int.{to_z-of_z}
use Rattle.dirac_obmc.proofs.AddLemmas.{fewer_weighed, part_all, part_more, part_none, part_unmoved}
use Rattle.dirac_obmc.proofs.sums.add_singly.Goals as goal

pub loop-k-init : goal.loop-k-init
loop-k-init c = part_none _ _ _

pub grown-requires-clause-sum : goal.grown-requires-clause-sum
grown-requires-clause-sum c = part_unmoved _ _ c.loop-k.k (2 ^ 23) _ _ c.loop-k.invariant (c.requires.sums c.loop-k.k (omega arith))

pub grown-requires-clause-weighed : goal.grown-requires-clause-weighed
grown-requires-clause-weighed c = fewer_weighed _ _ _ c.requires.weighed (omega arith)

pub loop-k-preserved : goal.loop-k-preserved
loop-k-preserved c =
    part_more _ _ c.loop-k.k _ _ _ _ c.loop-k.invariant (omega arith) refl (to_z-of_z w32 _ (record { sfits = c.grown.type_inv }) ∙ c.grown.ensures)

pub returns : goal.returns
returns c = part_all _ _ c.loop-k.k _ _ _ c.loop-k.invariant (omega arith)
