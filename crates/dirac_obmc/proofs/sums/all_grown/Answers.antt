use Rattle.std.proofs.Common.{arith, refl, ◌∙◌}
use Rattle.std.specs.Int.{w32}
use Rattle.std.proofs.lemmas.Int.{to_z-of_z}
use Rattle.dirac_obmc.proofs.AddLemmas.{fewer_weighed, written_more}
use Rattle.dirac_obmc.proofs.sums.all_grown.Goals as goal

pub grown-requires-clause-weighed : goal.grown-requires-clause-weighed
grown-requires-clause-weighed c = fewer_weighed _ _ _ c.requires.weighed (omega arith)

pub loop-k-preserved : goal.loop-k-preserved
loop-k-preserved c = written_more _ _ c.loop-k.k _ _ c.loop-k.invariant (omega arith) refl (to_z-of_z w32 _ (record { sfits = c.grown.type_inv }) ∙ c.grown.ensures)
