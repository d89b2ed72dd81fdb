use Rattle.std.proofs.Common.{Bool, ◌&&◌, ap₂, ◌∙◌}
use Rattle.dirac_inside.specs.Inside.{keeps_inside}
use Rattle.dirac_inside.proofs.range.inside_range.Goals as goal

pub returns-clause-inside : goal.returns-clause-inside
unfolding keeps_inside
returns-clause-inside c = λ v bounded. c.common.ensures.both v ∙ ap₂ (λ (a b : Bool). a && b) (c.plane_range-luma.ensures.inside v bounded) (c.plane_range-chroma.ensures.inside v bounded)
