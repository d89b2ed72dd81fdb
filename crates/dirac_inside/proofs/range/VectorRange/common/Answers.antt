use Rattle.std.proofs.Common.{◌∙◌, ℤ, Bool, ◌&&◌, ap, ap₂}
use Rattle.std.specs.Prelude.{int_le}
use Rattle.dirac_inside.proofs.Planes.{common_is, plain}
use Rattle.dirac_inside.proofs.range.VectorRange.common.Goals as goal

pub returns-clause-both : goal.returns-clause-both
returns-clause-both c = λ v.
    let both = λ (p q : Bool). p && q in
    let s = c.requires.range in
    let o = c.requires.other in
    common_is c.args.self c.args.other c.vectors_between.result v
    (ap (λ (z : ℤ). int_le z v.x) (c.vectors_between.ensures.left ∙ plain c.greater.result c.greater.ensures.at_most_2_40) ∙ c.greater.ensures.both v.x
    ∙ ap₂ both (ap (λ (z : ℤ). int_le z v.x) (plain c.args.self.left s.left)) (ap (λ (z : ℤ). int_le z v.x) (plain c.args.other.left o.left)))
    (ap (λ (z : ℤ). int_le v.x z) (c.vectors_between.ensures.right ∙ plain c.lesser.result c.lesser.ensures.at_most_2_40) ∙ c.lesser.ensures.both v.x
    ∙ ap₂ both (ap (λ (z : ℤ). int_le v.x z) (plain c.args.self.right s.right)) (ap (λ (z : ℤ). int_le v.x z) (plain c.args.other.right o.right)))
    (ap (λ (z : ℤ). int_le z v.y) (c.vectors_between.ensures.top ∙ plain c.greater-2.result c.greater-2.ensures.at_most_2_40) ∙ c.greater-2.ensures.both v.y
    ∙ ap₂ both (ap (λ (z : ℤ). int_le z v.y) (plain c.args.self.top s.top)) (ap (λ (z : ℤ). int_le z v.y) (plain c.args.other.top o.top)))
    (ap (λ (z : ℤ). int_le v.y z) (c.vectors_between.ensures.bottom ∙ plain c.lesser-2.result c.lesser-2.ensures.at_most_2_40) ∙ c.lesser-2.ensures.both v.y
    ∙ ap₂ both (ap (λ (z : ℤ). int_le v.y z) (plain c.args.self.bottom s.bottom)) (ap (λ (z : ℤ). int_le v.y z) (plain c.args.other.bottom o.bottom)))
