use Rattle.std.proofs.Common.{◌≡◌, ◌∙◌, ℤ, pos, ◌*ℤ◌, Bool, ◌&&◌, to_z, of_z, ap, ap₂, arith}
use Rattle.std.specs.Int.{w64}
use Rattle.dirac_inside.proofs.Planes.{between_as, plain, plain_part}
use Rattle.dirac_inside.proofs.range.VectorRange.has.Goals as goal

pub returns : goal.returns
returns c =
    let s = c.args.self in
    let r = c.requires.range in
    let v = c.args.vector in
    let n = c.args.count in
    let x : to_z w64 (of_z w64 c.multiple-x.result) ≡ pos n *ℤ v.x =
    plain c.multiple-x.result (omega (arith, c.multiple-x.ensures.at_most_2_32)) ∙ c.multiple-x.ensures.value ∙ ap (λ (z : ℤ). pos n *ℤ z) (plain_part v.x c.requires.vector.across) in
    let y : to_z w64 (of_z w64 c.multiple-y.result) ≡ pos n *ℤ v.y =
    plain c.multiple-y.result (omega (arith, c.multiple-y.ensures.at_most_2_32)) ∙ c.multiple-y.ensures.value ∙ ap (λ (z : ℤ). pos n *ℤ z) (plain_part v.y c.requires.vector.down) in
    c.both.ensures ∙ ap₂ (λ (a b : Bool). a && b)
    (c.is_between.ensures ∙ between_as _ _ _ s.left (pos n *ℤ v.x) s.right (plain s.left r.left) x (plain s.right r.right))
    (c.is_between-2.ensures ∙ between_as _ _ _ s.top (pos n *ℤ v.y) s.bottom (plain s.top r.top) y (plain s.bottom r.bottom))
