use Rattle.std.proofs.Common.{◌≡◌, ◌+◌, pos, length, get_or, arith, refl, ap, sym, ◌∙◌}
use Rattle.std.specs.Int.{w8, w16}
use Rattle.std.proofs.lemmas.Int.{to_z-of_z}
use Rattle.dirac_upconvert.specs.Phases.{place_in_row}
use Rattle.dirac_upconvert.proofs.Doubling.{halves_all, halves_more}
use Rattle.dirac_upconvert.proofs.lines.double_line.Goals as goal

pub left-init : goal.left-init
left-init c = record { wholes = λ k l. let same : 0 + k ≡ k = omega arith in ap (λ i. get_or c.put_narrowed.new.out i (pos 0)) (sym same) ∙ c.put_narrowed.ensures.value k l; halves = λ k l. absurd (omega (arith, l)) }

pub left-preserved : goal.left-preserved
left-preserved c =
    halves_more _ _ c.left.i _ _ _ c.left.invariant refl (omega arith) refl
    (to_z-of_z w8 _ (record { sfits = c.narrowed.type_inv }) ∙ c.narrowed.ensures ∙ to_z-of_z w16 _ (record { sfits = c.half_clamped.type_inv }) ∙ c.half_clamped.ensures.value)

pub inside-preserved : goal.inside-preserved
inside-preserved c =
    halves_more _ _ c.inside.i _ _ _ c.inside.invariant refl (omega arith) refl
    (to_z-of_z w8 _ (record { sfits = c.narrowed-in-inside.type_inv }) ∙ c.narrowed-in-inside.ensures ∙ to_z-of_z w16 _ (record { sfits = c.half_inside.type_inv }) ∙ c.half_inside.ensures.value)

pub right-preserved : goal.right-preserved
right-preserved c =
    halves_more _ _ c.right.i _ _ _ c.right.invariant refl (omega arith) refl
    (to_z-of_z w8 _ (record { sfits = c.narrowed-in-right.type_inv }) ∙ c.narrowed-in-right.ensures ∙ to_z-of_z w16 _ (record { sfits = c.half_clamped-in-right.type_inv }) ∙ c.half_clamped-in-right.ensures.value)

pub returns : goal.returns
returns c p l =
    let len : length c.right.out ≡ length c.args.out.now = omega arith in
    ap (λ n. get_or c.right.out (place_in_row n p) (pos 0)) (sym len) ∙ halves_all c.args.line.now c.right.out c.right.i c.right.invariant (omega arith) (omega (arith, len)) p (omega (arith, l, len))
