use Rattle.std.proofs.Common.{◌≡◌, pos, get_or, to_z, of_z, arith, refl, sym, ◌∙◌}
use Rattle.std.specs.Int.{w16, w32}
use Rattle.std.proofs.lemmas.Int.{to_z-of_z, fits_signed_from_abs}
use Rattle.dirac_obmc.specs.Compensation.{from_two}
use Rattle.dirac_obmc.proofs.AddLemmas.{written_more}
use Rattle.dirac_obmc.proofs.SamplesPredicted.{from_two_mean}
use Rattle.dirac_obmc.proofs.values.weigh_two.Goals as goal

pub returns-then-has_default_weights : goal.returns-then-has_default_weights
returns-then-has_default_weights c k l =
    c.means.ensures k l
    ∙ sym (from_two_mean c.args.p.now (get_or c.args.first.now k (pos 0)) (get_or c.args.second.now k (pos 0)) (c.has_default_weights.ensures c.if-has_default_weights.true))

pub loop-k-preserved : goal.loop-k-preserved
loop-k-preserved c =
    let p = c.args.p.now in
    let first : to_z w32 (of_z w32 p.weight1) ≡ p.weight1 = to_z-of_z w32 p.weight1 (fits_signed_from_abs w32 p.weight1 (omega (arith, c.requires.weights.0))) in
    let second : to_z w32 (of_z w32 p.weight2) ≡ p.weight2 = to_z-of_z w32 p.weight2 (fits_signed_from_abs w32 p.weight2 (omega (arith, c.requires.weights.1))) in
    written_more (λ k. from_two c.args.p.now (get_or c.args.first.now k (pos 0)) (get_or c.args.second.now k (pos 0))) c.loop-k.out c.loop-k.k _ _ c.loop-k.invariant (omega arith) refl
    (to_z-of_z w16 _ (record { sfits = c.value_of_two.type_inv }) ∙ c.value_of_two.ensures ∙ rw (first, second) refl)
