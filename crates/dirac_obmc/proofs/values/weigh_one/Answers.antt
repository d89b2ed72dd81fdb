use Rattle.std.proofs.Common.{◌≡◌, pos, ◌+ℤ◌, get_or, to_z, of_z, arith, rules, refl, ◌∙◌}
use Rattle.std.specs.Int.{w16, w32}
use Rattle.std.proofs.lemmas.Int.{to_z-of_z}
use Rattle.dirac_obmc.specs.Compensation.{from_one}
use Rattle.dirac_obmc.proofs.AddLemmas.{written_more}
use Rattle.dirac_obmc.proofs.values.weigh_one.Goals as goal

pub loop-k-preserved : goal.loop-k-preserved
loop-k-preserved c =
    let p = c.args.p.now in
    let sample : to_z w16 (of_z w16 (get_or c.args.samples.now c.loop-k.k (pos 0))) ≡ get_or c.args.samples.now c.loop-k.k (pos 0) = search rules in
    let weight : to_z w32 (of_z w32 c.weight_of_one-weight.result) ≡ p.weight1 +ℤ p.weight2 =
    to_z-of_z w32 _ (record { sfits = c.weight_of_one-weight.type_inv }) ∙ c.weight_of_one-weight.ensures.value in
    written_more (λ k. from_one p (get_or c.args.samples.now k (pos 0))) c.loop-k.out c.loop-k.k _ _ c.loop-k.invariant (omega arith) refl
    (to_z-of_z w16 _ (record { sfits = c.weighted.type_inv }) ∙ c.weighted.ensures ∙ rw (sample, weight) refl)
