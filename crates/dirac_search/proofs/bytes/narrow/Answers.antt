use Rattle.std.proofs.Common.{◌≡◌, ◌+◌, pos, to_z, of_z, slice_index_or, arith, rules, refl, ◌∙◌}
use Rattle.std.specs.Int.{w8, w16}
use Rattle.std.proofs.lemmas.Int.{to_z-of_z}
use Rattle.std.proofs.lemmas.List.{ext_get_or}
use Rattle.dirac_upconvert.proofs.PartRows.{written_more}
use Rattle.dirac_search.proofs.bytes.narrow.Goals as goal

pub loop-k-preserved : goal.loop-k-preserved
loop-k-preserved c =
    let told : to_z w16 (of_z w16 (slice_index_or c.args.samples.now c.loop-k.k (pos 0))) ≡ slice_index_or c.args.samples.now c.loop-k.k (pos 0) = search rules in
    written_more (λ j. slice_index_or c.args.samples.now j (pos 0)) c.loop-k.out c.loop-k.k (c.loop-k.k + 1) _ c.loop-k.invariant (omega arith) refl
    (to_z-of_z w8 _ (record { sfits = c.narrowed.type_inv }) ∙ c.narrowed.ensures ∙ told)

pub returns : goal.returns
returns c = ext_get_or (pos 0) c.loop-k.out c.args.samples.now (omega arith) (λ k l. c.loop-k.invariant k (omega (arith, l)))
