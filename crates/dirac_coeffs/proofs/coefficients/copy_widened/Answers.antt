use Rattle.std.proofs.Common.{rules, ◌≡◌, arith, of_z, pos, slice_index_or, to_z, w32, w64, ◌∙◌}
use Rattle.std.proofs.lemmas.List.{ext_get_or}
use Rattle.std.proofs.lemmas.Int.{to_z-of_z}
use Rattle.dirac_coeffs.proofs.Largest.{copied_more}
use Rattle.dirac_coeffs.proofs.coefficients.copy_widened.Goals as goal

pub loop-n-preserved : goal.loop-n-preserved
loop-n-preserved c =
    let v = slice_index_or c.args.narrow.now c.loop-n.n (pos 0) in
    let wide : to_z w64 (of_z w64 c.from.result) ≡ c.from.result = to_z-of_z w64 _ (record { sfits = c.from.type_inv }) in
    let fits : to_z w32 (of_z w32 v) ≡ v = search rules in
    let written : to_z w64 (of_z w64 c.from.result) ≡ v = wide ∙ c.from.ensures ∙ fits in
    rw written (copied_more c.args.narrow.now c.loop-n.wide c.loop-n.n (omega arith) c.loop-n.invariant)

pub returns : goal.returns
returns c =
    ext_get_or (pos 0) c.loop-n.wide c.args.narrow.now (omega arith) (λ k l. c.loop-n.invariant k (omega (arith, l)))
