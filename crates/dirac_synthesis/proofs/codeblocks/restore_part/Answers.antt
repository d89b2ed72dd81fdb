use Rattle.std.proofs.Common.{◌≡◌, rules, pos, slice_index_or, to_z, of_z, arith, inl, inr, ap, ◌∙◌}
use Rattle.std.specs.Int.{w64, w128}
use Rattle.std.proofs.lemmas.Bool.{cases_eq}
use Rattle.std.proofs.lemmas.Int.{to_z-of_z}
use Rattle.std.proofs.lemmas.List.{get_or-set_same, get_or-set_other}
use mir.Val.{SFits}
use Rattle.dirac_quant.specs.Quantiser.{scaled}
use Rattle.dirac_synthesis.proofs.codeblocks.restore_part.Goals as goal

pub loop-x-preserved : goal.loop-x-preserved
loop-x-preserved c =
    let line = c.loop-x.line in
    let x = c.loop-x.x in
    let s = c.args.scale in
    let coded : SFits w64 (slice_index_or c.args.coded.now x (pos 0)) = search rules in
    let value : to_z w128 (of_z w128 c.restore_scaled.result) ≡ scaled (slice_index_or c.args.coded.now x (pos 0)) s.factor s.offset =
    to_z-of_z w128 _ (record { sfits = c.restore_scaled.type_inv }) ∙ c.restore_scaled.ensures ∙ ap (λ v. scaled v s.factor s.offset) (to_z-of_z w64 _ coded) in
    record {
      written = λ k a b. elim (cases_eq k x) [
        | inl last ↦ rw last (get_or-set_same line x _ (pos 0) (omega arith) ∙ value)
        | inr earlier ↦ get_or-set_other line x k _ (pos 0) earlier ∙ c.loop-x.invariant.written k a (omega (arith, b, earlier))
      ];
      before = λ k l. get_or-set_other line x k _ (pos 0) (λ e. omega (arith, e, l)) ∙ c.loop-x.invariant.before k l;
    }
