use Rattle.std.proofs.Common.{rules, arith, pos, slice_index_or, length, ◌+◌, ◌*◌, ◌<◌, ap, ◌∙◌}
use Rattle.std.specs.Int.{w64, w128}
use Rattle.std.proofs.lemmas.Int.{to_z-of_z}
use Rattle.std.proofs.lemmas.Nat.{mul-add-lt}
use mir.Val.{SFits}
use Rattle.dirac_quant.specs.Quantiser.{restored}
use Rattle.dirac_synthesis.proofs.JoinedRows.{one_more, others_stay}
use Rattle.dirac_synthesis.proofs.restore.restore_into.Goals as goal

pub bounds-line-n : goal.bounds-line-n
bounds-line-n c = omega (arith, mul-add-lt c.loop-n.n c.args.step c.args.first (length c.args.coded.now) (omega arith) c.requires.first)

pub loop-n-preserved : goal.loop-n-preserved
loop-n-preserved c =
    let coded : SFits w64 (slice_index_or c.args.coded.now c.loop-n.n (pos 0)) = search rules in
    let fits : SFits w128 c.restore.result = search rules in
    let inside : c.loop-n.n * c.args.step + c.args.first < length c.loop-n.line = omega (arith, mul-add-lt c.loop-n.n c.args.step c.args.first (length c.args.coded.now) (omega arith) c.requires.first) in
    record {
      written =
          one_more (λ v. restored v c.args.index c.args.kind) c.args.coded.now c.loop-n.line c.args.step c.args.first c.loop-n.n _ c.loop-n.invariant.written c.requires.first inside
          (to_z-of_z w128 _ fits ∙ c.restore.ensures.value ∙ ap (λ v. restored v c.args.index c.args.kind) (to_z-of_z w64 _ coded));
      others = others_stay c.loop-n.line _ c.args.step c.args.first c.loop-n.n _ c.loop-n.invariant.others c.requires.first;
    }
