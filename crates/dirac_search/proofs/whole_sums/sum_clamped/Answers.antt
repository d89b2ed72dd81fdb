use Rattle.std.proofs.Common.{ℤ, pos, to_z, of_z, ap, ap₂, ◌∙◌, arith}
use Rattle.std.specs.Int.{w64}
use Rattle.std.proofs.lemmas.Int.{to_z-of_z}
use Rattle.dirac_search.specs.Rows.{row_apart}
use Rattle.dirac_search.proofs.whole_sums.sum_clamped.Goals as goal

pub returns-clause-value : goal.returns-clause-value
returns-clause-value c =
    let s = c.args.source.now in
    let r = c.args.reference.now in
    c.loop-k.invariant.value ∙ ap (row_apart s r (pos c.args.x) (pos c.args.y) (to_z w64 (of_z w64 c.args.across)) (to_z w64 (of_z w64 c.args.down))) (omega arith)
    ∙ ap₂ (λ (a b : ℤ). row_apart s r (pos c.args.x) (pos c.args.y) a b c.args.count) (to_z-of_z w64 c.args.across c.ranges.across) (to_z-of_z w64 c.args.down c.ranges.down)
