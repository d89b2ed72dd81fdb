use Rattle.std.proofs.Common.{◌≡◌, ◌+◌, ◌-◌, length-append, arith, sym, ◌∙◌}
use Rattle.std.proofs.lemmas.Result.{err_from_is_err_and}
use Rattle.dirac_header.proofs.Levels.{one_level, level_refused, all_levels}
use Rattle.dirac_header.proofs.transform.read_counts.Goals as goal

pub returns-in_err-across-clause-value : goal.returns-in_err-across-clause-value
returns-in_err-across-clause-value c =
    let p = err_from_is_err_and c.from_residual.result c.from_residual.ensures.1 in
    rw (p.1, p.2)
    (sym c.levels.invariant.2
    ∙ level_refused c.args.width c.args.height c.args.depth c.levels.counts (c.args.depth + 1 - c.levels.level) c.levels.r _ (omega arith)
    (rw c.levels.invariant.0 c.in_err-across.ensures.value))

pub levels-preserved : goal.levels-preserved
levels-preserved c =
    let left : c.args.depth + 1 - (c.levels.level + 1) ≡ c.args.depth + 1 - c.levels.level - 1 = omega arith in
    let level =
    one_level c.args.width c.args.height c.args.depth c.levels.counts (c.args.depth + 1 - c.levels.level) c.levels.r c.read_level_counts.new.r
    (c.in_ok-across.across, c.in_ok-across.down) (omega arith) (rw c.levels.invariant.0 c.in_ok-across.ensures.value) in (
      rw c.push.ensures (simp length-append (omega (arith, c.levels.invariant.0))),
      c.in_ok-across.ensures.kept ∙ c.levels.invariant.1,
      rw (left, c.push.ensures) (sym level ∙ c.levels.invariant.2),
    )

pub returns-clause-value : goal.returns-clause-value
returns-clause-value c =
    let none : c.args.depth + 1 - c.levels.level ≡ 0 = omega arith in
    sym c.levels.invariant.2 ∙ rw none (all_levels c.args.width c.args.height c.args.depth c.levels.counts c.levels.r)
