use Rattle.std.proofs.Common.{◌^◌, ◌≤◌, arith, ap, ◌∙◌}
use Rattle.std.proofs.Math.Pow.{pow_mono}
use Rattle.std.proofs.lemmas.Nat.{one_shl}
use Rattle.dirac_search.specs.Costs.{level_of_stage}
use Rattle.dirac_search.proofs.kept.samples_of.Goals as goal

pub returns-clause-value : goal.returns-clause-value
returns-clause-value c = one_shl c.from.result 32 (omega (arith, c.from.ensures, c.level_of.ensures, c.requires)) ∙ ap (λ n. 2 ^ n) (c.from.ensures ∙ c.level_of.ensures)

pub returns-clause-at_most_16 : goal.returns-clause-at_most_16
returns-clause-at_most_16 c =
    let small : 2 ^ level_of_stage c.args.stage ≤ 2 ^ 4 = pow_mono {i = level_of_stage c.args.stage} {j = 4} c.requires in
    omega (arith, returns-clause-value c, small)
