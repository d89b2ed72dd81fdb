use Rattle.std.proofs.Common.{◌≡◌, ℕ, ◌^◌, ◌<◌, length, length-set, arith, ap, ◌∙◌}
use Rattle.std.proofs.lemmas.List.Elements.{All-set}
use Rattle.dirac_block_table.specs.Tables.{IsBlock}
use Rattle.dirac_costs.specs.Sums.{sum_below}
use Rattle.dirac_costs.proofs.Sums.{sum_more}
use Rattle.dirac_decide.specs.declared.choice.Choice.{Choice}
use Rattle.dirac_decide.specs.Given.{deciding_of}
use Rattle.dirac_decide.specs.Modes.{choice_of, count_of_references}
use Rattle.dirac_decide.specs.Splits.{split_cost, unit_in}
use Rattle.dirac_decide.proofs.Superblocks.{few_units, units_more}
use Rattle.dirac_decide.proofs.Told.{sum_early, told_whole}
use Rattle.dirac_decide.proofs.splits.split_below.Goals as goal

pub returns-then-cost-limit-clause-told : goal.returns-then-cost-limit-clause-told
unfolding split_cost
returns-then-cost-limit-clause-told c =
    sum_early c.args.limit c.loop-k.cost _ c.loop-k.k (4 ^ c.args.split) c.loop-k.invariant.cost (omega (arith, c.loop-k.invariant.units_fit.len)) (omega arith)

pub returns-then-cost-limit-clause-at_most_2_33 : goal.returns-then-cost-limit-clause-at_most_2_33
returns-then-cost-limit-clause-at_most_2_33 c = omega (arith, few_units c.args.split c.requires.split, c.loop-k.invariant.units_fit.len, c.loop-k.invariant.at_most)

pub overflow_cast-k : goal.overflow_cast-k
overflow_cast-k c = omega (arith, few_units c.args.split c.requires.split, c.loop-k.invariant.units_fit.len)

pub loop-k-preserved : goal.loop-k-preserved
loop-k-preserved c =
    let n = c.args.inputs.now in
    let k = c.loop-k.k in
    let f : ℕ → ℕ = λ i. (choice_of (deciding_of n) (unit_in c.args.split c.args.sx c.args.sy i)).cost in
    let is : c.choose-choice.result ≡ choice_of (deciding_of n) (unit_in c.args.split c.args.sx c.args.sy k) = c.choose-choice.ensures.value ∙ ap (choice_of (deciding_of n)) c.unit_in-unit.ensures.value in
    let cost : c.choose-choice.result.cost ≡ f k = ap (λ (x : Choice). x.cost) is in
    let inside : k < length c.loop-k.units = omega arith in
    record {
      units_fit = record {
        len = length-set c.loop-k.units k _ ∙ c.loop-k.invariant.units_fit.len;
        blocks = All-set (IsBlock (count_of_references (deciding_of n).second)) c.loop-k.units k _ c.choose-choice.ensures.block c.loop-k.invariant.units_fit.blocks;
      };
      at_most = omega (arith, c.choose-choice.ensures.at_most_2_29, c.loop-k.invariant.at_most);
      cost = omega (arith, sum_more f k, cost, c.loop-k.invariant.cost);
      chosen = units_more (deciding_of n) c.args.sx c.args.sy c.args.split k c.loop-k.units _ inside (ap (λ (x : Choice). x.block) is) c.loop-k.invariant.chosen;
    }

pub returns-clause-told : goal.returns-clause-told
unfolding split_cost
returns-clause-told c =
    let n = c.args.inputs.now in
    let f : ℕ → ℕ = λ i. (choice_of (deciding_of n) (unit_in c.args.split c.args.sx c.args.sy i)).cost in
    let all : c.loop-k.k ≡ 4 ^ c.args.split = omega (arith, c.loop-k.invariant.units_fit.len) in
    told_whole c.args.limit (sum_below f (4 ^ c.args.split)) c.loop-k.cost (c.loop-k.invariant.cost ∙ ap (sum_below f) all)

pub returns-clause-at_most_2_33 : goal.returns-clause-at_most_2_33
returns-clause-at_most_2_33 c = omega (arith, few_units c.args.split c.requires.split, c.loop-k.invariant.units_fit.len, c.loop-k.invariant.at_most)
