use Rattle.std.specs.Prelude.{ℕ, ◌+◌, ◌*◌, [], option_map}
use Rattle.std.proofs.Common.{◌∙◌}
use Rattle.dirac_search.specs.Fields.{best_of}
use Rattle.dirac_search.specs.Given.{searched_of}
use Rattle.dirac_search.proofs.Lists.{rows_more, rows_none}
use Rattle.dirac_search.proofs.stages.rows_of.Goals as goal

pub loop-k-init : goal.loop-k-init
loop-k-init c = c.new-vectors.ensures.items ∙ rows_none (4 * c.args.staged.now.search.now.across) (λ (i j : ℕ). best_of (searched_of c.args.staged.now.search.now) c.args.staged.now.settings.now c.args.staged.now.stage (option_map (λ f. f.now) c.args.before) i (4 * c.args.row + j)) []

pub loop-k-preserved : goal.loop-k-preserved
loop-k-preserved c =
    rows_more (4 * c.args.staged.now.search.now.across) c.loop-k.k (λ (i j : ℕ). best_of (searched_of c.args.staged.now.search.now) c.args.staged.now.settings.now c.args.staged.now.stage (option_map (λ f. f.now) c.args.before) i (4 * c.args.row + j))
    [] c.loop-k.vectors.items c.push_block_row.new.vectors.items c.loop-k.invariant c.in_ok-push_block_row.ensures
