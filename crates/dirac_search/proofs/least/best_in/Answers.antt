use Rattle.std.proofs.Common.{◌∙◌, ap, arith, sym}
use Rattle.dirac_costs.specs.Least.{first_least}
use Rattle.dirac_costs.specs.declared.window.Window.{Window}
use Rattle.dirac_search.specs.Candidates.{further_candidates, no_motion}
use Rattle.dirac_search.specs.Costs.{cost_of, window_cost}
use Rattle.dirac_search.specs.Fields.{best_of}
use Rattle.dirac_search.specs.Given.{searched_of, lent}
use Rattle.dirac_search.specs.Kept.{kept_candidates}
use Rattle.dirac_search.proofs.Fewest.{still_taken}
use Rattle.dirac_search.proofs.Keeping.{kept_chooses, kept_every, kept_passing}
use Rattle.dirac_search.proofs.Compared.{compared_at, level_at}
use Rattle.dirac_search.proofs.least.best_in.Goals as goal

pub whole_cost-price-requires-clause-compared : goal.whole_cost-price-requires-clause-compared
whole_cost-price-requires-clause-compared c = compared_at c.args.staged.now c.window-window.result c.requires.search c.requires.stage c.requires.bytes c.window-window.ensures.within

pub least_of-requires-clause-compared : goal.least_of-requires-clause-compared
least_of-requires-clause-compared c = compared_at c.args.staged.now c.window-window.result c.requires.search c.requires.stage c.requires.bytes c.window-window.ensures.within

pub least_of-requires-2-clause-compared : goal.least_of-requires-2-clause-compared
least_of-requires-2-clause-compared c = compared_at c.args.staged.now c.window-window.result c.requires.search c.requires.stage c.requires.bytes c.window-window.ensures.within

pub window-window-requires-clause-level : goal.window-window-requires-clause-level
window-window-requires-clause-level c = level_at _ _ _ c.requires.search c.requires.stage

pub window-window-requires-clause-column : goal.window-window-requires-clause-column
window-window-requires-clause-column c = omega (arith, c.requires.column, c.requires.search.across)

pub window-window-requires-clause-row : goal.window-window-requires-clause-row
window-window-requires-clause-row c = omega (arith, c.requires.row, c.requires.search.down)

pub least_of-requires-clause-list : goal.least_of-requires-clause-list
least_of-requires-clause-list c = c.in_ok-push_choice.ensures.within

pub push_kept-requires-clause-within : goal.push_kept-requires-clause-within
push_kept-requires-clause-within c = c.in_ok-push_choice.ensures.within

pub least_of-requires-2-clause-list : goal.least_of-requires-2-clause-list
least_of-requires-2-clause-list c = c.in_ok-push_kept.ensures.within

pub least_of-requires-clause-price : goal.least_of-requires-clause-price
least_of-requires-clause-price c = c.whole_cost-price.ensures

pub least_of-requires-2-clause-price : goal.least_of-requires-2-clause-price
least_of-requires-2-clause-price c = c.whole_cost-price.ensures

pub push_choice-requires-clause-former : goal.push_choice-requires-clause-former
push_choice-requires-clause-former c = c.requires.former

pub push_choice-requires-clause-at_most_16 : goal.push_choice-requires-clause-at_most_16
push_choice-requires-clause-at_most_16 c = c.requires.search.range

pub push_choice-requires-clause-empty : goal.push_choice-requires-clause-empty
push_choice-requires-clause-empty c = c.clear.ensures

pub push_kept-requires-clause-empty : goal.push_kept-requires-clause-empty
push_kept-requires-clause-empty c = c.clear-2.ensures

pub push_kept-requires-clause-search : goal.push_kept-requires-clause-search
push_kept-requires-clause-search c = c.requires.search

pub push_kept-requires-clause-stage : goal.push_kept-requires-clause-stage
push_kept-requires-clause-stage c = c.requires.stage

pub push_kept-requires-clause-column : goal.push_kept-requires-clause-column
push_kept-requires-clause-column c = c.requires.column

pub push_kept-requires-clause-row : goal.push_kept-requires-clause-row
push_kept-requires-clause-row c = c.requires.row

pub returns-then-price-least_price_of_motion : goal.returns-then-price-least_price_of_motion
unfolding best_of
returns-then-price-least_price_of_motion c =
    let g = searched_of c.args.staged.now.search.now in
    let s = c.args.staged.now.settings.now in
    let st = c.args.staged.now.stage in
    let kept = kept_candidates g s st (lent c.args.before) c.args.i c.args.j in
    still_taken g s.bias st c.window-window.result c.whole_cost-price.result kept c.whole_cost-price.ensures (omega (arith, c.least_price_of_motion.ensures, c.if-price-least_price_of_motion.true))
    ∙ ap (λ (w : Window). first_least (window_cost g s.bias st w) no_motion kept) c.window-window.ensures.value

pub returns-then-settings-eq0 : goal.returns-then-settings-eq0
unfolding best_of
returns-then-settings-eq0 c =
    let g = searched_of c.args.staged.now.search.now in
    let s = c.args.staged.now.settings.now in
    let st = c.args.staged.now.stage in
    let further = further_candidates st s.range (lent c.args.before) c.args.i c.args.j in
    c.least_of.ensures
    ∙ ap (λ (w : Window). first_least (window_cost g s.bias st w) no_motion c.push_choice.new.list) c.window-window.ensures.value
    ∙ c.in_ok-push_choice.ensures.chooses_as_all (cost_of g s.bias st c.args.i c.args.j)
    ∙ ap (first_least (cost_of g s.bias st c.args.i c.args.j) no_motion) (sym (kept_every g s st c.args.i c.args.j further (omega (arith, c.if-settings-eq0.true))))

pub returns : goal.returns
unfolding best_of
returns c =
    let g = searched_of c.args.staged.now.search.now in
    let s = c.args.staged.now.settings.now in
    let st = c.args.staged.now.stage in
    let further = further_candidates st s.range (lent c.args.before) c.args.i c.args.j in
    let list = c.push_choice.new.list in
    c.least_of-2.ensures
    ∙ ap (λ (w : Window). first_least (window_cost g s.bias st w) no_motion c.push_kept.new.kept) c.window-window.ensures.value
    ∙ ap (first_least (cost_of g s.bias st c.args.i c.args.j) no_motion)
    (c.in_ok-push_kept.ensures.value ∙ sym (kept_passing g s st c.args.i c.args.j list (λ e. absurd (omega (arith, e, c.if-settings-eq0.false)))))
    ∙ kept_chooses g s st c.args.i c.args.j list further c.in_ok-push_choice.ensures.chooses_as_all (cost_of g s.bias st c.args.i c.args.j)
