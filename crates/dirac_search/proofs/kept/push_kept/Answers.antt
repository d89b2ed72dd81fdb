use Rattle.std.proofs.Common.{ℕ, ◌^◌, ◌∙◌, subst, sym}
use Rattle.std.specs.List.{All}
use Rattle.std.proofs.lemmas.List.Elements.{All-filter}
use Rattle.dirac_inside.specs.Inside.{vector_times}
use Rattle.dirac_inside.specs.Ranges.{HasTheInside, is_in}
use Rattle.dirac_inside.specs.declared.picture_blocks.PictureBlocks.{PictureBlocks}
use Rattle.dirac_search.specs.Candidates.{IsWithinReach}
use Rattle.dirac_search.specs.Given.{searched_of}
use Rattle.dirac_search.specs.Kept.{precision_of}
use Rattle.dirac_search.proofs.Keeping.{range_keeps}
use Rattle.dirac_search.proofs.kept.push_kept.Goals as goal

pub returns-clause-value : goal.returns-clause-value
returns-clause-value c =
    let g = searched_of c.args.staged.now.search.now in
    let s = c.args.staged.now.settings.now in
    let st = c.args.staged.now.stage in
    let range = c.inside_range-range.result in
    let inside = subst (λ (p : PictureBlocks). HasTheInside p (precision_of st) c.args.i c.args.j range) c.blocks_of-blocks.ensures.value
    (subst (λ (q : ℕ). HasTheInside c.blocks_of-blocks.result q c.args.i c.args.j range) c.precision_of.ensures c.inside_range-range.ensures.inside) in
    c.in_ok-push_inside.ensures
    ∙ range_keeps g s st c.args.i c.args.j c.samples_of.result range c.args.list.now inside c.samples_of.ensures.value c.samples_of.ensures.at_most_16 c.requires.within

pub returns-clause-within : goal.returns-clause-within
returns-clause-within c =
    subst (All (IsWithinReach (2 ^ 24))) (sym c.in_ok-push_inside.ensures)
    (All-filter (λ v. is_in c.inside_range-range.result (vector_times c.samples_of.result v)) (IsWithinReach (2 ^ 24)) c.args.list.now c.requires.within)
