use Rattle.std.proofs.Common.{◌≡◌, ◌+◌, Some, subst, sym, arith, ◌∙◌}
use Rattle.std.specs.List.{All}
use Rattle.dirac_vectors.specs.Predictions.{IsShortVector}
use Rattle.dirac_search.specs.declared.stage.Stage.{Stage}
use Rattle.dirac_search.specs.Candidates.{IsWithinReach, Vectors}
use Rattle.dirac_search.specs.Fields.{HasFormerField, IsFormerField, IsStage, after_sub}
use Rattle.dirac_search.specs.Given.{searched_of}
use Rattle.dirac_search.proofs.Bounds.{after_all, after_former, all_short, behind_staged, sub_bound, sub_former}
use Rattle.dirac_search.proofs.stages.search_with.Goals as goal

pub search_stage-requires-in-loop-n-after_bounds : goal.search_stage-requires-in-loop-n-after_bounds
search_stage-requires-in-loop-n-after_bounds g c = λ lives bound.
    let gs = searched_of c.args.search.now in
    let s = c.args.settings.now in
    let former = subst (IsFormerField gs) (sym c.loop-n.invariant) (after_former gs s c.loop-n.n c.requires.search (omega (arith, c.requires.search.precision))) in
    let next = behind_staged gs s (c.loop-n.n + 1) c.loop-n.field (omega arith) (omega arith) former in
    record {
      search = c.requires.search;
      stage = subst (λ (st : Stage). IsStage s st) (sym c.stage_behind.ensures) next.0;
      bytes = c.requires.bytes;
      former = subst (λ (st : Stage). HasFormerField gs st (Some c.loop-n.field)) (sym c.stage_behind.ensures) next.1;
    }

pub returns-clause-value : goal.returns-clause-value
returns-clause-value g c = c.loop-n.invariant ∙ after_all (searched_of c.args.search.now) c.args.settings.now c.loop-n.n (omega arith)

pub returns-clause-sizes : goal.returns-clause-sizes
returns-clause-sizes g c =
    let gs = searched_of c.args.search.now in
    let s = c.args.settings.now in
    let all : c.loop-n.field ≡ after_sub gs s s.precision = c.loop-n.invariant ∙ after_all gs s c.loop-n.n (omega arith) in
    let former = sub_former gs s s.precision c.requires.search c.requires.search.precision in
    subst (λ (f : Vectors). (f.across ≡ c.args.search.now.across) × (f.down ≡ c.args.search.now.down)) (sym all) (former.across, former.down)

pub returns-clause-within_2175 : goal.returns-clause-within_2175
returns-clause-within_2175 g c =
    let gs = searched_of c.args.search.now in
    let s = c.args.settings.now in
    let all : c.loop-n.field ≡ after_sub gs s s.precision = c.loop-n.invariant ∙ after_all gs s c.loop-n.n (omega arith) in
    subst (λ (f : Vectors). All (IsWithinReach 2175) f.vectors) (sym all) (sub_bound gs s s.precision c.requires.search.range c.requires.search.pyramid c.requires.search.precision)

pub returns-clause-of_16_bits : goal.returns-clause-of_16_bits
returns-clause-of_16_bits g c =
    let gs = searched_of c.args.search.now in
    let s = c.args.settings.now in
    let all : c.loop-n.field ≡ after_sub gs s s.precision = c.loop-n.invariant ∙ after_all gs s c.loop-n.n (omega arith) in
    subst (λ (f : Vectors). All IsShortVector f.vectors) (sym all) (all_short _ (sub_bound gs s s.precision c.requires.search.range c.requires.search.pyramid c.requires.search.precision))
