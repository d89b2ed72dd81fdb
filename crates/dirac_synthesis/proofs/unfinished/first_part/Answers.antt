use Rattle.std.proofs.Common.{◌≡◌, ◌+◌, ◌-◌, ◌*◌, ◌^◌, arith, refl, ap, sym, ◌∙◌}
use Rattle.dirac_common.proofs.Bounds.{all_weaker}
use Rattle.dirac_synthesis.specs.Levels.{next_low}
use Rattle.dirac_synthesis.specs.Planes.{IsLowOf}
use Rattle.dirac_synthesis.specs.Residual.{after_levels, cut}
use Rattle.dirac_synthesis.proofs.Bounds.{cut_bound}
use Rattle.dirac_synthesis.proofs.LevelBounds.{last_across, low_next, low_stands}
use Rattle.dirac_synthesis.proofs.Maps.{ok_weaker}
use Rattle.dirac_synthesis.proofs.Sizes.{end_bound}
use Rattle.dirac_synthesis.proofs.ZeroBands.{zeros_stand_in}
use Rattle.dirac_synthesis.proofs.unfinished.first_part.Goals as goal

pub part_before-requires : goal.part_before-requires
part_before-requires c =
    let p = c.args.plane.now in
    let t = p.transform.now in
    let is = c.requires in
    let twice = last_across t p.kind p.bands.now p.width p.height (t.depth - 1) c.in_ok-low.low (omega (arith, is.depth.0)) c.in_ok-low.ensures in
    record {
      level = low_stands p (t.depth - 1) c.level_of-level.result c.in_ok-low.low is (omega (arith, is.depth.0)) c.level_of-level.ensures c.in_ok-low.ensures;
      across = (is.across.0, twice.0, is.across.1);
      down = (is.down.0, twice.1, is.down.1);
    }

pub returns-clause-value : goal.returns-clause-value
returns-clause-value c =
    let p = c.args.plane.now in
    let t = p.transform.now in
    let l = c.level_of-level.result in
    let whole : t.depth - 1 + 1 ≡ t.depth = omega (arith, c.requires.depth.0) in
    let next : IsLowOf p (t.depth - 1 + 1) (next_low l.by c.in_ok-low.low l.bands) =
    low_next p (t.depth - 1) l c.in_ok-low.low _ c.requires (omega (arith, c.requires.depth.0)) c.level_of-level.ensures c.in_ok-low.ensures refl in
    ok_weaker c.part_before.result (λ q e. e ∙ ap (cut p.width p.height) (next.value ∙ ap (after_levels t p.kind p.bands.now) whole)) c.part_before.ensures.value

pub returns-clause-bound : goal.returns-clause-bound
returns-clause-bound c =
    let p = c.args.plane.now in
    let t = p.transform.now in
    let l = c.level_of-level.result in
    let next : IsLowOf p (t.depth - 1 + 1) (next_low l.by c.in_ok-low.low l.bands) =
    low_next p (t.depth - 1) l c.in_ok-low.low _ c.requires (omega (arith, c.requires.depth.0)) c.level_of-level.ensures c.in_ok-low.ensures refl in
    ok_weaker c.part_before.result
    (λ q e. rw e (cut_bound (2 ^ 108) p.width p.height (next_low l.by c.in_ok-low.low l.bands)
    (all_weaker (2 ^ 77 * 73 ^ (t.depth - 1 + 1)) (2 ^ 108) (next_low l.by c.in_ok-low.low l.bands).values (end_bound (t.depth - 1 + 1) (omega (arith, c.requires.depth.1, c.requires.depth.0))) next.bound)))
    c.part_before.ensures.value

pub returns-then-have_zeros_alone-clause-value : goal.returns-then-have_zeros_alone-clause-value
returns-then-have_zeros_alone-clause-value c =
    let p = c.args.plane.now in
    sym (zeros_stand_in p.transform.now p.kind p.bands.now p.width p.height (c.have_zeros_alone.ensures c.if-have_zeros_alone.true))
