use Rattle.std.proofs.Common.{◌*◌, ◌^◌, arith, ap, sym, ◌∙◌}
use Rattle.dirac_common.proofs.Bounds.{all_weaker}
use Rattle.dirac_synthesis.specs.Residual.{cut}
use Rattle.dirac_synthesis.proofs.Bounds.{cut_bound}
use Rattle.dirac_synthesis.proofs.Maps.{ok_weaker}
use Rattle.dirac_synthesis.proofs.Sizes.{size_within, end_bound}
use Rattle.dirac_synthesis.proofs.ZeroBands.{zeros_bound, zeros_stand_in}
use Rattle.dirac_synthesis.proofs.plane.plane_residual.Goals as goal

pub cut_off-requires-clause-across : goal.cut_off-requires-clause-across
cut_off-requires-clause-across c = (
  c.requires.across.0,
  omega (arith, c.in_ok-low.ensures.across, size_within c.args.width c.args.transform.now.depth),
  c.requires.across.1,
)

pub cut_off-requires-clause-down : goal.cut_off-requires-clause-down
cut_off-requires-clause-down c = (
  c.requires.down.0,
  omega (arith, c.in_ok-low.ensures.down, size_within c.args.height c.args.transform.now.depth),
  c.requires.down.1,
)

pub returns-clause-value : goal.returns-clause-value
returns-clause-value c =
    ok_weaker c.cut_off.result (λ t e. e ∙ ap (cut c.args.width c.args.height) c.in_ok-low.ensures.value) c.cut_off.ensures

pub returns-clause-bound : goal.returns-clause-bound
returns-clause-bound c =
    ok_weaker c.cut_off.result
    (λ t e. rw e (cut_bound (2 ^ 108) c.args.width c.args.height c.in_ok-low.low
    (all_weaker (2 ^ 77 * 73 ^ c.args.transform.now.depth) (2 ^ 108) c.in_ok-low.low.values (end_bound c.args.transform.now.depth c.requires.depth.1) c.in_ok-low.ensures.bound)))
    c.cut_off.ensures

pub returns-then-have_zeros_alone-clause-value : goal.returns-then-have_zeros_alone-clause-value
returns-then-have_zeros_alone-clause-value c =
    let zeros = c.have_zeros_alone.ensures c.if-have_zeros_alone.true in
    ok_weaker c.try_zeros.result (λ t e. e ∙ sym (zeros_stand_in c.args.transform.now c.args.kind c.args.bands.now c.args.width c.args.height zeros)) c.try_zeros.ensures

pub returns-then-have_zeros_alone-clause-bound : goal.returns-then-have_zeros_alone-clause-bound
returns-then-have_zeros_alone-clause-bound c =
    ok_weaker c.try_zeros.result (λ t e. rw e (zeros_bound c.args.width c.args.height)) c.try_zeros.ensures
