use Rattle.std.proofs.Common.{ℕ, arith, ap, sym, subst, ◌∙◌}
use Rattle.dirac_obmc.specs.Compensation.{from_one}
use Rattle.dirac_obmc.specs.Windows.{IsWindow}
use Rattle.dirac_obmc.proofs.SamplesPredicted.{from_one_is}
use Rattle.dirac_obmc.proofs.values.one_values.Goals as goal

pub returns-then-has_default_weights : goal.returns-then-has_default_weights
returns-then-has_default_weights c k l =
    c.moved_rows.ensures.value k l ∙ sym (from_one_is c.args.motion.now.prediction.now _ (c.has_default_weights.ensures c.if-has_default_weights.true))

pub moved_rows-requires-2-clause-window : goal.moved_rows-requires-2-clause-window
moved_rows-requires-2-clause-window c = subst (λ (n : ℕ). IsWindow n c.args.window) (sym c.requires.len) c.requires.window

pub returns : goal.returns
returns c k l =
    c.weigh_one.ensures k l ∙ ap (from_one c.args.motion.now.prediction.now) (c.moved_rows-2.ensures.value k (omega (arith, l, c.requires.len)))
