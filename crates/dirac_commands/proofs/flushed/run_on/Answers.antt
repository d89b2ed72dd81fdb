use Rattle.std.proofs.Common.{◌∙◌, ◌==◌, ℕ, true, refl, ap₂}
use Rattle.std.proofs.KnownBytes.{Keeps-refl}
use Rattle.dirac_command_line.specs.Ended.{after_flushes}
use Rattle.dirac_command_line.proofs.Flushing.{settings_kept, usage_kept}
use Rattle.dirac_commands.proofs.flushed.run_on.Goals as goal

pub returns-clause-runs : goal.returns-clause-runs
returns-clause-runs g c = record {
  ended = c.run-ended.result;
  left = _;
  runs = c.run-ended.ensures.runs;
  held = refl;
  out = c.flush.ensures.kept;
  side = Keeps-refl _;
  answers =
      c.after_flushes.ensures
      ∙ ap₂ (λ (now before : ℕ). after_flushes c.run-ended.result (now == before) true) c.fault_count.ensures c.fault_count-before.ensures;
}

pub returns-clause-usage : goal.returns-clause-usage
returns-clause-usage g c n =
    usage_kept c.run-ended.result c.after_flushes.result _ _ n c.after_flushes.ensures (c.run-ended.ensures.usage n)

pub returns-clause-bad_settings : goal.returns-clause-bad_settings
returns-clause-bad_settings g c bad =
    settings_kept c.run-ended.result c.after_flushes.result _ _ bad c.after_flushes.ensures (c.run-ended.ensures.bad_settings bad)
