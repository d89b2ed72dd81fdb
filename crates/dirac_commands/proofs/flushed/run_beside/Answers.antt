use Rattle.std.proofs.Common.{◌∙◌, ◌==◌, ℕ, true, ap₂}
use Rattle.std.proofs.KnownBytes.{Keeps-trans}
use Rattle.dirac_command_line.specs.Ended.{after_flushes}
use Rattle.dirac_command_line.proofs.Flushing.{flushed_again, settings_kept, usage_kept}
use Rattle.dirac_commands.proofs.flushed.run_beside.Goals as goal

pub returns-clause-runs : goal.returns-clause-runs
returns-clause-runs g c =
    let first = c.run_on-ended.ensures.runs in
    record {
      ended = first.ended;
      left = first.left;
      runs = first.runs;
      held = first.held;
      out = first.out;
      side = Keeps-trans _ _ _ first.side c.flush.ensures.kept;
      answers =
          flushed_again first.ended c.run_on-ended.result c.after_flushes.result _ _ first.answers
          (c.after_flushes.ensures
          ∙ ap₂ (λ (now before : ℕ). after_flushes c.run_on-ended.result true (now == before)) c.fault_count.ensures c.fault_count-before.ensures);
    }

pub returns-clause-usage : goal.returns-clause-usage
returns-clause-usage g c n =
    usage_kept c.run_on-ended.result c.after_flushes.result _ _ n c.after_flushes.ensures
    (c.run_on-ended.ensures.usage n)

pub returns-clause-bad_settings : goal.returns-clause-bad_settings
returns-clause-bad_settings g c bad =
    settings_kept c.run_on-ended.result c.after_flushes.result _ _ bad c.after_flushes.ensures (c.run_on-ended.ensures.bad_settings bad)
