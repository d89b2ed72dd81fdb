use Rattle.std.proofs.Common.{◌∙◌, sym}
use Rattle.dirac_commands.specs.Running.{bad_setting}
use Rattle.dirac_command_line.specs.Words.{command_read}
use Rattle.dirac_command_line.proofs.Statuses.{done_by, read_by, settings_by, settings_status, side_by, usage_by}
use Rattle.dirac_command_line.proofs.Statuses.{usage_status, write_by}
use Rattle.dirac_commands.proofs.answering.answer_beside.Goals as goal

pub returns-clause-answers : goal.returns-clause-answers
returns-clause-answers g c =
    let run = c.run_beside-ended in
    record {
      ended = run.result;
      runs = run.ensures.runs;
      cut_untouched = run.ensures.cut_untouched;
      join_untouched = run.ensures.join_untouched;
      status = c.status.ensures;
      told = c.tell.ensures.told;
    }

pub returns-clause-unfailed : goal.returns-clause-unfailed
returns-clause-unfailed g c is =
    c.run_beside-ended.ensures.unfailed (done_by c.run_beside-ended.result (sym c.status.ensures ∙ is))

pub returns-clause-usage : goal.returns-clause-usage
returns-clause-usage g c n =
    usage_status c.run_beside-ended.result c.status.result (command_read c.args.words.now) c.status.ensures c.run_beside-ended.ensures.usage

pub returns-clause-untouched : goal.returns-clause-untouched
returns-clause-untouched g c n is =
    let by = usage_by c.run_beside-ended.result (sym c.status.ensures ∙ is) in c.run_beside-ended.ensures.untouched by.0 by.1

pub returns-clause-bad_settings : goal.returns-clause-bad_settings
returns-clause-bad_settings g c bad =
    settings_status c.run_beside-ended.result c.status.result (bad_setting (command_read c.args.words.now)) c.status.ensures
    c.run_beside-ended.ensures.bad_settings

pub returns-clause-unread : goal.returns-clause-unread
returns-clause-unread g c bad is =
    let by = settings_by c.run_beside-ended.result (sym c.status.ensures ∙ is) in c.run_beside-ended.ensures.unread by.0 by.1

pub returns-clause-read : goal.returns-clause-read
returns-clause-read g c is =
    c.run_beside-ended.ensures.read (read_by c.run_beside-ended.result (sym c.status.ensures ∙ is))

pub returns-clause-write : goal.returns-clause-write
returns-clause-write g c is =
    c.run_beside-ended.ensures.write (write_by c.run_beside-ended.result (sym c.status.ensures ∙ is))

pub returns-clause-side : goal.returns-clause-side
returns-clause-side g c is =
    c.run_beside-ended.ensures.side (side_by c.run_beside-ended.result (sym c.status.ensures ∙ is))
