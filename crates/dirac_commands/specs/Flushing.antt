-- Runs behind which the writers are flushed.
use Rattle.std.specs.Prelude.{◌≡◌, Bool, Result}
use Rattle.std.specs.Io.KnownBytes.{Keeps}
use Rattle.dirac_command_line.specs.declared.ended.Ended.{Ended}
use Rattle.dirac_command_line.specs.declared.words.Command.{Command}
use Rattle.dirac_command_line.specs.declared.words.WordsStop.{WordsStop}
use Rattle.dirac_command_line.specs.Ended.{after_flushes}
use Rattle.dirac_commands.specs.Running.{Held, RunsTo}

-- a run left this, and what came behind it kept what both sinks held; the answer is the run's, but where the run is
-- done and a sink isn't sound, a fault of that sink, of the one that comes out first
pub record RunsAndKeeps (asked : Result Command WordsStop) (old new : Held) (out_sound side_sound : Bool)
    (answer : Ended) : Type 0 where
  pub ended : Ended
  pub left : Held
  pub runs : RunsTo asked old left ended
  pub held : new.held ≡ left.held
  pub out : Keeps left.out new.out
  pub side : Keeps left.side new.side
  pub answers : answer ≡ after_flushes ended out_sound side_sound
