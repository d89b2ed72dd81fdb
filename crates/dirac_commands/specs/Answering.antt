-- What is told of an answer, and with which status the program ends.
use Rattle.std.specs.Prelude.{◌≡◌, ℕ, Bool, Option, Result, Ok}
use Rattle.std.specs.Io.KnownBytes.{Keeps}
use Rattle.dirac_command_line.specs.declared.ended.Ended.{Ended}
use Rattle.dirac_command_line.specs.declared.words.Command.{Command}
use Rattle.dirac_command_line.specs.declared.words.Command.TheVariants as command
use Rattle.dirac_command_line.specs.declared.words.WordsStop.{WordsStop}
use Rattle.dirac_stream_commands.specs.Cutting.{IfUnwrittenBy}
use Rattle.dirac_command_line.specs.Ended.{status_of, text_of}
use Rattle.dirac_command_line.specs.Telling.{Tells, Texts, line_of}
use Rattle.dirac_commands.specs.Flushing.{RunsAndKeeps}
use Rattle.dirac_commands.specs.Running.{Held}

-- a run and the flushes behind it ended so, that answer is told, and this code is its status
pub record Answers (asked : Result Command WordsStop) (old new : Held) (out_sound side_sound : Bool)
    (texts texts' : Texts) (code : ℕ) : Type 0 where
  pub ended : Ended
  pub runs : RunsAndKeeps asked old new out_sound side_sound ended
  pub cut_untouched : (from : ℕ) (to : Option ℕ) → asked ≡ Ok (command.Cut from to)
      → IfUnwrittenBy ended (Keeps old.out new.out)
  pub join_untouched : asked ≡ Ok command.Join → IfUnwrittenBy ended (Keeps old.out new.out)
  pub status : code ≡ status_of ended
  pub told : Tells (line_of (text_of ended)) texts texts'
