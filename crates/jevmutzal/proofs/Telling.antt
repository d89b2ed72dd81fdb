-- What C is told of an answer.
use Rattle.std.proofs.Common.{◌≡◌, ℤ}
use Rattle.dirac_push.specs.declared.answer.Answer.{Answer}
use Rattle.dirac_push.specs.Pushing.{PushGives, Pushed, RepeatsAnswer, TakesUnits}
use Rattle.jevmutzal.specs.declared.structs.Frame.{Frame}
use Rattle.jevmutzal.specs.Describing.{TellsNext, frame_told}
use Rattle.jevmutzal.specs.Numbers.{number_of_answer}

pub tells : (answer : Answer) (code : ℤ) (frame : Frame) (old new : Pushed) → code ≡ number_of_answer answer → frame ≡ frame_told answer new.shown
    → PushGives answer old new → RepeatsAnswer answer old new → TakesUnits old new → new.is_finished ≡ old.is_finished → new.room ≡ old.room → TellsNext code frame old new
tells answer code frame old new number is gives repeats takes stays room =
    (answer, number, is, gives, repeats, takes, stays, room)
