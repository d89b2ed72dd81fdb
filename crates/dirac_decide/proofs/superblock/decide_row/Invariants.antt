use Rattle.dirac_rows.specs.Answers.{AnswerRows}
use Rattle.dirac_decide.specs.Best.{IsBestSplit}
use Rattle.dirac_decide.specs.Given.{deciding_of}
use Rattle.dirac_decide.specs.Rooms.{IsRoomForUnits}
use Rattle.dirac_decide.proofs.superblock.decide_row.Given as goal

abbrev pub invariant-loop-sx : goal.invariant-loop-sx
invariant-loop-sx l =
    AnswerRows (λ sx. IsBestSplit (deciding_of l.inputs) sx l.sy) l.sx l.row.items × IsRoomForUnits (deciding_of l.inputs) 0 l.undivided.items × IsRoomForUnits (deciding_of l.inputs) 1 l.quarters.items × IsRoomForUnits (deciding_of l.inputs) 2 l.sixteenths.items
