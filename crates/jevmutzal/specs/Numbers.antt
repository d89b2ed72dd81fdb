-- The numbers that C sees.
use Rattle.std.specs.Prelude.{ℕ, ℤ}
use Rattle.dirac_common.specs.declared.faults.Cause.{Cause}
use Rattle.dirac_common.specs.declared.faults.Cause.TheVariants as cause
use Rattle.dirac_push.specs.declared.answer.Answer.{Answer}
use Rattle.dirac_push.specs.declared.answer.Answer.TheVariants as answers
use Rattle.jevmutzal.specs.declared.codes.TheConstants.{END, FAULT, NEEDS, NO_MEMORY, PICTURE, STOPPED}

-- the number of an answer
abbrev pub number_of_answer : Answer → ℤ
number_of_answer answers.Shown = PICTURE
number_of_answer answers.Needs = NEEDS
number_of_answer answers.End = END
number_of_answer (answers.Fault fault) = FAULT
number_of_answer answers.NoMemory = NO_MEMORY
number_of_answer answers.Stopped = STOPPED

-- the number of a cause: from 1 on, in the order of the list of causes
abbrev pub number_of_cause : Cause → ℕ
number_of_cause cause.MissingEnd = 1
number_of_cause cause.Truncated = 2
number_of_cause cause.BadPrefix = 3
number_of_cause cause.UnknownCode = 4
number_of_cause cause.LowDelay = 5
number_of_cause cause.Vlc = 6
number_of_cause cause.OffsetMissing = 7
number_of_cause cause.SequenceChanged = 8
number_of_cause cause.NoSequence = 9
number_of_cause cause.UnitShort = 10
number_of_cause cause.NumberTooLong = 11
number_of_cause cause.Version = 12
number_of_cause cause.Preset = 13
number_of_cause cause.Size = 14
number_of_cause cause.ChromaFormat = 15
number_of_cause cause.Sampling = 16
number_of_cause cause.RateIndex = 17
number_of_cause cause.AspectIndex = 18
number_of_cause cause.SignalRange = 19
number_of_cause cause.Depth8 = 20
number_of_cause cause.Fields = 21
number_of_cause cause.MissingReference = 22
number_of_cause cause.BlockPreset = 23
number_of_cause cause.BlockSize = 24
number_of_cause cause.Precision = 25
number_of_cause cause.GlobalMotion = 26
number_of_cause cause.PredictionMode = 27
number_of_cause cause.Weights = 28
number_of_cause cause.Wavelet = 29
number_of_cause cause.Depth = 30
number_of_cause cause.Codeblocks = 31
number_of_cause cause.CodeblockMode = 32
number_of_cause cause.QuantIndex = 33
number_of_cause cause.CodeWord = 34
number_of_cause cause.VectorRange = 35
number_of_cause cause.DcRange = 36
