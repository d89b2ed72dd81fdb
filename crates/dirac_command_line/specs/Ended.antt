-- What the program says of each answer, and its exit status.
use Rattle.std.specs.Prelude.{ℕ, Bool, if◌then◌else◌, List, [], ◌++◌, codes, decimal}
use Rattle.dirac_common.specs.declared.faults.Fault.{Fault}
use Rattle.dirac_types.specs.declared.settings.BadSetting.{BadSetting}
use Rattle.dirac_types.specs.Causes.{name_of}
use Rattle.dirac_types.specs.Names.{setting_text}
use Rattle.dirac_command_line.specs.declared.ended.Ended.{Ended}
use Rattle.dirac_command_line.specs.declared.ended.Ended.TheVariants as ended

-- the exit status
abbrev pub status_of : Ended → ℕ
status_of ended.Done = 0
status_of (ended.Usage n) = 2
status_of (ended.BadSettings bad) = 3
status_of (ended.Fault fault) = 4
status_of (ended.PartialPicture n) = 5
status_of (ended.UnitTooLong n) = 6
status_of ended.TooManyPictures = 7
status_of ended.ReadFault = 8
status_of ended.WriteFault = 9
status_of ended.SideFault = 10
status_of ended.NoMemory = 11
status_of (ended.NoSuchPoint n) = 13
status_of (ended.OpenCut n) = 14

-- a fault: its unit, its place in bytes, and its cause by name
abbrev pub fault_text : Fault → List ℕ
fault_text fault =
    codes "fault unit=" ++ (decimal fault.unit ++ (codes " at="
    ++ (decimal fault.at ++ (codes " cause=" ++ name_of fault.cause))))

-- a setting out of its range
abbrev pub bad_setting_text : BadSetting → List ℕ
bad_setting_text bad = codes "bad setting " ++ (setting_text bad.name ++ (codes "=" ++ decimal bad.value))

-- what is said of an answer
abbrev pub text_of : Ended → List ℕ
text_of ended.Done = []
text_of (ended.Usage n) = codes "usage: word " ++ decimal n
text_of (ended.BadSettings bad) = bad_setting_text bad
text_of (ended.Fault fault) = fault_text fault
text_of (ended.PartialPicture n) = codes "partial picture: " ++ (decimal n ++ codes " bytes")
text_of (ended.UnitTooLong n) = codes "unit too long: picture " ++ decimal n
text_of ended.TooManyPictures = codes "too many pictures"
text_of ended.ReadFault = codes "read fault"
text_of ended.WriteFault = codes "write fault"
text_of ended.SideFault = codes "side fault"
text_of ended.NoMemory = codes "no memory"
text_of (ended.NoSuchPoint n) = codes "no such point: " ++ decimal n
text_of (ended.OpenCut n) = codes "open cut: unit " ++ decimal n

-- the answer behind a run with this one and the flushes of both sinks, where each is sound or isn't: behind `Done` a
-- sink that isn't sound is answered as a fault of it, the one that comes out first
abbrev pub after_flushes : Ended → Bool → Bool → Ended
after_flushes ended.Done out side = if out then (if side then ended.Done else ended.SideFault) else ended.WriteFault
after_flushes answer out side = answer
