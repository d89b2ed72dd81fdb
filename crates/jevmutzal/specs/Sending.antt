-- What C is told of bytes sent and of the names of causes.
use Rattle.std.specs.Prelude.{◌≡◌, ℕ, ◌+◌, ℤ, ◌<◌, ◌++◌, ◌⊎◌, false, true, List, [], length, drop}
use Rattle.dirac_common.specs.declared.faults.Cause.{Cause}
use Rattle.dirac_types.specs.Causes.{name_of}
use Rattle.dirac_push.specs.Pushing.{PushPasses, Pushed, kept_bytes}
use Rattle.jevmutzal.specs.declared.codes.TheConstants.{FINISHED, NO_MEMORY, OK}
use Rattle.jevmutzal.specs.Numbers.{number_of_cause}

-- a number tells whether the bytes were added, as far as they are kept, and nothing but them, as long as it wasn't said
-- that none follows; where they weren't, nothing changed
abbrev pub TellsSent : ℤ → List ℕ → Pushed → Pushed → Type 0
TellsSent code bytes old new =
    (code ≡ OK) × (old.is_finished ≡ false) × PushPasses old new bytes []
    × (new ≡ record old { there = old.there ++ kept_bytes old.decoder.stream_end bytes; room = new.room })
    × (new.room + length bytes ≡ old.room)
    ⊎ (code ≡ NO_MEMORY) × (old.is_finished ≡ false) × (new ≡ old)
    ⊎ (code ≡ FINISHED) × (old.is_finished ≡ true) × (new ≡ old)

-- the name of the cause of that number stands at the front of the buffer, and the answer is its length; or nothing was
-- written, since there is no such cause or no room
abbrev pub WritesName : ℕ → ℕ → List ℕ → List ℕ → Type 0
WritesName number answer old new =
    ((cause : Cause) × (number_of_cause cause ≡ number) × (answer ≡ length (name_of cause))
    × (new ≡ name_of cause ++ drop (length (name_of cause)) old))
    ⊎ ((answer ≡ 0) × (new ≡ old) × ((cause : Cause) → number_of_cause cause ≡ number
    → length old < length (name_of cause)))
