-- Worked values of the definitions.
use Rattle.std.proofs.Common.{◌≡◌, ℕ, true, false, refl}
use Rattle.dirac_types.specs.declared.settings.Settings.{Settings}
use Rattle.dirac_plan.specs.Plan.{frames_plan, plan}
use Rattle.dirac_encode_progress.specs.Alone.{none_can_be_coded}

-- groups of four frames, of which every other one is an anchor; so many pictures at most
abbrev every_other : Settings → ℕ → Settings
every_other t most = record t { fields = 0; gop = 4; between = 1; references = 1; alike = 0; pictures = most }

-- behind the first picture the second can't be coded before the third came
second_waits : (t : Settings) → none_can_be_coded (every_other t 4) 2 1 ≡ true
unfolding plan frames_plan
second_waits t = refl

-- where it is the last one it is due
last_is_due : (t : Settings) → none_can_be_coded (every_other t 2) 2 1 ≡ false
unfolding plan frames_plan
last_is_due t = refl

-- then the third can, and behind it the second
third_is_due : (t : Settings) → none_can_be_coded (every_other t 4) 3 1 ≡ false
unfolding plan frames_plan
third_is_due t = refl

second_is_due : (t : Settings) → none_can_be_coded (every_other t 4) 3 2 ≡ false
unfolding plan frames_plan
second_is_due t = refl

all_are_coded : (t : Settings) → none_can_be_coded (every_other t 4) 3 3 ≡ true
unfolding plan frames_plan
all_are_coded t = refl
