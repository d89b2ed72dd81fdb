-- What was written of an encoding while its raw pictures still came.
use Rattle.std.specs.Prelude.{◌≡◌, ℕ, ◌+◌, ◌-◌, ◌==◌, ◌≤◌, ◌||◌, Bool, true, List, ◌++◌, length, take}
use Rattle.std.specs.Prelude.{Option, Some}
use Rattle.std.specs.Io.KnownBytes.{Appends}
use Rattle.dirac_types.specs.declared.settings.Settings.{Settings}
use Rattle.dirac_content.specs.Raw.{raws}
use Rattle.dirac_plan.specs.Planning.{are_too_few, waiting_places}
use Rattle.dirac_sources.specs.Sources.{sources}
use Rattle.dirac_encode_laws.specs.Coding.{IndexRule}
use Rattle.dirac_encode_laws.specs.Encoding.{WritesFront, encoding_under}
use Rattle.dirac_encode_laws.specs.Standing.{coding_in, pushed_now}
use Rattle.dirac_encode_laws.specs.Stream.{units_of}

-- of these bytes some were read and just the others are held, and both sinks took fronts of the encoding of those read
-- by themselves
pub record WritesFrontOfRead (f : IndexRule) (t : Settings) (bytes : List ℕ)
    (held' out out' side side' : Option (List ℕ)) : Type 0 where
  pub read : List ℕ
  pub rest : List ℕ
  pub parts : bytes ≡ read ++ rest
  pub holds : held' ≡ Some rest
  pub written : WritesFront (encoding_under f t read) out out' side side'

-- where so many pictures were read and so many are coded, no other can be coded: all are coded, or more may come and
-- too few wait for the next one
abbrev pub none_can_be_coded : Settings → ℕ → ℕ → Bool
none_can_be_coded t read coded = read - coded == 0 || are_too_few t read coded (read == t.pictures) (read - coded)

-- of these bytes some were read and just the others are held; whatever bytes follow those read, of the encoding of all
-- these just the units of the first pictures in coding order were written, and just the reconstructions that leave
-- while these are coded were delivered; of the whole pictures read no more are left than may wait to be coded, and none
-- of those left can be coded yet
pub record WritesDue (f : IndexRule) (t : Settings) (bytes : List ℕ) (held' out out' side side' : Option (List ℕ))
    : Type 0 where
  pub read : List ℕ
  pub rest : List ℕ
  pub parts : bytes ≡ read ++ rest
  pub holds : held' ≡ Some rest
  pub count : ℕ
  pub few_wait : length (sources t read) ≤ count + waiting_places t
  pub none_due : none_can_be_coded t (length (sources t read)) count ≡ true
  pub written : (more : List ℕ) → Appends out out' (units_of t 0 (take count (coding_in f t (read ++ more))))
  pub delivered : (more : List ℕ)
      → Appends side side' (raws (pushed_now (take count (coding_in f t (read ++ more)))).gone)
