-- How far the coding of raw pictures is, while they still come.
use Rattle.std.specs.Prelude.{◌≡◌, ℕ, true, List, [], ◌++◌, length, map, drop, slice_get, Option, Some}
use Rattle.std.specs.Io.KnownBytes.{Appends}
use Rattle.std.specs.List.{AllByRecursion}
use Rattle.dirac_common.specs.declared.picture.Picture.{Picture}
use Rattle.dirac_types.specs.declared.settings.Settings.{Settings}
use Rattle.dirac_refs.specs.Delivery.{Leaving, in_delivery_order, pushed_all}
use Rattle.dirac_content.specs.Raw.{raws}
use Rattle.dirac_sources.specs.Sources.{sources}
use Rattle.dirac_encode_laws.specs.Coding.{IndexRule, Job, Made, coded_under, coding_under, jobs_of}
use Rattle.dirac_encode_laws.specs.Coding.{keyed_reconstructions, shown_of}
use Rattle.dirac_encode_laws.specs.Encoding.{is_short}
use Rattle.dirac_encode_laws.specs.Steps.{Progress}
use Rattle.dirac_encode_laws.specs.Stream.{last_length, units_of}
use Rattle.dirac_plan_laws.specs.Order.{by_number}

-- the unit of each of these coded pictures is no longer than the settings allow
abbrev pub AreShort : Settings → List Made → Type 0
AreShort t ms = AllByRecursion (λ m. is_short t m ≡ true) ms

-- the pictures that leave while the reconstructions of coded pictures are pushed, and the pictures that wait then
abbrev pub pushed_now : List Made → Leaving
pushed_now ps = pushed_all [] (keyed_reconstructions ps)

-- the reconstructions of these coded pictures leave by rising number
abbrev pub Leave : List Made → Type 0
Leave ms = in_delivery_order (keyed_reconstructions ms) ≡ by_number (length ms) (map shown_of ms)

-- the planned pictures of these bytes with their sources, in the order of the plan
abbrev pub jobs_in : Settings → List ℕ → List Job
jobs_in t bytes = jobs_of t (sources t bytes)

-- what the sources of these bytes become under a rule for their indices, in coding order
abbrev pub coding_in : IndexRule → Settings → List ℕ → List Made
coding_in f t bytes = coding_under f t (sources t bytes)

-- the first pictures of the plan are coded: so much is written, so much is delivered, and the coding goes on from these
-- references
pub record CodingStands (f : IndexRule) (t : Settings) (bytes : List ℕ) (p : Progress)
    (out0 out side0 side : Option (List ℕ)) : Type 0 where
  pub done : List Made
  pub all : coding_in f t bytes ≡ done ++ coded_under f t p.refs (drop p.count (jobs_in t bytes))
  pub count : length done ≡ p.count
  pub previous : p.previous ≡ last_length 0 done
  pub waiting : p.delivery ≡ (pushed_now done).waiting
  pub written : Appends out0 out (units_of t 0 done)
  pub delivered : Appends side0 side (raws (pushed_now done).gone)
  pub short : AreShort t done

-- each picture that waits to be coded is the source of its number
abbrev pub AreAmong : List Picture → List Picture → Type 0
AreAmong all waiting = AllByRecursion (λ (p : Picture). slice_get all p.number ≡ Some p) waiting
