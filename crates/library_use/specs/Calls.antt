-- What the callers get, in the words of the crates that they call.
use Rattle.std.specs.Prelude.{◌≡◌, ℕ, List, None, Some, ⊤}
use Rattle.dirac_common.specs.declared.faults.Fault.{Fault}
use Rattle.dirac_types.specs.declared.settings.Settings.{Settings}
use Rattle.dirac_types.specs.Settings.{first_bad, table}
use Rattle.dirac_decode.specs.declared.answers.Decoded.{Decoded}
use Rattle.dirac_decode.specs.declared.answers.Decoded.TheVariants as decoded
use Rattle.dirac_decode.specs.Raw.{raws}
use Rattle.dirac_decode.specs.Shown.{Outcome, IsShown}
use Rattle.dirac_encode_laws.specs.declared.answers.Encoded.TheVariants as encoded
use Rattle.library_use.specs.declared.encode.NotCoded.{NotCoded}
use Rattle.library_use.specs.declared.encode.NotCoded.TheVariants as not_coded

-- a stream of these bytes has no fault, and shows these raw pictures
abbrev pub ShowsRawPictures : List ℕ → List ℕ → Type 0
ShowsRawPictures stream raw = (o : Outcome) × IsShown stream o × (o.end ≡ None) × (raw ≡ raws o.shown)

-- a stream of these bytes has this first fault
abbrev pub HasFault : List ℕ → Fault → Type 0
HasFault stream fault = (o : Outcome) × IsShown stream o × (o.end ≡ Some fault)

-- why no pictures were given: the stream's first fault, or memory or the outside
abbrev pub IsWhyNot : List ℕ → Decoded → Type 0
IsWhyNot stream (decoded.Done tally) = ⊥
IsWhyNot stream (decoded.Fault fault tally) = HasFault stream fault
IsWhyNot stream _ = ⊤

-- why no stream was given: the first setting that is out of its range, or an answer of the encoder that isn't Done
abbrev pub IsWhyNotCoded : Settings → NotCoded → Type 0
IsWhyNotCoded settings (not_coded.BadSetting bad) = first_bad (table settings) ≡ Some bad
IsWhyNotCoded settings (not_coded.Ended answer) = answer ≡ encoded.Done → ⊥
