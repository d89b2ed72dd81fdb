-- The recursion over coding order: each picture is coded with the reconstructions that are listed by then, and with the
-- quantiser index that a rule gives it.
use Rattle.std.specs.Prelude.{◌≡◌, ⊤, ℕ, List, [], ◌∷◌, length, map, slice_index_or}
use Rattle.dirac_common.specs.declared.picture.Picture.{Picture}
use Rattle.dirac_types.specs.declared.settings.Settings.{Settings}
use Rattle.dirac_sequence.specs.Written.{sequence_of}
use Rattle.dirac_refs.specs.declared.waiting.Waiting.{Waiting}
use Rattle.dirac_refs.specs.References.{committed}
use Rattle.dirac_picture.specs.declared.coded.CodedPicture.{CodedPicture}
use Rattle.dirac_encode_laws.specs.Payloads.{payload_of}
use Rattle.dirac_content.specs.Content.{rebuilt}
use Rattle.dirac_content.specs.StreamState.{as_reference}
use Rattle.dirac_plan.specs.declared.planned.Planned.{Planned}
use Rattle.dirac_encode_laws.specs.Coded.{coded_of}
use Rattle.dirac_plan.specs.Plan.{plan}
use Rattle.dirac_motion.specs.Chosen.{at_index}
pub use Rattle.dirac_plan_laws.specs.Order.{as_waiting, by_number}

-- a planned picture and its source
pub record Job : Type 0 where
  pub planned : Planned
  pub source : Picture

-- what a planned source becomes: the coded picture, its payload, and its reconstruction, the picture that decoders show
-- for it
pub record Made : Type 0 where
  pub coded : CodedPicture
  pub payload : List ℕ
  pub shown : Picture

-- what a coded picture becomes, with these pictures listed
abbrev pub made_from : Settings → List Picture → CodedPicture → Made
made_from t refs coded = record {
  coded = coded;
  payload = payload_of t coded;
  shown = rebuilt (sequence_of t) refs coded;
}

-- what a planned source becomes, with these pictures listed
abbrev pub made : Settings → List Picture → Job → Made
made t refs j = made_from t refs (coded_of t refs j.planned j.source)

-- the list of references once a picture is coded
abbrev pub refs_after : List Picture → Made → List Picture
refs_after refs m = committed refs m.coded.header.retire (as_reference m.coded.code m.shown)

-- a rule for the quantiser index of each picture: by the settings, the pictures listed by then, and the planned picture
-- with its source
abbrev pub IndexRule : Type 0
IndexRule = Settings → List Picture → Job → ℕ

-- the rule that gives every picture the settings' index
abbrev pub own_index : IndexRule
own_index t refs j = t.index

-- what a planned source becomes under a rule: what it becomes with the index that the rule gives
abbrev pub made_under : IndexRule → Settings → List Picture → Job → Made
made_under f t refs j = made (at_index t (f t refs j)) refs j

-- what planned sources become under a rule, one after another, with these pictures listed before the first
unfoldable pub coded_under : IndexRule → Settings → List Picture → List Job → List Made
coded_under f t refs [] = []
coded_under f t refs (j ∷ jobs) =
    made_under f t refs j ∷ coded_under f t (refs_after refs (made_under f t refs j)) jobs

-- a picture without samples
abbrev pub blank : Picture
blank = record {
  number = 0;
  y = record { width = 0; height = 0; values = [] };
  u = record { width = 0; height = 0; values = [] };
  v = record { width = 0; height = 0; values = [] };
}

-- a planned picture with its source, among pictures whose numbers are their places
abbrev pub job_of : List Picture → Planned → Job
job_of pictures q = record { planned = q; source = slice_index_or pictures q.number blank }

-- planned pictures with their sources, in the order of the plan
abbrev pub jobs_of : Settings → List Picture → List Job
jobs_of t pictures = map (job_of pictures) (plan (length pictures) t)

-- what these pictures become under a rule, in coding order; no picture is listed before the first
abbrev pub coding_under : IndexRule → Settings → List Picture → List Made
coding_under f t pictures = coded_under f t [] (jobs_of t pictures)

-- under a rule each of these sources has quantiser index 0, coded one after another with these pictures listed before
unfoldable pub AreAtIndexZero : IndexRule → Settings → List Picture → List Job → Type 0
AreAtIndexZero f t refs [] = ⊤
AreAtIndexZero f t refs (j ∷ jobs) =
    (f t refs j ≡ 0) × AreAtIndexZero f t (refs_after refs (made_under f t refs j)) jobs

-- what these pictures become with the settings' index, in coding order; no picture is listed before the first
abbrev pub coding : Settings → List Picture → List Made
coding t pictures = coding_under own_index t pictures

-- the reconstruction of a coded picture
abbrev pub shown_of : Made → Picture
shown_of m = m.shown

-- the reconstructions of these pictures under a rule, by number
abbrev pub reconstructions_under : IndexRule → Settings → List Picture → List Picture
reconstructions_under f t pictures = by_number (length pictures) (map shown_of (coding_under f t pictures))

-- the reconstructions of these pictures with the settings' index, by number
abbrev pub reconstructions : Settings → List Picture → List Picture
reconstructions t pictures = reconstructions_under own_index t pictures

-- the reconstruction of a coded picture with its key
abbrev pub waiting_of : Made → Waiting
waiting_of m = as_waiting m.shown

-- the reconstructions of coded pictures, with their keys
abbrev pub keyed_reconstructions : List Made → List Waiting
keyed_reconstructions ms = map waiting_of ms
