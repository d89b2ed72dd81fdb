-- Settings with another quantiser index, and rules for the indices of pictures.
use Rattle.std.proofs.Common.{◌≡◌, ℕ, List, [], ◌∷◌, refl, arith}
use Rattle.std.specs.List.{AllByRecursion}
use Rattle.dirac_common.specs.Limits.{IsIndex}
use Rattle.dirac_common.specs.declared.picture.Picture.{Picture}
use Rattle.dirac_types.specs.declared.settings.Settings.{Settings}
use Rattle.dirac_types.specs.Settings.{IsAccepted, table}
use Rattle.dirac_sequence.specs.Written.{sequence_of}
use Rattle.dirac_motion.specs.Chosen.{at_index}
use Rattle.dirac_encode_laws.specs.Coded.{IsSource}
use Rattle.dirac_encode_laws.specs.Coding.{own_index}
use Rattle.dirac_encode_laws.specs.Laws.{AreSources, AreSourcesUnder, GivesIndices}
use Rattle.dirac_encode_laws.proofs.Coding.{codable}

pub accepted_at : (t : Settings) (index : ℕ) → IsAccepted t → IsIndex index → IsAccepted (at_index t index)
unfolding table
accepted_at t index is fits =
    let a = is.1.1.1.1.1 in
    let b = a.1.1.1.1.1.1 in
    (is.0, (is.1.0, (is.1.1.0, (is.1.1.1.0, (is.1.1.1.1.0, (a.0, (a.1.0, (a.1.1.0, (a.1.1.1.0, (a.1.1.1.1.0, (a.1.1.1.1.1.0, ((omega arith, fits, omega arith), b.1))))))))))))

-- the sequence has no part in it
pub sequence_at : (t : Settings) (index : ℕ) → sequence_of (at_index t index) ≡ sequence_of t
unfolding sequence_of
sequence_at t index = refl

pub source_with : (t : Settings) (index : ℕ) (p : Picture) → IsSource t p → IsSource (at_index t index) p
unfolding sequence_of
source_with t index p is = record { y = is.y; u = is.u; v = is.v }

pub sources_with : (t : Settings) (index : ℕ) (ps : List Picture) → AllByRecursion (IsSource t) ps → AllByRecursion (IsSource (at_index t index)) ps
sources_with t index [] all = tt
sources_with t index (p ∷ ps) all = (source_with t index p all.0, sources_with t index ps all.1)

-- the settings' index is one
pub own_gives : GivesIndices own_index
own_gives t refs j accepted = (codable t accepted).index

pub sources_under : (t : Settings) (pictures : List Picture) → AreSources t pictures → AreSourcesUnder own_index t pictures
sources_under t pictures is = record { accepted = is.accepted; below_2_31 = is.below_2_31; each = is.each; short = is.short }
