-- What the coding of a picture asks for, and the coded picture that it makes.
use Rattle.std.specs.Prelude.{◌≡◌, ℕ, true, false, List, Option, None, Some, Ok, option_map}
use Rattle.std.specs.List.{AllByRecursion}
use Rattle.dirac_common.specs.declared.picture.Picture.{Picture}
use Rattle.dirac_types.specs.declared.settings.Settings.{Settings}
use Rattle.dirac_types.specs.Settings.{IsAccepted}
use Rattle.dirac_sequence.specs.Written.{sequence_of}
use Rattle.dirac_block_table.specs.Tables.{BlockTable}
use Rattle.dirac_picture.specs.declared.coded.CodedMotion.{CodedMotion}
use Rattle.dirac_picture.specs.declared.coded.CodedPicture.{CodedPicture}
use Rattle.dirac_picture.specs.Grammar.{are_listed, is_intra, picture_read}
use Rattle.dirac_encode_laws.specs.Payloads.{payload_of}
use Rattle.dirac_content.specs.Content.{rebuilt}
use Rattle.dirac_plan.specs.declared.planned.Planned.{Planned}
use Rattle.dirac_plan_laws.specs.Headers.{IsPlanned, header_of}
use Rattle.dirac_encode_laws.specs.Coded.{IsSource, coded_with, motion_among, residual_of}
use Rattle.dirac_encode_laws.specs.Codable.{ResidualIsSmall}
use Rattle.dirac_motion.specs.Chosen.{IsChosen}
use Rattle.dirac_motion.specs.Lent.{AreLent, AreNamed}
use Rattle.dirac_encode_picture.specs.declared.asked.Asked.{Asked}
use Rattle.dirac_encode_picture.specs.declared.prepared.Moving.{Moving}
use Rattle.dirac_encode_laws.specs.declared.coded.Coded.{Coded}

-- accepted settings, a source and listed pictures of their size, and a planned picture whose references are found
pub record IsAsked (t : Settings) (refs : List Picture) (q : Planned) (p : Picture) : Type 0 where
  pub accepted : IsAccepted t
  pub listed : AllByRecursion (IsSource t) refs
  pub source : IsSource t p
  pub planned : IsPlanned q
  pub found : are_listed refs (header_of q) ≡ true

-- what is asked for can be coded: its settings are accepted, its source and listed pictures have their size, and the
-- references of its planned picture are found
abbrev pub CanBeCoded : Asked → Type 0
CanBeCoded a = IsAsked a.settings.now a.refs.now a.planned.now a.source.now

-- the block table that a picture is predicted by, if there is one
abbrev pub blocks_of : Option Moving → Option BlockTable
blocks_of moving = option_map (λ (m : Moving). m.blocks.now) moving

-- the references of an inter picture are those of its plan, and pictures of the sequence with their lumas' half samples
pub record IsMoving (t : Settings) (refs : List Picture) (q : Planned) (m : Moving) : Type 0 where
  pub named : AreNamed refs q m.references.now
  pub lent : AreLent (sequence_of t) m.references.now

-- just an inter picture has a block table, one that fits it
abbrev pub HasBlocks : Settings → ℕ → Option BlockTable → Type 0
HasBlocks t code None = is_intra code ≡ true
HasBlocks t code (Some b) = (is_intra code ≡ false) × IsChosen t code b

-- the coded picture of a planned source, predicted by this block table if there is one
abbrev pub coded_by : Settings → List Picture → Planned → Picture → Option BlockTable → CodedPicture
coded_by t refs q p o = coded_with t refs q p (motion_among t o)

-- what the coding of a picture with this motion gives
pub record IsCodingOfPicture (t : Settings) (refs : List Picture) (q : Planned) (p : Picture) (m : Option CodedMotion)
    (c : Coded) : Type 0 where
  pub payload : c.payload.items ≡ payload_of t (coded_with t refs q p m)
  pub shown : c.shown ≡ rebuilt (sequence_of t) refs (coded_with t refs q p m)
  pub read : picture_read q.code (sequence_of t) refs c.payload.items ≡ Ok (coded_with t refs q p m)
  pub magnitudes_bounded : ResidualIsSmall (residual_of t refs (header_of q) m p)
  pub lossless : p.number ≡ q.number → t.index ≡ 0 → c.shown ≡ p
