-- An intra picture, coded by itself.
-- Inner: for the proofs of this crate.
use Rattle.std.specs.Prelude.{◌≡◌, true, []}
use Rattle.dirac_common.specs.declared.picture.Picture.{Picture}
use Rattle.dirac_types.specs.declared.settings.Settings.{Settings}
use Rattle.dirac_picture.specs.Grammar.{is_intra}
use Rattle.dirac_plan.specs.declared.planned.Planned.{Planned}
use Rattle.dirac_encode_laws.specs.declared.coded.Coded.{Coded}
use Rattle.dirac_encode_laws.specs.Coding.{made}

-- an intra picture's payload, and what decoders show for it, at the index of these settings: no listed picture is
-- looked at
pub record IsCodedAlone (t : Settings) (p : Planned) (x : Picture) (coded : Coded) : Type 0 where
  pub intra : is_intra p.code ≡ true
  pub payload : coded.payload.items ≡ (made t [] (record { planned = p; source = x })).payload
  pub shown : coded.shown ≡ (made t [] (record { planned = p; source = x })).shown
