-- The rows of the call that prepares an inter picture: three for each plane.
use Rattle.std.specs.Prelude.{◌≡◌, ℕ, zero, suc, ◌/◌, ◌%◌, List, Option, None, Some, option_map}
use Rattle.dirac_common.specs.declared.formats.Component.{Component}
use Rattle.dirac_common.specs.declared.formats.Kind.TheVariants.{Inter}
use Rattle.dirac_common.specs.declared.picture.Picture.{Picture}
use Rattle.dirac_common.specs.Table.{Table}
use Rattle.dirac_upconvert.specs.SubSamples.{Up}
use Rattle.dirac_content.specs.Content.{plane_of, residual_among, up_of}
use Rattle.dirac_rows.specs.Answers.{AnswerRows}
use Rattle.dirac_slices.specs.declared.prepared.Prepared.{Prepared}
use Rattle.dirac_slices.specs.Given.{Lent}
use Rattle.dirac_slices.specs.Places.{component_at}

-- what the first of a plane's three rows makes, and no other: the plane's residual
abbrev pub residual_in : Lent → ℕ → Component → Option Table
residual_in g zero c = Some (residual_among g.sequence Inter c g.residual)
residual_in g (suc n) c = None

-- what the second and third of a plane's three rows make: the plane of the first reference with half samples, and that
-- of the second reference, where there is one
abbrev pub up_in : Lent → ℕ → Component → Option Up
up_in g zero c = None
up_in g (suc zero) c = Some (up_of (plane_of g.first c))
up_in g (suc (suc n)) c = option_map (λ (p : Picture). up_of (plane_of p c)) g.second

-- what row r makes: the rows of Y stand first, then those of U, then those of V
pub record IsPreparedAt (g : Lent) (r : ℕ) (p : Prepared) : Type 0 where
  pub residual : p.residual ≡ residual_in g (r % 3) (component_at (r / 3))
  pub up : p.up ≡ up_in g (r % 3) (component_at (r / 3))

-- what all nine rows of the call that prepares an inter picture make
abbrev pub ArePrepared : Lent → List Prepared → Type 0
ArePrepared g items = AnswerRows (IsPreparedAt g) 9 items
