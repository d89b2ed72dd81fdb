-- Residuals of a picture's planes.
use Rattle.std.proofs.Common.{◌≡◌, Option, None, Some, ap}
use Rattle.dirac_common.specs.declared.formats.Component.{Component}
use Rattle.dirac_common.specs.declared.formats.Kind.{Kind}
use Rattle.dirac_common.specs.Table.{Table}
use Rattle.dirac_sequence_header.specs.declared.sequence.Sequence.{Sequence}
use Rattle.dirac_picture.specs.declared.coded.CodedResidual.{CodedResidual}
use Rattle.dirac_content.specs.Content.{height_of, residual_among, width_of}

-- a residual has the size of its plane
pub residual_size : (s : Sequence) (kind : Kind) (c : Component) (coded : Option CodedResidual) (t : Table) → t ≡ residual_among s kind c coded
    → (t.width ≡ width_of s c) × (t.height ≡ height_of s c)
residual_size s kind c None t is = (ap (λ (x : Table). x.width) is, ap (λ (x : Table). x.height) is)
residual_size s kind c (Some r) t is = (ap (λ (x : Table). x.width) is, ap (λ (x : Table). x.height) is)
