-- What the samples of a picture are made from.
use Rattle.dirac_common.specs.declared.formats.Component.{Component}
use Rattle.dirac_common.specs.Table.{Table}
use Rattle.dirac_sequence_header.specs.declared.sequence.Sequence.{Sequence}
use Rattle.dirac_slices.specs.declared.basis.Basis.{Basis}
use Rattle.dirac_slices.specs.declared.basis.Basis.TheVariants.{Intra, Inter}
use Rattle.dirac_slices.specs.Given.{lent_inter, AreWeights, IsInter}
use Rattle.dirac_slices.specs.Prepared.{ArePrepared}
use Rattle.dirac_slices.specs.Samples.{inter_planes, intra_planes, AreResiduals, IsIntra}

-- the sequence of a picture, by what its samples are made from
abbrev pub basis_sequence : Basis → Sequence
basis_sequence (Intra b) = b.intra.now.sequence.now
basis_sequence (Inter b) = b.inter.now.sequence.now

-- the planes of a picture's samples, by what they are made from
abbrev pub planes_of : Basis → Component → Table
planes_of (Intra b) = intra_planes b.intra.now
planes_of (Inter b) = inter_planes (lent_inter b.inter.now)

-- all that the samples of a picture are made from is made
abbrev pub IsBasis : Basis → Type 0
IsBasis (Intra b) = IsIntra b.intra.now × AreResiduals b.intra.now b.residuals.now
IsBasis (Inter b) =
    IsInter (lent_inter b.inter.now) × ArePrepared (lent_inter b.inter.now) b.prepared.now
    × AreWeights (lent_inter b.inter.now) b.weights.now
