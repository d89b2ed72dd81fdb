-- A band and its parent.
use Rattle.std.proofs.Common.{◌≡◌, ℕ, ◌+◌, ◌-◌, ◌*◌, ◌/◌, ◌≤◌, List, length, ap, sym, ◌∙◌}
use Rattle.dirac_common.specs.Table.{Table}
use Rattle.dirac_bands.specs.Geometry.{band_length}
use Rattle.dirac_parameters.specs.declared.transform.Transform.{Transform}
use Rattle.dirac_coeffs.specs.declared.layout.CodedBand.{CodedBand}
use Rattle.dirac_coeffs.specs.Grammar.{IsCodedBand}
use Rattle.dirac_picture.specs.Bands.{layout_of, IsParentAmong}
use Rattle.dirac_picture.specs.Fits.{AreBands}
use Rattle.dirac_picture.proofs.Lengths.{parent_length}

-- the parent has half the sizes of the band behind these
pub parent_half : (t : Transform) (width height : ℕ) (bands : List CodedBand) (table : Table) → length bands ≤ 3 * t.depth
    → AreBands t width height bands → IsParentAmong bands table
    → ((layout_of t width height (length bands)).width ≡ 2 * table.width) × ((layout_of t width height (length bands)).height ≡ 2 * table.height)
unfolding layout_of
parent_half t width height bands table few all p =
    let coded : IsCodedBand (layout_of t width height (length bands - 3)) p.parent = all (length bands - 3) p.parent p.listed in
    let wide : table.width ≡ band_length width t.depth ((length bands - 3 + 2) / 3) = ap (λ (u : Table). u.width) p.table ∙ coded.width in
    let high : table.height ≡ band_length height t.depth ((length bands - 3 + 2) / 3) = ap (λ (u : Table). u.height) p.table ∙ coded.height in (
      parent_length width t.depth (length bands) p.lower few ∙ ap (λ k. 2 * k) (sym wide),
      parent_length height t.depth (length bands) p.lower few ∙ ap (λ k. 2 * k) (sym high),
    )
