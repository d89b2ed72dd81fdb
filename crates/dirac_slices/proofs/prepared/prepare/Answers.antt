use Rattle.std.proofs.Common.{◌≡◌, ◌%◌, None, arith}
use Rattle.std.specs.Prelude.{option_map}
use Rattle.dirac_common.specs.declared.picture.Picture.{Picture}
use Rattle.dirac_content.specs.Content.{plane_of, up_of}
use Rattle.dirac_slices.specs.declared.prepared.Prepared.{Prepared}
use Rattle.dirac_slices.specs.Given.{lent_inter}
use Rattle.dirac_slices.specs.Prepared.{IsPreparedAt}
use Rattle.dirac_slices.proofs.Preparing.{both_ok, prepared_second}
use Rattle.dirac_slices.proofs.prepared.prepare.Goals as goal

pub returns-in_default : goal.returns-in_default
returns-in_default c =
    let g = lent_inter c.args.inter.now in
    let two : c.args.row % 3 ≡ 2 = omega (arith, c.in_default) in
    both_ok (λ (p : Prepared). p.residual ≡ None) (λ (p : Prepared). p.up ≡ option_map (λ (s : Picture). up_of (plane_of s c.component_at-component.result)) g.second) (IsPreparedAt g c.args.row) c.with_second.result
    (λ p e u. prepared_second g c.args.row c.component_at-component.result p two c.component_at-component.ensures e u) c.with_second.ensures.residual c.with_second.ensures.up
