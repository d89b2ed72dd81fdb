use Rattle.std.proofs.Common.{ap, sym, ◌∙◌}
use Rattle.std.specs.Prelude.{option_map}
use Rattle.std.specs.Option.{option_copied}
use Rattle.dirac_common.specs.declared.picture.Picture.{Picture}
use Rattle.dirac_content.proofs.Covering.{up_size}
use Rattle.dirac_content.specs.Content.{compensated, plane_of, up_of}
use Rattle.dirac_slices.specs.Given.{lent_inter}
use Rattle.dirac_slices.specs.Places.{component_at}
use Rattle.dirac_slices.proofs.Preparing.{second_size}
use Rattle.dirac_slices.proofs.weights.motion_at.Goals as goal

pub plane_motion-requires-clause-first : goal.plane_motion-requires-clause-first
plane_motion-requires-clause-first c =
    let g = lent_inter c.args.inter.now in
    up_size g.sequence g.first c.component_at.result c.first_up.result.now c.requires.inter.first (c.first_up.ensures ∙ ap (λ d. up_of (plane_of g.first d)) (sym c.component_at.ensures))

pub plane_motion-requires-clause-second : goal.plane_motion-requires-clause-second
plane_motion-requires-clause-second c =
    let g = lent_inter c.args.inter.now in
    second_size g.sequence g.second c.component_at.result (option_copied c.second_up.result) c.requires.inter.second
    (c.second_up.ensures ∙ ap (λ d. option_map (λ (p : Picture). up_of (plane_of p d)) g.second) (sym c.component_at.ensures))

pub returns-clause-value : goal.returns-clause-value
returns-clause-value c =
    let g = lent_inter c.args.inter.now in
    let d = component_at c.args.plane in
    c.plane_motion.ensures.value
    ∙ ap (λ u. compensated g.sequence g.motion u (option_copied c.second_up.result) c.component_at.result) c.first_up.ensures
    ∙ ap (λ o. compensated g.sequence g.motion (up_of (plane_of g.first d)) o c.component_at.result) c.second_up.ensures
    ∙ ap (λ e. compensated g.sequence g.motion (up_of (plane_of g.first d)) (option_map (λ (p : Picture). up_of (plane_of p d)) g.second) e) c.component_at.ensures
