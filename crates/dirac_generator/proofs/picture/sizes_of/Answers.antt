use Rattle.std.proofs.Common.{◌≤◌, ℕ, subst, sym}
use Rattle.dirac_types.specs.Settings.{step_across, step_down}
use Rattle.dirac_types.specs.Sizes.{picture_height}
use Rattle.dirac_generator.proofs.Sizes.{sizes_fit, chroma_some, times_some, bounded_by}
use Rattle.dirac_generator.proofs.picture.sizes_of.Goals as goal

pub returns-clause-some_chroma : goal.returns-clause-some_chroma
returns-clause-some_chroma c =
    subst (λ (k : ℕ). (1 ≤ k) × (k ≤ 4096)) (sym c.plane_width-across.ensures) (chroma_some c.args.settings.now c.requires)

pub returns-clause-some_luma : goal.returns-clause-some_luma
returns-clause-some_luma c =
    let f = sizes_fit c.args.settings.now c.requires in
    (f.across.0, f.across.1, rw c.picture_height.ensures (times_some c.args.settings.now.width (picture_height c.args.settings.now) f.across.0 f.down.0))

pub returns-clause-bounded : goal.returns-clause-bounded
returns-clause-bounded c =
    let t = c.args.settings.now in
    let f = sizes_fit t c.requires in
    rw c.picture_height.ensures
    (bounded_by t.width (picture_height t) c.plane_width-across.result c.plane_height-down.result (step_across t.chroma) (step_down t.chroma) c.plane_width-across.ensures c.plane_height-down.ensures f.across.1 f.down.1)
