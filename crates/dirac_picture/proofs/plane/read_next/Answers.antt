use Rattle.std.proofs.Common.{◌≡◌, ap, ◌∙◌, length}
use Rattle.dirac_coeffs.specs.declared.layout.BandLayout.{BandLayout}
use Rattle.dirac_picture.specs.Bands.{layout_of}
use Rattle.dirac_picture.proofs.Parents.{parent_half}
use Rattle.dirac_picture.proofs.plane.read_next.Goals as goal

pub read_band-requires-clause-parent : goal.read_band-requires-clause-parent
read_band-requires-clause-parent c = λ x is.
    let t = c.args.transform.now in
    let same : c.layout-place.result ≡ layout_of t c.args.width c.args.height (length c.args.bands.now) =
    c.layout-place.ensures.value ∙ ap (layout_of t c.args.width c.args.height) c.len-n.ensures in
    let half = parent_half t c.args.width c.args.height c.args.bands.now x.now c.requires.a_place_left c.requires.before (c.parent.ensures.listed x is) in
    (ap (λ (s : BandLayout). s.width) same ∙ half.0, ap (λ (s : BandLayout). s.height) same ∙ half.1)
