use Rattle.std.proofs.Common.{◌≡◌, ℕ, ap, ◌∙◌}
use Rattle.dirac_synthesis.proofs.Maps.{ok_weaker}
use Rattle.dirac_analysis.specs.Analysis.{Analysis, plane_bands, quantised}
use Rattle.dirac_analysis.proofs.Analysing.{plane_quantised}
use Rattle.dirac_analysis.proofs.Fitting.{planes_fit}
use Rattle.dirac_analysis.proofs.Undone.{planes_kept}
use Rattle.dirac_analysis.proofs.plane.analyse_plane.Goals as goal

pub returns-clause-value : goal.returns-clause-value
returns-clause-value c =
    let a = c.args in
    let t = c.args.transform.now in
    ok_weaker c.quantise_plane.result
    (λ b is. is ∙ ap (λ (x : Analysis). quantised a.kind t a.finer a.index x) c.in_ok-analysed.ensures.value ∙ plane_quantised a.kind t a.finer a.index a.plane.now)
    c.quantise_plane.ensures

pub returns-clause-fits : goal.returns-clause-fits
returns-clause-fits c =
    let a = c.args in
    ok_weaker c.quantise_plane.result
    (λ b value. rw value (planes_fit a.kind a.transform.now a.finer a.index a.plane.now c.requires.wavelet c.requires.depth.1 c.requires.index c.requires.magnitudes_bounded))
    (returns-clause-value c)

pub returns-clause-lossless : goal.returns-clause-lossless
returns-clause-lossless c =
    let a = c.args in
    ok_weaker c.quantise_plane.result
    (λ b is none.
    let value : b ≡ plane_bands a.kind a.transform.now a.finer 0 a.plane.now = is ∙ ap (λ (i : ℕ). plane_bands a.kind a.transform.now a.finer i a.plane.now) none in
    rw value (planes_kept a.kind a.transform.now a.finer a.plane.now c.requires.wavelet c.width.ensures.whole))
    (returns-clause-value c)
