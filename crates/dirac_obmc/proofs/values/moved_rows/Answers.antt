use Rattle.std.proofs.Common.{◌≡◌, ◌+◌, ◌/◌, ◌%◌, pos, to_z, of_z, length, get_or, Option, ap, refl, sym, ◌∙◌}
use Rattle.std.specs.Borrow.{Bor}
use Rattle.std.specs.Int.{w64}
use Rattle.std.proofs.lemmas.Int.{to_z-of_z}
use Rattle.std.proofs.lemmas.List.{get_or-replicate}
use Rattle.dirac_vectors.proofs.Means.{passed}
use Rattle.dirac_upconvert.specs.SubSamples.{Up}
use Rattle.dirac_obmc.specs.Compensation.{position, across_ratio, down_ratio, second_sample}
use Rattle.dirac_obmc.specs.Given.{compensation_of, lent}
use Rattle.dirac_obmc.proofs.Moves.{sample_moved, zeros_are}
use Rattle.dirac_obmc.proofs.values.moved_rows.Goals as goal

pub returns-in-Some-clause-value : goal.returns-in-Some-clause-value
returns-in-Some-clause-value c =
    let m = compensation_of c.args.motion.now in
    let q = m.prediction.precision in
    let window = c.args.window in
    let v = c.args.vector in
    let across : to_z w64 (of_z w64 c.position-across.result) ≡ position q (across_ratio m) window.x v.x =
    to_z-of_z w64 _ (record { sfits = c.position-across.type_inv }) ∙ c.position-across.ensures.value
    ∙ rw (c.across_ratio.ensures.value, passed v.x c.requires.vector.x) refl in
    let down : to_z w64 (of_z w64 c.position-down.result) ≡ position q (down_ratio m) window.y v.y =
    to_z-of_z w64 _ (record { sfits = c.position-down.type_inv }) ∙ c.position-down.ensures.value
    ∙ rw (c.down_ratio.ensures.value, passed v.y c.requires.vector.y) refl in
    λ k l. c.sub_rows.ensures.value k l ∙ sample_moved m c.in-Some.up.now v window.x window.y (k % window.width) (k / window.width) _ _ across down
    ∙ ap (λ (o : Option (Bor Up)). second_sample m (lent o) v (window.x + k % window.width) (window.y + k / window.width)) (sym c.in-Some.is)

pub returns-in-None-clause-value : goal.returns-in-None-clause-value
returns-in-None-clause-value c =
    let m = compensation_of c.args.motion.now in
    let window = c.args.window in
    λ k l. ap (λ vs. get_or vs k (pos 0)) (c.fill.ensures.after (λ y e. cc)) ∙ get_or-replicate (length c.args.out.now) k (pos 0) (pos 0) l
    ∙ ap (λ (o : Option (Bor Up)). second_sample m (lent o) c.args.vector (window.x + k % window.width) (window.y + k / window.width)) (sym c.in-None.is)

pub returns-in-None-clause-samples : goal.returns-in-None-clause-samples
returns-in-None-clause-samples c = zeros_are (length c.args.out.now) _ (c.fill.ensures.after (λ y e. cc))
