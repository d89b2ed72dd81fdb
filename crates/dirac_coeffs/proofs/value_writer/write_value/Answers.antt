use Rattle.std.proofs.Common.{◌≡◌, ◌&&◌, ℕ, ℤ, List, ap₂, of_z, refl, rules, to_z, w64, ◌∙◌}
use Rattle.std.proofs.lemmas.Int.{to_z-of_z}
use Rattle.std.proofs.lemmas.Result.{on_ok_weaker}
use Rattle.dirac_arith.specs.Spelling.{follow_at}
use Rattle.dirac_arith.proofs.Encodings.{zero_from}
use Rattle.dirac_coeffs.specs.Contexts.{bits_context, follow_among, is_zero, sign_neighbour, sign_of}
use Rattle.dirac_coeffs.proofs.Writing.{number_written, zero_written}
use Rattle.dirac_coeffs.proofs.value_writer.write_value.Goals as goal

pub returns-then-value-eq0 : goal.returns-then-value-eq0
returns-then-value-eq0 c =
    let b = c.args.beside in
    let follow = follow_among b.left c.args.above b.corner c.args.parent in
    let sign = sign_of (sign_neighbour c.args.band b.left c.args.above) in
    let parent : to_z w64 (of_z w64 c.args.parent) ≡ c.args.parent = to_z-of_z w64 _ c.ranges.parent in
    let left : to_z w64 (of_z w64 b.left) ≡ b.left = search rules in
    let above : to_z w64 (of_z w64 c.args.above) ≡ c.args.above = to_z-of_z w64 _ c.ranges.above in
    let corner : to_z w64 (of_z w64 b.corner) ≡ b.corner = search rules in
    let context : c.first_among-first.result ≡ follow_at follow 0 = rw (← parent, ← left, ← above, ← corner) c.first_among-first.ensures.value in
    on_ok_weaker c.decision.result (λ e. e ∙ zero_written c.args.encoder.now follow bits_context sign c.first_among-first.result c.args.value context (zero_from c.args.value c.if-value-eq0.true c.requires)) c.decision.ensures.taken

pub returns : goal.returns
returns c =
    let b = c.args.beside in
    let follow : List ℕ = follow_among b.left c.args.above b.corner c.args.parent in
    let parent : to_z w64 (of_z w64 c.args.parent) ≡ c.args.parent = to_z-of_z w64 _ c.ranges.parent in
    let left : to_z w64 (of_z w64 b.left) ≡ b.left = search rules in
    let above : to_z w64 (of_z w64 c.args.above) ≡ c.args.above = to_z-of_z w64 _ c.ranges.above in
    let corner : to_z w64 (of_z w64 b.corner) ≡ b.corner = search rules in
    let value : to_z w64 (of_z w64 c.args.value) ≡ c.args.value = to_z-of_z w64 _ c.ranges.value in
    let context : c.first_among-first.result ≡ follow_at follow 0 = rw (← parent, ← left, ← above, ← corner) c.first_among-first.ensures.value in
    let sign = ap₂ (λ (l a : ℤ). sign_of (sign_neighbour c.args.band l a)) left above in
    let same : follow ≡ follow = refl in
    on_ok_weaker c.write_number.result (λ e. e ∙ number_written c.args.encoder.now bits_context same sign value) (c.write_number.ensures (is_zero c.args.parent) (is_zero b.left && (is_zero c.args.above && is_zero b.corner)) context)

pub decision-requires : goal.decision-requires
decision-requires c = c.first_among-first.ensures.context

pub write_number-requires : goal.write_number-requires
write_number-requires c =
    let value : to_z w64 (of_z w64 c.args.value) ≡ c.args.value = to_z-of_z w64 _ c.ranges.value in
    rw value c.requires
