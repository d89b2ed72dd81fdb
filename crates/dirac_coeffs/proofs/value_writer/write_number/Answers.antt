use Rattle.std.proofs.Common.{◌≡◌, of_z, to_z, w64, ◌∙◌}
use Rattle.std.proofs.lemmas.Int.{to_z-of_z}
use Rattle.std.proofs.lemmas.Result.{on_ok_weaker}
use Rattle.dirac_coeffs.specs.Contexts.{bits_context, sign_neighbour, sign_of}
use Rattle.dirac_coeffs.proofs.Writing.{number_written}
use Rattle.dirac_coeffs.proofs.value_writer.write_number.Goals as goal

pub signed-requires-clause-value : goal.signed-requires-clause-value
signed-requires-clause-value c =
    let value : to_z w64 (of_z w64 c.args.value) ≡ c.args.value = to_z-of_z w64 _ c.ranges.value in
    rw value c.requires

pub returns : goal.returns
returns c = λ parent neighbours context.
    let left : to_z w64 (of_z w64 c.args.left) ≡ c.args.left = to_z-of_z w64 _ c.ranges.left in
    let above : to_z w64 (of_z w64 c.args.above) ≡ c.args.above = to_z-of_z w64 _ c.ranges.above in
    let value : to_z w64 (of_z w64 c.args.value) ≡ c.args.value = to_z-of_z w64 _ c.ranges.value in
    let sign : c.sign_context-sign.result ≡ sign_of (sign_neighbour c.args.band c.args.left c.args.above) = rw (← left, ← above) c.sign_context-sign.ensures.exact in
    on_ok_weaker c.signed.result (λ e. e ∙ number_written c.args.encoder.now bits_context (c.follow_from-follow.ensures.value parent neighbours context) sign value) c.signed.ensures

pub signed-requires-clause-follow : goal.signed-requires-clause-follow
signed-requires-clause-follow c = c.follow_from-follow.ensures.contexts

pub signed-requires-clause-sign : goal.signed-requires-clause-sign
signed-requires-clause-sign c = c.sign_context-sign.ensures.context
