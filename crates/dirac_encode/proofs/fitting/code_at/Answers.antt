use Rattle.std.proofs.Common.{ap, ◌∙◌}
use Rattle.dirac_synthesis.proofs.Maps.{ok_weaker}
use Rattle.dirac_sequence.specs.Written.{sequence_of}
use Rattle.dirac_picture.specs.declared.coded.CodedPicture.{CodedPicture}
use Rattle.dirac_encode_laws.specs.Payloads.{payload_of}
use Rattle.dirac_content.specs.Content.{rebuilt}
use Rattle.dirac_motion.specs.Chosen.{at_index}
use Rattle.dirac_encode_picture.specs.Asked.{coded_by}
use Rattle.dirac_encode_picture.proofs.Choices.{coded_chosen}
use Rattle.dirac_encode.proofs.fitting.code_at.Goals as goal

pub returns-clause-payload : goal.returns-clause-payload
returns-clause-payload c =
    let t = at_index c.args.asked.now.settings.now c.args.index in
    let same = ap (coded_by t c.args.asked.now.refs.now c.args.asked.now.planned.now c.args.asked.now.source.now) (c.requires.blocks c.args.index) ∙ coded_chosen t c.args.asked.now.refs.now c.args.asked.now.planned.now c.args.asked.now.source.now in
    ok_weaker c.code_prepared.result (λ x e. e ∙ ap (λ (k : CodedPicture). payload_of t k) same) c.code_prepared.ensures.payload

pub returns-clause-shown : goal.returns-clause-shown
returns-clause-shown c =
    let t = at_index c.args.asked.now.settings.now c.args.index in
    let same = ap (coded_by t c.args.asked.now.refs.now c.args.asked.now.planned.now c.args.asked.now.source.now) (c.requires.blocks c.args.index) ∙ coded_chosen t c.args.asked.now.refs.now c.args.asked.now.planned.now c.args.asked.now.source.now in
    ok_weaker c.code_prepared.result (λ x e. e ∙ ap (λ (k : CodedPicture). rebuilt (sequence_of t) c.args.asked.now.refs.now k) same) c.code_prepared.ensures.shown
