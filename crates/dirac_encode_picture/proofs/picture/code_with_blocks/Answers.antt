use Rattle.std.proofs.Common.{ap}
use Rattle.dirac_synthesis.proofs.Maps.{ok_weaker}
use Rattle.dirac_encode_laws.specs.Coded.{motion_among}
use Rattle.dirac_encode_picture.proofs.Facts.{coding_by}
use Rattle.dirac_encode_picture.proofs.picture.code_with_blocks.Goals as goal

pub prepare-requires-clause-asked : goal.prepare-requires-clause-asked
prepare-requires-clause-asked c =
    record { accepted = c.requires.accepted; listed = c.requires.listed; source = c.requires.source; planned = c.requires.planned; found = c.requires.found }

pub returns-clause-payload : goal.returns-clause-payload
returns-clause-payload c = ok_weaker c.code_at.result (λ x is. is.payload) (coding_by c.args.settings.now c.args.refs.now c.args.planned.now c.args.source.now _ _ c.code_at.result (ap (motion_among c.args.settings.now) c.in_ok-prepared.ensures.blocks) c.code_at.ensures)

pub returns-clause-shown : goal.returns-clause-shown
returns-clause-shown c = ok_weaker c.code_at.result (λ x is. is.shown) (coding_by c.args.settings.now c.args.refs.now c.args.planned.now c.args.source.now _ _ c.code_at.result (ap (motion_among c.args.settings.now) c.in_ok-prepared.ensures.blocks) c.code_at.ensures)

pub returns-clause-read : goal.returns-clause-read
returns-clause-read c = ok_weaker c.code_at.result (λ x is. is.read) (coding_by c.args.settings.now c.args.refs.now c.args.planned.now c.args.source.now _ _ c.code_at.result (ap (motion_among c.args.settings.now) c.in_ok-prepared.ensures.blocks) c.code_at.ensures)

pub returns-clause-magnitudes_bounded : goal.returns-clause-magnitudes_bounded
returns-clause-magnitudes_bounded c = ok_weaker c.code_at.result (λ x is. is.magnitudes_bounded) (coding_by c.args.settings.now c.args.refs.now c.args.planned.now c.args.source.now _ _ c.code_at.result (ap (motion_among c.args.settings.now) c.in_ok-prepared.ensures.blocks) c.code_at.ensures)

pub returns-clause-lossless : goal.returns-clause-lossless
returns-clause-lossless c = ok_weaker c.code_at.result (λ x is. is.lossless) (coding_by c.args.settings.now c.args.refs.now c.args.planned.now c.args.source.now _ _ c.code_at.result (ap (motion_among c.args.settings.now) c.in_ok-prepared.ensures.blocks) c.code_at.ensures)
