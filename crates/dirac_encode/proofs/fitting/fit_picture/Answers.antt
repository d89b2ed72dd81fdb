use Rattle.dirac_encode_laws.specs.Coding.{Job}
use Rattle.dirac_encode_laws.proofs.Fitting.{fit_is}
use Rattle.dirac_encode.proofs.AtIndex.{payload_at_fit, shown_at_fit}
use Rattle.dirac_encode.proofs.fitting.fit_picture.Goals as goal

pub prepare_picture-requires-after_bounds : goal.prepare_picture-requires-after_bounds
prepare_picture-requires-after_bounds g c = λ lives bound.
    record { accepted = c.requires.accepted; listed = c.requires.listed; source = c.requires.source; planned = c.requires.planned; found = c.requires.found }

pub fit_by-requires-clause-prepared : goal.fit_by-requires-clause-prepared
fit_by-requires-clause-prepared g c = c.in_ok-prepared.ensures.prepared

pub fit_by-requires-clause-blocks : goal.fit_by-requires-clause-blocks
fit_by-requires-clause-blocks g c = c.in_ok-prepared.ensures.without_index

pub returns-clause-index : goal.returns-clause-index
returns-clause-index g c =
    let j : Job = record { planned = c.args.planned.now; source = c.args.source.now } in
    fit_is c.args.budget c.args.settings.now c.args.refs.now j c.in_ok-fitted.fitted.1 c.requires.accepted c.in_ok-fitted.ensures.least

pub returns-clause-payload : goal.returns-clause-payload
returns-clause-payload g c =
    let j : Job = record { planned = c.args.planned.now; source = c.args.source.now } in
    payload_at_fit c.args.budget c.args.settings.now c.args.refs.now j c.in_ok-fitted.fitted.1 c.in_ok-fitted.fitted.0.payload.items c.requires.accepted c.in_ok-fitted.ensures.least c.in_ok-fitted.ensures.payload

pub returns-clause-shown : goal.returns-clause-shown
returns-clause-shown g c =
    let j : Job = record { planned = c.args.planned.now; source = c.args.source.now } in
    shown_at_fit c.args.budget c.args.settings.now c.args.refs.now j c.in_ok-fitted.fitted.1 c.in_ok-fitted.fitted.0.shown c.requires.accepted c.in_ok-fitted.ensures.least c.in_ok-fitted.ensures.shown
