use Rattle.std.proofs.Common.{◌+◌, ◌≤◌, ◌∙◌, List, ap, length, arith}
use Rattle.dirac_common.specs.declared.picture.Picture.{Picture}
use Rattle.dirac_refs.specs.References.{committed}
use Rattle.dirac_content.specs.StreamState.{as_reference}
use Rattle.dirac_encode_laws.specs.Fit.{rule_of}
use Rattle.dirac_encode_progress.specs.Going.{so_far}
use Rattle.dirac_encode_laws.specs.Coding.{Job}
use Rattle.dirac_encode_laws.proofs.Accepted.{most_bytes}
use Rattle.dirac_encode_progress.proofs.Stepping.{header_fits, if_err, on_ok_six, previous_is, step_coded, step_long, step_stopped}
use Rattle.dirac_encode_progress.proofs.source.put_source.Goals as goal

pub returns-then-len-from-clause-stopped : goal.returns-then-len-from-clause-stopped
returns-then-len-from-clause-stopped g c =
    step_long (rule_of c.args.coder.now.budget) c.args.coder.now.settings.now (record { planned = c.args.planned.now; source = c.args.source.now }) (so_far c.args.coding.now) c.in-Ok-code_source.coded.payload.items c.in-Ok-code_source.coded.shown
    (g.K.Sink.taken c.args.out.now) (g.K.Sink.taken c.put_header.new.out) (g.N.Sink.taken c.args.side.now)
    (record { payload_is = c.in-Ok-code_source.ensures.payload; shown_is = c.in-Ok-code_source.ensures.shown }) (omega (arith, c.if-len-from.true)) c.in-Ok.ensures.all

pub length_before-previous-requires : goal.length_before-previous-requires
length_before-previous-requires g c = header_fits c.args.coder.now.settings.now c.args.coder.now.header.now c.requires.header

pub put_coded-requires-clause-fits : goal.put_coded-requires-clause-fits
put_coded-requires-clause-fits g c = let most = most_bytes c.args.coder.now.settings.now c.requires.accepted in omega (arith, c.if-len-from.false, most)

pub returns-clause-coded : goal.returns-clause-coded
returns-clause-coded g c =
    let f = rule_of c.args.coder.now.budget in
    let t = c.args.coder.now.settings.now in
    let coded = c.in-Ok-code_source.coded in
    let short : 13 + length coded.payload.items ≤ t.unit_bytes = omega (arith, c.if-len-from.false) in
    let j : Job = record { planned = c.args.planned.now; source = c.args.source.now } in
    let previous = previous_is f t c.args.coding.now.refs j c.args.coder.now.header.now c.args.coding.now.previous c.length_before-previous.result c.requires.header c.length_before-previous.ensures in
    let list = ap (λ (l : List Picture). committed l c.args.planned.now.retire (as_reference c.args.planned.now.code coded.shown)) c.in-Ok-code_source.ensures.refs in
    on_ok_six c.put_coded.result (λ count last refs waiting out side.
    step_coded f t j (so_far c.args.coding.now) (so_far c.put_coded.new.coding) c.length_before-previous.result coded.payload.items coded.shown
    (g.K.Sink.taken c.args.out.now) (g.K.Sink.taken c.put_header.new.out) (g.K.Sink.taken c.put_coded.new.out) (g.N.Sink.taken c.args.side.now) (g.N.Sink.taken c.put_coded.new.side)
    (record { payload_is = c.in-Ok-code_source.ensures.payload; shown_is = c.in-Ok-code_source.ensures.shown }) previous short
    count last (refs ∙ list) waiting c.in-Ok.ensures.all out side)
    c.put_coded.ensures.count c.put_coded.ensures.previous c.put_coded.ensures.refs c.put_coded.ensures.waiting c.put_coded.ensures.out c.put_coded.ensures.side

pub returns-clause-stopped : goal.returns-clause-stopped
returns-clause-stopped g c =
    let f = rule_of c.args.coder.now.budget in
    let t = c.args.coder.now.settings.now in
    let coded = c.in-Ok-code_source.coded in
    let short : 13 + length coded.payload.items ≤ t.unit_bytes = omega (arith, c.if-len-from.false) in
    let j : Job = record { planned = c.args.planned.now; source = c.args.source.now } in
    let previous = previous_is f t c.args.coding.now.refs j c.args.coder.now.header.now c.args.coding.now.previous c.length_before-previous.result c.requires.header c.length_before-previous.ensures in
    if_err c.put_coded.result (λ answer fault.
    step_stopped f t j (so_far c.args.coding.now) answer c.length_before-previous.result coded.payload.items coded.shown
    (g.K.Sink.taken c.args.out.now) (g.K.Sink.taken c.put_header.new.out) (g.K.Sink.taken c.put_coded.new.out) (g.N.Sink.taken c.args.side.now) (g.N.Sink.taken c.put_coded.new.side)
    (record { payload_is = c.in-Ok-code_source.ensures.payload; shown_is = c.in-Ok-code_source.ensures.shown }) previous short fault
    c.in-Ok.ensures.all c.put_coded.ensures.out_front c.put_coded.ensures.side_front)
    c.put_coded.ensures.stopped
