use Rattle.std.proofs.Common.{◌≡◌, List, subst}
use Rattle.std.specs.Prelude.{IfOk}
use Rattle.dirac_common.specs.declared.picture.Picture.{Picture}
use Rattle.dirac_encode_laws.specs.declared.coded.Coded.{Coded}
use Rattle.dirac_encode_laws.specs.Coding.{Job, made_under}
use Rattle.dirac_encode_laws.specs.Fit.{rule_of}
use Rattle.dirac_encode_progress.proofs.Doubling.{references_doubled}
use Rattle.dirac_encode_progress.proofs.source.code_source.Goals as goal

pub keep_halves-requires : goal.keep_halves-requires
keep_halves-requires g c =
    references_doubled c.args.coder.now.settings.now c.args.refs.now c.requires.ready.accepted c.requires.ready.listed

pub returns-clause-payload : goal.returns-clause-payload
returns-clause-payload g c =
    let t = c.args.coder.now.settings.now in
    let j : Job = record { planned = c.args.planned.now; source = c.args.source.now } in
    subst (λ (l : List Picture). IfOk c.code_by_call.result (λ (x : Coded). x.payload.items ≡ (made_under (rule_of c.args.coder.now.budget) t l j).payload)) c.keep_halves.ensures c.code_by_call.ensures.payload

pub returns-clause-shown : goal.returns-clause-shown
returns-clause-shown g c =
    let t = c.args.coder.now.settings.now in
    let j : Job = record { planned = c.args.planned.now; source = c.args.source.now } in
    subst (λ (l : List Picture). IfOk c.code_by_call.result (λ (x : Coded). x.shown ≡ (made_under (rule_of c.args.coder.now.budget) t l j).shown)) c.keep_halves.ensures c.code_by_call.ensures.shown
