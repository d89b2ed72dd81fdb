use Rattle.std.proofs.Common.{Option, None, Some, Result, Ok, Err, length, ap, arith, ◌∙◌}
use Rattle.std.specs.Prelude.{IfOk, IfSome}
use Rattle.dirac_sequence.specs.Written.{sequence_of}
use Rattle.dirac_picture.specs.declared.coded.CodedPicture.{CodedPicture}
use Rattle.dirac_encode_laws.specs.Payloads.{payload_of}
use Rattle.dirac_content.specs.Content.{rebuilt}
use Rattle.dirac_motion.specs.Chosen.{at_index}
use Rattle.dirac_encode_picture.specs.Asked.{coded_by}
use Rattle.dirac_encode_picture.proofs.Choices.{coded_chosen}
use Rattle.dirac_encode.proofs.fitting.code_in_budget.Goals as goal

-- what is found has what follows from two things that it has
found_so : {X E : Type 0} {P Q R : X → Type 0} (r : Result (Option X) E) → ((x : X) → P x → Q x → R x) → IfOk r (λ o. IfSome o P) → IfOk r (λ o. IfSome o Q) → IfOk r (λ o. IfSome o R)
found_so (Ok (Some x)) f p q = f x p q
found_so (Ok None) f p q = tt
found_so (Err e) f p q = tt

pub returns-clause-payload : goal.returns-clause-payload
returns-clause-payload c =
    let t = at_index c.args.asked.now.settings.now c.args.index in
    let same = ap (coded_by t c.args.asked.now.refs.now c.args.asked.now.planned.now c.args.asked.now.source.now) (c.requires.blocks c.args.index) ∙ coded_chosen t c.args.asked.now.refs.now c.args.asked.now.planned.now c.args.asked.now.source.now in
    found_so c.code_within.result (λ x e f. e ∙ ap (λ (k : CodedPicture). payload_of t k) same) c.code_within.ensures.payload c.code_within.ensures.fits

pub returns-clause-shown : goal.returns-clause-shown
returns-clause-shown c =
    let t = at_index c.args.asked.now.settings.now c.args.index in
    let same = ap (coded_by t c.args.asked.now.refs.now c.args.asked.now.planned.now c.args.asked.now.source.now) (c.requires.blocks c.args.index) ∙ coded_chosen t c.args.asked.now.refs.now c.args.asked.now.planned.now c.args.asked.now.source.now in
    found_so c.code_within.result (λ x e f. e ∙ ap (λ (k : CodedPicture). rebuilt (sequence_of t) c.args.asked.now.refs.now k) same) c.code_within.ensures.shown c.code_within.ensures.fits

pub returns-clause-fits : goal.returns-clause-fits
returns-clause-fits c =
    let t = at_index c.args.asked.now.settings.now c.args.index in
    let same = ap (coded_by t c.args.asked.now.refs.now c.args.asked.now.planned.now c.args.asked.now.source.now) (c.requires.blocks c.args.index) ∙ coded_chosen t c.args.asked.now.refs.now c.args.asked.now.planned.now c.args.asked.now.source.now in
    found_so c.code_within.result (λ x e f. omega (arith, f, ap length (e ∙ ap (λ (k : CodedPicture). payload_of t k) same), c.if-budget-parse_info.false)) c.code_within.ensures.payload c.code_within.ensures.fits

pub returns-clause-longer_where_none : goal.returns-clause-longer_where_none
returns-clause-longer_where_none c =
    let t = at_index c.args.asked.now.settings.now c.args.index in
    let same = ap (coded_by t c.args.asked.now.refs.now c.args.asked.now.planned.now c.args.asked.now.source.now) (c.requires.blocks c.args.index) ∙ coded_chosen t c.args.asked.now.refs.now c.args.asked.now.planned.now c.args.asked.now.source.now in
    λ none. let long = c.code_within.ensures.longer_where_none none in omega (arith, long, ap length (ap (λ (k : CodedPicture). payload_of t k) same), c.if-budget-parse_info.false)
