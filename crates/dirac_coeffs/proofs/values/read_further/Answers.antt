use Rattle.dirac_coeffs.proofs.values.read_further.Goals as goal

pub signed_behind-requires-clause-follow : goal.signed_behind-requires-clause-follow
signed_behind-requires-clause-follow c = c.follow_from-follow.ensures.contexts

pub signed_behind-requires-clause-sign : goal.signed_behind-requires-clause-sign
signed_behind-requires-clause-sign c = c.sign_context-sign.ensures.context

pub returns-clause-few_doublings : goal.returns-clause-few_doublings
returns-clause-few_doublings c = c.signed_behind.ensures.few_doublings
