use Rattle.std.proofs.Common.{length}
use Rattle.dirac_decode.proofs.Counts.{one_more_at_most}
use Rattle.dirac_decode.proofs.Taken.{content_refused, content_wanting}
use Rattle.dirac_decode.proofs.advance.content_of.Goals as goal

pub returns-in-Ok : goal.returns-in-Ok
returns-in-Ok g c = record {
  brings = c.in-Ok.ensures.took;
  one_more_at_most = c.in-Ok.ensures.one_more_at_most;
  greatest_never_falls = c.in-Ok.ensures.greatest_never_falls;
}

pub returns-in-Err-NoMemory : goal.returns-in-Err-NoMemory
returns-in-Err-NoMemory g c = record {
  brings = content_wanting c.args.unit c.args.state.now c.take.new.self c.in-Err-NoMemory.field-0 c.in-Err-NoMemory.field-0-is c.in-Err-NoMemory.ensures.took;
  one_more_at_most = one_more_at_most (length c.take.new.self.waiting) (length c.args.state.now.waiting) c.in-Err-NoMemory.ensures.one_more_at_most;
  greatest_never_falls = c.in-Err-NoMemory.ensures.greatest_never_falls;
}

pub returns-in-Err-Refused : goal.returns-in-Err-Refused
returns-in-Err-Refused g c = record {
  brings = content_refused c.args.unit c.args.state.now c.take.new.self c.in-Err-Refused.field-0 c.in-Err-Refused.refusal c.in-Err-Refused.field-0-is c.in-Err-Refused.ensures.took;
  one_more_at_most = one_more_at_most (length c.take.new.self.waiting) (length c.args.state.now.waiting) c.in-Err-Refused.ensures.one_more_at_most;
  greatest_never_falls = c.in-Err-Refused.ensures.greatest_never_falls;
}
