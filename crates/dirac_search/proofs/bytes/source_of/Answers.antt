use Rattle.std.proofs.Common.{◌∙◌}
use Rattle.std.proofs.lemmas.List.{take_at}
use Rattle.dirac_search.proofs.bytes.source_of.Goals as goal

pub returns : goal.returns
returns c = take_at c.narrow.new.out _ _ (c.narrow.auto.out ∙ c.as_mut_slice.ensures.len) ∙ c.narrow.ensures
