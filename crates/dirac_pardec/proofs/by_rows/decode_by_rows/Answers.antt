use Rattle.std.proofs.Common.{◌∙◌, List, subst, sym}
use Rattle.std.specs.Prelude.{IsTrue}
use Rattle.dirac_common.specs.declared.picture.Picture.{Picture}
use Rattle.dirac_picture.specs.Grammar.{are_listed}
use Rattle.dirac_content.specs.Content.{AreReferences}
use Rattle.dirac_decode_picture.proofs.Doubling.{references_doubled}
use Rattle.dirac_decode_picture.proofs.Naming.{references_fit}
use Rattle.dirac_pardec.proofs.by_rows.decode_by_rows.Goals as goal

pub keep_named_halves-requires-after_bounds : goal.keep_named_halves-requires-after_bounds
keep_named_halves-requires-after_bounds g c = λ lives bound. references_doubled c.args.asked.sequence.now c.args.refs.now c.requires.sequence c.requires.listed

pub rebuild_by_rows-requires-clause-refs : goal.rebuild_by_rows-requires-clause-refs
rebuild_by_rows-requires-clause-refs g c =
    λ lives bound.
    let header = c.in_ok-coded.coded.header in
    let there = subst (λ (refs : List Picture). IsTrue (are_listed refs header)) c.list.ensures c.in_ok-coded.ensures.listed in
    subst (λ (refs : List Picture). AreReferences c.args.asked.sequence.now refs header) (sym (c.list-2.ensures ∙ c.keep_named_halves.ensures))
    (references_fit c.args.asked.sequence.now c.args.refs.now header there c.requires.listed)
