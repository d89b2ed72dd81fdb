use Rattle.std.proofs.Common.{◌∙◌, List, subst, sym}
use Rattle.std.specs.Prelude.{IsTrue}
use Rattle.dirac_common.specs.declared.picture.Picture.{Picture}
use Rattle.dirac_picture.specs.Grammar.{are_listed}
use Rattle.dirac_content.specs.Content.{AreReferences}
use Rattle.dirac_decode_picture.proofs.Doubling.{references_doubled}
use Rattle.dirac_decode_picture.proofs.Naming.{references_fit}
use Rattle.dirac_decode_picture.proofs.in_turn.decode_picture.Goals as goal

pub keep_halves-requires : goal.keep_halves-requires
keep_halves-requires c = references_doubled c.args.sequence.now c.args.refs.now c.requires.sequence c.requires.listed

pub rebuild_picture-requires-clause-refs : goal.rebuild_picture-requires-clause-refs
rebuild_picture-requires-clause-refs c =
    let header = c.in_ok-coded.coded.header in
    let there = subst (λ (refs : List Picture). IsTrue (are_listed refs header)) c.list.ensures c.in_ok-coded.ensures.listed in
    subst (λ (refs : List Picture). AreReferences c.args.sequence.now refs header) (sym (c.list-2.ensures ∙ (c.take_room-room.ensures ∙ c.keep_halves.ensures)))
    (references_fit c.args.sequence.now c.args.refs.now header there c.requires.listed)
