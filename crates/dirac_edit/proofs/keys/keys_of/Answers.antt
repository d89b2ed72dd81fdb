use Rattle.std.proofs.Common.{◌∙◌, ap, rules}
use Rattle.std.proofs.lemmas.Int.{to_z-of_z}
use mir.Syntax.{w32}
use mir.Val.{SFits}
use borrow.Author.Differences.{down, up}
use Rattle.dirac_refs.specs.Delivery.{key_of}
use Rattle.dirac_edit_laws.specs.Joined.{number_in_payload}
use Rattle.dirac_edit.proofs.Placed.{above_more, below_more, keys_are}
use Rattle.dirac_edit.proofs.keys.keys_of.Goals as goal

pub loop-picture-preserved : goal.loop-picture-preserved
loop-picture-preserved c =
    let first = c.first_number-first.result in
    let p = c.picture-item.result in
    let fits : SFits w32 c.key-key.result = search rules in
    let same = to_z-of_z w32 c.key-key.result fits in
    let key = c.key-key.ensures ∙ ap (key_of first) (c.number_in.ensures ∙ ap number_in_payload c.payload.ensures.value) in
    record {
      above = above_more first c.args.pictures.now c.loop-picture.picture-index p c.loop-picture.above c.greater-above.result c.above_0.result c.loop-picture-test.true c.picture-item.is c.loop-picture.invariant.above (c.above_0.ensures ∙ ap up same ∙ ap up key) c.greater-above.ensures;
      below = below_more first c.args.pictures.now c.loop-picture.picture-index p c.loop-picture.below c.greater-below.result c.below_0.result c.loop-picture-test.true c.picture-item.is c.loop-picture.invariant.below (c.below_0.ensures ∙ ap down same ∙ ap down key) c.greater-below.ensures;
    }

pub returns-clause-value : goal.returns-clause-value
returns-clause-value c =
    keys_are c.args.pictures.now c.first_number-first.result c.loop-picture.above c.loop-picture.below c.loop-picture.picture-index c.loop-picture-test.false c.first_number-first.ensures
    c.loop-picture.invariant.above c.loop-picture.invariant.below
