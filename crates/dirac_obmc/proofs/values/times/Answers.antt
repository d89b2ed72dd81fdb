use Rattle.std.proofs.Common.{◌≡◌, to_z, of_z, ◌∙◌}
use Rattle.std.specs.Int.{w16, w32}
use Rattle.std.proofs.lemmas.Int.{to_z-of_z}
use Rattle.dirac_obmc.proofs.Rounding.{product_is, product_small}
use Rattle.dirac_obmc.proofs.values.times.Goals as goal

pub returns-clause-value : goal.returns-clause-value
returns-clause-value c =
    let sample : to_z w32 (of_z w32 c.from.result) ≡ c.args.sample =
    to_z-of_z w32 _ (record { sfits = c.from.type_inv }) ∙ c.from.ensures ∙ to_z-of_z w16 c.args.sample c.ranges.sample in
    rw (sample, to_z-of_z w32 c.args.weight c.ranges.weight) (product_is c.args.sample c.args.weight c.requires.sample c.requires.weight)

pub returns-clause-at_most_128 : goal.returns-clause-at_most_128
returns-clause-at_most_128 c =
    let sample : to_z w32 (of_z w32 c.from.result) ≡ c.args.sample =
    to_z-of_z w32 _ (record { sfits = c.from.type_inv }) ∙ c.from.ensures ∙ to_z-of_z w16 c.args.sample c.ranges.sample in
    rw (sample, to_z-of_z w32 c.args.weight c.ranges.weight, product_is c.args.sample c.args.weight c.requires.sample c.requires.weight)
    (product_small c.args.sample c.args.weight c.requires.sample)
