use Rattle.std.proofs.Common.{◌-◌, ◌*◌, ◌/◌, arith}
use Rattle.dirac_arith.proofs.Doublings.{split_bounds}
use Rattle.dirac_arith.proofs.Tails.{part_widens}
use Rattle.dirac_arith.proofs.encoder.sub_interval_after.Goals as goal

pub returns-then-truth-clause-wide : goal.returns-then-truth-clause-wide
returns-then-truth-clause-wide c =
    let bounds = split_bounds c.args.range c.from.result c.requires.wide c.requires.narrow (omega arith) (omega arith) in
    (part_widens (c.args.range - c.args.range * c.from.result / 65536) c.doublings-count.result (omega arith) (omega arith) c.doublings-count.ensures.least).0

pub returns-then-truth-clause-narrow : goal.returns-then-truth-clause-narrow
returns-then-truth-clause-narrow c =
    let bounds = split_bounds c.args.range c.from.result c.requires.wide c.requires.narrow (omega arith) (omega arith) in
    (part_widens (c.args.range - c.args.range * c.from.result / 65536) c.doublings-count.result (omega arith) (omega arith) c.doublings-count.ensures.least).1

pub returns-clause-wide : goal.returns-clause-wide
returns-clause-wide c =
    let bounds = split_bounds c.args.range c.from.result c.requires.wide c.requires.narrow (omega arith) (omega arith) in
    (part_widens (c.args.range * c.from.result / 65536) c.doublings-count-2.result (omega arith) (omega arith) c.doublings-count-2.ensures.least).0

pub returns-clause-narrow : goal.returns-clause-narrow
returns-clause-narrow c =
    let bounds = split_bounds c.args.range c.from.result c.requires.wide c.requires.narrow (omega arith) (omega arith) in
    (part_widens (c.args.range * c.from.result / 65536) c.doublings-count-2.result (omega arith) (omega arith) c.doublings-count-2.ensures.least).1
