use Rattle.std.proofs.Common.{arith}
use Rattle.dirac_types.proofs.Accepted.{in_range}
use Rattle.dirac_motion.proofs.Asked.{levels_accepted, width_within, height_within}
use Rattle.dirac_motion.proofs.choose.choose_from.Goals as goal

pub overflow_cast-settings : goal.overflow_cast-settings
overflow_cast-settings g c = omega (arith, levels_accepted c.args.settings.now c.requires.settings)

pub build-requires-clause-at_most_4_levels : goal.build-requires-clause-at_most_4_levels
build-requires-clause-at_most_4_levels g c = levels_accepted c.args.settings.now c.requires.settings

pub build-requires-clause-at_most_8192_across : goal.build-requires-clause-at_most_8192_across
build-requires-clause-at_most_8192_across g c = omega (arith, width_within c.args.settings.now c.args.source.now c.requires.settings c.requires.source)

pub build-requires-clause-at_most_8192_down : goal.build-requires-clause-at_most_8192_down
build-requires-clause-at_most_8192_down g c = omega (arith, height_within c.args.settings.now c.args.source.now c.requires.settings c.requires.source)

pub vectors_in-requires-clause-workers : goal.vectors_in-requires-clause-workers
vectors_in-requires-clause-workers g c κs within = (in_range c.args.settings.now c.requires.settings).workers

pub vectors_in_both-requires-after_bounds : goal.vectors_in_both-requires-after_bounds
vectors_in_both-requires-after_bounds g c κs within = record {
  accepted = c.requires.settings;
  source = record { picture = c.requires.source; pyramid = c.in_ok-pyramid.ensures.value };
  first = c.requires.references.first;
  second = c.requires.references.second c.in-Some.second c.in-Some.is;
}
