use Rattle.std.proofs.Common.{◌<◌, ◌≤◌, Ok, ap, refl, inr, arith}
use Rattle.dirac_encode_laws.specs.Coding.{Job}
use Rattle.dirac_encode_laws.specs.Fit.{length_at}
use Rattle.dirac_encode_laws.proofs.Coding.{codable}
use Rattle.dirac_encode.proofs.AtIndex.{more_long}
use Rattle.dirac_encode.proofs.fitting.fit_by.Goals as goal

pub indices-preserved : goal.indices-preserved
indices-preserved c =
    let t = c.args.asked.now.settings.now in
    let j : Job = record { planned = c.args.asked.now.planned.now; source = c.args.asked.now.source.now } in
    let long : c.args.budget < length_at t c.args.asked.now.refs.now j c.indices.index = c.in_ok-coded.ensures.longer_where_none (ap Ok c.in_default.is) in
    more_long (length_at t c.args.asked.now.refs.now j) c.args.budget t.index c.indices.index c.indices.invariant long

pub returns-clause-least : goal.returns-clause-least
returns-clause-least c =
    let first : c.args.asked.now.settings.now.index ≤ 99 = (codable c.args.asked.now.settings.now c.requires.accepted).index in
    record {
      from = omega (arith, first);
      last = omega arith;
      before = λ i after below. c.indices.invariant i after (omega (arith, c.indices-test.false, below));
      fits = inr refl;
    }

pub overflow_step-index : goal.overflow_step-index
overflow_step-index c =
    let first : c.args.asked.now.settings.now.index ≤ 99 = (codable c.args.asked.now.settings.now c.requires.accepted).index in
    omega (arith, first)
