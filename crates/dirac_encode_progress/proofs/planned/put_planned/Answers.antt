use Rattle.std.proofs.Common.{◌≡◌, ◌∙◌, true, refl, sym, subst, arith}
use Rattle.dirac_plan.specs.Planning.{Planning, gives_none}
use Rattle.dirac_encode_laws.specs.Fit.{rule_of}
use Rattle.dirac_encode_progress.specs.Going.{so_far}
use Rattle.dirac_encode_progress.proofs.Finding.{lists_behind, lists_found, lists_more, lists_told}
use Rattle.dirac_encode_progress.proofs.Going.{goes_more, goes_told, stops_more}
use Rattle.dirac_encode_progress.proofs.planned.put_planned.Goals as goal

pub returns-in-Err-clause-stopped : goal.returns-in-Err-clause-stopped
returns-in-Err-clause-stopped g c bytes out0 side0 leave start =
    stops_more (rule_of c.args.coder.now.budget) c.args.coder.now.settings.now c.args.ended c.planned.planner c.take.new.self (so_far c.planned.coding) c.in-Some.planned c.in-Some.source c.in-Err.answer
    (g.K.Sink.taken c.planned.out) (g.K.Sink.taken c.put_source.new.out) (g.N.Sink.taken c.planned.side) (g.N.Sink.taken c.put_source.new.side)
    c.planned.invariant.settings c.in-Some.ensures.takes c.in-Err.ensures.stopped bytes out0 side0 leave (c.planned.invariant.led bytes out0 side0 start)

pub planned-preserved : goal.planned-preserved
planned-preserved g c =
    let f = rule_of c.args.coder.now.budget in
    let t = c.args.coder.now.settings.now in
    record {
      led = λ bytes out0 side0 start.
          goes_more f t c.args.ended c.planned.planner c.take.new.self (so_far c.planned.coding) (so_far c.put_source.new.coding) c.in-Some.planned c.in-Some.source
          (g.K.Sink.taken c.planned.out) (g.K.Sink.taken c.put_source.new.out) (g.N.Sink.taken c.planned.side) (g.N.Sink.taken c.put_source.new.side)
          c.planned.invariant.settings c.in-Some.ensures.takes c.in_default-put_source.ensures.coded bytes out0 side0 (c.planned.invariant.led bytes out0 side0 start);
      lists = lists_more f t c.args.ended c.planned.planner c.take.new.self (so_far c.planned.coding) (so_far c.put_source.new.coding) c.in-Some.planned c.in-Some.source
          (g.K.Sink.taken c.planned.out) (g.K.Sink.taken c.put_source.new.out) (g.N.Sink.taken c.planned.side) (g.N.Sink.taken c.put_source.new.side) c.planned.invariant.settings c.planned.invariant.lists c.in-Some.ensures.takes c.in_default-put_source.ensures.coded;
      settings = c.take.ensures.settings ∙ c.planned.invariant.settings;
      accepted = c.take.ensures.accepted ∙ c.planned.invariant.accepted;
      ended = λ e. sym c.take.ensures.ended ∙ e;
      writes = omega (arith, c.planned.invariant.writes, c.put_source.ensures.writes);
      sides = omega (arith, c.planned.invariant.sides, c.put_source.ensures.sides);
    }

pub returns-clause-led : goal.returns-clause-led
returns-clause-led g c bytes out0 side0 start =
    goes_told (rule_of c.args.coder.now.budget) c.args.coder.now.settings.now bytes c.args.ended c.args.ended c.planned.planner c.take.new.self (so_far c.planned.coding) out0 (g.K.Sink.taken c.planned.out) side0 (g.N.Sink.taken c.planned.side)
    c.in_default.ensures.in_vain (c.planned.invariant.led bytes out0 side0 start)

pub returns-clause-none_due : goal.returns-clause-none_due
returns-clause-none_due g c = λ none.
    subst (λ (p : Planning). gives_none p c.args.ended ≡ true) (sym c.in_default.ensures.in_vain) (c.in_default.ensures.none.0 refl)

pub returns-clause-lists : goal.returns-clause-lists
returns-clause-lists g c = lists_told c.args.coder.now.settings.now c.args.ended c.args.ended c.planned.planner c.take.new.self (so_far c.planned.coding) c.in_default.ensures.in_vain c.planned.invariant.lists

pub put_source-requires-clause-found : goal.put_source-requires-clause-found
put_source-requires-clause-found g c =
    (lists_found c.plans_can_be_coded.ensures c.args.coder.now.settings.now c.args.ended c.planned.planner c.take.new.self (so_far c.planned.coding) c.in-Some.planned c.in-Some.source c.requires.accepted c.planned.invariant.settings c.planned.invariant.lists c.in-Some.ensures.takes).0

pub put_source-requires-clause-planned : goal.put_source-requires-clause-planned
put_source-requires-clause-planned g c =
    (lists_found c.plans_can_be_coded.ensures c.args.coder.now.settings.now c.args.ended c.planned.planner c.take.new.self (so_far c.planned.coding) c.in-Some.planned c.in-Some.source c.requires.accepted c.planned.invariant.settings c.planned.invariant.lists c.in-Some.ensures.takes).1

pub put_source-requires-clause-source : goal.put_source-requires-clause-source
put_source-requires-clause-source g c =
    (lists_found c.plans_can_be_coded.ensures c.args.coder.now.settings.now c.args.ended c.planned.planner c.take.new.self (so_far c.planned.coding) c.in-Some.planned c.in-Some.source c.requires.accepted c.planned.invariant.settings c.planned.invariant.lists c.in-Some.ensures.takes).2

pub put_source-requires-clause-behind : goal.put_source-requires-clause-behind
put_source-requires-clause-behind g c =
    lists_behind c.args.coder.now.settings.now c.args.ended c.planned.planner c.take.new.self (so_far c.planned.coding) c.in-Some.planned c.in-Some.source c.planned.invariant.lists c.in-Some.ensures.takes

pub put_source-requires-clause-listed : goal.put_source-requires-clause-listed
put_source-requires-clause-listed g c =
    (lists_found c.plans_can_be_coded.ensures c.args.coder.now.settings.now c.args.ended c.planned.planner c.take.new.self (so_far c.planned.coding) c.in-Some.planned c.in-Some.source c.requires.accepted c.planned.invariant.settings c.planned.invariant.lists c.in-Some.ensures.takes).3

pub put_source-requires-clause-in_range : goal.put_source-requires-clause-in_range
put_source-requires-clause-in_range g c =
    let takes = c.in-Some.ensures.takes in
    let lists = c.planned.invariant.lists in
    omega (arith, takes.given, takes.accepted, lists.given, lists.in_range, c.take.ensures.counts)
