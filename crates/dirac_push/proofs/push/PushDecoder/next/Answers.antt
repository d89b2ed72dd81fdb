use Rattle.std.proofs.Common.{◌∙◌, ap, arith, refl, subst, [], None}
use Rattle.dirac_push.specs.Pushing.{PushPasses, Pushed, TakesSilently, TakesUnits, TurnGives}
use Rattle.dirac_push.proofs.Passing.{gives_behind, passes_on, passes_same, repeats_behind, still_going}
use Rattle.dirac_push.proofs.Taking.{silent_on, silent_same, takes_on}
use Rattle.dirac_push.proofs.push.PushDecoder.next.Goals as goal

pub units-init : goal.units-init
units-init c =
    let old : Pushed = record { decoder = c.self.inside.decoder; there = c.self.inside.queue; room = c.self.inside.room; is_finished = c.self.inside.is_finished; shown = c.self.inside.shown; format = c.self.inside.format } in
    let new : Pushed = record old { shown = None } in
    record {
      passes = subst (λ (x : Pushed). PushPasses x new [] []) c.self.view_is (passes_same old new refl refl (λ e. e));
      silent = subst (λ (x : Pushed). TakesSilently x new) c.self.view_is (silent_same old new refl refl refl refl refl refl);
      given = ap (λ (x : Pushed). x.decoder.given) c.self.view_is;
      shown = refl;
      moving = λ e. c.in_default.not-Stopped (c.stream_end.ensures ∙ e);
      still = λ ne. ap (λ (x : Pushed). record x { shown = None }) c.self.view_is;
      finished = ap (λ (x : Pushed). x.is_finished) c.self.view_is;
      room = ap (λ (x : Pushed). x.room) c.self.view_is;
      fits = omega (arith, c.self.invariant.1);
    }

pub units-preserved : goal.units-preserved
units-preserved c =
    let gives : TurnGives None c.units.self c.turn.new.self = c.in_default-turn.ensures.gives in
    record {
      passes = passes_on c.args.self.now c.units.self c.turn.new.self [] [] [] [] c.units.invariant.passes gives.0;
      silent = silent_on c.args.self.now c.units.self c.turn.new.self c.units.invariant.moving c.units.invariant.silent (c.in_default-turn.ensures.silent refl);
      given = gives.1 ∙ c.units.invariant.given;
      shown = gives.2;
      moving = gives.4;
      still = still_going c.args.self.now c.units.self c.turn.new.self c.units.invariant.still gives.3;
      finished = c.in_default-turn.ensures.finished_stays ∙ c.units.invariant.finished;
      room = c.in_default-turn.ensures.room_stays ∙ c.units.invariant.room;
      fits = c.in_default-turn.ensures.fits;
    }

pub returns-in-Stopped-clause-takes : goal.returns-in-Stopped-clause-takes
returns-in-Stopped-clause-takes c =
    let old : Pushed = record { decoder = c.self.inside.decoder; there = c.self.inside.queue; room = c.self.inside.room; is_finished = c.self.inside.is_finished; shown = c.self.inside.shown; format = c.self.inside.format } in
    let new : Pushed = record old { shown = None } in
    subst (λ (x : Pushed). TakesUnits x new) c.self.view_is (silent_same old new refl refl refl refl refl refl).takes

pub returns-in-Some : goal.returns-in-Some
returns-in-Some c = record {
  gives = gives_behind c.in-Some.answer c.args.self.now c.units.self c.turn.new.self c.units.invariant.passes c.units.invariant.given c.units.invariant.moving c.in-Some.ensures.gives;
  takes = takes_on c.args.self.now c.units.self c.turn.new.self c.units.invariant.moving c.units.invariant.silent c.in-Some.ensures.takes;
  repeats = repeats_behind c.in-Some.answer c.args.self.now c.units.self c.turn.new.self c.units.invariant.still c.in-Some.ensures.repeats;
  finished_stays = c.in-Some.ensures.finished_stays ∙ c.units.invariant.finished;
  given_up = c.in-Some.ensures.given_up;
  room_stays = c.in-Some.ensures.room_stays ∙ c.units.invariant.room;
}
