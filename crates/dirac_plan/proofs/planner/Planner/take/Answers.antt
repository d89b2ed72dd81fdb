use Rattle.std.proofs.Common.{◌≡◌, ℕ, ◌+◌, ◌-◌, ◌<◌, Bool, true, false, remove, length, slice_get, Some, ap, ap₂, sym, subst, ◌∙◌, arith}
use Rattle.circular_buffer.specs.Buffer.{Buffer, buffer}
use Rattle.dirac_common.specs.declared.picture.Picture.{Picture}
use Rattle.dirac_plan.specs.Planning.{IsLasting, Planning, Takes, are_too_few, waiting_places}
use Rattle.dirac_plan.specs.Waiting.{IsPlanning}
use Rattle.dirac_plan.proofs.planner.Planner.take.Goals.{then-waiting-eq0-via-then-waiting-eq0, then-waiting-eq0-via-else-waiting-eq0+then-are_too_few}
use Rattle.dirac_plan.proofs.Planners.{enough, kept, lasts, opens_for_more, opens_empty, place_in, some_left, taken_is, takes}
use Rattle.dirac_plan.proofs.planner.Planner.take.Goals as goal

pub item_of-planned-requires-clause-place : goal.item_of-planned-requires-clause-place
item_of-planned-requires-clause-place c =
    let i = c.self.inside in
    some_left i.settings i.accepted i.given i.ended i.queue.items c.self.invariant.1 (omega (arith, c.len-waiting.ensures.len, c.if-waiting-eq0.false))

pub take_at-picture-requires : goal.take_at-picture-requires
take_at-picture-requires c =
    let i = c.self.inside in
    let x = c.item_of-planned.result in
    let more = some_left i.settings i.accepted i.given i.ended i.queue.items c.self.invariant.1 (omega (arith, c.len-waiting.ensures.len, c.if-waiting-eq0.false)) in
    let place = place_in i.settings i.accepted i.given i.ended i.queue.items x c.self.invariant.1 more (sym c.item_of-planned.ensures) in
    subst (λ m. m < length i.queue.items) (sym c.saturating_sub-place.ensures) place.inside

pub invariant_of-self-2 : goal.invariant_of-self-2
invariant_of-self-2 c =
    let i = c.self.inside in
    let x = c.item_of-planned.result in
    let inv = c.self.invariant in
    let more = some_left i.settings i.accepted i.given i.ended i.queue.items inv.1 (omega (arith, c.len-waiting.ensures.len, c.if-waiting-eq0.false)) in
    let of : ℕ → ℕ → Buffer Picture = λ m n. buffer (remove i.queue.items m) n in
    let left : c.take_at-picture.new.queue ≡ buffer (remove i.queue.items (x.number - i.given)) (waiting_places i.settings) = c.take_at-picture.ensures.rest ∙ ap₂ of c.saturating_sub-place.ensures inv.0 in
    let ends : i.ended ≡ true → c.args.ended ≡ true = subst (λ (v : Planning). v.ended ≡ true → c.args.ended ≡ true) (sym c.self.view_is) c.requires in
    let is = taken_is i.settings i.accepted i.given i.ended c.args.ended i.queue.items x inv.1 more (sym c.item_of-planned.ensures)
    (kept i.ended c.args.ended ends)
    (λ e last.
    let need = enough i.settings i.accepted i.given c.args.ended c.len-waiting.result c.are_too_few.ensures c.if-are_too_few.false e last in
    omega (arith, need, c.len-waiting.ensures.len)) in
    (ap (λ (b : Buffer Picture). b.capacity) left, subst (λ (b : Buffer Picture). IsPlanning i.settings i.accepted (i.given + 1) c.args.ended b.items) (sym left) is)

pub returns-clause-takes : goal.returns-clause-takes
returns-clause-takes c =
    let i = c.self.inside in
    let x = c.item_of-planned.result in
    let inv = c.self.invariant in
    let more = some_left i.settings i.accepted i.given i.ended i.queue.items inv.1 (omega (arith, c.len-waiting.ensures.len, c.if-waiting-eq0.false)) in
    let place = place_in i.settings i.accepted i.given i.ended i.queue.items x inv.1 more (sym c.item_of-planned.ensures) in
    let of : ℕ → ℕ → Buffer Picture = λ m n. buffer (remove i.queue.items m) n in
    let left : c.take_at-picture.new.queue ≡ buffer (remove i.queue.items (x.number - i.given)) (waiting_places i.settings) = c.take_at-picture.ensures.rest ∙ ap₂ of c.saturating_sub-place.ensures inv.0 in
    let old : Planning = record { settings = i.settings; accepted = i.accepted; given = i.given; ended = i.ended; waiting = i.queue.items } in
    let view : Buffer Picture → Planning = λ b. record { settings = i.settings; accepted = i.accepted; given = i.given + 1; ended = c.args.ended; waiting = b.items } in
    let here : slice_get i.queue.items (x.number - i.given) ≡ Some c.take_at-picture.result = ap (slice_get i.queue.items) (sym c.saturating_sub-place.ensures) ∙ c.take_at-picture.ensures.value in
    let ends : i.ended ≡ true → c.args.ended ≡ true = subst (λ (v : Planning). v.ended ≡ true → c.args.ended ≡ true) (sym c.self.view_is) c.requires in
    let lasting : c.args.ended ≡ false → IsLasting old x = λ e m longer.
    lasts i.settings i.accepted i.given m i.ended i.queue.items inv.1 (kept i.ended c.args.ended ends e) more longer
    (λ last.
    let need = enough i.settings i.accepted i.given c.args.ended c.len-waiting.result c.are_too_few.ensures c.if-are_too_few.false e last in
    omega (arith, need, c.len-waiting.ensures.len))
    ∙ sym c.item_of-planned.ensures in
    subst (λ (o : Planning). Takes c.args.ended o (view c.take_at-picture.new.queue) x c.take_at-picture.result) c.self.view_is
    (takes old (view c.take_at-picture.new.queue) c.args.ended x c.take_at-picture.result (sym c.item_of-planned.ensures) place.number here (ap view left) lasting)

pub returns-then-waiting-eq0-clause-opened : goal.returns-then-waiting-eq0-clause-opened
returns-then-waiting-eq0-clause-opened c e =
    let i = c.self.inside in
    let inv = c.self.invariant in
    elim c.then-waiting-eq0.branch [
      | then-waiting-eq0-via-then-waiting-eq0 w ↦
          opens_empty i.settings i.accepted i.given i.ended i.queue.items inv.1 (omega (arith, c.len-waiting.ensures.len, w.if-waiting-eq0.true))
      | then-waiting-eq0-via-else-waiting-eq0+then-are_too_few w ↦
          opens_for_more i.settings i.accepted i.given i.ended i.queue.items inv.1
          (w.are_too_few.ensures ∙ ap₂ (λ (b : Bool) (m : ℕ). are_too_few i.settings i.accepted i.given b m) e c.len-waiting.ensures.len) w.if-are_too_few.true
    ]
