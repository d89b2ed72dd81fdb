use Rattle.std.proofs.Common.{◌≡◌, ◌+◌, ◌<◌, false, ap, sym, subst, ◌∙◌}
use Rattle.circular_buffer.specs.Buffer.{Buffer}
use Rattle.dirac_common.specs.declared.picture.Picture.{Picture}
use Rattle.dirac_plan.specs.Planning.{Planning, waiting_places, with_picture}
use Rattle.dirac_plan.specs.Waiting.{IsPlanning}
use Rattle.dirac_plan.proofs.Queue.{put_behind}
use Rattle.dirac_plan.proofs.Planners.{pushed_is}
use Rattle.dirac_plan.proofs.planner.Planner.push.Goals as goal

pub invariant_of-self : goal.invariant_of-self
invariant_of-self c =
    let i = c.self.inside in
    let inv = c.self.invariant in
    let p = c.args.picture in
    let room = inv.1.waiting_fit in
    let put = put_behind i.queue c.push_back.new.self p (waiting_places i.settings) inv.0 room (c.is_full.ensures) c.if-is_full.false c.push_back.ensures.items in
    let number : p.number ≡ i.accepted = c.requires.number ∙ sym (ap (λ (v : Planning). v.accepted) c.self.view_is) in
    let few : i.accepted < 2147483647 = subst (λ (v : Planning). v.accepted < 2147483647) (sym c.self.view_is) c.requires.in_range in
    let going : i.ended ≡ false = ap (λ (v : Planning). v.ended) c.self.view_is ∙ c.requires.not_ended in
    let last = sym c.must_be_taken_first.ensures ∙ c.if-must_be_taken_first.false in
    let is = pushed_is i.settings i.accepted i.given i.ended i.queue.items p inv.1 going number few put.1 last in
    (ap (λ (b : Buffer Picture). b.capacity) put.0, subst (λ (b : Buffer Picture). IsPlanning i.settings (i.accepted + 1) i.given i.ended b.items) (sym put.0) is)

pub returns-clause-accepted : goal.returns-clause-accepted
returns-clause-accepted c =
    let i = c.self.inside in
    let inv = c.self.invariant in
    let p = c.args.picture in
    let room = inv.1.waiting_fit in
    let put = put_behind i.queue c.push_back.new.self p (waiting_places i.settings) inv.0 room (c.is_full.ensures) c.if-is_full.false c.push_back.ensures.items in
    let of : Buffer Picture → Planning = λ b. record { settings = i.settings; accepted = i.accepted + 1; given = i.given; ended = i.ended; waiting = b.items } in
    ap of put.0 ∙ ap (λ v. with_picture v p) c.self.view_is
