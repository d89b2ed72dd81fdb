use Rattle.std.proofs.Common.{◌≡◌, ◌<◌, ◌≤◌, ◌+◌, ◌*◌, ◌^◌, ◌%◌, arith, sym, subst, ap, ◌∙◌, refl}
use Rattle.dirac_arith.specs.Tail.{Waiting, waiting, bytes_from}
use Rattle.dirac_arith.proofs.Tails.{advances, same_waiting}
use Rattle.dirac_arith.proofs.tail.Tail.advance.Goals as goal

pub invariant_of-self : goal.invariant_of-self
invariant_of-self c =
    let a = c.self.inside in
    let P : Waiting → Type 0 = λ x. x.register + c.args.amount < 2 ^ (17 + x.pending) in
    let R : Waiting → Type 0 = λ x. x.pending + c.args.count ≤ 47 in
    let below = subst P (sym c.self.view_is) c.requires.amount in
    let room = subst R (sym c.self.view_is) c.requires.at_most_47_bits in
    let moved = advances (bytes_from 0 a.bytes.items) a.register a.pending c.from.result c.args.count (rw c.from.ensures below) room in
    record { room = room; fits = rw moved.exact moved.fits }

pub returns : goal.returns
returns c =
    let a = c.self.inside in
    let P : Waiting → Type 0 = λ x. x.register + c.args.amount < 2 ^ (17 + x.pending) in
    let R : Waiting → Type 0 = λ x. x.pending + c.args.count ≤ 47 in
    let below = subst P (sym c.self.view_is) c.requires.amount in
    let room = subst R (sym c.self.view_is) c.requires.at_most_47_bits in
    let moved = advances (bytes_from 0 a.bytes.items) a.register a.pending c.from.result c.args.count (rw c.from.ensures below) room in
    let new : Waiting = waiting (record { bytes = a.bytes; register = (a.register + c.from.result) * 2 ^ c.args.count % 18446744073709551616; pending = a.pending + c.args.count }) in
    let Q : Waiting → Type 0 = λ x.
    new ≡ record {
      value = (x.value + c.args.amount) * 2 ^ c.args.count;
      doublings = x.doublings + c.args.count;
      register = (x.register + c.args.amount) * 2 ^ c.args.count;
      pending = x.pending + c.args.count;
    } in
    let same = c.from.ensures in
    subst Q c.self.view_is
    (same_waiting _ _ _ _ _ _ _ _
    (ap (λ r. bytes_from 0 a.bytes.items * 2 ^ (16 + (a.pending + c.args.count)) + r) moved.exact ∙ moved.value ∙ ap (λ x. (bytes_from 0 a.bytes.items * 2 ^ (16 + a.pending) + a.register + x) * 2 ^ c.args.count) same)
    (omega arith)
    (moved.exact ∙ ap (λ x. (a.register + x) * 2 ^ c.args.count) same)
    refl)
