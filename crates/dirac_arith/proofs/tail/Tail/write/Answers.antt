use Rattle.std.proofs.Common.{◌<◌, ◌+◌, ◌*◌, ◌^◌, ◌/◌, ◌∷◌, [], length, List, ℕ, arith, sym, subst, ap, length-append}
use Rattle.dirac_arith.specs.Tail.{Waiting, bytes_from}
use Rattle.dirac_arith.proofs.Tails.{pow17, carry_room, writes}
use Rattle.dirac_arith.proofs.tail.Tail.write.Goals as goal

pub carried-self-inside-requires-clause-no_overflow : goal.carried-self-inside-requires-clause-no_overflow
carried-self-inside-requires-clause-no_overflow c =
    λ h.
    let a = c.self.inside in
    let P : Waiting → Type 0 = λ x. x.value < 0xFFFF * 2 ^ x.doublings in
    let below = subst P (sym c.self.view_is) c.requires in
    let Q : List ℕ → Type 0 = λ bs. bytes_from 0 bs + 1 < 2 ^ (8 * length bs) in
    subst Q (sym c.deref_mut.ensures.value) (carry_room (bytes_from 0 a.bytes.items) a.register a.pending (length a.bytes.items) h below)

pub invariant_of-self : goal.invariant_of-self
invariant_of-self c =
    let double = pow17 c.writing.self-inside.pending in
    record { room = c.writing.invariant.pending; fits = omega (arith, c.writing.invariant.register) }

pub overflow_cast-byte-in-writing : goal.overflow_cast-byte-in-writing
overflow_cast-byte-in-writing c =
    let a = c.writing.self-inside in
    let moved = writes a.bytes.items a.register a.pending _ (omega arith) c.writing.invariant.pending c.writing.invariant.register c.writing.invariant.value in
    omega (arith, moved.byte)

pub invariant_of-self-in_err-push : goal.invariant_of-self-in_err-push
invariant_of-self-in_err-push c =
    let double = pow17 c.writing.self-inside.pending in
    record { room = c.writing.invariant.pending; fits = omega (arith, c.writing.invariant.register) }

pub writing-preserved : goal.writing-preserved
writing-preserved c =
    let a = c.writing.self-inside in
    let moved = writes a.bytes.items a.register a.pending _ (omega arith) c.writing.invariant.pending c.writing.invariant.register c.writing.invariant.value in
    let items = c.in_ok-push.ensures.items in
    record {
      value = rw items moved.kept;
      doublings = omega (arith, ap (length {A = ℕ}) items, length-append a.bytes.items ((a.register / 2 ^ (8 + a.pending)) ∷ []), c.writing.invariant.doublings);
      register = moved.below;
      pending = omega (arith, c.writing.invariant.pending);
    }
