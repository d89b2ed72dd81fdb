use Rattle.std.proofs.Common.{◌≡◌, ◌+◌, ◌*◌, ◌/◌, ◌^◌, ◌≤◌, slice_index, sym, subst, ap, ◌∙◌, arith}
use Rattle.dirac_arith.specs.Registers.{part_width}
use Rattle.dirac_arith.specs.Tail.{Waiting}
use Rattle.dirac_arith.proofs.Decisions.{probabilities_set}
use Rattle.dirac_arith.proofs.Encodings.{kept_within, kept_register, part_some}
use Rattle.dirac_arith.proofs.encoder.Encoder.decision.Goals as goal

pub invariant_of-self : goal.invariant_of-self
invariant_of-self c =
    let sound = c.self.invariant in
    let settled = c.in_err-settle.ensures in
    record {
      wide = sound.wide;
      narrow = sound.narrow;
      within = rw (settled.value, settled.doublings) sound.within;
      register = settled.register c.self.inside.range sound.narrow sound.register;
      pending = settled.pending;
      probabilities = sound.probabilities;
    }

pub advance-requires-clause-amount : goal.advance-requires-clause-amount
advance-requires-clause-amount c =
    let sound = c.self.invariant in
    let settled = c.in_ok-settle.ensures in
    let kept = settled.register c.self.inside.range sound.narrow sound.register in
    let parts = c.sub_interval_after-part.ensures in
    let some = part_some (part_width c.self.inside.range (c.self.inside.range * slice_index c.self.inside.contexts c.args.ctx / 65536) c.args.truth) _ c.sub_interval_after-part.result.range parts.wide parts.range in
    omega (arith, parts.within)

pub invariant_of-self-2 : goal.invariant_of-self-2
invariant_of-self-2 c =
    let a = c.self.inside in
    let sound = c.self.invariant in
    let settled = c.in_ok-settle.ensures in
    let parts = c.sub_interval_after-part.ensures in
    let result = c.sub_interval_after-part.result in
    let part = part_width a.range (a.range * slice_index a.contexts c.args.ctx / 65536) c.args.truth in
    let tail = c.settle.new.self in
    let range_is : result.range ≡ part * 2 ^ result.doublings = parts.range ∙ ap (λ k. part * 2 ^ k) (sym parts.doublings) in
    let register = settled.register a.range sound.narrow sound.register in
    let W : Waiting → Type 0 = λ t. t.value + result.range ≤ 0xFFFF * 2 ^ t.doublings in
    let R : Waiting → Type 0 = λ t. t.register + result.range ≤ 2 ^ (17 + t.pending) in
    let N : Waiting → Type 0 = λ t. t.pending ≤ 47 in
    record {
      wide = parts.wide;
      narrow = parts.narrow;
      within = subst W (sym c.advance.ensures) (rw range_is (kept_within tail.value a.range tail.doublings result.lift part result.doublings parts.within (rw (settled.value, settled.doublings) sound.within)));
      register = subst R (sym c.advance.ensures) (rw range_is (kept_register tail.register a.range tail.pending result.lift part result.doublings parts.within register));
      pending = subst N (sym c.advance.ensures) (omega (arith, settled.at_most_38_bits, parts.few_doublings));
      probabilities = probabilities_set a.contexts c.args.ctx c.adapt.result c.adapt.ensures.at_least_254_result c.adapt.ensures.at_most_65281_result sound.probabilities;
    }
