use Rattle.std.proofs.Common.{◌≡◌, ◌+◌, ◌-◌, ◌*◌, ◌/◌, ◌%◌, ◌^◌, ◌<◌, ◌≤◌, sym, subst, ap, ◌∙◌, refl, arith, mul-le-mul_right}
use Rattle.std.proofs.Math.Nat.{pow-le-pow_right}
use Rattle.std.proofs.lemmas.Bool.{both_ways}
use Rattle.std.proofs.lemmas.Nat.{pow_pos, pow-add, one_shl}
use Rattle.dirac_arith.specs.Interval.{Interval, interval_of}
use Rattle.dirac_arith.specs.Tail.{Waiting}
use Rattle.dirac_arith.specs.Written.{number_in_bytes, flushed_interval}
use Rattle.dirac_arith.specs.Encoding.{exact_interval}
use Rattle.dirac_arith.proofs.Encodings.{flush_of_fresh, flush_of_begun, bytes_of_last, bytes_none}
use Rattle.dirac_arith.proofs.Tails.{roomy}
use Rattle.dirac_arith.proofs.encoder.Encoder.finish.Goals as goal
use Rattle.dirac_arith.proofs.encoder.Encoder.finish.Goals.{else-range-eq65535-via-then-range-eq65535+else-is_fresh, else-range-eq65535-via-else-range-eq65535}

pub returns-then-is_fresh : goal.returns-then-is_fresh
returns-then-is_fresh c =
    λ ds there e.
    let view = c.self.view_is ∙ e in
    let full = sym (ap (λ (s : Interval). s.range) view) ∙ c.if-range-eq65535.true in
    let none = c.if-is_fresh.ensures.doublings.0 refl in
    let still = sym (ap (λ (s : Interval). s.doublings) view) ∙ sym c.in_ok-write.ensures.doublings ∙ none in
    c.into_bytes.ensures ∙ bytes_none c.write.new.self.doublings _ none ∙ sym (flush_of_fresh ds there full still)

pub overflow_sub-range : goal.overflow_sub-range
overflow_sub-range c =
    let gap = c.gap-gap.result in
    let top = one_shl (16 - gap) 32 (omega (arith, c.gap-gap.ensures.at_least_2)) in
    let low = pow-le-pow_right {n = 2} (omega arith) {i = 16 - gap} {j = 14} (omega (arith, c.gap-gap.ensures.at_least_2)) in
    omega (arith, c.self.invariant.wide)

pub advance-requires-clause-amount : goal.advance-requires-clause-amount
advance-requires-clause-amount c =
    let gap = c.gap-gap.result in
    let top = one_shl (16 - gap) 32 (omega (arith, c.gap-gap.ensures.at_least_2)) in
    let low = pow-le-pow_right {n = 2} (omega arith) {i = 16 - gap} {j = 14} (omega (arith, c.gap-gap.ensures.at_least_2)) in
    let some = pow_pos (16 - gap) in
    let room = roomy c.write.new.self.register c.write.new.self.pending c.self.inside.range c.in_ok-write.ensures.register c.self.invariant.narrow in
    omega (arith, c.self.invariant.wide)

pub write-requires-2 : goal.write-requires-2
write-requires-2 c =
    let gap = c.gap-gap.result in
    let tail = c.write.new.self in
    let range = c.self.inside.range in
    let top = one_shl (16 - gap) 32 (omega (arith, c.gap-gap.ensures.at_least_2)) in
    let low = pow-le-pow_right {n = 2} (omega arith) {i = 16 - gap} {j = 14} (omega (arith, c.gap-gap.ensures.at_least_2)) in
    let some = pow_pos (16 - gap) in
    let wide = c.self.invariant.wide in
    let written = c.in_ok-write.ensures in
    let within : tail.value + range ≤ 0xFFFF * 2 ^ tail.doublings = rw (written.value, written.doublings) c.self.invariant.within in
    let full = pow-add 2 tail.doublings gap in
    let amount = range - 1 * 2 ^ (16 - gap) % 4294967296 in
    let h = mul-le-mul_right {m = tail.value + amount + 1} {n = 0xFFFF * 2 ^ tail.doublings} (2 ^ gap) (omega arith) in
    let positive = pow_pos gap in
    let P : Waiting → Type 0 = λ t. t.value < 0xFFFF * 2 ^ t.doublings in
    subst P (sym c.advance.ensures) (rw full (omega arith))

pub returns : goal.returns
returns c =
    λ ds there e.
    let view = c.self.view_is ∙ e in
    let gap = c.gap-gap.result in
    let a = c.self.inside in
    let s = exact_interval a in
    let facts = c.gap-gap.ensures in
    let written = c.in_ok-write.ensures in
    let top = one_shl (16 - gap) 32 (omega (arith, facts.at_least_2)) in
    let low = pow-le-pow_right {n = 2} (omega arith) {i = 16 - gap} {j = 14} (omega (arith, facts.at_least_2)) in
    let wide = c.self.invariant.wide in
    let last = bytes_of_last s gap facts.at_least_2 facts.at_most_9 (rw written.doublings at facts.exact) (omega arith) in
    let begun : (interval_of ds).range ≡ 0xFFFF → (interval_of ds).doublings ≡ 0 → ⊥ = λ full none.
    let full_here : a.range ≡ 0xFFFF = ap (λ (s : Interval). s.range) view ∙ full in
    let none_here = written.doublings ∙ ap (λ (s : Interval). s.doublings) view ∙ none in
    elim c.else-range-eq65535.branch [
      | else-range-eq65535-via-then-range-eq65535+else-is_fresh w ↦ both_ways w.is_fresh.result w.if-is_fresh.false (w.is_fresh.ensures.doublings.1 none_here)
      | else-range-eq65535-via-else-range-eq65535 w ↦ w.if-range-eq65535.false full_here
    ] in
    let same = ap flushed_interval view ∙ flush_of_begun ds begun in
    let second = c.in_ok-write-2.ensures in
    let advanced = c.advance.ensures in
    let value_is : c.write-2.new.self.value ≡ (s.low + (s.range - 2 ^ (16 - gap))) * 2 ^ gap =
    second.value ∙ ap (λ (t : Waiting). t.value) advanced
    ∙ ap (λ x. (x + (a.range - 1 * 2 ^ (16 - gap) % 4294967296)) * 2 ^ gap) written.value
    ∙ ap (λ x. (a.tail.value + (a.range - x)) * 2 ^ gap) top in
    let doublings_is : c.write-2.new.self.doublings ≡ s.doublings + gap =
    second.doublings ∙ ap (λ (t : Waiting). t.doublings) advanced ∙ ap (λ x. x + gap) written.doublings in
    c.into_bytes-2.ensures
    ∙ ap (λ d. number_in_bytes (d / 8) (c.write-2.new.self.value / 65536)) doublings_is
    ∙ ap (λ v. number_in_bytes ((s.doublings + gap) / 8) (v / 65536)) value_is
    ∙ last ∙ same
