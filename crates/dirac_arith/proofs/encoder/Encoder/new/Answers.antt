use Rattle.std.proofs.Common.{ℕ, ◌+◌, ◌*◌, ◌^◌, ◌≤◌, sym, subst, arith}
use Rattle.std.proofs.lemmas.List.{get_or-replicate}
use Rattle.dirac_arith.specs.Tail.{Waiting}
use Rattle.dirac_arith.proofs.encoder.Encoder.new.Goals as goal

pub invariant_of-result : goal.invariant_of-result
invariant_of-result c =
    let W : Waiting → Type 0 = λ t. t.value + 0xFFFF ≤ 0xFFFF * 2 ^ t.doublings in
    let R : Waiting → Type 0 = λ t. t.register + 0xFFFF ≤ 2 ^ (17 + t.pending) in
    let N : Waiting → Type 0 = λ t. t.pending ≤ 47 in
    record {
      wide = omega arith;
      narrow = omega arith;
      within = subst W (sym c.new.ensures) (omega arith);
      register = subst R (sym c.new.ensures) (omega arith);
      pending = subst N (sym c.new.ensures) (omega arith);
      probabilities = λ i below.
          let P : ℕ → Type 0 = λ x. (254 ≤ x) × (x ≤ 65281) in
          subst P (sym (get_or-replicate 38 i 0x8000 0 below)) (omega arith, omega arith);
    }
