use Rattle.std.proofs.Common.{◌≡◌, ℕ, ℤ, pos, ◌+◌, ◌*◌, ◌^◌, ◌+ℤ◌, to_z, of_z, refl, arith, ◌∙◌}
use Rattle.std.specs.Int.{w64}
use Rattle.std.proofs.Math.Nat.{mul-add}
use Rattle.std.proofs.lemmas.Int.{ints, to_z-of_z}
use Rattle.dirac_vectors.proofs.Means.{passed}
use Rattle.dirac_decide.proofs.predictor.moved_row.Goals as goal

further : (scale x k : ℕ) (v : ℤ) → (pos (scale * x) +ℤ v) +ℤ pos (scale * k) ≡ pos (scale * (x + k)) +ℤ v
further scale x k v = omega (arith, ints, mul-add scale x k)

pub returns-clause-value : goal.returns-clause-value
returns-clause-value c =
    let q = c.args.precision in
    let v = c.args.moved.now.vector in
    let across : to_z w64 (of_z w64 c.position-across.result) ≡ pos (2 ^ q * c.args.x) +ℤ v.x =
    to_z-of_z w64 _ (record { sfits = c.position-across.type_inv }) ∙ c.position-across.ensures.value ∙ rw (passed v.x c.requires.vector.x) refl in
    let down : to_z w64 (of_z w64 c.position-down.result) ≡ pos (2 ^ q * c.args.y) +ℤ v.y =
    to_z-of_z w64 _ (record { sfits = c.position-down.type_inv }) ∙ c.position-down.ensures.value ∙ rw (passed v.y c.requires.vector.y) refl in
    λ k l. c.sub_row.ensures.value k l ∙ rw (across, down, further (2 ^ q) c.args.x k v.x) refl
