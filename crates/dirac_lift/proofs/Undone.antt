-- A step is undone by its opposite.
use Rattle.std.proofs.Common.{◌≡◌, ℤ, pos, Bool, true, false, not, ◌/◌, ◌%◌, ◌≤◌, List, length, get_or, arith, ap, sym, ◌∙◌}
use Rattle.std.proofs.lemmas.Int.{ints}
use Rattle.dirac_lift.specs.Lifting.{Step, own, change_at, moved, lift, opposite}
use Rattle.dirac_lift.proofs.Lifted.{LiftedBelow, below_end, lift_below, change_same}

moved_back : (minus : Bool) (v d : ℤ) → moved (not minus) (moved minus v d) d ≡ v
moved_back true v d = omega (arith, ints)
moved_back false v d = omega (arith, ints)

moved_there : (minus : Bool) (v d : ℤ) → moved minus (moved (not minus) v d) d ≡ v
moved_there true v d = omega (arith, ints)
moved_there false v d = omega (arith, ints)

pub lift_back : (s : Step) (xs : List ℤ) → s.parity ≤ 1 → length xs % 2 ≡ 0 → lift (opposite s) (lift s xs) ≡ xs
lift_back s xs p even =
    let b : LiftedBelow s xs (lift s xs) (length xs / 2) = lift_below s xs p even in
    sym (below_end (opposite s) (lift s xs) xs (length xs / 2)
    (record {
      len = sym b.len;
      kept = λ m. sym (b.kept m);
      done = λ m l.
          sym (ap (λ a. moved (not s.minus) a (change_at s (lift s xs) m)) (b.done m l)
          ∙ ap (λ d. moved (not s.minus) (moved s.minus (get_or xs (own s.parity m) (pos 0)) (change_at s xs m)) d) (change_same s xs (lift s xs) m b.len b.kept)
          ∙ moved_back s.minus (get_or xs (own s.parity m) (pos 0)) (change_at s xs m));
      rest = λ m l. sym (b.rest m l);
    })
    (omega (arith, b.len)) p (omega (arith, b.len, even)))

pub lift_there : (s : Step) (xs : List ℤ) → s.parity ≤ 1 → length xs % 2 ≡ 0 → lift s (lift (opposite s) xs) ≡ xs
lift_there s xs p even =
    let b : LiftedBelow (opposite s) xs (lift (opposite s) xs) (length xs / 2) = lift_below (opposite s) xs p even in
    sym (below_end s (lift (opposite s) xs) xs (length xs / 2)
    (record {
      len = sym b.len;
      kept = λ m. sym (b.kept m);
      done = λ m l.
          sym (ap (λ a. moved s.minus a (change_at s (lift (opposite s) xs) m)) (b.done m l)
          ∙ ap (λ d. moved s.minus (moved (not s.minus) (get_or xs (own s.parity m) (pos 0)) (change_at s xs m)) d) (change_same s xs (lift (opposite s) xs) m b.len b.kept)
          ∙ moved_there s.minus (get_or xs (own s.parity m) (pos 0)) (change_at s xs m));
      rest = λ m l. sym (b.rest m l);
    })
    (omega (arith, b.len)) p (omega (arith, b.len, even)))
