-- Lists of steps over all columns.
use Rattle.std.proofs.Common.{ℕ, ℤ, List, [], ◌∷◌, refl, ap, ◌∙◌, subst, sym}
use Rattle.dirac_lift.specs.Lifting.{Step, lift}
use Rattle.dirac_lift.specs.Places.{ColumnsBecome, ColumnsSafe, ColumnsSmall}
use Rattle.dirac_lift.specs.Safety.{Safe}
use Rattle.dirac_lift.specs.Wavelets.{run}

pub safe_first : (s : Step) (ss : List Step) (w h : ℕ) (xs : List ℤ) → ColumnsSafe (s ∷ ss) w h xs → ColumnsSmall w h xs
safe_first s ss w h xs safe = record { evens = λ x l. (safe.each x l).1; odds = λ x l. (safe.each x l).2 }

pub safe_rest : (s : Step) (ss : List Step) (w h : ℕ) (xs ys : List ℤ) → ColumnsSafe (s ∷ ss) w h xs → ColumnsBecome (lift s) w h xs ys → ColumnsSafe ss w h ys
safe_rest s ss w h xs ys safe become = record { each = λ x l. subst (Safe ss) (sym (become.each x l)) ((safe.each x l).3) }

pub become_none : (w h : ℕ) (xs : List ℤ) → ColumnsBecome (run []) w h xs xs
become_none w h xs = record { len = refl; each = λ x l. refl }

pub become_run : (s : Step) (ss : List Step) (w h : ℕ) (xs ys zs : List ℤ) → ColumnsBecome (lift s) w h xs ys → ColumnsBecome (run ss) w h ys zs → ColumnsBecome (run (s ∷ ss)) w h xs zs
become_run s ss w h xs ys zs first rest = record {
  len = rest.len ∙ first.len;
  each = λ x l. rest.each x l ∙ ap (run ss) (first.each x l);
}
