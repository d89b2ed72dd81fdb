-- Lists that are written one after the other.
use Rattle.std.proofs.Common.{◌≡◌, Bool, List, [], ◌∷◌, ◌++◌, refl}
use Rattle.dirac_arith.specs.Interval.{Decision}
use Rattle.dirac_arith.specs.Written.{flush}
use Rattle.dirac_blocks.specs.Written.{with_block, with_lists}

pub lists_append : (xs ys : List (List Decision)) (bits : List Bool) → with_lists (xs ++ ys) bits ≡ with_lists ys (with_lists xs bits)
lists_append [] ys bits = refl
lists_append (ds ∷ xs) ys bits = lists_append xs ys (with_block (flush ds) bits)
