-- What the rows of blocks add to the sums of a row.
use Rattle.std.proofs.Common.{◌≡◌, ℕ, ℤ, pos, ◌+◌, ◌*◌, ◌<◌, ◌≤◌, ◌+ℤ◌, List, get_or, arith, inl, inr, ap, ◌∙◌}
use Rattle.std.proofs.lemmas.Bool.{cases_lt}
use Rattle.std.proofs.lemmas.Int.{ints}
use Rattle.dirac_obmc.specs.declared.direction.Direction.{Direction}
use Rattle.dirac_obmc.specs.Adding.{Adds}
use Rattle.dirac_obmc.specs.Compensation.{Compensation, blended, blocks_across, blocks_down, term, signed_total, y_length, y_separation}
use Rattle.dirac_obmc.specs.Directions.{IsDown}
use Rattle.dirac_obmc.specs.Weights.{block_margin}
use Rattle.dirac_obmc.proofs.Added.{row_nothing}
use Rattle.dirac_obmc.proofs.Shares.{share_before, share_behind}
use Rattle.dirac_obmc.proofs.Totals.{total_nothing, total_stays}

-- rows of blocks that end above the place
pub nothing_above : (m : Compensation) (rows : Direction) (y n x : ℕ) → IsDown m rows → ((j : ℕ) → j < n → j * rows.separation + rows.length ≤ y + block_margin rows.length rows.separation)
    → signed_total (λ j. signed_total (term m x y j) (blocks_across m)) n ≡ pos 0
nothing_above m rows y n x h above =
    total_nothing (λ j. signed_total (term m x y j) (blocks_across m)) n
    (λ j l. row_nothing m x y j (share_behind j (blocks_down m) (y_length m) (y_separation m) y
    (omega (arith, above j l, ap (λ s. j * s) h.separation_is, h.length_is, h.separation_is))))

-- rows of blocks that begin below it
pub nothing_below : (m : Compensation) (rows : Direction) (y n e x : ℕ) → IsDown m rows → ((j : ℕ) → e ≤ j → j < rows.count → y + block_margin rows.length rows.separation < j * rows.separation) → e ≤ n → n ≤ blocks_down m
    → blended m x y ≡ signed_total (λ j. signed_total (term m x y j) (blocks_across m)) n
nothing_below m rows y n e x h below past within =
    total_stays (λ j. signed_total (term m x y j) (blocks_across m)) n (blocks_down m) within
    (λ j a l. row_nothing m x y j (share_before j (blocks_down m) (y_length m) (y_separation m) y
    (omega (arith, below j (omega arith) (omega (arith, h.count_is)), ap (λ s. j * s) h.separation_is, h.length_is, h.separation_is))))

-- the first row of blocks that holds a place of the plane is one of them
pub first_within : (m : Compensation) (rows : Direction) (y n : ℕ) → IsDown m rows → y < m.height → ((j : ℕ) → j < n → j * rows.separation + rows.length ≤ y + block_margin rows.length rows.separation) → n ≤ blocks_down m
first_within m rows y n h inside above = elim (cases_lt (blocks_down m) n) [
  | inr l ↦ l
  | inl l ↦ absurd (omega (arith, above (blocks_down m) l, h.covers, ap (λ k. k * rows.separation) h.count_is, h.overlap.some, h.overlap.least))
]

-- sums that began at 0 are what was added
pub added_alone : (f : ℕ → ℤ) (n x : ℕ) (xs ys : List ℤ) → Adds f n xs ys → x < n → ((k : ℕ) → get_or xs k (pos 0) ≡ pos 0) → get_or ys x (pos 0) ≡ f x
added_alone f n x xs ys a l adds_zero =
    a.each x l ∙ ap (λ z. z +ℤ f x) (adds_zero x) ∙ zero_more (f x)
  where
    zero_more : (z : ℤ) → pos 0 +ℤ z ≡ z
    zero_more z = omega (arith, ints)
