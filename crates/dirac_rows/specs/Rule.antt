-- The rule of shared claims, over their one word and the view of each seat, and what each kind of step makes of a view.
use Rattle.std.specs.Prelude.{if◌then◌else◌, ◌≡◌, ℕ, ◌+◌, ◌-◌, ◌<◌, ◌≤◌, ◌⊎◌, nat_lt, Bool, true, false}
use Rattle.std.specs.Prelude.{List, [], ◌∷◌, ◌++◌, length, slice_index, All}
use mathlib.Core.Option.{some}
use lib.ListN.{get_elem?}
use Rattle.atomic_table.specs.Table.{State, Me, Step}
use Rattle.dirac_rows.specs.Weights.{total, added_below, past_rows, times}
use Rattle.dirac_rows.specs.declared.view.View.{View}
use Rattle.dirac_rows.specs.declared.view.Terms.{Terms}

abbrev pub view : ℕ → ℕ → List ℕ → ℕ → ℕ → Bool → View
view rows seats drawn shares given_up had_none =
    record { rows = rows; seats = seats; drawn = drawn; shares = shares; given_up = given_up; had_none = had_none }

-- the first seat has all shares
abbrev pub first_view : Terms → View
first_view t = view t.rows t.seats [] t.seats 0 false

-- what a claim makes: the number is kept, and None is marked where it is no row
abbrev pub made_by_claim : View → ℕ → View
made_by_claim v n =
    view v.rows v.seats (v.drawn ++ n ∷ []) v.shares v.given_up (if nat_lt n v.rows then false else true)

-- a claim draws the word's number n, which is greater than all that its seat has drawn
abbrev pub Draws : Step (Unit {0}) → Me (Unit {0}) View → ℕ → Me (Unit {0}) View → Type 0
Draws st m n m' = (m' ≡ (made_by_claim m.0 n, m.1)) × All (λ k. k < n) m.0.drawn

-- what a split leaves: one share less
abbrev pub left_by_split : View → View
left_by_split v = view v.rows v.seats v.drawn (v.shares - 1) v.given_up v.had_none

-- what a split makes: one share and nothing else
abbrev pub made_by_split : View → View
made_by_split v = view v.rows v.seats [] 1 0 false

-- what a join makes: the other's numbers are taken over, and its shares are given up
abbrev pub made_by_join : View → View → View
made_by_join v w =
    view v.rows v.seats (v.drawn ++ w.drawn) v.shares (v.given_up + (w.shares + w.given_up)) v.had_none

-- what a join leaves of the other seat
abbrev pub spent_view : View
spent_view = view 0 0 [] 0 0 false

-- what holds of the view of each seat that wasn't joined to another
pub record FitsTerms (t : Terms) (v : View) : Type 0 where
  pub rows_of_terms : v.rows ≡ t.rows
  pub seats_of_terms : v.seats ≡ t.seats
  pub has_a_share : 0 < v.shares
  -- a seat that had None keeps a number that is no row
  pub none_after_rows : v.had_none ≡ true → 0 < past_rows t.rows v.drawn
  -- the seat drew at most one such number itself, and so did each that was joined to it
  pub past_rows_bounded : past_rows t.rows v.drawn ≤ v.given_up + (if v.had_none then 1 else 0)

-- Each number below the word stands once in the views' lists together, and no other number stands there: the totals are
-- equal under every weight f. The shares, with those given up, sum to the number of seats.
pub record KeepsRule (t : Terms) (s : State (Unit {0}) View) : Type 0 where
  pub has_one_word : length s.words ≡ 1
  pub each_number_once : (f : ℕ → ℕ) → total (λ v. total f v.drawn) s.views ≡ added_below f (slice_index s.words 0)
  pub shares_sum : total (λ v. v.shares + v.given_up) s.views ≡ t.seats
  pub each_fits : (seat : ℕ) (v : View) → get_elem? s.views seat ≡ some v → (v ≡ spent_view) ⊎ FitsTerms t v

-- a seat looks: nothing changes, and it keeps no number twice, also of the seats that were joined to it
abbrev pub Looks : Step (Unit {0}) → Me (Unit {0}) View → ℕ → Me (Unit {0}) View → Type 0
Looks st m n m' = (m' ≡ m) × ((r : ℕ) → times r m.0.drawn ≤ 1)
