-- Claims and seats as callers see them, and what each call makes of a seat.
use Rattle.std.specs.Prelude.{if◌then◌else◌, ◌≡◌, ℕ, ◌+◌, ◌-◌, ◌<◌, nat_lt, Bool, true, false}
use Rattle.std.specs.Prelude.{List, [], ◌∷◌, ◌++◌, All, Option, Some, None}
use Rattle.atomic_table.specs.Seated.{TableId}

-- which claims they are, with their numbers of rows and of seats
pub record Claims : Type 0 where
  pub table : TableId
  pub rows : ℕ
  pub seats : ℕ

-- the claims that a seat comes from, the numbers that it keeps, its shares, those given up in it, and if it had None
pub record Seated : Type 0 where
  pub claims : Claims
  pub kept : List ℕ
  pub shares : ℕ
  pub given_up : ℕ
  pub had_none : Bool

-- a seat that keeps no number, with that many shares
abbrev pub new_seat : Claims → ℕ → Seated
new_seat c shares = record { claims = c; kept = []; shares = shares; given_up = 0; had_none = false }

-- the first seat has all shares
abbrev pub first_seat : Claims → Seated
first_seat c = new_seat c c.seats

-- the seat that a split makes
abbrev pub split_off : Claims → Seated
split_off c = new_seat c 1

-- what a split leaves
abbrev pub less_a_share : Seated → Seated
less_a_share s =
    record { claims = s.claims; kept = s.kept; shares = s.shares - 1; given_up = s.given_up; had_none = s.had_none }

-- what a join makes: the other's numbers are kept too, and its shares are given up
abbrev pub taking_over : Seated → Seated → Seated
taking_over s other = record {
  claims = s.claims;
  kept = s.kept ++ other.kept;
  shares = s.shares;
  given_up = s.given_up + (other.shares + other.given_up);
  had_none = s.had_none;
}

-- a seat that keeps one more number, and had None where that is no row
abbrev pub keeping : Seated → ℕ → Seated
keeping s n = record {
  claims = s.claims;
  kept = s.kept ++ n ∷ [];
  shares = s.shares;
  given_up = s.given_up;
  had_none = if nat_lt n s.claims.rows then false else true;
}

-- a number is drawn, greater than all that the seat keeps. It is the answer where it is a row; else the answer is None
abbrev pub DrawsNumber : Seated → Option ℕ → Seated → Type 0
DrawsNumber s answer t =
    (n : ℕ) × All (λ k. k < n) s.kept × (answer ≡ if nat_lt n s.claims.rows then Some n else None) × (t ≡ keeping s n)
