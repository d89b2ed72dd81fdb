-- Orders and sums of the numbers that a decoder passes on: places, rooms, counts of faults and of pictures.
use Rattle.std.proofs.Common.{◌≡◌, ℕ, ◌+◌, ◌-◌, ◌^◌, ◌<◌, ◌≤◌, Fits, arith}
use mir.Syntax.{w64}
use Rattle.dirac_io.specs.Faults.{Rose}

-- ---- orders

pub le_itself : (a : ℕ) → a ≤ a
le_itself a = omega arith

pub le_same : (a b : ℕ) → b ≡ a → a ≤ b
le_same a b same = omega arith

pub le_on : (a b c : ℕ) → a ≤ b → b ≤ c → a ≤ c
le_on a b c first second = omega arith

pub le_from : (a b c : ℕ) → b ≡ a → b ≤ c → a ≤ c
le_from a b c same more = omega arith

pub le_between : (a b c d e : ℕ) → b ≡ a → b ≡ c → e ≡ d → c ≤ d → a ≤ e
le_between a b c d e first second third more = omega arith

pub below_on : (a b c : ℕ) → a ≤ b → b < c → a < c
below_on a b c first second = omega arith

-- ---- what is left of a source, behind a place and the bytes ahead of it

pub room_same : (a b left : ℕ) → b ≡ a → b + left ≤ a + left
room_same a b left same = omega arith

pub room_from : (a b d left : ℕ) → b ≡ a → d ≤ b + left → d ≤ a + left
room_from a b d left same less = omega arith

pub room_below : (a b left n : ℕ) → b ≡ a → a + left < n → b + left < n
room_below a b left n same below = omega arith

pub place_below : (at ahead left n : ℕ) → at + ahead + left < n → at < n
place_below at ahead left n below = omega arith

-- before the first unit
pub room_begins : (left : ℕ) → 0 + left ≤ left
room_begins left = omega arith

-- a place before the next one
pub unit_below : (place at ahead left room n : ℕ) → place ≤ at → at + ahead + left ≤ room → room < n → place < n
unit_below place at ahead left room n before less below = omega arith

-- ---- counts of faults

-- a count that rose later rose since
pub rose_since : (a b c : ℕ) → a ≤ b → Rose b c → Rose a c
rose_since a b c first rose = omega arith

-- ---- counts of pictures

-- one more was given, and fewer can be given still
pub fewer_left : (a b : ℕ) → b ≡ a + 1 → b < 2 ^ 64 → 2 ^ 64 - b < 2 ^ 64 - a
fewer_left a b next fits = omega arith

pub none_more : (index index' waiting : ℕ) → index ≤ index' → index + 0 + waiting ≤ index' + waiting
none_more index index' waiting grows = omega arith

pub one_more : (index index' shown waiting waiting' : ℕ) → index' ≡ index + 1 → shown + waiting' ≤ waiting + 1 → index + shown + waiting' ≤ index' + waiting
one_more index index' shown waiting waiting' next more = omega arith

pub one_more_at_most : (a b : ℕ) → a ≤ b → 0 + a ≤ b + 1
one_more_at_most a b less = omega arith

-- no more pictures were given, and wait, than units were taken
module _ (given shown counted waiting waiting' index index' : ℕ) (before : given + waiting ≤ index) (same : shown ≡ counted) (after : index + counted + waiting' ≤ index' + waiting) where
  pub counted_on : given + shown + waiting' ≤ index'
  counted_on = omega arith

  pub count_fits : index' < 2 ^ 64 → given + shown < 2 ^ 64
  count_fits fits = omega arith

  pub given_fits : index' < 2 ^ 64 → Fits w64 (given + shown)
  given_fits fits = omega arith
