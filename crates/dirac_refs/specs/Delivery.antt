-- Delivery: decoded pictures wait until more than four do, and leave by the order of their keys.
use Rattle.std.specs.Prelude.{ℕ, zero, suc, ℤ, pos, ◌+◌, ◌-◌, ◌%◌, ◌^◌, ◌<◌, ◌≤ℤ◌, ◌<ℤ◌, int_lt, nat_le, if◌then◌else◌}
use Rattle.std.specs.Prelude.{List, [], ◌∷◌, ◌++◌, Option, None, Some, length, slice_get}
use Rattle.std.specs.Int.{cast_signed, w32}
use Rattle.std.specs.List.{remove}
use Rattle.dirac_common.specs.declared.picture.Picture.{Picture}
use Rattle.dirac_refs.specs.declared.delivery.TheConstants.{MOST_WAITING}
use Rattle.dirac_refs.specs.declared.waiting.Waiting.{Waiting}

-- a picture's key: its number minus the sequence's first one, modulo 2 ^ 32, read as signed
abbrev pub key_of : ℕ → ℕ → ℤ
key_of first number = cast_signed w32 ((number + (2 ^ 32 - first)) % 2 ^ 32)

-- the key at a place of the waiting list
abbrev pub key_in : Option Waiting → ℤ
key_in None = pos 0
key_in (Some w) = w.key

-- the key of waiting picture n
abbrev pub key_at : List Waiting → ℕ → ℤ
key_at ws n = key_in (slice_get ws n)

-- the place of the least key among those at 0 to n, the first of equal ones
unfoldable pub least_among : List Waiting → ℕ → ℕ
least_among ws zero = 0
least_among ws (suc n) = if int_lt (key_at ws (suc n)) (key_at ws (least_among ws n)) then suc n else least_among ws n

-- the place of the picture that leaves first: the least key, the earlier pushed at a tie
abbrev pub least_place : List Waiting → ℕ
least_place ws = least_among ws (length ws - 1)

-- no waiting picture has a key less than that of the one at this place, and each earlier one has a greater key
pub record LeavesFirst (ws : List Waiting) (place : ℕ) : Type 0 where
  pub waits : place < length ws
  pub least : (n : ℕ) → n < length ws → key_at ws place ≤ℤ key_at ws n
  pub earliest : (n : ℕ) → n < place → key_at ws place <ℤ key_at ws n

-- where pictures wait, the least place is that of the one that leaves first
abbrev pub LeastLeavesFirst : Type 0
LeastLeavesFirst = (ws : List Waiting) → 0 < length ws → LeavesFirst ws (least_place ws)

-- the picture of a place, if there is one
abbrev pub picture_of : Option Waiting → List Picture
picture_of None = []
picture_of (Some w) = w.picture ∷ []

-- the picture that leaves first; none where none waits
abbrev pub least : List Waiting → List Picture
least ws = picture_of (slice_get ws (least_place ws))

-- the pictures that wait on when the first one leaves
abbrev pub others : List Waiting → List Waiting
others ws = remove ws (least_place ws)

-- pictures that wait on, and those that have left, in this order
pub record Leaving : Type 0 where
  pub waiting : List Waiting
  pub gone : List Picture

-- the pictures that wait on and those that leave: where more than four wait, one leaves
abbrev pub delivered : List Waiting → Leaving
delivered ws =
    if nat_le (length ws) MOST_WAITING then record { waiting = ws; gone = [] }
    else record { waiting = others ws; gone = least ws }

-- that many of the waiting pictures, as they leave one after another
abbrev pub flushed_by : ℕ → List Waiting → List Picture
flushed_by zero ws = []
flushed_by (suc n) ws = least ws ++ flushed_by n (others ws)

-- all waiting pictures, in the order in which they leave
abbrev pub flushed : List Waiting → List Picture
flushed ws = flushed_by (length ws) ws

-- the pictures that leave while more are pushed one after another behind waiting ones, and the pictures that wait then
abbrev pub pushed_all : List Waiting → List Waiting → Leaving
pushed_all waiting [] = record { waiting = waiting; gone = [] }
pushed_all waiting (w ∷ ws) =
    let now = delivered (waiting ++ w ∷ []) in
    let later = pushed_all now.waiting ws in
    record { waiting = later.waiting; gone = now.gone ++ later.gone }

-- the pictures of a sequence that leave while all its pictures are pushed one after another
abbrev pub deliver : List Waiting → List Picture
deliver ws = (pushed_all [] ws).gone

-- the pictures of a sequence in the order of delivery, the rest at its end
abbrev pub in_delivery_order : List Waiting → List Picture
in_delivery_order ws = let all = pushed_all [] ws in all.gone ++ flushed all.waiting
