-- The keys of merged sequences: where they lie, and the numbers that they stand for.
use Rattle.std.proofs.Common.{◌≡◌, ◌==◌, inl, inr, ℕ, ℤ, suc, pos, negsuc, ◌+ℤ◌, ◌+◌, ◌-◌, ◌%◌, ◌<◌, ◌≤◌, ◌^◌, true, List, [], ◌∷◌, length, map, take, refl, sym, ◌∙◌, ap, subst, arith}
use Rattle.std.specs.Prelude.{int_le, nat_eq, ◌≤ℤ◌}
use Rattle.std.specs.Cmp.Lexicographic.{same_text}
use Rattle.std.specs.Int.{cast_signed, cast_unsigned, int_max, int_min, w32}
use Rattle.std.specs.List.{All, AllByRecursion, starts_with}
use Rattle.std.proofs.Math.Facts.{to_z-neg}
use Rattle.std.proofs.Math.Seq.{take-length}
use Rattle.std.proofs.lemmas.Bool.{and_parts, cases_lt, eqb-true}
use Rattle.std.proofs.lemmas.Int.{int_max_is, int_min_is, ints, of_z-to_z, to_z_pos}
use Rattle.std.proofs.lemmas.List.Elements.{All-cons, All-from_recursion, All-nil}
use Rattle.dirac_refs.specs.declared.waiting.Waiting.{Waiting}
use Rattle.dirac_refs.specs.Delivery.{key_of}
use Rattle.dirac_content.specs.StreamState.{is_same}
use Rattle.dirac_edit_laws.specs.Joined.{Group, Keyed, high, low, may_merge, new_number, shift}
use Rattle.dirac_edit_laws.specs.Later.{AreNotBefore}
use Rattle.dirac_edit_laws.proofs.Onward.{onward}

-- ---- numbers

-- how far numbers are moved on, where a later key is moved by so much
abbrev pub way : ℕ → ℕ → ℕ → ℕ
way former later by = former + by + (2 ^ 32 - later)

-- the two halves of the numbers below 2 ^ 32, read as signed
pub signed_high : (n : ℕ) → 2 ^ 31 ≤ n → n < 2 ^ 32 → cast_signed w32 n ≡ negsuc (2 ^ 32 - suc n)
signed_high n high small =
    let k = 2 ^ 32 - suc n in
    let same : n ≡ 2 ^ 32 - suc k = omega arith in
    ap (cast_signed w32) same ∙ to_z-neg w32 k (omega arith)

low_moves : (m by : ℕ) → (pos m +ℤ pos by) ≤ℤ pos (2 ^ 31 - 1) → cast_signed w32 ((m + by) % 2 ^ 32) ≡ pos m +ℤ pos by
low_moves m by inside =
    let few : m + by < 2 ^ 31 = omega (arith, ints) in
    let same : (m + by) % 2 ^ 32 ≡ m + by = omega arith in
    ap (cast_signed w32) same ∙ to_z_pos w32 (m + by) few

stays_below : (m by : ℕ) → m + by < 2 ^ 32 → negsuc (2 ^ 32 - suc (m + by)) ≡ negsuc (2 ^ 32 - suc m) +ℤ pos by
stays_below m by few = omega (arith, ints)

comes_above : (m by : ℕ) → m < 2 ^ 32 → 2 ^ 32 ≤ m + by → pos (m + by - 2 ^ 32) ≡ negsuc (2 ^ 32 - suc m) +ℤ pos by
comes_above m by small many = omega (arith, ints)

high_moves : (m by : ℕ) → 2 ^ 31 ≤ m → m < 2 ^ 32 → by < 2 ^ 31 → cast_signed w32 ((m + by) % 2 ^ 32) ≡ negsuc (2 ^ 32 - suc m) +ℤ pos by
high_moves m by high small less = elim (cases_lt (m + by) (2 ^ 32)) [
  | inl few ↦
      let same : (m + by) % 2 ^ 32 ≡ m + by = omega arith in
      ap (cast_signed w32) same ∙ signed_high (m + by) (omega arith) few ∙ stays_below m by few
  | inr many ↦
      let same : (m + by) % 2 ^ 32 ≡ m + by - 2 ^ 32 = omega arith in
      ap (cast_signed w32) same ∙ to_z_pos w32 (m + by - 2 ^ 32) (omega arith) ∙ comes_above m by small many
]

pub key_moves : (m by : ℕ) → m < 2 ^ 32 → by < 2 ^ 31 → (cast_signed w32 m +ℤ pos by) ≤ℤ pos (2 ^ 31 - 1) → cast_signed w32 ((m + by) % 2 ^ 32) ≡ cast_signed w32 m +ℤ pos by
key_moves m by small less inside = elim (cases_lt m (2 ^ 31)) [
  | inl low ↦
      let here : cast_signed w32 m ≡ pos m = to_z_pos w32 m low in
      low_moves m by (subst (λ z. (z +ℤ pos by) ≤ℤ pos (2 ^ 31 - 1)) here inside) ∙ ap (λ z. z +ℤ pos by) (sym here)
  | inr high ↦ high_moves m by high small less ∙ ap (λ z. z +ℤ pos by) (sym (signed_high m high small))
]

numbers_back : (former later by n : ℕ) → former < 2 ^ 32 → later < 2 ^ 32 → ((n + (former + by + (2 ^ 32 - later))) % 2 ^ 32 + (2 ^ 32 - former)) % 2 ^ 32 ≡ ((n + (2 ^ 32 - later)) % 2 ^ 32 + by) % 2 ^ 32
numbers_back former later by n f l = omega arith

numbers_there : (former later by n : ℕ) → later < 2 ^ 32 → (former + ((n + (2 ^ 32 - later)) % 2 ^ 32 + by) % 2 ^ 32) % 2 ^ 32 ≡ (n + (former + by + (2 ^ 32 - later))) % 2 ^ 32
numbers_there former later by n l = omega arith

-- a later picture's number, moved on, has its key, moved; and this is its new number
pub record NumberMoves (former later by n : ℕ) : Type 0 where
  pub key : key_of former (onward (way former later by) n) ≡ key_of later n +ℤ pos by
  pub number : new_number former (key_of later n +ℤ pos by) ≡ onward (way former later by) n

pub number_moves : (former later by n : ℕ) → former < 2 ^ 32 → later < 2 ^ 32 → by < 2 ^ 31 → (key_of later n +ℤ pos by) ≤ℤ pos (2 ^ 31 - 1) → NumberMoves former later by n
number_moves former later by n f l less inside =
    let m = (n + (2 ^ 32 - later)) % 2 ^ 32 in
    let moved : cast_signed w32 ((m + by) % 2 ^ 32) ≡ cast_signed w32 m +ℤ pos by = key_moves m by (omega arith) less inside in
    record {
      key = ap (cast_signed w32) (numbers_back former later by n f l) ∙ moved;
      number =
          ap (λ z. (former + cast_unsigned w32 z) % 2 ^ 32) (sym moved)
          ∙ ap (λ x. (former + x) % 2 ^ 32) (of_z-to_z w32 ((m + by) % 2 ^ 32) (omega arith))
          ∙ numbers_there former later by n l;
    }

-- no key is above 2 ^ 31 - 1
pub key_inside : (later n : ℕ) → (key_of later n +ℤ pos 0) ≤ℤ pos (2 ^ 31 - 1)
key_inside later n = below ((n + (2 ^ 32 - later)) % 2 ^ 32) (omega arith)
  where
    below : (m : ℕ) → m < 2 ^ 32 → (cast_signed w32 m +ℤ pos 0) ≤ℤ pos (2 ^ 31 - 1)
    below m small = omega (arith, ints)

pub add_none : (z : ℤ) → z +ℤ pos 0 ≡ z
add_none z = omega (arith, ints)

-- ---- bounds

-- the keys alone
abbrev pub keys_in : List Keyed → List ℤ
keys_in ks = map (λ (k : Keyed). k.key) ks

abbrev pub AreAtMost : ℤ → List ℤ → Type 0
AreAtMost top zs = AllByRecursion (λ z. z ≤ℤ top) zs

abbrev pub AreAtLeast : ℤ → List ℤ → Type 0
AreAtLeast bottom zs = AllByRecursion (λ z. bottom ≤ℤ z) zs

max_first : (a b top : ℤ) → int_max a b ≤ℤ top → a ≤ℤ top
max_first a b top h = omega (arith, ints, int_max_is a b)

max_second : (a b top : ℤ) → int_max a b ≤ℤ top → b ≤ℤ top
max_second a b top h = omega (arith, ints, int_max_is a b)

min_first : (a b bottom : ℤ) → bottom ≤ℤ int_min a b → bottom ≤ℤ a
min_first a b bottom h = omega (arith, ints, int_min_is a b)

min_second : (a b bottom : ℤ) → bottom ≤ℤ int_min a b → bottom ≤ℤ b
min_second a b bottom h = omega (arith, ints, int_min_is a b)

pub below_high : (ks : List Keyed) (top : ℤ) → high ks ≤ℤ top → AreAtMost top (keys_in ks)
below_high [] top h = tt
below_high (k ∷ ks) top h = (max_first k.key (high ks) top h, below_high ks top (max_second k.key (high ks) top h))

pub above_low : (ks : List Keyed) (bottom : ℤ) → bottom ≤ℤ low ks → AreAtLeast bottom (keys_in ks)
above_low [] bottom h = tt
above_low (k ∷ ks) bottom h = (min_first k.key (low ks) bottom h, above_low ks bottom (min_second k.key (low ks) bottom h))

high_positive : (ks : List Keyed) → pos 0 ≤ℤ high ks
high_positive [] = omega (arith, ints)
high_positive (k ∷ ks) = omega (arith, ints, int_max_is k.key (high ks), high_positive ks)

low_negative : (ks : List Keyed) → low ks ≤ℤ pos 0
low_negative [] = omega (arith, ints)
low_negative (k ∷ ks) = omega (arith, ints, int_min_is k.key (low ks), low_negative ks)

through : (a b c : ℤ) → a ≤ℤ b → b ≤ℤ c → a ≤ℤ c
through a b c first second = omega (arith, ints)

-- keys that are moved lie above those that aren't
abbrev pub key_in : Waiting → ℤ
key_in w = w.key

pub not_before : (former later : List Waiting) (top : ℤ) → AreAtMost top (map key_in former) → AreAtLeast top (map key_in later) → AreNotBefore later former
not_before [] later top low high = All-nil (λ (x : Waiting). All (λ (y : Waiting). x.key ≤ℤ y.key) later)
not_before (x ∷ former) later top low high =
    All-cons (λ (a : Waiting). All (λ (y : Waiting). a.key ≤ℤ y.key) later) x former
    (All-from_recursion (λ (y : Waiting). x.key ≤ℤ y.key) later (each x.key later top low.0 high)) (not_before former later top low.1 high)
  where
    each : (z : ℤ) (later : List Waiting) (top : ℤ) → z ≤ℤ top → AreAtLeast top (map key_in later) → AllByRecursion (λ (y : Waiting). z ≤ℤ y.key) later
    each z [] top low high = tt
    each z (y ∷ later) top low high = (through z top y.key low high.0, each z later top low high.1)

-- ---- what a merge rests on

pub record Merges (former later : Group) : Type 0 where
  pub by : ℕ
  pub is : shift former later ≡ pos by
  pub less : by < 2 ^ 31
  pub inside : (high later.pictures +ℤ pos by) ≤ℤ pos (2 ^ 31 - 1)
  pub header : later.header ≡ former.header

int_le-true : (a b : ℤ) → int_le a b ≡ true → a ≤ℤ b
int_le-true a b is = grind (arith, ints)

same_lists : (xs ys : List ℕ) → is_same xs ys ≡ true → xs ≡ ys
same_lists xs ys is =
    let both = and_parts (length xs == length ys) (starts_with nat_eq xs ys) is in
    let same : length xs ≡ length ys = eqb-true (length xs) (length ys) both.0 in
    sym (same_text ys (take (length ys) xs) (sym both.1) ∙ ap (λ n. take n xs) (sym same) ∙ take-length xs)

merges_by : (former later : Group) (z : ℤ) → shift former later ≡ z → later.header ≡ former.header → (z +ℤ high later.pictures) ≤ℤ pos (2 ^ 31 - 1) → Merges former later
merges_by former later (pos by) e same inside = record {
  by = by;
  is = e;
  less = omega (arith, ints, high_positive later.pictures);
  inside = omega (arith, ints);
  header = same;
}
merges_by former later (negsuc n) e same inside = absurd (omega (arith, ints, high_positive former.pictures, low_negative later.pictures))

pub merges : (former later : Group) → may_merge former later ≡ true → Merges former later
merges former later is =
    let both = and_parts (is_same later.header former.header) (int_le (shift former later +ℤ high later.pictures) (pos (2 ^ 31 - 1))) is in
    merges_by former later (shift former later) refl (same_lists later.header former.header both.0) (int_le-true (shift former later +ℤ high later.pictures) (pos (2 ^ 31 - 1)) both.1)

-- the least of the moved keys is right behind the greatest of the others
pub moved_above : (former later : Group) (m : Merges former later) → high former.pictures ≤ℤ (low later.pictures +ℤ pos m.by)
moved_above former later m = let e : shift former later ≡ pos m.by = m.is in omega (arith, ints)
