-- How far candidates are from no motion.
use Rattle.std.proofs.Common.{◌≡◌, ℕ, zero, suc, ℤ, pos, ◌+◌, ◌-◌, ◌*◌, ◌^◌, ◌<◌, ◌≤◌, ◌+ℤ◌, ◌-ℤ◌, unsigned_abs, Bool, true, false, List, [], ◌∷◌, ◌++◌, length, Some, None, Option, sym, arith, inl, inr, nat_lt, subst}
use Rattle.std.specs.List.{All, flat_map}
use Rattle.std.proofs.lemmas.Int.{ints}
use Rattle.std.proofs.lemmas.Bool.{cases_lt}
use Rattle.std.proofs.lemmas.List.{get_or_past}
use Rattle.std.proofs.lemmas.List.Elements.{All-append, All-cons, All-nil}
use Rattle.std.proofs.lemmas.List.FromFn.{get_or-map-range_with_len, length-map-range_with_len}
use Rattle.dirac_common.specs.declared.formats.Vector.{Vector}
use Rattle.dirac_search.specs.declared.stage.Stage.{Stage}
use Rattle.dirac_search.specs.declared.stage.Stage.TheVariants as stage
use Rattle.dirac_search.specs.ByRows.{listed_by_rows, row_values}
use Rattle.dirac_search.specs.Candidates.{HasFormer, IsWithinReach, Vectors, around, centre_if, centres, finer_candidates, further_candidates, near, no_motion, sub_candidates, twice, field_vector}
use Rattle.dirac_search.proofs.Lists.{rows_next}

-- what holds of each value holds of the list
row_all : {A : Type 0} (P : A → Type 0) (w y : ℕ) (f : ℕ → ℕ → A) → ((x : ℕ) → x < w → P (f x y)) → All P (row_values w f y)
row_all P w y f h k d l =
    let inside : k < w = omega (arith, l, length-map-range_with_len (λ x. f x y) 0 w) in
    subst P (sym (get_or-map-range_with_len (λ x. f x y) 0 w k k d inside (omega arith))) (h k inside)

pub rows_all : {A : Type 0} (P : A → Type 0) (w h : ℕ) (f : ℕ → ℕ → A) → ((x y : ℕ) → x < w → y < h → P (f x y)) → All P (listed_by_rows w h f)
unfolding listed_by_rows
rows_all P w zero f each = All-nil P
rows_all P w (suc h) f each =
    let next : suc h ≡ h + 1 = omega arith in
    subst (λ n. All P (listed_by_rows w n f)) (sym next)
    (subst (All P) (sym (rows_next w h f)) (All-append P (listed_by_rows w h f) (row_values w f h) (rows_all P w h f (λ x y l k. each x y l (omega arith))) (row_all P w h f (λ x l. each x h l (omega arith)))))

flat_all : {A B : Type 0} (P : A → Type 0) (Q : B → Type 0) (f : A → List B) → ((a : A) → P a → All Q (f a)) → (xs : List A) → All P xs → All Q (flat_map f xs)
flat_all P Q f each [] all = All-nil Q
flat_all P Q f each (x ∷ xs) all = All-append Q (f x) (flat_map f xs) (each x (all 0 x (omega arith))) (flat_all P Q f each xs (λ k d l. all (suc k) d (omega arith)))

-- a little further than a centre
near_within : (reach m : ℕ) (c : ℤ) (p : ℕ) → unsigned_abs c ≤ m → p < 2 * reach + 1 → unsigned_abs ((c +ℤ pos p) -ℤ pos reach) ≤ m + reach
near_within reach m c p h l = omega (arith, ints)

pub around_within : (reach m : ℕ) (c : Vector) → IsWithinReach m c → All (IsWithinReach (m + reach)) (around c reach)
around_within reach m c is =
    rows_all (IsWithinReach (m + reach)) (2 * reach + 1) (2 * reach + 1) (near c reach)
    (λ x y l k. record { across = near_within reach m c.x x is.across l; down = near_within reach m c.y y is.down k })

pub twice_within : (m : ℕ) (v : Vector) → IsWithinReach m v → IsWithinReach (2 * m) (twice v)
twice_within m v is = record { across = omega (arith, ints, is.across); down = omega (arith, ints, is.down) }

-- a vector of a field, or that of no motion
pub vector_within : (m i j : ℕ) (f : Vectors) → All (IsWithinReach m) f.vectors → IsWithinReach m (field_vector f i j)
vector_within m i j f all = elim (cases_lt (j * (4 * f.across) + i) (length f.vectors)) [
  | inl inside ↦ all (j * (4 * f.across) + i) no_motion inside
  | inr past ↦ rw (get_or_past f.vectors (j * (4 * f.across) + i) no_motion past) (record { across = omega arith; down = omega arith })
]

where_within : (m i j : ℕ) (is_block : Bool) (f : Vectors) → All (IsWithinReach m) f.vectors → All (IsWithinReach (2 * m)) (centre_if is_block f i j)
where_within m i j true f all = All-cons (IsWithinReach (2 * m)) (twice (field_vector f i j)) [] (twice_within m (field_vector f i j) (vector_within m i j f all)) (All-nil (IsWithinReach (2 * m)))
where_within m i j false f all = All-nil (IsWithinReach (2 * m))

pub centres_within : (m i j : ℕ) (f : Vectors) → All (IsWithinReach m) f.vectors → All (IsWithinReach (2 * m)) (centres f i j)
centres_within m i j f all =
    let P = IsWithinReach (2 * m) in
    let left = centre_if (nat_lt 0 i) f (i - 1) j in
    let right = centre_if (nat_lt (i + 1) (4 * f.across)) f (i + 1) j in
    let above = centre_if (nat_lt 0 j) f i (j - 1) in
    let below = centre_if (nat_lt (j + 1) (4 * f.down)) f i (j + 1) in
    let here = twice (field_vector f i j) in
    All-append P (((here ∷ left) ++ right) ++ above) below
    (All-append P ((here ∷ left) ++ right) above
    (All-append P (here ∷ left) right
    (All-cons P here left (twice_within m (field_vector f i j) (vector_within m i j f all)) (where_within m (i - 1) j (nat_lt 0 i) f all))
    (where_within m (i + 1) j (nat_lt (i + 1) (4 * f.across)) f all))
    (where_within m i (j - 1) (nat_lt 0 j) f all))
    (where_within m i (j + 1) (nat_lt (j + 1) (4 * f.down)) f all)

-- the candidates of a later stage are at most twice as far as its former vectors, and one more
pub later_within : (m i j : ℕ) (f : Vectors) → All (IsWithinReach m) f.vectors → All (IsWithinReach (2 * m + 1)) (finer_candidates (Some f) i j) × All (IsWithinReach (2 * m + 1)) (sub_candidates (Some f) i j)
later_within m i j f all = (
  flat_all (IsWithinReach (2 * m)) (IsWithinReach (2 * m + 1)) (λ c. around c 1) (λ c is. around_within 1 (2 * m) c is) (centres f i j) (centres_within m i j f all),
  All-cons (IsWithinReach (2 * m + 1)) (twice (field_vector f i j)) (around (twice (field_vector f i j)) 1)
      (let is = twice_within m (field_vector f i j) (vector_within m i j f all) in record { across = omega (arith, is.across); down = omega (arith, is.down) })
      (around_within 1 (2 * m) (twice (field_vector f i j)) (twice_within m (field_vector f i j) (vector_within m i j f all))),
)

pub weaker : (a b : ℕ) (xs : List Vector) → a ≤ b → All (IsWithinReach a) xs → All (IsWithinReach b) xs
weaker a b xs l all k d i = let is = all k d i in record { across = omega (arith, is.across); down = omega (arith, is.down) }

-- all candidates can be moved by
pub further_within : (st : Stage) (range : ℕ) (before : Option Vectors) (i j : ℕ) → range ≤ 16 → HasFormer st before i j → All (IsWithinReach (2 ^ 24)) (further_candidates st range before i j)
further_within (stage.Coarse l) range before i j few is = weaker (0 + range) (2 ^ 24) (around no_motion range) (omega arith) (around_within range 0 no_motion (record { across = omega arith; down = omega arith }))
further_within (stage.Finer l) range None i j few is = absurd is
further_within (stage.Finer l) range (Some f) i j few is = weaker (2 * 2 ^ 22 + 1) (2 ^ 24) (finer_candidates (Some f) i j) (omega arith) (later_within (2 ^ 22) i j f is.within).0
further_within (stage.Sub q) range None i j few is = absurd is
further_within (stage.Sub q) range (Some f) i j few is = weaker (2 * 2 ^ 22 + 1) (2 ^ 24) (sub_candidates (Some f) i j) (omega arith) (later_within (2 ^ 22) i j f is.within).1
