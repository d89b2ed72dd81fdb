-- The end of a list of reference pictures.
use Rattle.std.proofs.Common.{◌≡◌, ℕ, ◌<◌, ◌≤◌, ◌==◌, Bool, true, false, not, nat_le, if◌then◌else◌, List, [], ◌∷◌, ◌++◌, Option, None, Some, map, length, filter, drop, is_some, cond, append-nil, refl, ap, sym, ◌∙◌, arith, eq-eqb, ne_eqb, append_assoc}
use Rattle.std.proofs.lemmas.List.{map-append, length-map}
use Rattle.std.proofs.lemmas.List.Elements.{filter-append}
use Rattle.std.proofs.lemmas.Bool.{lt-leb}
use Rattle.std.proofs.lemmas.List.Sums.{length-filter, count_by-le-length}
use Rattle.dirac_common.specs.declared.picture.Picture.{Picture}
use Rattle.dirac_refs.specs.References.{append, committed, listed, retire, without}
use Rattle.dirac_picture.specs.Grammar.{is_listed}
use Rattle.dirac_plan.specs.Waiting.{number_of}

-- the last pictures of a list have these numbers
pub record EndsWith (list : List Picture) (numbers : List ℕ) : Type 0 where
  pub old : List Picture
  pub tail : List Picture
  pub parts : list ≡ old ++ tail
  pub same : map number_of tail ≡ numbers

pub anything : (list : List Picture) → EndsWith list []
anything list = record { old = list; tail = []; parts = sym (append-nil list); same = refl }

-- numbers without this one
abbrev pub other_numbers : ℕ → List ℕ → List ℕ
other_numbers n numbers = filter (λ m. not (m == n)) numbers

abbrev pub left_numbers : Option ℕ → List ℕ → List ℕ
left_numbers None numbers = numbers
left_numbers (Some n) numbers = other_numbers n numbers

-- a number is among these
abbrev pub has : ℕ → List ℕ → Bool
has n [] = false
has n (m ∷ numbers) = if m == n then true else has n numbers

pub numbers_without : (n : ℕ) (list : List Picture) → map number_of (without n list) ≡ other_numbers n (map number_of list)
numbers_without n [] = refl
numbers_without n (p ∷ list) = by_test (not (p.number == n)) (numbers_without n list)
  where
    by_test : (b : Bool) → map number_of (without n list) ≡ other_numbers n (map number_of list)
        → map number_of (cond b (p ∷ without n list) (without n list)) ≡ cond b (p.number ∷ other_numbers n (map number_of list)) (other_numbers n (map number_of list))
    by_test true more = ap (λ l. p.number ∷ l) more
    by_test false more = more

ends_without : (n : ℕ) (list : List Picture) (numbers : List ℕ) → EndsWith list numbers → EndsWith (without n list) (other_numbers n numbers)
ends_without n list numbers is = record {
  old = without n is.old;
  tail = without n is.tail;
  parts = ap (without n) is.parts ∙ filter-append (λ p. not (p.number == n)) is.old is.tail;
  same = numbers_without n is.tail ∙ ap (other_numbers n) is.same;
}

ends_retired : (r : Option ℕ) (list : List Picture) (numbers : List ℕ) → EndsWith list numbers → EndsWith (retire list r) (left_numbers r numbers)
ends_retired None list numbers is = is
ends_retired (Some n) list numbers is = ends_without n list numbers is

-- the limit of eight pushes out none of the last few
ends_append : (p : Picture) (list : List Picture) (numbers : List ℕ) → length numbers < 8 → EndsWith list numbers → EndsWith (append list p) (numbers ++ p.number ∷ [])
ends_append p list numbers few is = by_old is.old is.tail is.parts is.same
  where
    added : (tail : List Picture) → map number_of tail ≡ numbers → map number_of (tail ++ p ∷ []) ≡ numbers ++ p.number ∷ []
    added tail same = map-append number_of tail (p ∷ []) ∙ ap (λ l. l ++ p.number ∷ []) same

    by_old : (old tail : List Picture) → list ≡ old ++ tail → map number_of tail ≡ numbers → EndsWith (append list p) (numbers ++ p.number ∷ [])
    by_old [] tail parts same =
        let long : length (map number_of tail) ≡ length numbers = ap length same in
        let whole : length list ≡ length tail = ap length parts in
        let short : nat_le 8 (length list) ≡ false = lt-leb 8 (length list) (omega (arith, length-map tail number_of)) in
        record { old = []; tail = tail ++ p ∷ []; parts = ap (λ (b : Bool). (if b then drop 1 list else list) ++ p ∷ []) short ∙ ap (λ l. l ++ p ∷ []) parts; same = added tail same }
    by_old (o ∷ old) tail parts same = by_length (nat_le 8 (length list))
      where
        by_length : (b : Bool) → EndsWith ((if b then drop 1 list else list) ++ p ∷ []) (numbers ++ p.number ∷ [])
        by_length true = record { old = old; tail = tail ++ p ∷ []; parts = ap (λ l. drop 1 l ++ p ∷ []) parts ∙ append_assoc old tail (p ∷ []); same = added tail same }
        by_length false = record { old = o ∷ old; tail = tail ++ p ∷ []; parts = ap (λ l. l ++ p ∷ []) parts ∙ append_assoc (o ∷ old) tail (p ∷ []); same = added tail same }

pub fewer : (n : ℕ) (numbers : List ℕ) → length (other_numbers n numbers) ≤ length numbers
fewer n numbers = omega (arith, length-filter (λ m. not (m == n)) numbers, count_by-le-length (λ m. not (m == n)) numbers)

pub fewer_left : (r : Option ℕ) (numbers : List ℕ) → length (left_numbers r numbers) ≤ length numbers
fewer_left None numbers = omega arith
fewer_left (Some n) numbers = fewer n numbers

-- a coded reference picture
pub ends_committed : (r : Option ℕ) (p : Picture) (list : List Picture) (numbers : List ℕ) → length numbers < 8 → EndsWith list numbers
    → EndsWith (committed list r (Some p)) (other_numbers p.number (left_numbers r numbers) ++ p.number ∷ [])
ends_committed r p list numbers few is =
    ends_append p (without p.number (retire list r)) (other_numbers p.number (left_numbers r numbers)) (omega (arith, fewer p.number (left_numbers r numbers), fewer_left r numbers))
    (ends_without p.number (retire list r) (left_numbers r numbers) (ends_retired r list numbers is))

-- a picture of the end is found
found_behind : (n : ℕ) (old tail : List Picture) → is_some (listed tail n) ≡ true → is_some (listed (old ++ tail) n) ≡ true
found_behind n [] tail e = e
found_behind n (o ∷ old) tail e = by_test (o.number == n) (found_behind n old tail e)
  where
    by_test : (b : Bool) → is_some (listed (old ++ tail) n) ≡ true → is_some (if b then Some o else listed (old ++ tail) n) ≡ true
    by_test true more = refl
    by_test false more = more

found_here : (n : ℕ) (tail : List Picture) → has n (map number_of tail) ≡ true → is_some (listed tail n) ≡ true
found_here n [] e = e
found_here n (p ∷ tail) e = by_test (p.number == n) (found_here n tail) e
  where
    by_test : (b : Bool) → (has n (map number_of tail) ≡ true → is_some (listed tail n) ≡ true) → (if b then true else has n (map number_of tail)) ≡ true
        → is_some (if b then Some p else listed tail n) ≡ true
    by_test true more e = refl
    by_test false more e = more e

pub found : (n : ℕ) (list : List Picture) (numbers : List ℕ) → EndsWith list numbers → has n numbers ≡ true → is_listed list (Some n) ≡ true
found n list numbers is e =
    ap (λ l. is_some (listed l n)) is.parts ∙ found_behind n is.old is.tail (found_here n is.tail (ap (has n) is.same ∙ e))

pub has_first : (n : ℕ) (numbers : List ℕ) → has n (n ∷ numbers) ≡ true
has_first n numbers = ap (λ (b : Bool). if b then true else has n numbers) (eq-eqb n n refl)

pub has_later : (n m : ℕ) (numbers : List ℕ) → has n numbers ≡ true → has n (m ∷ numbers) ≡ true
has_later n m numbers e = by_test (m == n)
  where
    by_test : (b : Bool) → (if b then true else has n numbers) ≡ true
    by_test true = refl
    by_test false = e

-- a number that isn't there leaves the others
pub keeps : (n m : ℕ) (numbers rest : List ℕ) → (m ≡ n → ⊥) → other_numbers n numbers ≡ rest → other_numbers n (m ∷ numbers) ≡ m ∷ rest
keeps n m numbers rest other e = rw (ne_eqb m n other) (ap (λ l. m ∷ l) e)

pub leaves : (n : ℕ) (numbers rest : List ℕ) → other_numbers n numbers ≡ rest → other_numbers n (n ∷ numbers) ≡ rest
leaves n numbers rest e = rw (eq-eqb n n refl) e
