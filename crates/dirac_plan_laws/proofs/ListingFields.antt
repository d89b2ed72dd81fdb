-- The end of a list of reference pictures that are fields.
use Rattle.std.proofs.Common.{◌≡◌, ℕ, ◌+◌, ◌*◌, ◌<◌, ◌≤◌, ◌==◌, Bool, true, false, if◌then◌else◌, not, List, [], ◌∷◌, ◌++◌, Option, None, Some, length, option_map, refl, ap, sym, subst, ◌∙◌, arith, append_assoc, length-append, eq-eqb, ne_eqb, inl, inr}
use Rattle.std.specs.Prelude.{IfSome}
use Rattle.std.proofs.lemmas.Bool.{cases_eq}
use Rattle.std.proofs.lemmas.List.Elements.{filter-append}
use Rattle.dirac_common.specs.declared.picture.Picture.{Picture}
use Rattle.dirac_refs.specs.References.{committed}
use Rattle.dirac_plan_laws.proofs.Listing.{EndsWith, ends_committed, fewer, fewer_left, has, has_first, has_later, keeps, left_numbers, other_numbers}

-- the numbers of both fields of each of these frames
abbrev pub both_fields : List ℕ → List ℕ
both_fields [] = []
both_fields (t ∷ ts) = 2 * t ∷ (2 * t + 1) ∷ both_fields ts

pub length-both_fields : (ts : List ℕ) → length (both_fields ts) ≡ 2 * length ts
length-both_fields [] = refl
length-both_fields (t ∷ ts) = let rest = length-both_fields ts in omega arith

both_fields-append : (ts us : List ℕ) → both_fields (ts ++ us) ≡ both_fields ts ++ both_fields us
both_fields-append [] us = refl
both_fields-append (t ∷ ts) us = ap (λ l. 2 * t ∷ (2 * t + 1) ∷ l) (both_fields-append ts us)

-- ---- numbers that are left

-- a number goes
pub goes : (n m : ℕ) (numbers : List ℕ) → m ≡ n → other_numbers n (m ∷ numbers) ≡ other_numbers n numbers
goes n m numbers e = rw (eq-eqb m n e) refl

either_order : (a b : ℕ) (numbers : List ℕ) → other_numbers a (other_numbers b numbers) ≡ other_numbers b (other_numbers a numbers)
either_order a b [] = refl
either_order a b (m ∷ numbers) =
    let more = either_order a b numbers in
    elim (cases_eq m a) [
      | inl first ↦ elim (cases_eq m b) [
        | inl second ↦ ap (other_numbers a) (goes b m numbers second) ∙ more ∙ sym (ap (other_numbers b) (goes a m numbers first))
        | inr not_second ↦
            ap (other_numbers a) (keeps b m numbers (other_numbers b numbers) not_second refl)
            ∙ goes a m (other_numbers b numbers) first ∙ more ∙ sym (ap (other_numbers b) (goes a m numbers first))
      ]
      | inr not_first ↦ elim (cases_eq m b) [
        | inl second ↦
            ap (other_numbers a) (goes b m numbers second) ∙ more
            ∙ sym (ap (other_numbers b) (keeps a m numbers (other_numbers a numbers) not_first refl) ∙ goes b m (other_numbers a numbers) second)
        | inr not_second ↦
            ap (other_numbers a) (keeps b m numbers (other_numbers b numbers) not_second refl)
            ∙ keeps a m (other_numbers b numbers) (other_numbers b (other_numbers a numbers)) not_first more
            ∙ sym (ap (other_numbers b) (keeps a m numbers (other_numbers a numbers) not_first refl) ∙ keeps b m (other_numbers a numbers) (other_numbers b (other_numbers a numbers)) not_second refl)
      ]
    ]

-- both fields of a frame go
frame_goes : (r : ℕ) (ts : List ℕ) → other_numbers (2 * r + 1) (other_numbers (2 * r) (both_fields ts)) ≡ both_fields (other_numbers r ts)
frame_goes r [] = refl
frame_goes r (t ∷ ts) =
    let rest : List ℕ = both_fields ts in
    let left : List ℕ = other_numbers (2 * r) rest in
    let more = frame_goes r ts in
    elim (cases_eq t r) [
      | inl same ↦
          ap (other_numbers (2 * r + 1)) (goes (2 * r) (2 * t) ((2 * t + 1) ∷ rest) (omega arith) ∙ keeps (2 * r) (2 * t + 1) rest left (λ e. omega arith) refl)
          ∙ goes (2 * r + 1) (2 * t + 1) left (omega arith) ∙ more ∙ ap both_fields (sym (goes r t ts same))
      | inr other ↦
          ap (other_numbers (2 * r + 1)) (keeps (2 * r) (2 * t) ((2 * t + 1) ∷ rest) ((2 * t + 1) ∷ left) (λ e. omega (arith, other)) (keeps (2 * r) (2 * t + 1) rest left (λ e. omega arith) refl))
          ∙ keeps (2 * r + 1) (2 * t) ((2 * t + 1) ∷ left) ((2 * t + 1) ∷ both_fields (other_numbers r ts)) (λ e. omega arith) (keeps (2 * r + 1) (2 * t + 1) left (both_fields (other_numbers r ts)) (λ e. omega (arith, other)) more)
          ∙ ap both_fields (sym (keeps r t ts (other_numbers r ts) other refl))
    ]

left_behind : (n m : ℕ) (numbers : List ℕ) → (m ≡ n → ⊥) → other_numbers n (numbers ++ m ∷ []) ≡ other_numbers n numbers ++ m ∷ []
left_behind n m numbers other = filter-append (λ k. not (k == n)) numbers (m ∷ []) ∙ ap (λ l. other_numbers n numbers ++ l) (keeps n m [] [] other refl)

-- the numbers once a coded picture is appended
abbrev pub numbers_with : Option ℕ → ℕ → List ℕ → List ℕ
numbers_with retired number numbers = other_numbers number (left_numbers retired numbers) ++ number ∷ []

pub length-numbers_with : (retired : Option ℕ) (number : ℕ) (numbers : List ℕ) → length (numbers_with retired number numbers) ≤ length numbers + 1
length-numbers_with retired number numbers =
    omega (arith, fewer number (left_numbers retired numbers), fewer_left retired numbers, length-append (other_numbers number (left_numbers retired numbers)) (number ∷ []))

pub ends_with : (retired : Option ℕ) (number : ℕ) (p : Picture) (list : List Picture) (numbers : List ℕ) → p.number ≡ number → length numbers < 8 → EndsWith list numbers
    → EndsWith (committed list retired (Some p)) (numbers_with retired number numbers)
ends_with retired number p list numbers same few is = subst (λ m. EndsWith (committed list retired (Some p)) (numbers_with retired m numbers)) same (ends_committed retired p list numbers few is)

-- once both fields of a frame are, each of which retires its like
both_appended : (t : ℕ) (ts : List ℕ) → both_fields (ts ++ t ∷ []) ≡ (both_fields ts ++ 2 * t ∷ []) ++ (2 * t + 1) ∷ []
both_appended t ts = both_fields-append ts (t ∷ []) ∙ sym (append_assoc (both_fields ts) (2 * t ∷ []) ((2 * t + 1) ∷ []))

own_appended : (t : ℕ) (numbers : List ℕ) → other_numbers (2 * t + 1) (other_numbers (2 * t) numbers ++ 2 * t ∷ []) ≡ other_numbers (2 * t + 1) (other_numbers (2 * t) numbers) ++ 2 * t ∷ []
own_appended t numbers = left_behind (2 * t + 1) (2 * t) (other_numbers (2 * t) numbers) (λ e. omega arith)

pub frame_appended : (retired : Option ℕ) (t : ℕ) (ts : List ℕ)
    → numbers_with (option_map (λ r. 2 * r + 1) retired) (2 * t + 1) (numbers_with (option_map (λ r. 2 * r + 0) retired) (2 * t) (both_fields ts)) ≡ both_fields (numbers_with retired t ts)
frame_appended None t ts =
    ap (λ l. l ++ (2 * t + 1) ∷ []) (own_appended t (both_fields ts) ∙ ap (λ l. l ++ 2 * t ∷ []) (frame_goes t ts))
    ∙ sym (both_appended t (other_numbers t ts))
frame_appended (Some r) t ts =
    let a : List ℕ = other_numbers (2 * r) (both_fields ts) in
    let first : 2 * r + 0 ≡ 2 * r = omega arith in
    ap (λ m. numbers_with (Some (2 * r + 1)) (2 * t + 1) (numbers_with (Some m) (2 * t) (both_fields ts))) first ∙
    ap (λ l. other_numbers (2 * t + 1) l ++ (2 * t + 1) ∷ [])
    (left_behind (2 * r + 1) (2 * t) (other_numbers (2 * t) a) (λ e. omega arith)
    ∙ ap (λ l. l ++ 2 * t ∷ []) (either_order (2 * r + 1) (2 * t) a ∙ ap (other_numbers (2 * t)) (frame_goes r ts)))
    ∙ ap (λ l. l ++ (2 * t + 1) ∷ []) (own_appended t (both_fields (other_numbers r ts)) ∙ ap (λ l. l ++ 2 * t ∷ []) (frame_goes t (other_numbers r ts)))
    ∙ sym (both_appended t (other_numbers t (other_numbers r ts)))

-- ---- numbers that are among these

has_here : (n m : ℕ) (numbers : List ℕ) → m ≡ n → has n (m ∷ numbers) ≡ true
has_here n m numbers e = ap (λ (b : Bool). if b then true else has n numbers) (eq-eqb m n e)

has_behind : (n m : ℕ) (numbers : List ℕ) → (m ≡ n → ⊥) → has n (m ∷ numbers) ≡ true → has n numbers ≡ true
has_behind n m numbers other e = sym (ap (λ (b : Bool). if b then true else has n numbers) (ne_eqb m n other)) ∙ e

pub has_fields : (t : ℕ) (ts : List ℕ) → has t ts ≡ true → (has (2 * t) (both_fields ts) ≡ true) × (has (2 * t + 1) (both_fields ts) ≡ true)
has_fields t [] e = let s : false ≡ true = e in absurd (cc)
has_fields t (u ∷ ts) e = elim (cases_eq u t) [
  | inl same ↦ (
    has_here (2 * t) (2 * u) ((2 * u + 1) ∷ both_fields ts) (omega arith),
    has_later (2 * t + 1) (2 * u) ((2 * u + 1) ∷ both_fields ts) (has_here (2 * t + 1) (2 * u + 1) (both_fields ts) (omega arith)),
  )
  | inr other ↦
      let more = has_fields t ts (has_behind t u ts other e) in (
        has_later (2 * t) (2 * u) ((2 * u + 1) ∷ both_fields ts) (has_later (2 * t) (2 * u + 1) (both_fields ts) more.0),
        has_later (2 * t + 1) (2 * u) ((2 * u + 1) ∷ both_fields ts) (has_later (2 * t + 1) (2 * u + 1) (both_fields ts) more.1),
      )
]

has_other : (n m : ℕ) (numbers : List ℕ) → (n ≡ m → ⊥) → has n numbers ≡ true → has n (other_numbers m numbers) ≡ true
has_other n m [] other e = e
has_other n m (k ∷ numbers) other e = elim (cases_eq k n) [
  | inl here ↦ ap (has n) (keeps m k numbers (other_numbers m numbers) (λ same. other (sym here ∙ same)) refl) ∙ has_here n k (other_numbers m numbers) here
  | inr later ↦
      let more = has_other n m numbers other (has_behind n k numbers later e) in
      elim (cases_eq k m) [
        | inl gone ↦ ap (has n) (goes m k numbers gone) ∙ more
        | inr kept ↦ ap (has n) (keeps m k numbers (other_numbers m numbers) kept refl) ∙ has_later n k (other_numbers m numbers) more
      ]
]

has_front : (n : ℕ) (front rest : List ℕ) → has n front ≡ true → has n (front ++ rest) ≡ true
has_front n [] rest e = let s : false ≡ true = e in absurd (cc)
has_front n (m ∷ front) rest e = elim (cases_eq m n) [
  | inl here ↦ has_here n m (front ++ rest) here
  | inr later ↦ has_later n m (front ++ rest) (has_front n front rest (has_behind n m front later e))
]

pub has_appended : (n : ℕ) (front : List ℕ) → has n (front ++ n ∷ []) ≡ true
has_appended n [] = has_first n []
has_appended n (m ∷ front) = has_later n m (front ++ n ∷ []) (has_appended n front)

-- a number other than the one that is appended and the one that is retired is still there
pub has_still : (n : ℕ) (retired : Option ℕ) (number : ℕ) (numbers : List ℕ) → (n ≡ number → ⊥) → IfSome retired (λ r. n ≡ r → ⊥) → has n numbers ≡ true
    → has n (numbers_with retired number numbers) ≡ true
has_still n None number numbers other kept e = has_front n (other_numbers number numbers) (number ∷ []) (has_other n number numbers other e)
has_still n (Some r) number numbers other kept e =
    has_front n (other_numbers number (other_numbers r numbers)) (number ∷ []) (has_other n number (other_numbers r numbers) other (has_other n r numbers kept e))
