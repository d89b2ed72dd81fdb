-- Pictures in a near order are delivered by rising number.
use Rattle.std.proofs.Common.{◌≡◌, ℕ, zero, suc, pos, ◌+◌, ◌-◌, ◌^◌, ◌<◌, ◌≤◌, ◌≤ℤ◌, ◌⊎◌, inl, inr, Bool, true, false, if◌then◌else◌, nat_le, List, [], ◌∷◌, ◌++◌, Option, None, Some, map, option_map, length, take, drop, remove, slice_get, get_or, sum_by, refl, ap, ap₂, subst, ◌∙◌, sym, arith, append_assoc, append-nil, eq-eqb, ne_eqb, length-append, length-take, length-drop}
use Rattle.std.specs.List.{cons_option, range_with_len, filter_map, AllByRecursion}
use Rattle.std.specs.Option.{option_to_list}
use Rattle.std.proofs.lemmas.Bool.{cases_Bool, cases_lt, leb-true, leb-false}
use Rattle.std.proofs.lemmas.Int.{ints}
use Rattle.std.proofs.lemmas.List.{length-map, map-append, take_at}
use Rattle.std.proofs.lemmas.List.FromFn.{length-range_with_len}
use Rattle.std.proofs.lemmas.List.Elements.{filter_map-append}
use Rattle.std.proofs.lemmas.Option.{slice_get-map, slice_get_within, get_or_from_slice_get}
use Rattle.std.proofs.lemmas.List.Sums.{sum_by-cons, sum_by-append, sum_by-remove}
use Rattle.dirac_common.specs.declared.picture.Picture.{Picture}
use Rattle.dirac_refs.specs.declared.waiting.Waiting.{Waiting}
use Rattle.dirac_refs.specs.Delivery.{LeastLeavesFirst, Leaving, deliver, delivered, in_delivery_order, flushed, flushed_by, key_at, key_of, least, least_place, others, picture_of, pushed_all}
use Rattle.dirac_refs.specs.References.{listed}
use Rattle.dirac_plan.specs.Plan.{plan}
use Rattle.dirac_plan.specs.Waiting.{number_of}
use Rattle.dirac_plan.proofs.Accepted.{paced}
use Rattle.dirac_plan.proofs.Fields.{length_plan}
use Rattle.dirac_plan.proofs.Items.{each_of}
use Rattle.dirac_plan.proofs.Lists.{get_behind, range_split, remove-map, sum_ranges}
use Rattle.dirac_plan_laws.specs.References.{planned_number}
use Rattle.dirac_plan_laws.specs.Order.{IsNearOrder, NearOrderIsDelivered, PlansAreDelivered, as_waiting, by_number}
use Rattle.dirac_plan_laws.proofs.Each.{each_append, each_at, each_by, each_drop, each_take}
use Rattle.dirac_plan_laws.proofs.Near.{plans_near}
use Rattle.dirac_plan_laws.proofs.Counts.{counted, nowhere, only, only_same, stands, times_high, times_inside}

-- numbers that wait where those below d have left, of all that came so far
record Waits (ns fs : List ℕ) (d : ℕ) : Type 0 where
  pub sums : (f : ℕ → ℕ) → sum_by f ns + sum_by f (range_with_len 0 d) ≡ sum_by f fs

how_many : (ns fs : List ℕ) (d : ℕ) → Waits ns fs d → length ns + d ≡ length fs
how_many ns fs d w = omega (arith, w.sums (λ _. 1), each_of ns, each_of fs, each_of (range_with_len 0 d), length-range_with_len 0 d)

-- the next number waits, if it doesn't come later
next_waits : (ns fs rs : List ℕ) (d : ℕ) → IsNearOrder (fs ++ rs) → Waits ns fs d → 0 < length ns
    → ((place n : ℕ) → slice_get rs place ≡ Some n → d < n) → (place : ℕ) × (slice_get ns place ≡ Some d)
next_waits ns fs rs d near w some later =
    let many = how_many ns fs d w in
    let long = length-append fs rs in
    let all = near.once (only d) in
    let one = times_inside d 0 (length (fs ++ rs)) (omega arith) (omega arith) in
    let parts = sum_by-append (only d) fs rs in
    let none = nowhere d rs (λ place n e same. let l = later place n e in omega arith) in
    let gone = times_high d 0 d (omega arith) in
    let here = w.sums (only d) in
    stands d ns (omega arith)

-- no number that waits has left
still_waits : (ns fs rs : List ℕ) (d v place : ℕ) → IsNearOrder (fs ++ rs) → Waits ns fs d → slice_get ns place ≡ Some v → (d ≤ v) × (v < length (fs ++ rs))
still_waits ns fs rs d v place near w at =
    let some = counted v ns place at in
    let all = near.once (only v) in
    let parts = sum_by-append (only v) fs rs in
    let here = w.sums (only v) in
    elim (cases_lt v (length (fs ++ rs))) [
      | inr high ↦ let none = times_high v 0 (length (fs ++ rs)) (omega arith) in absurd (omega arith)
      | inl low ↦
          let one = times_inside v 0 (length (fs ++ rs)) (omega arith) (omega arith) in
          elim (cases_lt v d) [
            | inl before ↦ let two = times_inside v 0 d (omega arith) (omega arith) in absurd (omega arith)
            | inr behind ↦ (behind, low)
          ]
    ]

pub there_is : {X : Type 0} (xs : List X) (i : ℕ) → i < length xs → (x : X) × (slice_get xs i ≡ Some x)
there_is [] i h = absurd (omega arith)
there_is (x ∷ xs) zero h = (x, refl)
there_is (x ∷ xs) (suc i) h = there_is xs i (omega arith)

key_small : (n : ℕ) → n < 2 ^ 31 → key_of 0 n ≡ pos n
key_small n small = grind (arith, small)

key_here : (qs : List Picture) (i n : ℕ) → slice_get (map number_of qs) i ≡ Some n → n < 2 ^ 31 → key_at (map as_waiting qs) i ≡ pos n
key_here [] i n e small = let s : None ≡ Some n = e in cc
key_here (q ∷ qs) zero n e small =
    let s : Some q.number ≡ Some n = e in
    let same : q.number ≡ n = cc in
    ap (key_of 0) same ∙ key_small n small
key_here (q ∷ qs) (suc i) n e small = key_here qs i n e small

-- the picture that leaves first has the next number
record Due (qs : List Picture) (d : ℕ) : Type 0 where
  pub picture : Picture
  pub at : slice_get qs (least_place (map as_waiting qs)) ≡ Some picture
  pub number : picture.number ≡ d

next_is_due : LeastLeavesFirst → (qs : List Picture) (fs rs : List ℕ) (d : ℕ) → IsNearOrder (fs ++ rs) → length (fs ++ rs) ≤ 2 ^ 31 → Waits (map number_of qs) fs d → 0 < length qs
    → ((place n : ℕ) → slice_get rs place ≡ Some n → d < n) → Due qs d
next_is_due law qs fs rs d near few w some later =
    let ns = map number_of qs in
    let long = length-map qs number_of in
    let ws = map as_waiting qs in
    let wide = length-map qs as_waiting in
    let next = next_waits ns fs rs d near w (omega arith) later in
    let first = law ws (omega arith) in
    let place : ℕ = least_place ws in
    let q = there_is qs place (omega (arith, first.waits)) in
    let at : slice_get ns place ≡ Some q.0.number = slice_get-map number_of qs place ∙ ap (option_map number_of) q.1 in
    let still = still_waits ns fs rs d q.0.number place near w at in
    let other = still_waits ns fs rs d d next.0 near w next.1 in
    let inside : next.0 < length ws = omega (arith, slice_get_within ns next.0 d next.1) in
    let low : key_at ws place ≤ℤ key_at ws next.0 = first.least next.0 inside in
    let here = key_here qs place q.0.number at (omega (arith, still.1)) in
    let there = key_here qs next.0 d next.1 (omega (arith, other.1)) in
    let below : pos q.0.number ≤ℤ pos d = subst (λ k. pos q.0.number ≤ℤ k) there (subst (λ k. k ≤ℤ key_at ws next.0) here low) in
    let most : q.0.number ≤ d = omega (arith, ints) in
    record { picture = q.0; at = q.1; number = omega (arith, still.0) }

-- ---- the pictures that are found under their numbers

abbrev IsFound : List Picture → Picture → Type 0
IsFound coded q = listed coded q.number ≡ Some q

-- ---- one picture more

-- pictures that wait once these have been pushed
record Pushed (coded front qs : List Picture) : Type 0 where
  pub waits : Waits (map number_of qs) (map number_of front) (length front - 4)
  pub found : AllByRecursion (IsFound coded) qs

-- what leaves and what waits on, where so many were pushed before and are now
record Leaves (coded front now : List Picture) (l : Leaving) : Type 0 where
  pub left : List Picture
  pub waiting : l.waiting ≡ map as_waiting left
  pub gone : l.gone ≡ filter_map (listed coded) (range_with_len (length front - 4) (length now - 4 - (length front - 4)))
  pub pushed : Pushed coded now left

waiting_many : (coded front qs : List Picture) → Pushed coded front qs → length qs + (length front - 4) ≡ length front
waiting_many coded front qs is = omega (arith, how_many (map number_of qs) (map number_of front) (length front - 4) is.waits, length-map qs number_of, length-map front number_of)

-- what waits once the next picture has left
removed : (all : List Picture) (fs : List ℕ) (d : ℕ) → Waits (map number_of all) fs d → Due all d → Waits (map number_of (remove all (least_place (map as_waiting all)))) fs (d + 1)
removed all fs d sums due = record {
  sums = λ f.
      let i : ℕ = least_place (map as_waiting all) in
      let ns = map number_of all in
      let here : slice_get ns i ≡ Some d = slice_get-map number_of all i ∙ ap (option_map number_of) due.at ∙ ap Some due.number in
      let inside = slice_get_within ns i d here in
      let item : get_or ns i 0 ≡ d = get_or_from_slice_get ns i d 0 here in
      let less = sum_by-remove f ns i 0 inside in
      let one = ap f item in
      let before = sums.sums f in
      let mapped = ap (sum_by f) (remove-map number_of all i) in
      let start : 0 + d ≡ d = omega arith in
      let range = sum_ranges f 0 d 1 d (d + 1) start refl in
      let last : sum_by f (range_with_len d 1) ≡ f d = omega (arith, sum_by-cons f d []) in
      omega arith;
}

kept_found : (coded all : List Picture) (i : ℕ) → AllByRecursion (IsFound coded) all → AllByRecursion (IsFound coded) (remove all i)
kept_found coded all i found = each_append (IsFound coded) (take i all) (drop (suc i) all) (each_take (IsFound coded) i all found) (each_drop (IsFound coded) (suc i) all found)

due_listed : (coded all : List Picture) (d : ℕ) → AllByRecursion (IsFound coded) all → (due : Due all d) → listed coded d ≡ Some due.picture
due_listed coded all d found due =
    subst (λ n. listed coded n ≡ Some due.picture) due.number (each_at (IsFound coded) all (least_place (map as_waiting all)) due.picture found due.at)

due_leaves : (all : List Picture) (d : ℕ) → (due : Due all d) → least (map as_waiting all) ≡ due.picture ∷ []
due_leaves all d due =
    let i : ℕ = least_place (map as_waiting all) in
    ap picture_of (slice_get-map as_waiting all i ∙ ap (option_map as_waiting) due.at)

-- the next picture leaves
leaving : (coded front now all : List Picture) (d : ℕ) → 4 ≤ length front → d ≡ length front - 4 → length now ≡ length front + 1 → Waits (map number_of all) (map number_of now) d
    → AllByRecursion (IsFound coded) all → Due all d → Leaves coded front now (record { waiting = others (map as_waiting all); gone = least (map as_waiting all) })
leaving coded front now all d past place longer sums found due =
    let i : ℕ = least_place (map as_waiting all) in
    let count : 1 ≡ length now - 4 - (length front - 4) = omega arith in
    let next : d + 1 ≡ length now - 4 = omega arith in
    record {
      left = remove all i;
      waiting = sym (remove-map as_waiting all i);
      gone =
          due_leaves all d due
          ∙ sym (ap (λ (o : Option Picture). cons_option o []) (due_listed coded all d found due))
          ∙ ap (λ n. filter_map (listed coded) (range_with_len n 1)) place
          ∙ ap (λ n. filter_map (listed coded) (range_with_len (length front - 4) n)) count;
      pushed = record {
        waits = subst (Waits (map number_of (remove all i)) (map number_of now)) next (removed all (map number_of now) d sums due);
        found = kept_found coded all i found;
      };
    }

one_more : LeastLeavesFirst → (coded front rest qs : List Picture) (p : Picture) → IsNearOrder (map number_of coded) → length coded ≤ 2 ^ 31 → coded ≡ front ++ p ∷ rest
    → IsFound coded p → Pushed coded front qs → Leaves coded front (front ++ p ∷ []) (delivered (map as_waiting qs ++ as_waiting p ∷ []))
one_more law coded front rest qs p near few parts here is =
    let now = front ++ p ∷ [] in
    let all = qs ++ p ∷ [] in
    let many = waiting_many coded front qs is in
    let longer : length now ≡ length front + 1 = length-append front (p ∷ []) in
    let sums : Waits (map number_of all) (map number_of now) (length front - 4) = record {
      sums = λ f.
          let more = is.waits.sums f in
          let left = ap (sum_by f) (map-append number_of qs (p ∷ [])) ∙ sum_by-append f (map number_of qs) (p.number ∷ []) in
          let right = ap (sum_by f) (map-append number_of front (p ∷ [])) ∙ sum_by-append f (map number_of front) (p.number ∷ []) in
          omega arith;
    } in
    let found = each_append (IsFound coded) qs (p ∷ []) is.found (here, tt) in
    subst (λ ws. Leaves coded front now (delivered ws)) (map-append as_waiting qs (p ∷ []))
    (by_cases all now refl many longer sums found (cases_Bool (nat_le (length (map as_waiting all)) 4)))
  where
    due : (all : List Picture) → 4 < length all → 4 ≤ length front → Waits (map number_of all) (map number_of (front ++ p ∷ [])) (length front - 4) → Due all (length front - 4)
    due all long past sums =
        let now = front ++ p ∷ [] in
        let fs = map number_of now in
        let rs = map number_of rest in
        let numbers : map number_of coded ≡ fs ++ rs = ap (map number_of) (parts ∙ sym (append_assoc front (p ∷ []) rest)) ∙ map-append number_of now rest in
        let ordered : IsNearOrder (fs ++ rs) = subst IsNearOrder numbers near in
        let count : length (map number_of coded) ≡ length (fs ++ rs) = ap length numbers in
        let longer = length-append front (p ∷ []) in
        let size = length-map now number_of in
        next_is_due law all fs rs (length front - 4) ordered (omega (arith, length-map coded number_of)) sums (omega arith)
        (λ place n e.
        let at = get_behind fs rs (length fs) place (length fs + place) n refl refl e in
        let close = ordered.near (length fs + place) n at in
        omega arith)

    by_cases : (all now : List Picture) → now ≡ front ++ p ∷ [] → length qs + (length front - 4) ≡ length front → length now ≡ length front + 1 → Waits (map number_of all) (map number_of now) (length front - 4) → AllByRecursion (IsFound coded) all
        → (nat_le (length (map as_waiting all)) 4 ≡ true) ⊎ (nat_le (length (map as_waiting all)) 4 ≡ false) → Leaves coded front now (delivered (map as_waiting all))
    by_cases all now same_now many longer sums found (inl small) =
        let wide = length-map all as_waiting in
        let short : length all ≤ 4 = omega (arith, leb-true (length (map as_waiting all)) 4 small) in
        let whole = how_many (map number_of all) (map number_of now) (length front - 4) sums in
        let same : length front - 4 ≡ length now - 4 = omega (arith, length-map all number_of, length-map now number_of) in
        let none : 0 ≡ length now - 4 - (length front - 4) = omega arith in
        rw small (record {
          left = all;
          waiting = refl;
          gone = ap (λ n. filter_map (listed coded) (range_with_len (length front - 4) n)) none;
          pushed = record { waits = subst (Waits (map number_of all) (map number_of now)) same sums; found = found };
        })
    by_cases all now same_now many longer sums found (inr full) =
        let wide = length-map all as_waiting in
        let long : 4 < length all = omega (arith, leb-false (length (map as_waiting all)) 4 full) in
        let whole = how_many (map number_of all) (map number_of now) (length front - 4) sums in
        let past : 4 ≤ length front = omega (arith, length-map all number_of, length-map now number_of) in
        rw full (leaving coded front now all (length front - 4) past refl longer sums found (due all long past (subst (λ l. Waits (map number_of all) (map number_of l) (length front - 4)) same_now sums)))

-- ---- many pictures

joined : (coded front mid end : List Picture) (now later : Leaving) → length front ≤ length mid → length mid ≤ length end → Leaves coded front mid now → Leaves coded mid end later
    → Leaves coded front end (record { waiting = later.waiting; gone = now.gone ++ later.gone })
joined coded front mid end now later small large first second =
    let a : ℕ = length front - 4 in
    let m : ℕ = length mid - 4 - (length front - 4) in
    let n : ℕ = length end - 4 - (length mid - 4) in
    let place : a + m ≡ length mid - 4 = omega arith in
    let count : m + n ≡ length end - 4 - (length front - 4) = omega arith in
    record {
      left = second.left;
      waiting = second.waiting;
      gone =
          ap₂ (λ (x y : List Picture). x ++ y) first.gone second.gone
          ∙ sym (filter_map-append (listed coded) (range_with_len a m) (range_with_len (length mid - 4) n))
          ∙ ap (filter_map (listed coded)) (sym (range_split a m n (length mid - 4) place) ∙ ap (range_with_len a) count);
      pushed = second.pushed;
    }

many_more : LeastLeavesFirst → (coded : List Picture) → IsNearOrder (map number_of coded) → length coded ≤ 2 ^ 31 → (more front rest qs : List Picture) → coded ≡ front ++ (more ++ rest)
    → AllByRecursion (IsFound coded) more → Pushed coded front qs → Leaves coded front (front ++ more) (pushed_all (map as_waiting qs) (map as_waiting more))
many_more law coded near few [] front rest qs parts found is =
    let whole = append-nil front in
    let none : 0 ≡ length (front ++ []) - 4 - (length front - 4) = omega (arith, ap length whole) in
    record {
      left = qs;
      waiting = refl;
      gone = ap (λ n. filter_map (listed coded) (range_with_len (length front - 4) n)) none;
      pushed = subst (λ l. Pushed coded l qs) (sym whole) is;
    }
many_more law coded near few (p ∷ more) front rest qs parts found is =
    let mid = front ++ p ∷ [] in
    let first = one_more law coded front (more ++ rest) qs p near few parts found.0 is in
    let split : coded ≡ mid ++ (more ++ rest) = parts ∙ sym (append_assoc front (p ∷ []) (more ++ rest)) in
    let second = many_more law coded near few more mid rest first.left split found.1 first.pushed in
    let all : mid ++ more ≡ front ++ p ∷ more = append_assoc front (p ∷ []) more in
    let now = delivered (map as_waiting qs ++ as_waiting p ∷ []) in
    let both = joined coded front mid (mid ++ more) now (pushed_all (map as_waiting first.left) (map as_waiting more))
    (omega (arith, length-append front (p ∷ []))) (omega (arith, length-append mid more)) first second in
    let P : List Waiting → List Picture → Type 0 = λ ws end. Leaves coded front end (record { waiting = (pushed_all ws (map as_waiting more)).waiting; gone = now.gone ++ (pushed_all ws (map as_waiting more)).gone }) in
    subst (P now.waiting) all (subst (λ ws. P ws (mid ++ more)) (sym first.waiting) both)

-- all that wait leave in order
all_leave : LeastLeavesFirst → (coded : List Picture) → IsNearOrder (map number_of coded) → length coded ≤ 2 ^ 31 → (m : ℕ) (qs : List Picture) (d : ℕ) → length qs ≡ m
    → Waits (map number_of qs) (map number_of coded) d → AllByRecursion (IsFound coded) qs → flushed_by m (map as_waiting qs) ≡ filter_map (listed coded) (range_with_len d m)
all_leave law coded near few zero qs d long sums found = refl
all_leave law coded near few (suc m) qs d long sums found =
    let whole : map number_of coded ≡ map number_of coded ++ [] = sym (append-nil (map number_of coded)) in
    let size : length (map number_of coded) ≡ length (map number_of coded ++ []) = ap length whole in
    let due = next_is_due law qs (map number_of coded) [] d (subst IsNearOrder whole near) (omega (arith, length-map coded number_of)) sums (omega arith)
    (λ place n e. let s : None ≡ Some n = e in absurd (cc)) in
    let i : ℕ = least_place (map as_waiting qs) in
    let at = slice_get_within qs i due.picture due.at in
    let shorter : length (remove qs i) ≡ m = omega (arith, length-append (take i qs) (drop (suc i) qs), length-take i qs, length-drop (suc i) qs) in
    let rest = all_leave law coded near few m (remove qs i) (d + 1) shorter (removed qs (map number_of coded) d sums due) (kept_found coded qs i found) in
    ap₂ (λ (x y : List Picture). x ++ y) (due_leaves qs d due) (ap (flushed_by m) (sym (remove-map as_waiting qs i)) ∙ rest)
    ∙ sym (ap (λ o. cons_option o (filter_map (listed coded) (range_with_len (d + 1) m))) (due_listed coded qs d found due))

-- ---- each picture under its number

found_alone : (xs : List Picture) → ((v : ℕ) → sum_by (only v) (map number_of xs) ≤ 1) → AllByRecursion (IsFound xs) xs
found_alone [] one = tt
found_alone (x ∷ xs) one =
    let head : IsFound (x ∷ xs) x = ap (λ (b : Bool). if b then Some x else listed xs x.number) (eq-eqb x.number x.number refl) in
    let rest = found_alone xs (λ v. omega (arith, one v, sum_by-cons (only v) x.number (map number_of xs))) in (
      head,
      each_by (IsFound (x ∷ xs)) xs (λ i y e.
          let here = each_at (IsFound xs) xs i y rest e in
          let at : slice_get (map number_of xs) i ≡ Some y.number = slice_get-map number_of xs i ∙ ap (option_map number_of) e in
          let other : x.number ≡ y.number → ⊥ = λ same. omega (arith, one y.number, sum_by-cons (only y.number) x.number (map number_of xs), only_same y.number x.number same, counted y.number (map number_of xs) i at) in
          ap (λ (b : Bool). if b then Some x else listed xs y.number) (ne_eqb x.number y.number other) ∙ here),
    )

at_most_once : (coded : List Picture) → IsNearOrder (map number_of coded) → (v : ℕ) → sum_by (only v) (map number_of coded) ≤ 1
at_most_once coded near v =
    let all = near.once (only v) in
    elim (cases_lt v (length (map number_of coded))) [
      | inl low ↦ let one = times_inside v 0 (length (map number_of coded)) (omega arith) (omega arith) in omega arith
      | inr high ↦ let none = times_high v 0 (length (map number_of coded)) (omega arith) in omega arith
    ]

-- ---- the law

-- the pictures below a number are those that are found under the numbers below it
numbered : (coded : List Picture) (n : ℕ) → by_number n coded ≡ filter_map (listed coded) (range_with_len 0 n)
numbered coded zero = refl
numbered coded (suc n) =
    let start : 0 + n ≡ n = omega arith in
    let one : suc n ≡ n + 1 = omega arith in
    ap₂ (λ (x y : List Picture). x ++ y) (numbered coded n) (one_found (listed coded n))
    ∙ sym (filter_map-append (listed coded) (range_with_len 0 n) (range_with_len n 1))
    ∙ ap (filter_map (listed coded)) (sym (ap (range_with_len 0) one ∙ range_split 0 n 1 n start))
  where
    one_found : (o : Option Picture) → option_to_list o ≡ cons_option o []
    one_found None = refl
    one_found (Some p) = refl

nothing_pushed : (coded : List Picture) → Pushed coded [] []
nothing_pushed coded = record { waits = record { sums = λ f. refl }; found = tt }

front_found : (coded front rest : List Picture) → coded ≡ front ++ rest → AllByRecursion (IsFound coded) coded → AllByRecursion (IsFound coded) front
front_found coded front rest parts found =
    let at : take (length front) coded ≡ front = ap (take (length front)) parts ∙ take_at front rest (length front) refl in
    subst (AllByRecursion (IsFound coded)) at (each_take (IsFound coded) (length front) coded found)

from_start : (coded now : List Picture) (l : Leaving) → Leaves coded [] now l → l.gone ≡ filter_map (listed coded) (range_with_len 0 (length now - 4))
from_start coded now l is =
    let count : length now - 4 - (length {A = Picture} [] - 4) ≡ length now - 4 = omega arith in
    is.gone ∙ ap (λ n. filter_map (listed coded) (range_with_len 0 n)) count

pub near_delivered : LeastLeavesFirst → NearOrderIsDelivered
near_delivered law coded near few = record { all = whole; front = fronts }
  where
    found : AllByRecursion (IsFound coded) coded
    found = found_alone coded (at_most_once coded near)

    whole : in_delivery_order (map as_waiting coded) ≡ by_number (length coded) coded
    whole =
        let all = many_more law coded near few coded [] [] [] (sym (append-nil coded)) found (nothing_pushed coded) in
        let size = waiting_many coded coded all.left all.pushed in
        let d : ℕ = length coded - 4 in
        let m : ℕ = length all.left in
        let last = all_leave law coded near few m all.left d refl all.pushed.waits all.pushed.found in
        let count : length (map as_waiting all.left) ≡ m = length-map all.left as_waiting in
        let start : 0 + d ≡ d = omega arith in
        ap₂ (λ (x y : List Picture). x ++ y) (from_start coded coded (pushed_all [] (map as_waiting coded)) all) (ap flushed all.waiting ∙ ap (λ n. flushed_by n (map as_waiting all.left)) count ∙ last)
        ∙ sym (filter_map-append (listed coded) (range_with_len 0 d) (range_with_len d m))
        ∙ ap (filter_map (listed coded)) (sym (range_split 0 d m d start) ∙ ap (range_with_len 0) (omega arith))
        ∙ sym (numbered coded (length coded))

    fronts : (front rest : List Picture) → coded ≡ front ++ rest → deliver (map as_waiting front) ≡ by_number (length front - 4) coded
    fronts front rest parts =
        let all = many_more law coded near few front [] rest [] parts (front_found coded front rest parts found) (nothing_pushed coded) in
        from_start coded front (pushed_all [] (map as_waiting front)) all ∙ sym (numbered coded (length front - 4))

-- the pictures that a plan becomes
pub plans_delivered : LeastLeavesFirst → PlansAreDelivered
plans_delivered law s n pictures accepted few same =
    let near : IsNearOrder (map number_of pictures) = subst IsNearOrder (sym same) (plans_near s n accepted) in
    let size : length (map number_of pictures) ≡ length (map planned_number (plan n s)) = ap length same in
    near_delivered law pictures near (omega (arith, length-map pictures number_of, length-map (plan n s) planned_number, length_plan n s (paced s accepted).gop_least))
