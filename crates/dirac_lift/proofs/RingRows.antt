-- Rows in rings that are changed one by one: the lists, and the lines that they hold.
use Rattle.std.proofs.Common.{◌≡◌, ◌≢◌, ℕ, ℤ, pos, ◌+◌, ◌-◌, ◌*◌, ◌/◌, ◌%◌, ◌<◌, ◌≤◌, List, length, get_or, set, unsigned_abs, arith, refl, inl, inr, ap, sym, ◌∙◌, subst}
use Rattle.std.specs.List.{All}
use Rattle.std.proofs.lemmas.Bool.{cases_eq, cases_lt, le-leb, le-ltb, lt-leb}
use Rattle.std.proofs.lemmas.List.{get_or-set_same, get_or-set_other, get_or_default, length-set}
use Rattle.std.proofs.lemmas.Nat.{row_fits}
use Rattle.dirac_lift.specs.ByLines.{Timed, in_turn}
use Rattle.dirac_lift.specs.Lanes.{RunPut}
use Rattle.dirac_lift.specs.Lifting.{PlacesWithin, Step, moved, new_at, other, own, pair_read, rounded, value_read, weighted}
use Rattle.dirac_lift.specs.Rings.{RingsHold, RowCame, RowLifted, ring_read, ring_value}
use Rattle.dirac_lift.proofs.HalfLemmas.{abs-read}
use Rattle.dirac_lift.proofs.Turns.{changed_in_turn, length-in_turn, weighted_below}

-- a run that is written value by value
pub run_more : (at n : ℕ) (f : ℕ → ℤ) (xs ys : List ℤ) (v : ℤ) → RunPut at n f xs ys → at + n < length xs → v ≡ f n → RunPut at (n + 1) f xs (set ys (at + n) v)
run_more at n f xs ys v r fits e = record {
  len = length-set ys (at + n) v ∙ r.len;
  inside = λ j l. elim (cases_eq j n) [
    | inl here ↦
        ap (λ i. get_or (set ys (at + n) v) (at + i) (pos 0)) here
        ∙ get_or-set_same ys (at + n) v (pos 0) (omega (arith, fits, r.len)) ∙ e ∙ ap f (sym here)
    | inr earlier ↦
        get_or-set_other ys (at + n) (at + j) v (pos 0) (λ same. earlier (omega (arith, same))) ∙ r.inside j (omega (arith, l, earlier))
  ];
  before = λ k l. get_or-set_other ys (at + n) k v (pos 0) (λ same. omega (arith, same, l)) ∙ r.before k l;
  behind = λ k l. get_or-set_other ys (at + n) k v (pos 0) (λ same. omega (arith, same, l)) ∙ r.behind k (omega (arith, l));
}

-- the values of a row that a step changes, one by one
pub row_more : (s : Step) (w h n x : ℕ) (owns reads ys : List ℤ) (sum : ℤ) → RunPut ((n % 16) * w) x (ring_value s w h owns reads n) owns ys → (n % 16) * w + x < length owns → sum ≡ weighted s.taps (ring_read s.lead w h reads n x) (length s.taps) → RunPut ((n % 16) * w) (x + 1) (ring_value s w h owns reads n) owns (set ys ((n % 16) * w + x) (moved s.minus (get_or ys ((n % 16) * w + x) (pos 0)) (rounded s.shift sum)))
row_more s w h n x owns reads ys sum r fits e =
    run_more ((n % 16) * w) x (ring_value s w h owns reads n) owns ys (moved s.minus (get_or ys ((n % 16) * w + x) (pos 0)) (rounded s.shift sum)) r fits
    (ap (λ v. moved s.minus v (rounded s.shift sum)) (r.behind ((n % 16) * w + x) (omega arith))
    ∙ ap (λ z. moved s.minus (get_or owns ((n % 16) * w + x) (pos 0)) (rounded s.shift z)) e)

-- what a run leaves is as small as it was
pub run_bound : (b at w : ℕ) (f : ℕ → ℤ) (xs ys : List ℤ) → RunPut at w f xs ys → All (λ v. unsigned_abs v ≤ b) xs → ((j : ℕ) → j < w → unsigned_abs (f j) ≤ b) → All (λ v. unsigned_abs v ≤ b) ys
run_bound b at w f xs ys r all each k d l =
    rw (get_or_default ys k d (pos 0) l) (elim (cases_lt k at) [
      | inl before ↦ rw (r.before k before) (abs-read b xs k all)
      | inr from ↦ elim (cases_lt (k - at) w) [
        | inl inside ↦
            let place : at + (k - at) ≡ k = omega (arith, from) in
            subst (λ i. unsigned_abs (get_or ys i (pos 0)) ≤ b) place (rw (r.inside (k - at) inside) (each (k - at) inside))
        | inr behind ↦ rw (r.behind k (omega (arith, behind, from))) (abs-read b xs k all)
      ]
    ])

-- a run in a slot leaves the others
pub slot_kept : (w a b x : ℕ) (f : ℕ → ℤ) (xs ys : List ℤ) → RunPut (a * w) w f xs ys → b ≢ a → x < w → get_or ys (b * w + x) (pos 0) ≡ get_or xs (b * w + x) (pos 0)
slot_kept w a b x f xs ys r apart l = elim (cases_lt b a) [
  | inl above ↦ r.before (b * w + x) (omega (arith, l, row_fits b w a w above (omega arith)))
  | inr from ↦ r.behind (b * w + x) (omega (arith, row_fits a w b w (omega (arith, from, apart)) (omega arith)))
]

-- other lines that are the same
pub hold_same : (p w h lo hi : ℕ) (f g : ℕ → List ℤ) (owns reads : List ℤ) → RingsHold p w h lo hi f owns reads → ((x : ℕ) → x < w → f x ≡ g x) → RingsHold p w h lo hi g owns reads
hold_same p w h lo hi f g owns reads r e = record {
  owns_len = r.owns_len;
  reads_len = r.reads_len;
  lens = λ x l. ap length (sym (e x l)) ∙ r.lens x l;
  changed = λ n x a b c d. r.changed n x a b c d ∙ ap (λ zs. get_or zs (own p n) (pos 0)) (e x d);
  read = λ n x a b c d. r.read n x a b c d ∙ ap (λ zs. get_or zs (other p n) (pos 0)) (e x d);
}

-- the same told from the other half
pub hold_turned : (w h lo hi : ℕ) (f : ℕ → List ℤ) (evens odds : List ℤ) → RingsHold 0 w h lo hi f evens odds → RingsHold 1 w h lo hi f odds evens
hold_turned w h lo hi f evens odds r = record {
  owns_len = r.reads_len;
  reads_len = r.owns_len;
  lens = r.lens;
  changed = r.read;
  read = r.changed;
}

pub hold_turned_back : (w h lo hi : ℕ) (f : ℕ → List ℤ) (evens odds : List ℤ) → RingsHold 1 w h lo hi f odds evens → RingsHold 0 w h lo hi f evens odds
hold_turned_back w h lo hi f evens odds r = record {
  owns_len = r.reads_len;
  reads_len = r.owns_len;
  lens = r.lens;
  changed = r.read;
  read = r.changed;
}

-- a step that no row has come to, or no longer
still : (s : Step) (wait w h m lo hi : ℕ) (cols : ℕ → List ℤ) (owns reads new : List ℤ) → RingsHold s.parity w h lo hi cols owns reads → new ≡ owns → ((ys : List ℤ) → length ys / 2 ≡ h → in_turn (record { step = s; wait = wait }) m ys ≡ ys) → RingsHold s.parity w h lo hi (λ x. in_turn (record { step = s; wait = wait }) m (cols x)) new reads
still s wait w h m lo hi cols owns reads new r e idle =
    let same : (x : ℕ) → x < w → in_turn (record { step = s; wait = wait }) m (cols x) ≡ cols x = λ x l. idle (cols x) (omega (arith, r.lens x l)) in
    hold_same s.parity w h lo hi cols (λ x. in_turn (record { step = s; wait = wait }) m (cols x)) new reads
    (subst (λ zs. RingsHold s.parity w h lo hi cols zs reads) (sym e) r) (λ x l. sym (same x l))

-- the new values of the row that is changed
row_value : (s : Step) (n wait w h m x : ℕ) (cols : ℕ → List ℤ) (owns reads : List ℤ) → RingsHold s.parity w h (m + 1 - 16) (m + 1) cols owns reads → n + wait ≡ m → n < h → x < w → length s.taps ≤ wait + s.lead + 1 → wait + s.lead ≤ 15 → ring_value s w h owns reads n x ≡ new_at s (cols x) n
row_value s n wait w h m x cols owns reads r turn inside l taps lead =
    let half : length (cols x) / 2 ≡ h = omega (arith, r.lens x l) in
    ap (λ v. moved s.minus v (rounded s.shift (weighted s.taps (ring_read s.lead w h reads n x) (length s.taps)))) (r.changed n x (omega (arith, turn, lead)) (omega (arith, turn)) inside l)
    ∙ ap (λ v. moved s.minus (get_or (cols x) (own s.parity n) (pos 0)) (rounded s.shift v))
    (weighted_below s.taps (ring_read s.lead w h reads n x) (value_read s.parity s.lead (cols x) n) (length s.taps) (λ k kl.
    r.read (pair_read s.lead h n k) x (omega (arith, turn, lead, inside)) (omega (arith, turn, taps, kl)) (omega (arith, inside)) l
    ∙ ap (λ z. get_or (cols x) (other s.parity (pair_read s.lead z n k)) (pos 0)) (sym half)))

-- a step whose row has come
busy : (s : Step) (wait w h m : ℕ) (cols : ℕ → List ℤ) (owns reads new : List ℤ) → RingsHold s.parity w h (m + 1 - 16) (m + 1) cols owns reads → RunPut (((m - wait) % 16) * w) w (ring_value s w h owns reads (m - wait)) owns new → s.parity ≤ 1 → wait ≤ m → m - wait < h → length s.taps ≤ wait + s.lead + 1 → wait + s.lead ≤ 15
    → RingsHold s.parity w h (m + 1 - 16) (m + 1) (λ x. in_turn (record { step = s; wait = wait }) m (cols x)) new reads
busy s wait w h m cols owns reads new r put p come inside taps lead =
    let t : Timed = record { step = s; wait = wait } in
    let row = m - wait in
    let here : row + wait ≡ m = omega (arith, come) in
    let turned : (x : ℕ) → x < w → in_turn t m (cols x) ≡ set (cols x) (own s.parity row) (new_at s (cols x) row) =
    λ x l. changed_in_turn t m h (cols x) (omega (arith, r.lens x l)) come inside in
    record {
      owns_len = put.len ∙ r.owns_len;
      reads_len = r.reads_len;
      lens = λ x l. length-in_turn t m (cols x) ∙ r.lens x l;
      changed = λ n x a b c d. elim (cases_eq n row) [
        | inl same ↦
            ap (λ i. get_or new ((i % 16) * w + x) (pos 0)) same
            ∙ put.inside x d
            ∙ row_value s row wait w h m x cols owns reads r here inside d taps lead
            ∙ sym (get_or-set_same (cols x) (own s.parity row) (new_at s (cols x) row) (pos 0) (omega (arith, r.lens x d, inside, p)))
            ∙ ap (λ zs. get_or zs (own s.parity row) (pos 0)) (sym (turned x d))
            ∙ ap (λ i. get_or (in_turn t m (cols x)) (own s.parity i) (pos 0)) (sym same)
        | inr away ↦
            slot_kept w (row % 16) (n % 16) x _ owns new put (λ e. away (omega (arith, e, a, b, here, lead))) d
            ∙ r.changed n x a b c d
            ∙ sym (get_or-set_other (cols x) (own s.parity row) (own s.parity n) (new_at s (cols x) row) (pos 0) (λ e. away (omega (arith, e))))
            ∙ ap (λ zs. get_or zs (own s.parity n) (pos 0)) (sym (turned x d))
      ];
      read = λ n x a b c d.
          r.read n x a b c d
          ∙ sym (get_or-set_other (cols x) (own s.parity row) (other s.parity n) (new_at s (cols x) row) (pos 0) (λ e. omega (arith, e, p)))
          ∙ ap (λ zs. get_or zs (other s.parity n) (pos 0)) (sym (turned x d));
    }

pub lifted_holds : (s : Step) (wait w h m : ℕ) (cols : ℕ → List ℤ) (owns reads new : List ℤ) → RingsHold s.parity w h (m + 1 - 16) (m + 1) cols owns reads → RowLifted s w h m wait owns reads new → s.parity ≤ 1 → length s.taps ≤ wait + s.lead + 1 → wait + s.lead ≤ 15
    → RingsHold s.parity w h (m + 1 - 16) (m + 1) (λ x. in_turn (record { step = s; wait = wait }) m (cols x)) new reads
lifted_holds s wait w h m cols owns reads new r l p taps lead = elim (cases_lt m wait) [
  | inl early ↦ still s wait w h m (m + 1 - 16) (m + 1) cols owns reads new r (l.idle (inl early)) (λ ys e. rw (lt-leb wait m early) refl)
  | inr come ↦ elim (cases_lt (m - wait) h) [
    | inl inside ↦ busy s wait w h m cols owns reads new r (l.busy come inside) p come inside taps lead
    | inr past ↦
        still s wait w h m (m + 1 - 16) (m + 1) cols owns reads new r (l.idle (inr (omega (arith, come, past))))
        (λ ys e. rw (le-leb wait m come, le-ltb (m - wait) (length ys / 2) (omega (arith, past, e))) refl)
  ]
]

-- and how large the ring's values are then
pub lifted_bound : (b : ℕ) (s : Step) (wait w h m : ℕ) (cols : ℕ → List ℤ) (owns reads new : List ℤ) → RingsHold s.parity w h (m + 1 - 16) (m + 1) cols new reads → RowLifted s w h m wait owns reads new → wait ≤ 15 → ((x : ℕ) → x < w → PlacesWithin b s.parity (cols x)) → All (λ v. unsigned_abs v ≤ b) owns → All (λ v. unsigned_abs v ≤ b) new
lifted_bound b s wait w h m cols owns reads new r l early within all = elim (cases_lt m wait) [
  | inl before ↦ rw (l.idle (inl before)) all
  | inr come ↦ elim (cases_lt (m - wait) h) [
    | inl inside ↦
        let put = l.busy come inside in
        run_bound b (((m - wait) % 16) * w) w (ring_value s w h owns reads (m - wait)) owns new put all (λ j jl.
        rw (sym (put.inside j jl) ∙ r.changed (m - wait) j (omega (arith, early)) (omega arith) inside jl) (within j jl (m - wait)))
    | inr past ↦ rw (l.idle (inr (omega (arith, come, past)))) all
  ]
]

-- and of a row that comes
pub row_came : (w h m : ℕ) (rows ring after : List ℤ) → m < h → RunPut ((m % 16) * w) w (λ x. get_or rows (m * w + x) (pos 0)) ring after → RowCame w h m rows ring after
row_came w h m rows ring after inside put = record { busy = λ l. put; idle = λ past. absurd (omega (arith, past, inside)) }

pub no_row_came : (w h m : ℕ) (rows ring : List ℤ) → h ≤ m → RowCame w h m rows ring ring
no_row_came w h m rows ring past = record { busy = λ l. absurd (omega (arith, past, l)); idle = λ l. refl }
