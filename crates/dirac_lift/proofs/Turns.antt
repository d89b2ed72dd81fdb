-- Steps that are run line by line: what they come to.
use Rattle.std.proofs.Common.{◌≡◌, ◌≢◌, ℕ, zero, suc, ℤ, pos, Bool, true, ◌&&◌, ◌==◌, nat_le, if◌then◌else◌, min, ◌⊎◌, ◌+◌, ◌-◌, ◌/◌, ◌%◌, ◌<◌, ◌≤◌, ◌+ℤ◌, ◌*ℤ◌, List, [], ◌∷◌, length, get_or, set, arith, refl, inl, inr, ap, sym, ◌∙◌, subst}
use Rattle.std.proofs.lemmas.Bool.{and_parts, cases_eq, cases_lt, le-leb, le-ltb, leb-true, lt-leb, lt-ltb, ne_eqb}
use Rattle.std.proofs.lemmas.List.{get_or-set_other, length-set}
use Rattle.dirac_lift.specs.ByLines.{AnalysisByLines, LinesFinish, SynthesisByLines, Timed, distance, in_turn, longest_wait, pair_changed, timed, timed_behind, turn, turns}
use Rattle.dirac_lift.specs.Lifting.{Step, lift, moved, new_at, other, own, pair_read, rounded, value_read, weighted}
use Rattle.dirac_lift.specs.Wavelets.{analyse, run, steps_of, synth, taken_back}
use Rattle.dirac_lift.proofs.Lifted.{LiftedBelow, below_end, below_more, below_none, length-lift}
use Rattle.dirac_lift.proofs.Runs.{by_wavelet, has_parities, parities_back, parities_of}

-- a step behind another that waits no less: of the same parity, or so far behind that neither reads what the other
-- changes
abbrev pub apart : Timed → Timed → Bool
apart s t =
    nat_le s.wait t.wait
    && (if s.step.parity == t.step.parity then true else (nat_le (s.wait + s.step.lead) t.wait && nat_le (s.wait + length t.step.taps) (t.wait + t.step.lead + 1)))

abbrev pub all_apart : Timed → List Timed → Bool
all_apart s [] = true
all_apart s (t ∷ ts) = apart s t && all_apart s ts

abbrev pub in_time : List Timed → Bool
in_time [] = true
in_time (t ∷ ts) = all_apart t ts && in_time ts

abbrev pub steps_in : List Timed → List Step
steps_in [] = []
steps_in (t ∷ ts) = t.step ∷ steps_in ts

-- sums of the same values are the same
pub weighted_below : (taps : List ℤ) (f g : ℕ → ℤ) (m : ℕ) → ((k : ℕ) → k < m → f k ≡ g k) → weighted taps f m ≡ weighted taps g m
weighted_below taps f g zero h = refl
weighted_below taps f g (suc m) h =
    ap (λ a. a +ℤ get_or taps m (pos 0) *ℤ f m) (weighted_below taps f g m (λ k l. h k (omega (arith, l))))
    ∙ ap (λ v. weighted taps g m +ℤ get_or taps m (pos 0) *ℤ v) (h m (omega arith))

-- a pair's new value hangs on its own place and on those that are read alone
new_same : (s : Step) (i q : ℕ) (v : ℤ) (xs : List ℤ) → q ≢ own s.parity i → ((k : ℕ) → k < length s.taps → q ≢ other s.parity (pair_read s.lead (length xs / 2) i k)) → new_at s (set xs q v) i ≡ new_at s xs i
new_same s i q v xs mine reads =
    let len : length (set xs q v) ≡ length xs = length-set xs q v in
    ap (λ a. moved s.minus a (rounded s.shift (weighted s.taps (value_read s.parity s.lead (set xs q v) i) (length s.taps)))) (get_or-set_other xs q (own s.parity i) v (pos 0) (λ e. mine (sym e)))
    ∙ ap (λ w. moved s.minus (get_or xs (own s.parity i) (pos 0)) (rounded s.shift w))
    (weighted_below s.taps (value_read s.parity s.lead (set xs q v) i) (value_read s.parity s.lead xs i) (length s.taps) (λ k l.
    ap (λ n. get_or (set xs q v) (other s.parity (pair_read s.lead (n / 2) i k)) (pos 0)) len
    ∙ get_or-set_other xs q (other s.parity (pair_read s.lead (length xs / 2) i k)) v (pos 0) (λ e. reads k l (sym e))))

set_swap : (xs : List ℤ) (p q : ℕ) (u v : ℤ) → p ≢ q → set (set xs p u) q v ≡ set (set xs q v) p u
set_swap [] p q u v ne = refl
set_swap (x ∷ xs) zero zero u v ne = absurd (ne refl)
set_swap (x ∷ xs) zero (suc q) u v ne = refl
set_swap (x ∷ xs) (suc p) zero u v ne = refl
set_swap (x ∷ xs) (suc p) (suc q) u v ne = ap (λ zs. x ∷ zs) (set_swap xs p q u v (λ e. ne (ap suc e)))

pairs_swap : (s t : Step) (i k : ℕ) (xs : List ℤ) → own s.parity i ≢ own t.parity k → ((j : ℕ) → j < length s.taps → own t.parity k ≢ other s.parity (pair_read s.lead (length xs / 2) i j)) → ((j : ℕ) → j < length t.taps → own s.parity i ≢ other t.parity (pair_read t.lead (length xs / 2) k j)) → pair_changed s i (pair_changed t k xs) ≡ pair_changed t k (pair_changed s i xs)
pairs_swap s t i k xs ne sr tr =
    let u : ℤ = new_at s xs i in
    let v : ℤ = new_at t xs k in
    ap (set (set xs (own t.parity k) v) (own s.parity i)) (new_same s i (own t.parity k) v xs (λ e. ne (sym e)) sr)
    ∙ set_swap xs (own t.parity k) (own s.parity i) v u (λ e. ne (sym e))
    ∙ sym (ap (set (set xs (own s.parity i) u) (own t.parity k)) (new_same t k (own s.parity i) u xs ne tr))

-- a step changes a pair in a turn, or none
pub turn_case : (t : Timed) (m h : ℕ) → ((t.wait ≤ m) × (m - t.wait < h)) ⊎ (((ys : List ℤ) → length ys / 2 ≡ h → in_turn t m ys ≡ ys) × (min (m - t.wait) h ≡ min (m + 1 - t.wait) h))
turn_case t m h = elim (cases_lt m t.wait) [
  | inl early ↦ inr (λ ys e. rw (lt-leb t.wait m early) refl, omega (arith, early))
  | inr come ↦ elim (cases_lt (m - t.wait) h) [
    | inl inside ↦ inl (omega (arith, come), inside)
    | inr past ↦ inr (λ ys e. rw (le-leb t.wait m (omega (arith, come)), le-ltb (m - t.wait) (length ys / 2) (omega (arith, past, e))) refl, omega (arith, past, come))
  ]
]

pub changed_in_turn : (t : Timed) (m h : ℕ) (ys : List ℤ) → length ys / 2 ≡ h → t.wait ≤ m → m - t.wait < h → in_turn t m ys ≡ pair_changed t.step (m - t.wait) ys
changed_in_turn t m h ys e come inside = rw (le-leb t.wait m come, lt-ltb (m - t.wait) (length ys / 2) (omega (arith, inside, e))) refl

pub length-in_turn : (t : Timed) (m : ℕ) (xs : List ℤ) → length (in_turn t m xs) ≡ length xs
length-in_turn t m xs = elim (turn_case t m (length xs / 2)) [
  | inl busy ↦ rw (changed_in_turn t m (length xs / 2) xs refl busy.0 busy.1) (length-set xs (own t.step.parity (m - t.wait)) (new_at t.step xs (m - t.wait)))
  | inr idle ↦ rw (idle.0 xs refl) refl
]

length-turn : (ts : List Timed) (m : ℕ) (xs : List ℤ) → length (turn ts m xs) ≡ length xs
length-turn [] m xs = refl
length-turn (t ∷ ts) m xs = length-turn ts m (in_turn t m xs) ∙ length-in_turn t m xs

pub length-turns : (ts : List Timed) (m : ℕ) (xs : List ℤ) → length (turns ts m xs) ≡ length xs
length-turns ts zero xs = refl
length-turns ts (suc m) xs = length-turn ts m (turns ts m xs) ∙ length-turns ts m xs

-- what two steps do in turns of their own, the one in front in the later turn
behind : (s t : Timed) → apart s t ≡ true → (s.wait ≤ t.wait) × ((s.step.parity ≡ t.step.parity) ⊎ ((s.wait + s.step.lead ≤ t.wait) × (s.wait + length t.step.taps ≤ t.wait + t.step.lead + 1)))
behind s t e =
    let both = and_parts (nat_le s.wait t.wait) (if s.step.parity == t.step.parity then true else (nat_le (s.wait + s.step.lead) t.wait && nat_le (s.wait + length t.step.taps) (t.wait + t.step.lead + 1))) e in (
      leb-true s.wait t.wait both.0,
      elim (cases_eq s.step.parity t.step.parity) [
        | inl same ↦ inl same
        | inr not ↦
            let rest : (nat_le (s.wait + s.step.lead) t.wait && nat_le (s.wait + length t.step.taps) (t.wait + t.step.lead + 1)) ≡ true = rw (ne_eqb s.step.parity t.step.parity not) at both.1 in
            let parts = and_parts (nat_le (s.wait + s.step.lead) t.wait) (nat_le (s.wait + length t.step.taps) (t.wait + t.step.lead + 1)) rest in
            inr (leb-true (s.wait + s.step.lead) t.wait parts.0, leb-true (s.wait + length t.step.taps) (t.wait + t.step.lead + 1) parts.1)
      ],
    )

busy_swap : (s t : Timed) (m j : ℕ) (xs : List ℤ) → apart s t ≡ true → s.step.parity ≤ 1 → t.step.parity ≤ 1 → j < m → s.wait ≤ m → m - s.wait < length xs / 2 → t.wait ≤ j → j - t.wait < length xs / 2 → pair_changed s.step (m - s.wait) (pair_changed t.step (j - t.wait) xs) ≡ pair_changed t.step (j - t.wait) (pair_changed s.step (m - s.wait) xs)
busy_swap s t m j xs e sp tp l sw si tw ti =
    let far = behind s t e in
    elim far.1 [
      | inl same ↦
          pairs_swap s.step t.step (m - s.wait) (j - t.wait) xs
          (λ f. omega (arith, f, same, far.0, l, sw, tw))
          (λ k kl f. omega (arith, f, same, sp))
          (λ k kl f. omega (arith, f, same, sp))
      | inr apart_by ↦
          pairs_swap s.step t.step (m - s.wait) (j - t.wait) xs
          (λ f. omega (arith, f, far.0, l, sw, tw, sp, tp))
          (λ k kl f. omega (arith, f, apart_by.0, l, sw, tw, si, sp, tp))
          (λ k kl f. omega (arith, f, kl, apart_by.1, l, sw, tw, ti, sp, tp))
    ]

swap : (s t : Timed) (m j : ℕ) (xs : List ℤ) → apart s t ≡ true → s.step.parity ≤ 1 → t.step.parity ≤ 1 → j < m → in_turn s m (in_turn t j xs) ≡ in_turn t j (in_turn s m xs)
swap s t m j xs e sp tp l = elim (turn_case s m (length xs / 2)) [
  | inr idle ↦ idle.0 (in_turn t j xs) (ap (λ n. n / 2) (length-in_turn t j xs)) ∙ ap (in_turn t j) (sym (idle.0 xs refl))
  | inl sb ↦ elim (turn_case t j (length xs / 2)) [
    | inr idle ↦ ap (in_turn s m) (idle.0 xs refl) ∙ sym (idle.0 (in_turn s m xs) (ap (λ n. n / 2) (length-in_turn s m xs)))
    | inl tb ↦
        let h = length xs / 2 in
        let one = pair_changed t.step (j - t.wait) xs in
        let two = pair_changed s.step (m - s.wait) xs in
        ap (in_turn s m) (changed_in_turn t j h xs refl tb.0 tb.1)
        ∙ changed_in_turn s m h one (ap (λ n. n / 2) (length-set xs (own t.step.parity (j - t.wait)) (new_at t.step xs (j - t.wait)))) sb.0 sb.1
        ∙ busy_swap s t m j xs e sp tp l sb.0 sb.1 tb.0 tb.1
        ∙ sym (ap (in_turn t j) (changed_in_turn s m h xs refl sb.0 sb.1)
        ∙ changed_in_turn t j h two (ap (λ n. n / 2) (length-set xs (own s.step.parity (m - s.wait)) (new_at s.step xs (m - s.wait)))) tb.0 tb.1)
  ]
]

-- the step in front can take its later turn first
turn_behind : (t : Timed) (ts : List Timed) (m k : ℕ) (xs : List ℤ) → all_apart t ts ≡ true → t.step.parity ≤ 1 → has_parities (steps_in ts) ≡ true → k < m → in_turn t m (turn ts k xs) ≡ turn ts k (in_turn t m xs)
turn_behind t [] m k xs e p fit l = refl
turn_behind t (u ∷ us) m k xs e p fit l =
    let parts = and_parts (apart t u) (all_apart t us) e in
    let fits = and_parts (nat_le u.step.parity 1) (has_parities (steps_in us)) fit in
    turn_behind t us m k (in_turn u k xs) parts.1 p fits.1 l
    ∙ ap (turn us k) (swap t u m k xs parts.0 p (leb-true u.step.parity 1 fits.0) l)

pub turns_behind : (t : Timed) (ts : List Timed) (m k : ℕ) (xs : List ℤ) → all_apart t ts ≡ true → t.step.parity ≤ 1 → has_parities (steps_in ts) ≡ true → k ≤ m → in_turn t m (turns ts k xs) ≡ turns ts k (in_turn t m xs)
turns_behind t ts m zero xs e p fit l = refl
turns_behind t ts m (suc k) xs e p fit l =
    turn_behind t ts m k (turns ts k xs) e p fit (omega (arith, l)) ∙ ap (turn ts k) (turns_behind t ts m k xs e p fit (omega (arith, l)))

-- so the step in front can take all its turns before the others
pub front_first : (t : Timed) (ts : List Timed) (m : ℕ) (xs : List ℤ) → all_apart t ts ≡ true → t.step.parity ≤ 1 → has_parities (steps_in ts) ≡ true → turns (t ∷ ts) m xs ≡ turns ts m (turns (t ∷ []) m xs)
front_first t ts zero xs e p fit = refl
front_first t ts (suc m) xs e p fit =
    ap (λ ys. turn ts m (in_turn t m ys)) (front_first t ts m xs e p fit)
    ∙ ap (turn ts m) (turns_behind t ts m m (turns (t ∷ []) m xs) e p fit (omega arith))

-- and alone it changes one pair after another
pub alone_below : (t : Timed) (m : ℕ) (xs : List ℤ) → t.step.parity ≤ 1 → LiftedBelow t.step xs (turns (t ∷ []) m xs) (min (m - t.wait) (length xs / 2))
alone_below t zero xs p = subst (LiftedBelow t.step xs xs) (omega arith) (below_none t.step xs)
alone_below t (suc m) xs p =
    let ys = turns (t ∷ []) m xs in
    let before = alone_below t m xs p in
    let len : length ys ≡ length xs = length-turns (t ∷ []) m xs in
    elim (turn_case t m (length xs / 2)) [
      | inl busy ↦
          let place : min (m - t.wait) (length xs / 2) ≡ m - t.wait = omega (arith, busy.1) in
          let after : m - t.wait + 1 ≡ min (suc m - t.wait) (length xs / 2) = omega (arith, busy.0, busy.1) in
          rw (changed_in_turn t m (length xs / 2) ys (ap (λ n. n / 2) len) busy.0 busy.1)
          (subst (LiftedBelow t.step xs (pair_changed t.step (m - t.wait) ys)) after
          (below_more t.step xs ys (m - t.wait) (new_at t.step ys (m - t.wait)) (subst (LiftedBelow t.step xs ys) place before) p busy.1 refl))
      | inr idle ↦
          let next : m + 1 ≡ suc m = omega arith in
          rw (idle.0 ys (ap (λ n. n / 2) len))
          (subst (LiftedBelow t.step xs ys) (idle.1 ∙ ap (λ n. min (n - t.wait) (length xs / 2)) next) before)
    ]

alone_all : (t : Timed) (m : ℕ) (xs : List ℤ) → t.step.parity ≤ 1 → length xs % 2 ≡ 0 → length xs / 2 + t.wait ≤ m → turns (t ∷ []) m xs ≡ lift t.step xs
alone_all t m xs p even late =
    below_end t.step xs (turns (t ∷ []) m xs) (min (m - t.wait) (length xs / 2)) (alone_below t m xs p) (omega (arith, late)) p even

pub no_turns : (m : ℕ) (xs : List ℤ) → turns [] m xs ≡ xs
no_turns zero xs = refl
no_turns (suc m) xs = no_turns m xs

-- all steps
pub turns_run : (ts : List Timed) (m : ℕ) (xs : List ℤ) → in_time ts ≡ true → has_parities (steps_in ts) ≡ true → length xs % 2 ≡ 0 → length xs / 2 + longest_wait ts ≤ m → turns ts m xs ≡ run (steps_in ts) xs
turns_run [] m xs e fit even late = no_turns m xs
turns_run (t ∷ ts) m xs e fit even late =
    let parts = and_parts (all_apart t ts) (in_time ts) e in
    let fits = and_parts (nat_le t.step.parity 1) (has_parities (steps_in ts)) fit in
    let p : t.step.parity ≤ 1 = leb-true t.step.parity 1 fits.0 in
    front_first t ts m xs parts.0 p fits.1
    ∙ ap (turns ts m) (alone_all t m xs p even (omega (arith, late)))
    ∙ turns_run ts m (lift t.step xs) parts.1 fits.1 (ap (λ n. n % 2) (length-lift t.step xs) ∙ even) (omega (arith, late, ap (λ n. n / 2) (length-lift t.step xs)))

-- a pair that all steps have gone over stays
stays_in_turn : (t : Timed) (m p : ℕ) (xs : List ℤ) → t.step.parity ≤ 1 → p / 2 + t.wait < m → get_or (in_turn t m xs) p (pos 0) ≡ get_or xs p (pos 0)
stays_in_turn t m p xs fit l = elim (turn_case t m (length xs / 2)) [
  | inl busy ↦
      rw (changed_in_turn t m (length xs / 2) xs refl busy.0 busy.1)
      (get_or-set_other xs (own t.step.parity (m - t.wait)) p (new_at t.step xs (m - t.wait)) (pos 0) (λ e. omega (arith, e, fit, l)))
  | inr idle ↦ rw (idle.0 xs refl) refl
]

stays_turn : (ts : List Timed) (m p : ℕ) (xs : List ℤ) → has_parities (steps_in ts) ≡ true → p / 2 + longest_wait ts < m → get_or (turn ts m xs) p (pos 0) ≡ get_or xs p (pos 0)
stays_turn [] m p xs fit l = refl
stays_turn (t ∷ ts) m p xs fit l =
    let fits = and_parts (nat_le t.step.parity 1) (has_parities (steps_in ts)) fit in
    stays_turn ts m p (in_turn t m xs) fits.1 (omega (arith, l)) ∙ stays_in_turn t m p xs (leb-true t.step.parity 1 fits.0) (omega (arith, l))

pub stays : (ts : List Timed) (more m p : ℕ) (xs : List ℤ) → has_parities (steps_in ts) ≡ true → p / 2 + longest_wait ts < m → get_or (turns ts (m + more) xs) p (pos 0) ≡ get_or (turns ts m xs) p (pos 0)
stays ts zero m p xs fit l = ap (λ n. get_or (turns ts n xs) p (pos 0)) (omega arith)
stays ts (suc more) m p xs fit l =
    let next : m + suc more ≡ suc (m + more) = omega arith in
    rw next (stays_turn ts (m + more) p (turns ts (m + more) xs) fit (omega (arith, l)) ∙ stays ts more m p xs fit l)

-- the steps of a wavelet
pub steps_behind : (before : Step) (wait : ℕ) (ss : List Step) → steps_in (timed_behind before wait ss) ≡ ss
steps_behind before wait [] = refl
steps_behind before wait (s ∷ ss) = ap (λ rest. s ∷ rest) (steps_behind s (wait + distance before s) ss)

steps_timed : (ss : List Step) → steps_in (timed ss) ≡ ss
steps_timed [] = refl
steps_timed (s ∷ ss) = ap (λ rest. s ∷ rest) (steps_behind s 0 ss)

synth_in_time : (w : ℕ) → w ≤ 6 → in_time (timed (steps_of w)) ≡ true
synth_in_time = by_wavelet (λ w ss. in_time (timed ss) ≡ true) refl refl refl refl refl refl refl

analyse_in_time : (w : ℕ) → w ≤ 6 → in_time (timed (taken_back (steps_of w))) ≡ true
analyse_in_time = by_wavelet (λ w ss. in_time (timed (taken_back ss)) ≡ true) refl refl refl refl refl refl refl

run_timed : (ss : List Step) (m : ℕ) (xs : List ℤ) → in_time (timed ss) ≡ true → has_parities ss ≡ true → length xs % 2 ≡ 0 → length xs / 2 + longest_wait (timed ss) ≤ m → turns (timed ss) m xs ≡ run ss xs
run_timed ss m xs e fit even late =
    turns_run (timed ss) m xs e (ap has_parities (steps_timed ss) ∙ fit) even late ∙ ap (λ rest. run rest xs) (steps_timed ss)

pub synthesis_by_lines : SynthesisByLines
unfolding synth
synthesis_by_lines w m xs l even late = run_timed (steps_of w) m xs (synth_in_time w l) (parities_of w l) even late

pub analysis_by_lines : AnalysisByLines
unfolding analyse
analysis_by_lines w m xs l even late = run_timed (taken_back (steps_of w)) m xs (analyse_in_time w l) (parities_back w l) even late

pub lines_finish : LinesFinish
lines_finish w m p xs l even late =
    let ss = steps_of w in
    sym (stays (timed ss) (length xs / 2 + longest_wait (timed ss)) m p xs (ap has_parities (steps_timed ss) ∙ parities_of w l) late)
    ∙ ap (λ zs. get_or zs p (pos 0)) (synthesis_by_lines w (m + (length xs / 2 + longest_wait (timed ss))) xs l even (omega arith))
