-- Of two continuations a front allows one.
use Rattle.std.proofs.Common.{◌≡◌, ℕ, ℤ, pos, negsuc, zero, suc, ◌+◌, ◌-◌, ◌^◌, ◌<◌, ◌≤◌, Bool, true, false, List, [], ◌∷◌, ◌++◌, length, map, nat_abs, get_or, set, slice_index, slice_set, inl, inr, refl, sym, ap, ◌∙◌, arith, subst, append_assoc, length-append, replicate, true≢false, get_or-set_same, get_or-set_other}
use Rattle.std.proofs.lemmas.Bool.{cases_lt, cases_eq, false≢true}
use Rattle.std.proofs.lemmas.List.{get_or_past, set_past, get_or-replicate, append-nil, map-append}
use Rattle.dirac_common.specs.Bits.{number_from}
use Rattle.dirac_common.specs.Numbers.{digits_of, followed}
use Rattle.dirac_common.proofs.Digits.{digits_value, digits_few}
use Rattle.dirac_arith.specs.Interval.{Interval, Decision, adapted, narrowed, narrowed_by, whole}
use Rattle.dirac_arith.specs.Carried.{Lies, Carries}
use Rattle.dirac_arith.specs.Spelling.{follow_at, opening_digits, spelt, spelling, signed_spelling}
use Rattle.dirac_arith.specs.Reading.{Reading}
use Rattle.dirac_arith.specs.Laws.{CarriesOneTruth, CarriesOneNumber, CarriesOneSigned, TruthsAreBits, SignedTruthsAreBits, ReadingComposes}
use Rattle.dirac_arith.proofs.Intervals.{one_truth, lies_kept}
use Rattle.dirac_arith.proofs.Steps.{adapted_most}

-- no probability is above its bound
pub record IsTame (s : Interval) : Type 0 where
  pub most : (i : ℕ) → slice_index s.contexts i ≤ 65281

tame_contexts : (contexts : List ℕ) (context probability : ℕ) → probability ≤ 65281 → ((i : ℕ) → slice_index contexts i ≤ 65281) → (i : ℕ) → slice_index (slice_set contexts context probability) i ≤ 65281
tame_contexts contexts context probability fits most i =
    let P : ℕ → Type 0 = λ x. x ≤ 65281 in
    elim (cases_eq i context) [
      | inl same ↦
          elim (cases_lt context (length contexts)) [
            | inl inside ↦
                let e : get_or (set contexts context probability) i 0 ≡ probability = ap (λ j. get_or (set contexts context probability) j 0) same ∙ get_or-set_same contexts context probability 0 inside in
                subst P (sym e) fits
            | inr past ↦ subst P (sym (ap (λ cs. get_or cs i 0) (set_past contexts context probability past))) (most i)
          ]
      | inr other ↦ subst P (sym (get_or-set_other contexts context i probability 0 other)) (most i)
    ]

pub tame_narrowed : (s : Interval) (context : ℕ) (t : Bool) → IsTame s → IsTame (narrowed s (context, t))
tame_narrowed s context true tame =
    record { most = tame_contexts s.contexts context (adapted (slice_index s.contexts context) true) (adapted_most (slice_index s.contexts context) true (tame.most context)) tame.most }
tame_narrowed s context false tame =
    record { most = tame_contexts s.contexts context (adapted (slice_index s.contexts context) false) (adapted_most (slice_index s.contexts context) false (tame.most context)) tame.most }

pub tame_by : (s : Interval) (ds : List Decision) → IsTame s → IsTame (narrowed_by s ds)
tame_by s [] tame = tame
tame_by s (d ∷ ds) tame = tame_by (narrowed s d) ds (tame_narrowed s d.0 d.1 tame)

-- where the front lies after decisions, it lay before them
pub lies_first : (block : List ℕ) (s : Interval) (ds : List Decision) → IsTame s → Lies block (narrowed_by s ds) → Lies block s
lies_first block s [] tame lies = lies
lies_first block s (d ∷ ds) tame lies =
    let tame_after = tame_narrowed s d.0 d.1 tame in
    let most : slice_index s.contexts d.0 ≤ 65536 = omega (arith, tame.most d.0) in
    lies_kept block s d.0 d.1 most (lies_first block (narrowed s d) ds tame_after lies)

-- two first decisions at one context are one
pub one_first : (block : List ℕ) (s : Interval) (context : ℕ) (t u : Bool) (ds es : List Decision) → IsTame s
    → Lies block (narrowed_by s ((context, t) ∷ ds)) → Lies block (narrowed_by s ((context, u) ∷ es)) → t ≡ u
one_first block s context t u ds es tame h h' =
    one_truth block s context t u
    (lies_first block (narrowed s (context, t)) ds (tame_narrowed s context t tame) h)
    (lies_first block (narrowed s (context, u)) es (tame_narrowed s context u tame) h')

pub narrowed_by-append : (s : Interval) (ds es : List Decision) → narrowed_by s (ds ++ es) ≡ narrowed_by (narrowed_by s ds) es
narrowed_by-append s [] es = refl
narrowed_by-append s (d ∷ ds) es = narrowed_by-append (narrowed s d) ds es

-- decisions and then others
pub narrowed_more : (old mid new : Interval) (ds es all : List Decision) → mid ≡ narrowed_by old ds → new ≡ narrowed_by mid es → all ≡ ds ++ es → new ≡ narrowed_by old all
narrowed_more old mid new ds es all p q e =
    q ∙ ap (λ (s : Interval). narrowed_by s es) p ∙ sym (narrowed_by-append old ds es) ∙ ap (λ (l : List Decision). narrowed_by old l) (sym e)

-- digits from number i on, one more follow decision, and more
unfoldable pub spelt_from : List ℕ → ℕ → ℕ → List Bool → Bool → List Decision → List Decision
spelt_from follow bits i [] last more = (follow_at follow i, last) ∷ more
spelt_from follow bits i (b ∷ bs) last more = (follow_at follow i, false) ∷ (bits, b) ∷ spelt_from follow bits (i + 1) bs last more

spelt_is_from : (follow : List ℕ) (bits i : ℕ) (digits : List Bool) (last : Bool) (more : List Decision)
    → (opening_digits follow bits i digits ++ (follow_at follow (i + length digits), last) ∷ []) ++ more ≡ spelt_from follow bits i digits last more
unfolding spelt_from
spelt_is_from follow bits i [] last more = let e : i + 0 ≡ i = omega arith in ap (λ j. let d : Decision = (follow_at follow j, last) in d ∷ more) e
spelt_is_from follow bits i (b ∷ bs) last more =
    let e : i + length (b ∷ bs) ≡ i + 1 + length bs = omega arith in
    let first : Decision = (follow_at follow i, false) in
    let second : Decision = (bits, b) in
    ap (λ j. let d : Decision = (follow_at follow j, last) in first ∷ (second ∷ ((opening_digits follow bits (i + 1) bs ++ d ∷ []) ++ more))) e
    ∙ ap (λ rest. first ∷ (second ∷ rest)) (spelt_is_from follow bits (i + 1) bs last more)

pub spelt_is : (follow : List ℕ) (bits : ℕ) (digits : List Bool) (last : Bool) (more : List Decision)
    → spelt follow bits digits last ++ more ≡ spelt_from follow bits 0 digits last more
spelt_is follow bits digits last more =
    let e : 0 + length digits ≡ length digits = omega arith in
    ap (λ j. let d : Decision = (follow_at follow j, last) in (opening_digits follow bits 0 digits ++ d ∷ []) ++ more) (sym e)
    ∙ spelt_is_from follow bits 0 digits last more

-- with nothing behind
pub spelt_alone : (follow : List ℕ) (bits : ℕ) (digits : List Bool) (last : Bool) → spelt follow bits digits last ≡ spelt_from follow bits 0 digits last []
spelt_alone follow bits digits last = sym (append-nil (spelt follow bits digits last)) ∙ spelt_is follow bits digits last []

-- two spellings that a front allows are one: a last follow decision is false only where no digit has room
pub one_spelt_from : (block : List ℕ) (s : Interval) (follow : List ℕ) (bits i room : ℕ) (ds es : List Bool) (t u : Bool) (x y : List Decision) → IsTame s
    → length ds ≤ room → length es ≤ room → (t ≡ false → length ds ≡ room) → (u ≡ false → length es ≡ room)
    → Lies block (narrowed_by s (spelt_from follow bits i ds t x)) → Lies block (narrowed_by s (spelt_from follow bits i es u y)) → (ds ≡ es) × (t ≡ u)
unfolding spelt_from
one_spelt_from block s follow bits i room [] [] t u x y tame fits fits' full full' h h' =
    (refl, one_first block s (follow_at follow i) t u x y tame h h')
one_spelt_from block s follow bits i room [] (e ∷ es) t u x y tame fits fits' full full' h h' =
    let same = one_first block s (follow_at follow i) t false x ((bits, e) ∷ spelt_from follow bits (i + 1) es u y) tame h h' in
    let none = full same in
    absurd (omega arith)
one_spelt_from block s follow bits i room (d ∷ ds) [] t u x y tame fits fits' full full' h h' =
    let same = one_first block s (follow_at follow i) false u ((bits, d) ∷ spelt_from follow bits (i + 1) ds t x) y tame h h' in
    let none = full' (sym same) in
    absurd (omega arith)
one_spelt_from block s follow bits i zero (d ∷ ds) (e ∷ es) t u x y tame fits fits' full full' h h' = absurd (omega arith)
one_spelt_from block s follow bits i (suc room) (d ∷ ds) (e ∷ es) t u x y tame fits fits' full full' h h' =
    let open' = narrowed s (follow_at follow i, false) in
    let tame' = tame_narrowed s (follow_at follow i) false tame in
    let digit = one_first block open' bits d e (spelt_from follow bits (i + 1) ds t x) (spelt_from follow bits (i + 1) es u y) tame' h h' in
    let P : Bool → Type 0 = λ b. Lies block (narrowed_by (narrowed open' (bits, b)) (spelt_from follow bits (i + 1) es u y)) in
    let rest = one_spelt_from block (narrowed open' (bits, d)) follow bits (i + 1) room ds es t u x y (tame_narrowed open' bits d tame')
    (omega arith) (omega arith) (λ q. omega (arith, full q)) (λ q. omega (arith, full' q)) h (subst P (sym digit) h') in
    (ap (λ b. b ∷ ds) digit ∙ ap (λ bs. e ∷ bs) rest.0, rest.1)

-- behind the same decisions a front allows at most one number
pub one_number : (block : List ℕ) (s : Interval) (follow : List ℕ) (bits v w : ℕ) (x y : List Decision) → IsTame s → v < 2 ^ 39 - 1 → w < 2 ^ 39 - 1
    → Lies block (narrowed_by s (spelling follow bits v ++ x)) → Lies block (narrowed_by s (spelling follow bits w ++ y)) → v ≡ w
unfolding spelling
one_number block s follow bits v w x y tame v_fits w_fits h h' =
    let P : List Decision → Type 0 = λ ds. Lies block (narrowed_by s ds) in
    let same = one_spelt_from block s follow bits 0 38 (digits_of v) (digits_of w) true true x y tame (digits_few v) (digits_few w)
    (λ e. absurd (true≢false e)) (λ e. absurd (true≢false e))
    (subst P (spelt_is follow bits (digits_of v) true x) h) (subst P (spelt_is follow bits (digits_of w) true y) h') in
    let values = sym (digits_value v (omega arith)) ∙ ap (λ ds. number_from 1 ds) same.0 ∙ digits_value w (omega arith) in
    omega arith

pub spelling_some : (follow : List ℕ) (bits v : ℕ) → 0 < length (spelling follow bits v)
unfolding spelling
spelling_some follow bits v =
    let d : Decision = (follow_at follow (length (digits_of v)), true) in
    omega (arith, length-append (opening_digits follow bits 0 (digits_of v)) (d ∷ []))

-- what is carried lies in its interval
pub carried_lies : (block : List ℕ) (ds : List Decision) → 0 < length ds → Carries block ds → Lies block (narrowed_by whole ds)
carried_lies block [] some carries = absurd (omega arith)
carried_lies block (d ∷ ds) some carries = carries

pub lies_carried : (block : List ℕ) (ds : List Decision) → (0 < length ds → Lies block (narrowed_by whole ds)) → Carries block ds
lies_carried block [] lies = tt
lies_carried block (d ∷ ds) lies = lies (omega arith)

pub whole_tame : IsTame whole
whole_tame = record {
  most = λ i.
      let P : ℕ → Type 0 = λ x. x ≤ 65281 in
      elim (cases_lt i 38) [
        | inl inside ↦ subst P (sym (get_or-replicate 38 i 0x8000 0 inside)) (omega arith)
        | inr past ↦ subst P (sym (get_or_past (replicate 38 0x8000) i 0 past)) (omega arith)
      ];
}

-- the same behind decisions that come first
pub carried_behind : (block : List ℕ) (common ds : List Decision) → 0 < length ds → Carries block (common ++ ds) → Lies block (narrowed_by (narrowed_by whole common) ds)
carried_behind block common ds some carries =
    let P : Interval → Type 0 = λ s. Lies block s in
    subst P (narrowed_by-append whole common ds) (carried_lies block (common ++ ds) (omega (arith, length-append common ds)) carries)

pub carries_one_truth : CarriesOneTruth
carries_one_truth block common ds es context h h' =
    let s = narrowed_by whole common in
    let t : Decision = (context, true) in
    let f : Decision = (context, false) in
    true≢false (one_first block s context true false ds es (tame_by whole common whole_tame)
    (carried_behind block common (t ∷ ds) (omega arith) h) (carried_behind block common (f ∷ es) (omega arith) h'))

pub carries_one_number : CarriesOneNumber
carries_one_number block common ds es follow bits v w v_fits w_fits h h' =
    one_number block (narrowed_by whole common) follow bits v w ds es (tame_by whole common whole_tame) v_fits w_fits
    (carried_behind block common (spelling follow bits v ++ ds) (omega (arith, length-append (spelling follow bits v) ds, spelling_some follow bits v)) h)
    (carried_behind block common (spelling follow bits w ++ es) (omega (arith, length-append (spelling follow bits w) es, spelling_some follow bits w)) h')

-- the sign decision of a number, before more
pub sign_before : ℕ → ℤ → List Decision → List Decision
sign_before sign (pos zero) more = more
sign_before sign (pos (suc n)) more = (sign, false) ∷ more
sign_before sign (negsuc n) more = (sign, true) ∷ more

pub signed_is : (follow : List ℕ) (bits sign : ℕ) (v : ℤ) (more : List Decision) → signed_spelling follow bits sign v ++ more ≡ spelling follow bits (nat_abs v) ++ sign_before sign v more
unfolding signed_spelling sign_before
signed_is follow bits sign (pos zero) more = refl
signed_is follow bits sign (pos (suc n)) more = let d : Decision = (sign, false) in append_assoc (spelling follow bits (suc n)) (d ∷ []) more
signed_is follow bits sign (negsuc n) more = let d : Decision = (sign, true) in append_assoc (spelling follow bits (suc n)) (d ∷ []) more

-- one magnitude and one front have one sign
one_sign : (block : List ℕ) (s : Interval) (follow : List ℕ) (bits sign : ℕ) (v w : ℤ) (x y : List Decision) → IsTame s → nat_abs v ≡ nat_abs w
    → Lies block (narrowed_by (narrowed_by s (spelling follow bits (nat_abs v))) (sign_before sign v x))
    → Lies block (narrowed_by (narrowed_by s (spelling follow bits (nat_abs w))) (sign_before sign w y)) → v ≡ w
unfolding sign_before
one_sign block s follow bits sign (pos zero) (pos zero) x y tame same h h' = refl
one_sign block s follow bits sign (pos zero) (pos (suc m)) x y tame same h h' = absurd (omega arith)
one_sign block s follow bits sign (pos zero) (negsuc m) x y tame same h h' = absurd (omega arith)
one_sign block s follow bits sign (pos (suc n)) (pos zero) x y tame same h h' = absurd (omega arith)
one_sign block s follow bits sign (pos (suc n)) (pos (suc m)) x y tame same h h' = ap pos same
one_sign block s follow bits sign (pos (suc n)) (negsuc m) x y tame same h h' =
    let d : Decision = (sign, true) in
    let P : ℕ → Type 0 = λ k. Lies block (narrowed_by (narrowed_by s (spelling follow bits k)) (d ∷ y)) in
    let at = narrowed_by s (spelling follow bits (suc n)) in
    absurd (false≢true (one_first block at sign false true x y (tame_by s (spelling follow bits (suc n)) tame) h (subst P (sym same) h')))
one_sign block s follow bits sign (negsuc n) (pos zero) x y tame same h h' = absurd (omega arith)
one_sign block s follow bits sign (negsuc n) (pos (suc m)) x y tame same h h' =
    let d : Decision = (sign, false) in
    let P : ℕ → Type 0 = λ k. Lies block (narrowed_by (narrowed_by s (spelling follow bits k)) (d ∷ y)) in
    let at = narrowed_by s (spelling follow bits (suc n)) in
    absurd (true≢false (one_first block at sign true false x y (tame_by s (spelling follow bits (suc n)) tame) h (subst P (sym same) h')))
one_sign block s follow bits sign (negsuc n) (negsuc m) x y tame same h h' = ap negsuc (omega arith)

pub one_signed : (block : List ℕ) (s : Interval) (follow : List ℕ) (bits sign : ℕ) (v w : ℤ) (x y : List Decision) → IsTame s → nat_abs v < 2 ^ 39 - 1 → nat_abs w < 2 ^ 39 - 1
    → Lies block (narrowed_by s (signed_spelling follow bits sign v ++ x)) → Lies block (narrowed_by s (signed_spelling follow bits sign w ++ y)) → v ≡ w
one_signed block s follow bits sign v w x y tame v_fits w_fits h h' =
    let P : List Decision → Type 0 = λ ds. Lies block (narrowed_by s ds) in
    let Q : Interval → Type 0 = λ i. Lies block i in
    let left = subst P (signed_is follow bits sign v x) h in
    let right = subst P (signed_is follow bits sign w y) h' in
    let same = one_number block s follow bits (nat_abs v) (nat_abs w) (sign_before sign v x) (sign_before sign w y) tame v_fits w_fits left right in
    one_sign block s follow bits sign v w x y tame same
    (subst Q (narrowed_by-append s (spelling follow bits (nat_abs v)) (sign_before sign v x)) left)
    (subst Q (narrowed_by-append s (spelling follow bits (nat_abs w)) (sign_before sign w y)) right)

pub signed_some : (follow : List ℕ) (bits sign : ℕ) (v : ℤ) (more : List Decision) → 0 < length (signed_spelling follow bits sign v ++ more)
signed_some follow bits sign v more =
    rw (signed_is follow bits sign v more)
    (omega (arith, length-append (spelling follow bits (nat_abs v)) (sign_before sign v more), spelling_some follow bits (nat_abs v)))

pub carries_one_signed : CarriesOneSigned
carries_one_signed block common ds es follow bits sign v w v_fits w_fits h h' =
    one_signed block (narrowed_by whole common) follow bits sign v w ds es (tame_by whole common whole_tame) v_fits w_fits
    (carried_behind block common (signed_spelling follow bits sign v ++ ds) (signed_some follow bits sign v ds) h)
    (carried_behind block common (signed_spelling follow bits sign w ++ es) (signed_some follow bits sign w es) h')

-- reading more
pub reads_more : ReadingComposes
reads_more a b c ds [] first second =
    let none = append-nil ds in
    let P : Interval → Type 0 = λ s. c ≡ record { block = a.block; at = s } in
    let Q : List Decision → Type 0 = λ es. (0 < length es → Lies a.block (narrowed_by a.at es)) in
    let R : List Decision → Type 0 = λ es. c ≡ record { block = a.block; at = narrowed_by a.at es } in
    record { moved = subst R (sym none) (second.moved ∙ first.moved); lies = subst Q (sym none) first.lies }
reads_more a b c ds (e ∷ es) first second =
    let P : Reading → Type 0 = λ x. c ≡ record { block = x.block; at = narrowed_by x.at (e ∷ es) } in
    let Q : Reading → Type 0 = λ x. Lies x.block (narrowed_by x.at (e ∷ es)) in
    let moved = subst P first.moved second.moved in
    let lies = subst Q first.moved (second.lies (omega arith)) in
    let joined = narrowed_by-append a.at ds (e ∷ es) in
    let R : Interval → Type 0 = λ s. c ≡ record { block = a.block; at = s } in
    let S : Interval → Type 0 = λ s. Lies a.block s in
    record { moved = subst R (sym joined) moved; lies = λ some. subst S (sym joined) lies }

opening_truths : (follow : List ℕ) (bits i : ℕ) (digits : List Bool) → map (λ (d : Decision). d.1) (opening_digits follow bits i digits) ≡ followed digits
opening_truths follow bits i [] = refl
opening_truths follow bits i (b ∷ bs) = ap (λ rest. false ∷ b ∷ rest) (opening_truths follow bits (i + 1) bs)

pub truths_are_bits : TruthsAreBits
unfolding spelling
truths_are_bits follow bits v =
    let d : Decision = (follow_at follow (length (digits_of v)), true) in
    map-append (λ (d : Decision). d.1) (opening_digits follow bits 0 (digits_of v)) (d ∷ [])
    ∙ ap (λ bs. bs ++ true ∷ []) (opening_truths follow bits 0 (digits_of v))

pub signed_truths_are_bits : SignedTruthsAreBits
unfolding signed_spelling
signed_truths_are_bits follow bits sign (pos zero) = truths_are_bits follow bits 0
signed_truths_are_bits follow bits sign (pos (suc n)) =
    let d : Decision = (sign, false) in
    map-append (λ (d : Decision). d.1) (spelling follow bits (suc n)) (d ∷ []) ∙ ap (λ bs. bs ++ false ∷ []) (truths_are_bits follow bits (suc n))
signed_truths_are_bits follow bits sign (negsuc n) =
    let d : Decision = (sign, true) in
    map-append (λ (d : Decision). d.1) (spelling follow bits (suc n)) (d ∷ []) ∙ ap (λ bs. bs ++ true ∷ []) (truths_are_bits follow bits (suc n))
