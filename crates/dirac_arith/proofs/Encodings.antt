-- What an encoder keeps, and the block that it writes.
use lib.Signed.{lt_z}
use mir.Val.{of_z}
use mir.Syntax.{w64}
use Rattle.std.proofs.Common.{◌≡◌, ℕ, ℤ, pos, negsuc, nat_abs, zero, suc, ◌+◌, ◌-◌, ◌*◌, ◌/◌, ◌%◌, ◌^◌, ◌<◌, ◌≤◌, ◌==◌, Bool, true, false, List, [], ◌∷◌, ◌++◌, length, slice_index, refl, sym, ap, ◌∙◌, arith, subst, mul-le-mul_right, add-zero, mod-lt, lit<}
use Rattle.std.specs.List.{AllByRecursion}
use Rattle.std.proofs.Math.Nat.{pow-le-pow_right}
use Rattle.std.proofs.lemmas.Bool.{le-ltb}
use Rattle.std.proofs.lemmas.List.{get_or-replicate}
use Rattle.std.proofs.lemmas.Nat.{pow_pos, pow-add, shr_split, shr_below, shr-shr, shl-shr, shr_high, mod_below, le-div, div_below}
use Rattle.dirac_common.specs.Bits.{bit_value}
use Rattle.dirac_common.specs.Numbers.{digits_of}
use Rattle.dirac_common.proofs.Digits.{digits_push, bit_value-of_rest}
use Rattle.dirac_arith.specs.Carried.{Lies}
use Rattle.dirac_arith.specs.Front.{front}
use Rattle.dirac_arith.specs.Interval.{Interval, Decision, InContexts, doublings_for, narrowed, narrowed_by, whole, interval_of, split_width, adapted}
use Rattle.dirac_arith.specs.Laws.{FlushedIsCarried}
use Rattle.dirac_arith.specs.Registers.{AreProbabilities}
use Rattle.dirac_arith.specs.Spelling.{follow_at, opening_digits, spelt, spelling, signed_spelling}
use Rattle.dirac_arith.specs.Written.{number_in_bytes, block_length, flushed_interval, flush}
use Rattle.dirac_arith.proofs.Bytes.{front_of_bytes, length-bytes_of, rest_past}
use Rattle.dirac_arith.proofs.Decisions.{probabilities_set}
use Rattle.dirac_arith.proofs.Doublings.{widens, split_bounds}
use Rattle.dirac_arith.proofs.Fronts.{front_longer, rest_of}
use Rattle.dirac_arith.proofs.Numbers.{opening_push}
use Rattle.dirac_arith.proofs.Spellings.{narrowed_by-append}
use Rattle.dirac_arith.proofs.Steps.{adapts}

-- a part of an interval that lies within the first one lies within it, after its doublings too
pub kept_within : (value range doublings lift part count : ℕ) → lift + part ≤ range → value + range ≤ 0xFFFF * 2 ^ doublings
    → (value + lift) * 2 ^ count + part * 2 ^ count ≤ 0xFFFF * 2 ^ (doublings + count)
kept_within value range doublings lift part count inside within =
    let full = pow-add 2 doublings count in
    let h = mul-le-mul_right {m = value + lift + part} {n = 0xFFFF * 2 ^ doublings} (2 ^ count) (omega arith) in
    rw full (omega arith)

-- and within the register
pub kept_register : (register range p lift part count : ℕ) → lift + part ≤ range → register + range ≤ 2 ^ (17 + p)
    → (register + lift) * 2 ^ count + part * 2 ^ count ≤ 2 ^ (17 + (p + count))
kept_register register range p lift part count inside within =
    let sum : 17 + (p + count) ≡ 17 + p + count = omega arith in
    let full = pow-add 2 (17 + p) count in
    let h = mul-le-mul_right {m = register + lift + part} {n = 2 ^ (17 + p)} (2 ^ count) (omega arith) in
    rw (sum, full) (omega arith)

-- what an encoder's interval keeps
pub record IsGood (s : Interval) : Type 0 where
  pub wide : 0x4000 < s.range
  pub narrow : s.range ≤ 0xFFFF
  pub within : s.low + s.range ≤ 0xFFFF * 2 ^ s.doublings
  pub probabilities : AreProbabilities s.contexts

pub good_narrowed : (s : Interval) (context : ℕ) (t : Bool) → context < 38 → IsGood s → IsGood (narrowed s (context, t))
good_narrowed s context true there good =
    let probability = slice_index s.contexts context in
    let bounds = split_bounds s.range probability good.wide good.narrow (good.probabilities context there).0 (good.probabilities context there).1 in
    let part = s.range - split_width s context in
    let moved = widens part (omega arith) (omega (arith, good.narrow)) in
    let kept = adapts probability true (good.probabilities context there).0 (good.probabilities context there).1 in
    record {
      wide = moved.wide;
      narrow = moved.narrow;
      within = kept_within s.low s.range s.doublings (split_width s context) part (doublings_for part) (omega arith) good.within;
      probabilities = probabilities_set s.contexts context (adapted probability true) kept.some kept.most good.probabilities;
    }
good_narrowed s context false there good =
    let probability = slice_index s.contexts context in
    let bounds = split_bounds s.range probability good.wide good.narrow (good.probabilities context there).0 (good.probabilities context there).1 in
    let part = split_width s context in
    let moved = widens part (omega arith) (omega (arith, good.narrow)) in
    let kept = adapts probability false (good.probabilities context there).0 (good.probabilities context there).1 in
    let here = kept_within s.low s.range s.doublings 0 part (doublings_for part) (omega arith) good.within in
    record {
      wide = moved.wide;
      narrow = moved.narrow;
      within = rw (add-zero s.low) at here;
      probabilities = probabilities_set s.contexts context (adapted probability false) kept.some kept.most good.probabilities;
    }

pub good_by : (s : Interval) (ds : List Decision) → InContexts ds → IsGood s → IsGood (narrowed_by s ds)
good_by s [] there good = good
good_by s (d ∷ ds) there good = good_by (narrowed s d) ds there.1 (good_narrowed s d.0 d.1 there.0 good)

pub whole_good : IsGood whole
whole_good =
    record {
      wide = omega arith;
      narrow = omega arith;
      within = omega arith;
      probabilities = λ i below.
          let P : ℕ → Type 0 = λ x. (254 ≤ x) × (x ≤ 65281) in
          subst P (sym (get_or-replicate 38 i 0x8000 0 below)) (omega arith, omega arith);
    }

-- an interval of some decision was doubled or is narrower than the first one
abbrev Begun : Interval → Type 0
Begun s = s.doublings ≡ 0 → s.range < 0xFFFF

begun_narrowed : (s : Interval) (context : ℕ) (t : Bool) → context < 38 → IsGood s → Begun (narrowed s (context, t))
begun_narrowed s context true there good none =
    let probability = slice_index s.contexts context in
    let bounds = split_bounds s.range probability good.wide good.narrow (good.probabilities context there).0 (good.probabilities context there).1 in
    let part = s.range - split_width s context in
    let still : doublings_for part ≡ 0 = omega arith in
    let P : ℕ → Type 0 = λ j. part * 2 ^ j < 0xFFFF in
    let below : part * 1 < 0xFFFF = omega (arith, good.narrow) in
    subst P (sym still) below
begun_narrowed s context false there good none =
    let probability = slice_index s.contexts context in
    let bounds = split_bounds s.range probability good.wide good.narrow (good.probabilities context there).0 (good.probabilities context there).1 in
    let part = split_width s context in
    let still : doublings_for part ≡ 0 = omega arith in
    let P : ℕ → Type 0 = λ j. part * 2 ^ j < 0xFFFF in
    let below : part * 1 < 0xFFFF = omega (arith, good.narrow) in
    subst P (sym still) below

begun_by : (s : Interval) (ds : List Decision) → InContexts ds → IsGood s → Begun s → Begun (narrowed_by s ds)
begun_by s [] there good begun = begun
begun_by s (d ∷ ds) there good begun =
    begun_by (narrowed s d) ds there.1 (good_narrowed s d.0 d.1 there.0 good) (begun_narrowed s d.0 d.1 there.0 good)

-- only no decision leaves the first interval
pub flush_of_fresh : (ds : List Decision) → InContexts ds → (interval_of ds).range ≡ 0xFFFF → (interval_of ds).doublings ≡ 0 → flush ds ≡ []
flush_of_fresh [] there full none = refl
flush_of_fresh (d ∷ ds) there full none =
    let begun = begun_by (narrowed whole d) ds there.1 (good_narrowed whole d.0 d.1 there.0 whole_good) (begun_narrowed whole d.0 d.1 there.0 whole_good) in
    absurd (omega (arith, begun none))

pub flush_of_begun : (ds : List Decision) → ((interval_of ds).range ≡ 0xFFFF → (interval_of ds).doublings ≡ 0 → ⊥) → flushed_interval (interval_of ds) ≡ flush ds
flush_of_begun [] begun = absurd (begun refl refl)
flush_of_begun (d ∷ ds) begun = refl

-- the quotient by a power grows with the power
quotient_more : (x j : ℕ) → (x + 2 ^ j) / 2 ^ j ≡ x / 2 ^ j + 1
quotient_more x j =
    let split = shr_split x j in
    let below = mod_below x (2 ^ j) (pow_pos j) in
    let e : x + 2 ^ j ≡ (x / 2 ^ j + 1) * 2 ^ j + x % 2 ^ j = omega arith in
    rw e (shr_high (x / 2 ^ j + 1) j (x % 2 ^ j) below)

-- the bytes that an encoder has once it moved its low end to the last number and doubled up to a whole byte
pub bytes_of_last : (s : Interval) (gap : ℕ) → 2 ≤ gap → gap ≤ 9 → s.doublings + gap ≡ 8 * ((s.doublings + 9) / 8) → 2 ^ (16 - gap) ≤ s.range
    → number_in_bytes ((s.doublings + gap) / 8) ((s.low + (s.range - 2 ^ (16 - gap))) * 2 ^ gap / 65536) ≡ flushed_interval s
unfolding flushed_interval
bytes_of_last s gap some most is room =
    let j = 16 - gap in
    let m = block_length s.doublings in
    let x = s.low + (s.range - 2 ^ j) in
    let count : (s.doublings + gap) / 8 ≡ m = omega arith in
    let exponent : 16 + s.doublings - 8 * m ≡ j = omega arith in
    let sum : gap + j ≡ 16 = omega arith in
    let shifted = shr-shr (x * 2 ^ gap) gap j in
    let turned = rw sum at shifted in
    let back = ap (λ y. y / 2 ^ j) (shl-shr x gap) in
    let number : x * 2 ^ gap / 65536 ≡ x / 2 ^ j = sym turned ∙ back in
    let more = quotient_more x j in
    let total : x + 2 ^ j ≡ s.low + s.range = omega arith in
    let last = rw total at more in
    let q : (s.low + s.range) / 2 ^ j - 1 ≡ x / 2 ^ j = omega arith in
    ap (λ k. number_in_bytes k (x * 2 ^ gap / 65536)) count
    ∙ ap (number_in_bytes m) (number ∙ sym q)
    ∙ ap (λ k. number_in_bytes m ((s.low + s.range) / 2 ^ k - 1)) (sym exponent)

-- the front of the written bytes lies in the interval
flushed_lies : (s : Interval) → IsGood s → Lies (flushed_interval s) s
unfolding flushed_interval
flushed_lies s good =
    let k = s.doublings in
    let m = block_length k in
    let j = 16 + k - 8 * m in
    let x = s.low + s.range in
    let n = x / 2 ^ j - 1 in
    let block = number_in_bytes m n in
    let place : 16 + k ≡ 8 * m + j = omega arith in
    let small = pow-le-pow_right {n = 2} (omega arith) {i = j} {j = 14} (omega arith) in
    let positive = pow_pos j in
    let full = pow-add 2 16 k in
    let wide = good.wide in
    let within = good.within in
    let some = pow_pos k in
    let split = shr_split x j in
    let rest = mod_below x (2 ^ j) positive in
    let one = le-div 1 x (2 ^ j) positive (omega arith) in
    let whole_power : x < 2 ^ (16 + k) = omega arith in
    let placed = rw place at whole_power in
    let quotient = shr_below x (8 * m) j placed in
    let front_is = front_of_bytes m n (omega arith) in
    let long = length-bytes_of m n in
    let past = rest_past block j in
    let ones = rw long at past in
    let longer = front_longer block (8 * m) j in
    let known = rw front_is at longer in
    let all : front block (16 + k) ≡ n * 2 ^ j + rest_of block (8 * m) j = ap (front block) place ∙ known in
    let product : n * 2 ^ j + 2 ^ j ≡ x / 2 ^ j * 2 ^ j = product_is (x / 2 ^ j) (2 ^ j) one in
    record { above = omega arith; below = omega arith }
  where
    product_is : (q w : ℕ) → 1 ≤ q → (q - 1) * w + w ≡ q * w
    product_is zero w some = absurd (omega arith)
    product_is (suc q) w some = let e : suc q - 1 ≡ q = omega arith in rw e (omega arith)

pub flushed_is_carried : FlushedIsCarried
flushed_is_carried [] there = tt
flushed_is_carried (d ∷ ds) there = flushed_lies (interval_of (d ∷ ds)) (good_by whole (d ∷ ds) there whole_good)

-- the leading one of a number
pub prefix_first : (wide count : ℕ) → 2 ^ count ≤ wide → wide < 2 * 2 ^ count → wide / 2 ^ (count - 0) - 1 ≡ 0
prefix_first wide count above below =
    let e : count - 0 ≡ count = omega arith in
    let one = le-div 1 wide (2 ^ count) (pow_pos count) (omega arith) in
    let two = div_below wide (2 ^ count) 2 (pow_pos count) below in
    rw e (omega arith)

-- one digit more of a number
pub prefix_next : (wide count i : ℕ) → i < count → count ≤ 38 → 2 ^ count ≤ wide → wide < 2 * 2 ^ count
    → digits_of (wide / 2 ^ (count - (i + 1)) - 1) ≡ digits_of (wide / 2 ^ (count - i) - 1) ++ (wide / 2 ^ (count - 1 - i) % 2 == 1) ∷ []
prefix_next wide count i more most above below =
    let j = count - 1 - i in
    let p = wide / 2 ^ (count - i) in
    let q = wide / 2 ^ j in
    let next : count - (i + 1) ≡ j = omega arith in
    let upper : j + 1 ≡ count - i = omega arith in
    let halved = shr-shr wide j 1 in
    let half : q / 2 ≡ p = rw upper at halved in
    let bit = bit_value-of_rest q in
    let low = pow-le-pow_right {n = 2} (omega arith) {i = count - i} {j = count} (omega arith) in
    let one = le-div 1 wide (2 ^ (count - i)) (pow_pos (count - i)) (omega arith) in
    let high = pow-le-pow_right {n = 2} (omega arith) {i = 1 + count} {j = 38 + (count - i)} (omega arith) in
    let first = pow-add 2 1 count in
    let second = pow-add 2 38 (count - i) in
    let fits = div_below wide (2 ^ (count - i)) (2 ^ 38) (pow_pos (count - i)) (omega arith) in
    let e : q - 1 ≡ 2 * p + bit_value (q % 2 == 1) - 1 = omega arith in
    rw next (ap digits_of e ∙ digits_push p (q % 2 == 1) one fits)

-- a false follow decision and a digit
pub taken_digit : (s a b c : Interval) (follow : List ℕ) (bits context i : ℕ) (digits : List Bool) (bit : Bool)
    → a ≡ narrowed_by s (opening_digits follow bits 0 digits) → length digits ≡ i → context ≡ follow_at follow i
    → b ≡ narrowed a (context, false) → c ≡ narrowed b (bits, bit)
    → c ≡ narrowed_by s (opening_digits follow bits 0 (digits ++ bit ∷ []))
taken_digit s a b c follow bits context i digits bit a_is count is b_is c_is =
    let f : Decision = (follow_at follow (0 + length digits), false) in
    let d : Decision = (bits, bit) in
    let zero_more : i ≡ 0 + length digits = omega arith in
    let same : context ≡ follow_at follow (0 + length digits) = is ∙ ap (follow_at follow) zero_more in
    let first = opening_digits follow bits 0 digits in
    c_is
    ∙ ap (λ x. narrowed x (bits, bit)) (b_is ∙ ap (λ x. narrowed a (x, false)) same ∙ ap (λ x. narrowed x f) a_is)
    ∙ ap (λ x. narrowed x d) (sym (narrowed_by-append s first (f ∷ [])))
    ∙ sym (narrowed_by-append s (first ++ f ∷ []) (d ∷ []))
    ∙ ap (narrowed_by s) (sym (opening_push follow bits 0 digits bit))

-- the last follow decision
pub taken_last : (s a b : Interval) (follow : List ℕ) (bits context i v w : ℕ)
    → a ≡ narrowed_by s (opening_digits follow bits 0 (digits_of w)) → length (digits_of w) ≡ i → context ≡ follow_at follow i → w ≡ v
    → b ≡ narrowed a (context, true) → b ≡ narrowed_by s (spelling follow bits v)
unfolding spelling
taken_last s a b follow bits context i v w a_is count is same b_is =
    let l : Decision = (follow_at follow (length (digits_of w)), true) in
    let place : context ≡ follow_at follow (length (digits_of w)) = is ∙ ap (follow_at follow) (sym count) in
    let first = opening_digits follow bits 0 (digits_of w) in
    b_is ∙ ap (λ x. narrowed a (x, true)) place ∙ ap (λ x. narrowed x l) a_is
    ∙ sym (narrowed_by-append s first (l ∷ []))
    ∙ ap (λ x. narrowed_by s (spelt follow bits (digits_of x) true)) same

pub zero_from : (v : ℤ) → of_z w64 v ≡ 0 → nat_abs v < 2 ^ 39 - 1 → v ≡ pos 0
zero_from (pos zero) e h = refl
zero_from (pos (suc n)) e h = absurd (omega arith)
zero_from (negsuc n) e h = absurd (omega arith)

-- a magnitude of 0 has no sign
pub taken_zero : (s a : Interval) (follow : List ℕ) (bits sign m : ℕ) (v : ℤ) → a ≡ narrowed_by s (spelling follow bits m) → m ≡ nat_abs v → v ≡ pos 0
    → a ≡ narrowed_by s (signed_spelling follow bits sign v)
unfolding signed_spelling
taken_zero s a follow bits sign m v taken is none =
    let P : ℤ → Type 0 = λ x. m ≡ nat_abs x → a ≡ narrowed_by s (signed_spelling follow bits sign x) in
    subst P (sym none) (λ e. taken ∙ ap (λ x. narrowed_by s (spelling follow bits x)) e) is

-- a magnitude and its sign
pub taken_signed : (s a b : Interval) (follow : List ℕ) (bits sign m : ℕ) (v : ℤ) (t : Bool) → a ≡ narrowed_by s (spelling follow bits m) → m ≡ nat_abs v → (v ≡ pos 0 → ⊥)
    → t ≡ lt_z v (pos 0) → b ≡ narrowed a (sign, t) → b ≡ narrowed_by s (signed_spelling follow bits sign v)
unfolding signed_spelling
taken_signed s a b follow bits sign m (pos zero) t taken is some t_is b_is = absurd (some refl)
taken_signed s a b follow bits sign m (pos (suc n)) t taken is some t_is b_is =
    let d : Decision = (sign, false) in
    let not_less : t ≡ false = t_is ∙ le-ltb (suc n) 0 (omega arith) in
    b_is ∙ ap (λ x. narrowed a (sign, x)) not_less ∙ ap (λ x. narrowed x d) (taken ∙ ap (λ x. narrowed_by s (spelling follow bits x)) is)
    ∙ sym (narrowed_by-append s (spelling follow bits (suc n)) (d ∷ []))
taken_signed s a b follow bits sign m (negsuc n) t taken is some t_is b_is =
    let d : Decision = (sign, true) in
    b_is ∙ ap (λ x. narrowed a (sign, x)) t_is ∙ ap (λ x. narrowed x d) (taken ∙ ap (λ x. narrowed_by s (spelling follow bits x)) is)
    ∙ sym (narrowed_by-append s (spelling follow bits (suc n)) (d ∷ []))

-- a part that is wide after its doublings is some part
pub part_some : (part k n : ℕ) → 0x4000 < n → n ≡ part * 2 ^ k → 1 ≤ part
part_some zero k n wide is = absurd (omega arith)
part_some (suc part) k n wide is = omega arith

pub bytes_none : (d n : ℕ) → d ≡ 0 → number_in_bytes (d / 8) n ≡ []
unfolding number_in_bytes
bytes_none d n none = let P : ℕ → Type 0 = λ x. number_in_bytes (x / 8) n ≡ [] in subst P (sym none) refl

-- a block's bytes are below 256
in_bytes : (m n : ℕ) → AllByRecursion (λ b. b < 2 ^ 8) (number_in_bytes m n)
unfolding number_in_bytes
in_bytes zero n = tt
in_bytes (suc m) n = (mod-lt (n / 2 ^ (8 * m)) {m = 256} (lit< tt), in_bytes m n)

pub flush_bytes : (ds : List Decision) → AllByRecursion (λ b. b < 2 ^ 8) (flush ds)
unfolding flushed_interval
flush_bytes [] = tt
flush_bytes (d ∷ ds) =
    let s = interval_of (d ∷ ds) in
    let m = block_length s.doublings in
    in_bytes m ((s.low + s.range) / 2 ^ (16 + s.doublings - 8 * m) - 1)
