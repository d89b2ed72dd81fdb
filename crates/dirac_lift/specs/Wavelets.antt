-- The seven wavelets as lists of lifting steps, laid out as in the standard.
use Rattle.std.specs.Prelude.{ℕ, ℤ, pos, neg_ℤ, Bool, true, false, ◌+◌, ◌*◌, ◌==◌, ◌-ℤ◌, ◌++◌, unsigned_abs, List, []}
use Rattle.std.specs.Prelude.{◌∷◌, if◌then◌else◌}
use Rattle.dirac_lift.specs.Lifting.{Step, lift, opposite}

-- Each step is told by its shift, by the standard's D, at which the index of its taps begins, and by its taps. An even
-- step of tap i reads place 2 (n + i) - 1, which is in pair n + i - 1; an odd one reads place 2 (n + i), in pair n +
-- i.

-- even places minus a rounded sum of odd ones
abbrev pub even_minus : ℕ → ℤ → List ℤ → Step
even_minus shift first taps =
    record { parity = 0; minus = true; shift = shift; lead = unsigned_abs (pos 1 -ℤ first); taps = taps }

-- even places plus a rounded sum of odd ones
abbrev pub even_plus : ℕ → ℤ → List ℤ → Step
even_plus shift first taps =
    record { parity = 0; minus = false; shift = shift; lead = unsigned_abs (pos 1 -ℤ first); taps = taps }

-- odd places minus a rounded sum of even ones
abbrev pub odd_minus : ℕ → ℤ → List ℤ → Step
odd_minus shift first taps = record { parity = 1; minus = true; shift = shift; lead = unsigned_abs first; taps = taps }

-- odd places plus a rounded sum of even ones
abbrev pub odd_plus : ℕ → ℤ → List ℤ → Step
odd_plus shift first taps = record { parity = 1; minus = false; shift = shift; lead = unsigned_abs first; taps = taps }

-- a number below zero
abbrev pub minus : ℕ → ℤ
minus n = neg_ℤ (pos n)

-- two taps alike
abbrev pub two : ℕ → List ℤ
two tap = pos tap ∷ pos tap ∷ []

-- the four taps of the Deslauriers-Dubuc wavelets
abbrev pub four_taps : List ℤ
four_taps = minus 1 ∷ pos 9 ∷ pos 9 ∷ minus 1 ∷ []

-- wavelet 0
abbrev pub deslauriers_dubuc_9_7 : List Step
deslauriers_dubuc_9_7 = even_minus 2 (pos 0) (two 1) ∷ odd_plus 4 (minus 1) four_taps ∷ []

-- wavelet 1
abbrev pub legall_5_3 : List Step
legall_5_3 = even_minus 2 (pos 0) (two 1) ∷ odd_plus 1 (pos 0) (two 1) ∷ []

-- wavelet 2
abbrev pub deslauriers_dubuc_13_7 : List Step
deslauriers_dubuc_13_7 = even_minus 5 (minus 1) four_taps ∷ odd_plus 4 (minus 1) four_taps ∷ []

-- wavelet 3, and with a shift wavelet 4
abbrev pub haar : List Step
haar = even_minus 1 (pos 1) (pos 1 ∷ []) ∷ odd_plus 0 (pos 0) (pos 1 ∷ []) ∷ []

-- wavelet 5
abbrev pub fidelity : List Step
fidelity =
    odd_plus 8 (minus 3) (minus 2 ∷ pos 10 ∷ minus 25 ∷ pos 81 ∷ pos 81 ∷ minus 25 ∷ pos 10 ∷ minus 2 ∷ [])
    ∷ even_minus 8 (minus 3) (minus 8 ∷ pos 21 ∷ minus 46 ∷ pos 161 ∷ pos 161 ∷ minus 46 ∷ pos 21 ∷ minus 8 ∷ [])
    ∷ []

-- wavelet 6
abbrev pub daubechies_9_7 : List Step
daubechies_9_7 =
    even_minus 12 (pos 0) (two 1817)
    ∷ odd_minus 12 (pos 0) (two 3616)
    ∷ even_plus 12 (pos 0) (two 217)
    ∷ odd_plus 12 (pos 0) (two 6497)
    ∷ []

-- the synthesis steps of a wavelet, by its index
abbrev pub steps_of : ℕ → List Step
steps_of wavelet =
    if wavelet == 0
    then deslauriers_dubuc_9_7
    else if wavelet == 1
    then legall_5_3
    else if wavelet == 2
    then deslauriers_dubuc_13_7
    else if wavelet == 3
    then haar
    else if wavelet == 4
    then haar
    else if wavelet == 5
    then fidelity
    else daubechies_9_7

-- whether a wavelet's shift is 1, so that each level ends by halving
abbrev pub has_shift : ℕ → Bool
has_shift wavelet = if wavelet == 3 then false else if wavelet == 5 then false else true

-- steps one after another
abbrev pub run : List Step → List ℤ → List ℤ
run [] xs = xs
run (s ∷ ss) xs = run ss (lift s xs)

-- the steps backwards, each with the opposite sign
abbrev pub taken_back : List Step → List Step
taken_back [] = []
taken_back (s ∷ ss) = taken_back ss ++ opposite s ∷ []

-- the synthesis of a line
unfoldable pub synth : ℕ → List ℤ → List ℤ
synth wavelet xs = run (steps_of wavelet) xs

-- the analysis of a line
unfoldable pub analyse : ℕ → List ℤ → List ℤ
analyse wavelet xs = run (taken_back (steps_of wavelet)) xs

-- how large the synthesis of values of at most b becomes
abbrev pub synth_bound : ℕ → ℕ → ℕ
synth_bound wavelet b = if has_shift wavelet then 12 * b + 6 else 5 * b + 2

-- how large the analysis of values of at most b becomes
abbrev pub analyse_bound : ℕ → ℕ
analyse_bound b = 8 * b + 3
