-- The decisions that spell numbers are in contexts that there are.
use Rattle.std.proofs.Common.{ℕ, zero, suc, ℤ, pos, negsuc, ◌+◌, ◌<◌, Bool, true, false, List, [], ◌∷◌, ◌++◌, length}
use Rattle.dirac_common.specs.Numbers.{digits_of}
use Rattle.dirac_arith.specs.Interval.{Decision, InContexts}
use Rattle.dirac_arith.specs.Spelling.{follow_at, opening_digits, spelling, signed_spelling}

pub in_append : (ds es : List Decision) → InContexts ds → InContexts es → InContexts (ds ++ es)
in_append [] es p q = q
in_append (d ∷ ds) es p q = (p.0, in_append ds es p.1 q)

-- follow contexts that there are
pub record AreBelow (follow : List ℕ) : Type 0 where
  pub each : (i : ℕ) → follow_at follow i < 38

pub in_opening : (follow : List ℕ) (bits i : ℕ) (digits : List Bool) → AreBelow follow → bits < 38 → InContexts (opening_digits follow bits i digits)
in_opening follow bits i [] f h = tt
in_opening follow bits i (b ∷ bs) f h = (f.each i, (h, in_opening follow bits (i + 1) bs f h))

pub in_spelling : (follow : List ℕ) (bits n : ℕ) → AreBelow follow → bits < 38 → InContexts (spelling follow bits n)
unfolding spelling
in_spelling follow bits n f h =
    let last : Decision = (follow_at follow (length (digits_of n)), true) in
    in_append (opening_digits follow bits 0 (digits_of n)) (last ∷ []) (in_opening follow bits 0 (digits_of n) f h) (f.each (length (digits_of n)), tt)

pub in_signed : (follow : List ℕ) (bits sign : ℕ) (v : ℤ) → AreBelow follow → bits < 38 → sign < 38 → InContexts (signed_spelling follow bits sign v)
unfolding signed_spelling
in_signed follow bits sign (pos zero) f h s = in_spelling follow bits 0 f h
in_signed follow bits sign (pos (suc n)) f h s = let d : Decision = (sign, false) in in_append (spelling follow bits (suc n)) (d ∷ []) (in_spelling follow bits (suc n) f h) (s, tt)
in_signed follow bits sign (negsuc n) f h s = let d : Decision = (sign, true) in in_append (spelling follow bits (suc n)) (d ∷ []) (in_spelling follow bits (suc n) f h) (s, tt)
