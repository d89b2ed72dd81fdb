-- No spelling of a number begins with that of another.
use Rattle.std.proofs.Common.{◌≡◌, ℕ, zero, suc, ◌+◌, ◌<◌, ◌^◌, ℤ, pos, negsuc, Bool, true, false, List, [], ◌∷◌, ◌++◌, refl, sym, ap, ◌∙◌, arith, append_assoc}
use Rattle.std.specs.Prelude.{unsigned_abs}
use Rattle.dirac_common.specs.Bits.{number_from}
use Rattle.dirac_common.specs.Numbers.{digits_of, followed, uint, sint}
use Rattle.dirac_common.proofs.Digits.{digits_value}

-- the digits end where the follow bit 1 is
digits_end : (bs cs more rest : List Bool) → (followed bs ++ true ∷ []) ++ more ≡ (followed cs ++ true ∷ []) ++ rest → (bs ≡ cs) × (more ≡ rest)
digits_end [] [] more rest e = (refl, cc)
digits_end [] (c ∷ cs) more rest e = absurd cc
digits_end (b ∷ bs) [] more rest e = absurd cc
digits_end (b ∷ bs) (c ∷ cs) more rest e =
    let same : b ≡ c = cc in
    let behind : (followed bs ++ true ∷ []) ++ more ≡ (followed cs ++ true ∷ []) ++ rest = cc in
    let others = digits_end bs cs more rest behind in
    let digits : bs ≡ cs = others.0 in
    (cc, others.1)

pub uint_ends : (v w : ℕ) (more rest : List Bool) → v + 1 < 2 ^ 39 → w + 1 < 2 ^ 39 → uint v ++ more ≡ uint w ++ rest → (v ≡ w) × (more ≡ rest)
uint_ends v w more rest below-v below-w e =
    let same = digits_end (digits_of v) (digits_of w) more rest e in
    let number = sym (digits_value v below-v) ∙ ap (λ bs. number_from 1 bs) same.0 ∙ digits_value w below-w in
    (omega (arith, number), same.1)

-- the sign of a number, where it has one
sign_of : ℤ → List Bool
sign_of (pos zero) = []
sign_of (pos (suc n)) = false ∷ []
sign_of (negsuc n) = true ∷ []

sint_parts : (v : ℤ) (more : List Bool) → sint v ++ more ≡ uint (unsigned_abs v) ++ (sign_of v ++ more)
unfolding sign_of
sint_parts (pos zero) more = refl
sint_parts (pos (suc n)) more = append_assoc (uint (suc n)) (false ∷ []) more
sint_parts (negsuc n) more = append_assoc (uint (suc n)) (true ∷ []) more

same_sign : (v w : ℤ) (more rest : List Bool) → unsigned_abs v ≡ unsigned_abs w → sign_of v ++ more ≡ sign_of w ++ rest → (v ≡ w) × (more ≡ rest)
unfolding sign_of
same_sign (pos zero) (pos zero) more rest size e = (refl, e)
same_sign (pos zero) (pos (suc m)) more rest size e = absurd (omega arith)
same_sign (pos zero) (negsuc m) more rest size e = absurd (omega arith)
same_sign (pos (suc n)) (pos zero) more rest size e = absurd (omega arith)
same_sign (pos (suc n)) (pos (suc m)) more rest size e = (ap pos size, cc)
same_sign (pos (suc n)) (negsuc m) more rest size e = absurd cc
same_sign (negsuc n) (pos zero) more rest size e = absurd (omega arith)
same_sign (negsuc n) (pos (suc m)) more rest size e = absurd cc
same_sign (negsuc n) (negsuc m) more rest size e =
    let same : n ≡ m = omega arith in
    (ap negsuc same, cc)

pub sint_ends : (v w : ℤ) (more rest : List Bool) → unsigned_abs v + 1 < 2 ^ 39 → unsigned_abs w + 1 < 2 ^ 39 → sint v ++ more ≡ sint w ++ rest → (v ≡ w) × (more ≡ rest)
sint_ends v w more rest below-v below-w e =
    let parts = sym (sint_parts v more) ∙ e ∙ sint_parts w rest in
    let first = uint_ends (unsigned_abs v) (unsigned_abs w) (sign_of v ++ more) (sign_of w ++ rest) below-v below-w parts in
    same_sign v w more rest first.0 first.1
