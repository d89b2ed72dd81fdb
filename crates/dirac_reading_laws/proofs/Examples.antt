-- Headers that break, and where no fault lies, worked out.
use Rattle.std.proofs.Common.{◌≡◌, ℕ, true, false, [], ◌∷◌, List, length, ℤ, replicate, refl, inl, inr, arith, Option, Some, Result, Ok, Err}
use Rattle.dirac_common.specs.declared.faults.Cause.{Cause}
use Rattle.dirac_common.specs.declared.faults.Cause.TheVariants.{BlockSize, MissingEnd, NumberTooLong, UnitShort}
use Rattle.dirac_common.specs.declared.faults.Fault.{Fault}
use Rattle.dirac_common.specs.declared.faults.Refusal.{Refusal}
use Rattle.dirac_common.specs.Numbers.{digits_of, digits_within}
use Rattle.dirac_bits.specs.Cursor.{Cursor, bits_left, start}
use Rattle.dirac_bits.specs.Syntax.{Syntax, done, flag_then, uint_then, sint_then, align_then, here_then, refuse, uint}
use Rattle.dirac_units.specs.declared.info.ParseInfo.{ParseInfo}
use Rattle.dirac_units.specs.Cut.{IsCut, UnitText, first_unit_place}
use Rattle.dirac_reading_laws.specs.Broken.{HeaderBreaks, EndsBadly}
use Rattle.dirac_reading_laws.specs.Places.{LiesIn}

-- refused at this byte, for this cause
abbrev refusal : ℕ → Cause → Refusal
refusal at cause = record { at = at; cause = cause }

-- bit `at` of these bytes
abbrev bit : List ℕ → ℕ → Cursor
bit bytes at = record { bytes = bytes; at = at }

-- a follow bit 0 behind the last digit that may stand
too_long : EndsBadly (false ∷ []) 0 NumberTooLong
too_long = refl

-- and where one digit more may stand, but no bit is left
short : EndsBadly (false ∷ []) 1 UnitShort
short = refl

-- ten bytes 00 hold 38 digits and a follow bit 0 behind them
ten_zeros : HeaderBreaks uint (start (replicate 10 0)) (refusal 0 NumberTooLong)
unfolding bits_left
ten_zeros = inl (
  refl,
  record {
    digits = replicate 38 false;
    at_most_that_many = omega arith;
    behind = bit (replicate 10 0) 76;
    passes = record { same_bytes = refl; moved = refl; front = refl };
    ends = refl;
  },
)

-- nine hold 36 digits, and no bit more
nine_zeros : HeaderBreaks uint (start (replicate 9 0)) (refusal 0 UnitShort)
unfolding bits_left
nine_zeros = inl (
  refl,
  record {
    digits = replicate 36 false;
    at_most_that_many = omega arith;
    behind = bit (replicate 9 0) 72;
    passes = record { same_bytes = refl; moved = refl; front = refl };
    ends = refl;
  },
)

-- five flags and a signed number
abbrev signed_behind_flags : Syntax ℤ
signed_behind_flags =
    flag_then (λ a. flag_then (λ b. flag_then (λ c. flag_then (λ d. flag_then (λ e. sint_then (λ z. done z))))))

-- the byte 01 holds five flags and the number 1, whose sign isn't there
no_sign : HeaderBreaks signed_behind_flags (start (0x01 ∷ [])) (refusal 0 UnitShort)
unfolding bits_left digits_of digits_within
no_sign =
    let behind : ℕ → Cursor = bit (0x01 ∷ []) in
    inr (
      false,
      behind 1,
      record { same_bytes = refl; moved = refl; front = refl },
      inr (
        false,
        behind 2,
        record { same_bytes = refl; moved = refl; front = refl },
        inr (
          false,
          behind 3,
          record { same_bytes = refl; moved = refl; front = refl },
          inr (
            false,
            behind 4,
            record { same_bytes = refl; moved = refl; front = refl },
            inr (
              false,
              behind 5,
              record { same_bytes = refl; moved = refl; front = refl },
              inl (
                refl,
                inr (record {
                  pred = 0;
                  below = omega arith;
                  behind = behind 8;
                  passes = record { same_bytes = refl; moved = refl; front = refl };
                  ends = refl;
                  is = refl;
                }),
              ),
            ),
          ),
        ),
      ),
    )

-- a flag, and behind a gap a number
abbrev number_behind_gap : Syntax ℕ
number_behind_gap = flag_then (λ a. align_then uint)

-- of 80 00 the number is four digits, and no bit more: it is refused at byte 1, where it begins
behind_gap : HeaderBreaks number_behind_gap (start (0x80 ∷ 0x00 ∷ [])) (refusal 1 UnitShort)
unfolding bits_left
behind_gap =
    let behind : ℕ → Cursor = bit (0x80 ∷ 0x00 ∷ []) in
    inr (
      true,
      behind 1,
      record { same_bytes = refl; moved = refl; front = refl },
      inl (
        refl,
        record {
          digits = replicate 4 false;
          at_most_that_many = omega arith;
          behind = behind 16;
          passes = record { same_bytes = refl; moved = refl; front = refl };
          ends = refl;
        },
      ),
    )

-- a flag, and behind a gap two numbers that a rule refuses together, behind the first of them
abbrev two_refused : Syntax ℕ
two_refused =
    flag_then (λ a. align_then (here_then (λ at. uint_then (λ n. uint_then (λ m. refuse at BlockSize)))))

-- 80 00 C0 holds the flag, the gap, 15 in byte 1 and further, and 0 in byte 2: the rule names byte 1
later_rule : HeaderBreaks two_refused (start (0x80 ∷ 0x00 ∷ 0xC0 ∷ [])) (refusal 1 BlockSize)
unfolding bits_left digits_of digits_within
later_rule =
    let behind : ℕ → Cursor = bit (0x80 ∷ 0x00 ∷ 0xC0 ∷ []) in
    inr (
      true,
      behind 1,
      record { same_bytes = refl; moved = refl; front = refl },
      inr (
        15,
        behind 17,
        omega arith,
        record { same_bytes = refl; moved = refl; front = refl },
        inr (
          0,
          behind 18,
          omega arith,
          record { same_bytes = refl; moved = refl; front = refl },
          (refl, refl),
        ),
      ),
    )

-- no fault lies behind the end of the bytes, nor is one of a unit that isn't there
no_place_behind : LiesIn [] (record { unit = 0; at = 1; cause = UnitShort }) → ⊥
no_place_behind lies = omega (arith, lies.at)

none_there : (units : List UnitText) (end : Option Fault) → IsCut first_unit_place [] units end → length units ≡ 0
none_there [] end cut = refl
none_there (unit ∷ units) end cut =
    let front : Result ParseInfo (Option Fault) = Err (Some (record { unit = 0; at = 0; cause = MissingEnd })) in
    let none : front ≡ Ok unit.info = cut.0 in
    absurd cc

no_unit_behind : LiesIn [] (record { unit = 1; at = 0; cause = UnitShort }) → ⊥
no_unit_behind lies = omega (arith, lies.unit, none_there lies.units lies.end lies.cut)
