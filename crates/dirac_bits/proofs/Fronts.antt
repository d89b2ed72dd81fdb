-- Where the writing of several parts breaks off.
use Rattle.std.proofs.Common.{◌≡◌, Bool, List, [], ◌++◌, sym, ap, subst, ◌∙◌, append_assoc, append-nil}
use Rattle.std.specs.Prelude.{Result, Ok, Err, OnErr}
use Rattle.dirac_bits.specs.Fronts.{HoldsFront}

-- what holds anyway holds after an error
pub on_err : {A E : Type 0} {P : Type 0} (r : Result A E) → P → OnErr r P
on_err (Ok x) p = tt
on_err (Err e) p = p

-- what follows from what holds after an error
pub err_so : {A E : Type 0} {P Q : Type 0} (r : Result A E) → (P → Q) → OnErr r P → OnErr r Q
err_so (Ok x) f p = tt
err_so (Err e) f p = f p

-- nothing was written
pub none_stand : {old new : List Bool} (bits : List Bool) → new ≡ old → HoldsFront old new (old ++ bits)
none_stand {old} {new} bits same =
    record { front = []; rest = bits; grown = same ∙ sym (append-nil old); parts = ap (λ l. l ++ bits) (sym (append-nil old)) }

-- nothing was written, and nothing was to be written
pub nothing_stands : {old new : List Bool} → new ≡ old → HoldsFront old new old
nothing_stands {old} {new} same =
    record { front = []; rest = []; grown = same ∙ sym (append-nil old); parts = sym (ap (λ l. l ++ []) (append-nil old) ∙ append-nil old) }

-- all was written
pub all_stand : {old new all : List Bool} → HoldsFront old new all → HoldsFront old all all
all_stand {old} {new} {all} holds =
    record {
      front = holds.front ++ holds.rest;
      rest = [];
      grown = holds.parts ∙ append_assoc old holds.front holds.rest;
      parts = sym (append-nil (old ++ (holds.front ++ holds.rest)) ∙ sym (append_assoc old holds.front holds.rest) ∙ sym holds.parts);
    }

-- the first part was written, and then the second
pub both_written : {mid new : List Bool} (old first second : List Bool) → mid ≡ old ++ first → new ≡ mid ++ second → new ≡ old ++ (first ++ second)
both_written {mid} {new} old first second one two = two ∙ ap (λ l. l ++ second) one ∙ append_assoc old first second

-- more was to be written behind that
pub more_stand : {old new all : List Bool} (more : List Bool) → HoldsFront old new all → HoldsFront old new (all ++ more)
more_stand {old} {new} {all} more holds =
    record {
      front = holds.front;
      rest = holds.rest ++ more;
      grown = holds.grown;
      parts = ap (λ l. l ++ more) holds.parts ∙ append_assoc (old ++ holds.front) holds.rest more;
    }

-- the writing broke off behind bits that were written
pub later_stand : {old mid new all : List Bool} (first : List Bool) → mid ≡ old ++ first → HoldsFront mid new all → HoldsFront old new all
later_stand {old} {mid} {new} {all} first one holds =
    record {
      front = first ++ holds.front;
      rest = holds.rest;
      grown = holds.grown ∙ ap (λ l. l ++ holds.front) one ∙ append_assoc old first holds.front;
      parts = holds.parts ∙ ap (λ l. l ++ holds.front ++ holds.rest) one ∙ ap (λ l. l ++ holds.rest) (append_assoc old first holds.front);
    }

-- the same, where a front of other bits was written before
pub through_stand : {old mid new some all : List Bool} → HoldsFront old mid some → HoldsFront mid new all → HoldsFront old new all
through_stand {old} {mid} {new} {some} {all} before holds = later_stand before.front before.grown holds

-- it broke off within the first part
pub first_stand : {old new : List Bool} (first rest : List Bool) → HoldsFront old new (old ++ first) → HoldsFront old new (old ++ (first ++ rest))
first_stand {old} {new} first rest holds =
    let longer : HoldsFront old new ((old ++ first) ++ rest) = more_stand rest holds in
    subst (λ (l : List Bool). HoldsFront old new l) (append_assoc old first rest) longer

-- it broke off behind the first part
pub others_stand : {old mid new : List Bool} (first rest : List Bool) → mid ≡ old ++ first → HoldsFront mid new (mid ++ rest) → HoldsFront old new (old ++ (first ++ rest))
others_stand {old} {mid} {new} first rest one holds =
    let later : HoldsFront old new (mid ++ rest) = later_stand first one holds in
    subst (λ (l : List Bool). HoldsFront old new l) (ap (λ l. l ++ rest) one ∙ append_assoc old first rest) later

-- more was written, and it goes on to all
pub further_stand : {old mid new all : List Bool} (more rest : List Bool) → HoldsFront old mid all → new ≡ mid ++ more → all ≡ new ++ rest → HoldsFront old new all
further_stand {old} {mid} {new} {all} more rest holds next goes_on =
    let grown : new ≡ old ++ (holds.front ++ more) = next ∙ ap (λ l. l ++ more) holds.grown ∙ append_assoc old holds.front more in
    record { front = holds.front ++ more; rest = rest; grown = grown; parts = goes_on ∙ ap (λ l. l ++ rest) grown }

-- nothing more was written
pub still_stand : {old mid new all : List Bool} → HoldsFront old mid all → new ≡ mid → HoldsFront old new all
still_stand {old} {mid} {new} {all} holds same = record { front = holds.front; rest = holds.rest; grown = same ∙ holds.grown; parts = holds.parts }
