-- Whether a loan is there.
use Rattle.std.proofs.Common.{◌≡◌, ℕ, Bool, true, false, List, refl, sym, ap, Option, Some, None, Bor, option_copied}
use Rattle.std.specs.Prelude.{is_some, is_none, not}

-- a value behind a loan is there where the loan is
pub is_some_copied : (r : Option (Bor (List ℕ))) → is_some (option_copied r) ≡ is_some r
is_some_copied None = refl
is_some_copied (Some x) = refl

-- what `is_none` answers
pub none_by : {A : Type 0} (r : Option A) (answer : Bool) → is_some r ≡ not answer → answer ≡ is_none r
none_by r true some = sym (ap not some)
none_by r false some = sym (ap not some)
