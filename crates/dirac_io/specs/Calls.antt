-- Calls that are to fail, by their numbers.
use Rattle.std.specs.Prelude.{ℕ, Bool, List, nat_eq, if◌then◌else◌}
use Rattle.std.specs.List.{list_any}
use Rattle.dirac_io.specs.Faults.{one_more}

-- the calls that are to fail, the next call's number, and the count of those that failed
pub record Calls : Type 0 where
  pub failing : List ℕ
  pub number : ℕ
  pub count : ℕ

-- before the first call
abbrev pub none_called : List ℕ → Calls
none_called failing = record { failing = failing; number = 0; count = 0 }

-- the next call is one of those that are to fail
abbrev pub fails : Calls → Bool
fails c = list_any (λ n. nat_eq n c.number) c.failing

-- after the next call
abbrev pub called : Calls → Calls
called c = record {
  failing = c.failing;
  number = one_more c.number;
  count = if fails c then one_more c.count else c.count;
}
