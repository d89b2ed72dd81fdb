-- The numbers of planned frames.
use Rattle.std.specs.Prelude.{ℕ, ◌<◌, IfSome}
use Rattle.dirac_plan.specs.declared.planned.Planned.{Planned}

-- the number of what is planned
abbrev pub planned_number : Planned → ℕ
planned_number p = p.number

-- a planned frame and all that it names are numbered below this
pub record IsBelow (n : ℕ) (p : Planned) : Type 0 where
  pub number : p.number < n
  pub ref1 : IfSome p.ref1 (λ t. t < n)
  pub ref2 : IfSome p.ref2 (λ t. t < n)
  pub retire : IfSome p.retire (λ t. t < n)
