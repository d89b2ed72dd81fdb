-- How a picture's planes are numbered, and how their rows are cut in parts.
use Rattle.std.specs.Prelude.{ℕ, zero, suc, ◌*◌, ◌/◌}
use Rattle.dirac_common.specs.declared.formats.Component.{Component}
use Rattle.dirac_common.specs.declared.formats.Component.TheVariants as component

-- the planes Y, U, V in this order
abbrev pub component_at : ℕ → Component
component_at zero = component.Y
component_at (suc zero) = component.U
component_at (suc (suc n)) = component.V

-- the first row of part n, from 0, where so many rows are cut in `all` parts
unfoldable pub first_row : ℕ → ℕ → ℕ → ℕ
first_row height all n = height * n / all
