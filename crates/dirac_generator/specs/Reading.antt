-- The generator as a source of bytes.
use Rattle.std.specs.Prelude.{ℕ, List, ◌++◌}
use Rattle.dirac_types.specs.declared.settings.Settings.{Settings}
use Rattle.dirac_generator.specs.Generated.{generated_from}

-- the bytes left of a picture, and how many pictures come behind it, the first of this number
pub record Generating : Type 0 where
  pub settings : Settings
  pub rest : List ℕ
  pub count : ℕ
  pub number : ℕ

-- the bytes that it still gives
abbrev pub held_by : Generating → List ℕ
held_by g = g.rest ++ generated_from g.settings g.count g.number
