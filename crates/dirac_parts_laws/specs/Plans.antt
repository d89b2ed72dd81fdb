-- The plan of whole groups and of what stands behind them.
use Rattle.std.specs.Prelude.{◌≡◌, ℕ, ◌+◌, ◌*◌, ◌<◌, ◌++◌, map, option_map}
use Rattle.dirac_types.specs.declared.settings.Settings.{Settings}
use Rattle.dirac_plan.specs.declared.planned.Planned.{Planned}
use Rattle.dirac_plan.specs.Plan.{plan}
use Rattle.dirac_plan.specs.Planning.{group_pictures}

-- a planned picture whose numbers are moved on by so much
abbrev pub planned_behind : ℕ → Planned → Planned
planned_behind by p = record {
  number = p.number + by;
  code = p.code;
  ref1 = option_map (λ n. n + by) p.ref1;
  ref2 = option_map (λ n. n + by) p.ref2;
  retire = option_map (λ n. n + by) p.retire;
}

-- m whole groups, and n pictures behind them: the plan of the groups, and then that of the n pictures, moved on; with
-- alike 1 a group behind others also retires pictures of the group before it
abbrev pub PlansGoOn : Type 0
PlansGoOn =
    (t : Settings) (m n : ℕ) → t.alike ≡ 0 → 0 < t.gop
    → plan (m * group_pictures t + n) t
    ≡ plan (m * group_pictures t) t ++ map (planned_behind (m * group_pictures t)) (plan n t)
