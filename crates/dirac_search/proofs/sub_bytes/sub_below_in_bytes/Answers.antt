use Rattle.std.proofs.Common.{ℕ, ℤ, ◌*◌, refl, subst}
use Rattle.dirac_search.specs.InBytes.{IsSpotBefore}
use Rattle.dirac_search.proofs.Differences.{plain_component}
use Rattle.dirac_search.proofs.sub_bytes.sub_below_in_bytes.Goals as goal

pub held_below-requires-clause-held : goal.held_below-requires-clause-held
held_below-requires-clause-held c =
    let q = c.args.precision in
    let t = c.args.tried in
    let w = t.window in
    record {
      columns = c.if-is_inner.ensures.columns refl;
      source_right = c.if-is_inner.ensures.right refl;
      source_bottom = c.if-is_inner.ensures.bottom refl;
      across =
          subst (λ (n : ℕ). IsSpotBefore q w.x t.v.x 8 (2 * n) c.in-Some.x) c.width.ensures.value
          (subst (λ (v : ℤ). IsSpotBefore q w.x v 8 (2 * c.width.result) c.in-Some.x) (plain_component t.v.x c.requires.tried.v.across) (c.in-Some.ensures {u = tt}));
      down =
          subst (λ (n : ℕ). IsSpotBefore q w.y t.v.y w.rows (2 * n) c.in-Some-spot_before.y) c.height.ensures.value
          (subst (λ (v : ℤ). IsSpotBefore q w.y v w.rows (2 * c.height.result) c.in-Some-spot_before.y) (plain_component t.v.y c.requires.tried.v.down) (c.in-Some-spot_before.ensures {u = tt}));
    }

pub held_below-requires-clause-has_rows : goal.held_below-requires-clause-has_rows
held_below-requires-clause-has_rows c = c.if-is_inner.ensures.has_rows refl
