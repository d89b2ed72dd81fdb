use Rattle.std.proofs.Common.{refl, ◌∙◌, ap, sym, slice_set, ◌+◌, ◌*◌, ◌≤◌, List, arith, length-set, ◌≡◌, ℕ, subst}
use Rattle.std.proofs.lemmas.Nat.{mul-le}
use Rattle.dirac_block_table.specs.declared.block.Block.{Block}
use Rattle.dirac_block_table.specs.Filling.{row_filled, rows_filled}
use Rattle.dirac_block_table.proofs.Fills.{row_filled_next, rows_filled_next}
use Rattle.dirac_block_table.proofs.filling.fill_rows.Goals as goal

pub rows-init : goal.rows-init
unfolding rows_filled
rows-init c = record { exact = refl; len = refl }

pub places-init : goal.places-init
unfolding row_filled
places-init c = record { exact = c.rows.invariant.exact; len = c.rows.invariant.len }

pub places-preserved : goal.places-preserved
places-preserved c =
    let start = (c.args.j + c.rows.n) * c.args.width + c.args.i in
    let before = rows_filled c.args.width c.args.blocks.now.items c.args.size c.args.i c.args.j c.args.block c.rows.n in
    let k = c.places.k in
    record {
      exact = ap (λ (xs : List Block). slice_set xs (start + k) c.args.block) c.places.invariant.exact ∙ sym (row_filled_next before start c.args.block k);
      len = length-set c.places.blocks.items (start + k) c.args.block ∙ c.places.invariant.len;
    }

pub rows-preserved : goal.rows-preserved
rows-preserved c =
    let start = (c.args.j + c.rows.n) * c.args.width + c.args.i in
    let before = rows_filled c.args.width c.args.blocks.now.items c.args.size c.args.i c.args.j c.args.block c.rows.n in
    let all : c.places.k ≡ c.args.size = omega arith in
    record {
      exact =
          c.places.invariant.exact ∙ ap (λ (k : ℕ). row_filled before start c.args.block k) all
          ∙ sym (rows_filled_next c.args.width c.args.blocks.now.items c.args.size c.args.i c.args.j c.args.block c.rows.n);
      len = c.places.invariant.len;
    }

pub overflow_add-start : goal.overflow_add-start
overflow_add-start c =
    let whole : (c.args.j + c.args.count) * 1 ≤ (c.args.j + c.args.count) * c.args.width = mul-le (c.args.j + c.args.count) 1 (c.args.j + c.args.count) c.args.width (omega arith) (omega arith) in
    omega arith

pub overflow_mul-start : goal.overflow_mul-start
overflow_mul-start c =
    let whole : (c.args.j + c.rows.n) * c.args.width ≤ (c.args.j + c.args.count) * c.args.width = mul-le (c.args.j + c.rows.n) c.args.width (c.args.j + c.args.count) c.args.width (omega arith) (omega arith) in
    omega arith

pub overflow_add-start-in-rows : goal.overflow_add-start-in-rows
overflow_add-start-in-rows c =
    let whole : (c.args.j + c.rows.n + 1) * c.args.width ≤ (c.args.j + c.args.count) * c.args.width = mul-le (c.args.j + c.rows.n + 1) c.args.width (c.args.j + c.args.count) c.args.width (omega arith) (omega arith) in
    omega arith

pub overflow_add-start-in-places : goal.overflow_add-start-in-places
overflow_add-start-in-places c =
    let whole : (c.args.j + c.rows.n + 1) * c.args.width ≤ (c.args.j + c.args.count) * c.args.width = mul-le (c.args.j + c.rows.n + 1) c.args.width (c.args.j + c.args.count) c.args.width (omega arith) (omega arith) in
    omega arith

pub index_mut-requires : goal.index_mut-requires
index_mut-requires c =
    let whole : (c.args.j + c.rows.n + 1) * c.args.width ≤ (c.args.j + c.args.count) * c.args.width = mul-le (c.args.j + c.rows.n + 1) c.args.width (c.args.j + c.args.count) c.args.width (omega arith) (omega arith) in
    omega (arith, c.places.invariant.len)

pub returns-clause-exact : goal.returns-clause-exact
returns-clause-exact c =
    let all : c.rows.n ≡ c.args.count = omega arith in
    subst (λ (n : ℕ). c.rows.blocks.items ≡ rows_filled c.args.width c.args.blocks.now.items c.args.size c.args.i c.args.j c.args.block n) all c.rows.invariant.exact

pub returns-clause-len : goal.returns-clause-len
returns-clause-len c = c.rows.invariant.len
