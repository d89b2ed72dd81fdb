use Rattle.std.proofs.Common.{◌≡◌, ℕ, ◌+◌, refl, sym, ap, ◌∙◌, arith, ◌≤◌, List, length, subst, Option, Ok, Err}
use Rattle.dirac_bits.specs.Syntax.{read}
use Rattle.dirac_blocks.specs.declared.parts.ListKind.{ListKind}
use Rattle.dirac_blocks.specs.Grammar.{list_over, lists_of, step_of}
use Rattle.dirac_blocks.specs.Parts.{is_there}
use Rattle.dirac_blocks.proofs.InOrder.{left_to_read, list_absent, list_at, list_next, list_stops, splits_first}
use Rattle.dirac_blocks.proofs.Shapes.{size_join, size_refl}
use Rattle.dirac_blocks.proofs.list_reader.read_lists.Goals as goal
use Rattle.dirac_blocks.proofs.list_reader.read_lists.Goals.{then-is_there+in-Ok, else-is_there}

pub lists-init : goal.lists-init
lists-init c = record { value = refl; size = size_refl c.args.table.now; grey = λ e. c.requires; kept = refl }

pub lists-preserved : goal.lists-preserved
lists-preserved c =
    let n = c.lists.n in
    let t = c.lists.table in
    let refs : t.refs ≡ c.refs-refs.result = c.lists.invariant.size.refs ∙ sym c.refs-refs.ensures.value in
    let asked = ap (λ (r : ℕ). is_there (list_at n) r) refs ∙ ap (λ (l : Option ListKind). is_there l c.refs-refs.result) (sym c.nth_list-list.ensures) ∙ sym c.is_there.ensures in
    elim c.if-is_there.branch [
      | then-is_there+in-Ok w ↦
          let u = w.read_list.new.table in
          let next : read (lists_of c.args.table.now) c.args.r.now ≡ read (left_to_read (n + 1) u) w.read_list.new.r =
          c.lists.invariant.value ∙ list_next n t u c.lists.r w.read_list.new.r (omega arith) (asked ∙ w.if-is_there.true) w.read_list.ensures.size.refs
          (subst (λ (l : Option ListKind). read (list_over (step_of l) t) c.lists.r ≡ Ok (u, w.read_list.new.r)) c.nth_list-list.ensures w.in-Ok.ensures.value) in
          record {
            value = rw (w.r-is, w.table-is) next;
            size = rw w.table-is (size_join c.args.table.now t u c.lists.invariant.size w.read_list.ensures.size);
            grey = λ e. absurd (omega arith);
            kept = rw w.r-is (w.read_list.ensures.kept ∙ c.lists.invariant.kept);
          }
      | else-is_there w ↦
          record {
            value = rw (w.r-is, w.table-is) (c.lists.invariant.value ∙ list_absent n t c.lists.r (omega arith) (asked ∙ w.if-is_there.false));
            size = rw w.table-is c.lists.invariant.size;
            grey = λ e. absurd (omega arith);
            kept = rw w.r-is c.lists.invariant.kept;
          }
    ]

pub returns-in-Err-clause-value : goal.returns-in-Err-clause-value
returns-in-Err-clause-value c =
    let n = c.lists.n in
    let t = c.lists.table in
    let refs : t.refs ≡ c.refs-refs.result = c.lists.invariant.size.refs ∙ sym c.refs-refs.ensures.value in
    let there = ap (λ (r : ℕ). is_there (list_at n) r) refs ∙ ap (λ (l : Option ListKind). is_there l c.refs-refs.result) (sym c.nth_list-list.ensures) ∙ sym c.is_there.ensures ∙ c.if-is_there.true in
    c.lists.invariant.value ∙ list_stops n t c.lists.r c.in-Err.e (omega arith) there
    (subst (λ (l : Option ListKind). read (list_over (step_of l) t) c.lists.r ≡ Err c.in-Err.e) c.nth_list-list.ensures c.in-Err.ensures.value)

pub returns-in-Err-clause-size : goal.returns-in-Err-clause-size
returns-in-Err-clause-size c = size_join c.args.table.now c.lists.table c.read_list.new.table c.lists.invariant.size c.read_list.ensures.size

pub returns-in-Err-clause-place_inside : goal.returns-in-Err-clause-place_inside
returns-in-Err-clause-place_inside c = subst (λ (bs : List ℕ). c.in-Err.e.at ≤ length bs) c.lists.invariant.kept c.in-Err.ensures.place_inside

pub returns-in-Err-clause-kept : goal.returns-in-Err-clause-kept
returns-in-Err-clause-kept c = c.read_list.ensures.kept ∙ c.lists.invariant.kept

pub returns-clause-size : goal.returns-clause-size
returns-clause-size c = c.lists.invariant.size

pub returns-clause-kept : goal.returns-clause-kept
returns-clause-kept c = c.lists.invariant.kept

pub returns-clause-place_inside : goal.returns-clause-place_inside
returns-clause-place_inside c = tt

pub nth_list-list-requires : goal.nth_list-list-requires
nth_list-list-requires c = omega arith

pub read_list-requires : goal.read_list-requires
read_list-requires c = λ none. c.lists.invariant.grey (splits_first c.lists.n (omega arith) (sym c.nth_list-list.ensures ∙ none))
