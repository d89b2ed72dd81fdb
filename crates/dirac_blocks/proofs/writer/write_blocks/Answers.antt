use Rattle.std.proofs.Common.{◌≡◌, ℕ, Bool, List, refl, sym, ap, subst, ◌∙◌, arith, Option}
use Rattle.dirac_arith.specs.Interval.{Decision}
use Rattle.dirac_bits.specs.Fronts.{HoldsFront}
use Rattle.dirac_bits.specs.Spelling.{SpelledBehind}
use Rattle.dirac_blocks.specs.declared.parts.ListKind.{ListKind}
use Rattle.dirac_blocks.specs.Decisions.{block_decisions, least_numbers}
use Rattle.dirac_blocks.specs.Grammar.{blocks}
use Rattle.dirac_blocks.specs.Parts.{list_there}
use Rattle.dirac_blocks.specs.Written.{with_lists, ListsHaveShortBlocks}
use Rattle.dirac_blocks.proofs.Appended.{lists_append}
use Rattle.dirac_blocks.proofs.InOrder.{all_lists, broke_off, list_at, lists_before, lists_next}
use Rattle.dirac_blocks.proofs.Spelled.{short_append, table_spelled}
use Rattle.dirac_blocks.proofs.writer.write_blocks.Goals as goal

pub lists-init : goal.lists-init
lists-init c = record { exact = refl; lists_have_short_blocks = tt }

pub lists-preserved : goal.lists-preserved
lists-preserved c =
    let t = c.args.blocks.now in
    let n = c.lists.n in
    let next = list_there (list_at n) t in
    let new = c.write_list.new.w in
    let exact = subst (λ (l : Option ListKind). new ≡ with_lists (list_there l t) c.lists.w) c.nth_list.ensures c.in-Ok.ensures.exact in
    let short = subst (λ (l : Option ListKind). ListsHaveShortBlocks (list_there l t)) c.nth_list.ensures c.in-Ok.ensures.lists_have_short_blocks in
    record {
      exact =
          exact ∙ ap (λ (l : List Bool). with_lists next l) c.lists.invariant.exact ∙ sym (lists_append (lists_before t n) next c.args.w.now)
          ∙ ap (λ (ds : List (List Decision)). with_lists ds c.args.w.now) (sym (lists_next t n));
      lists_have_short_blocks = subst ListsHaveShortBlocks (sym (lists_next t n)) (short_append (lists_before t n) next c.lists.invariant.lists_have_short_blocks short);
    }

pub returns-clause-exact : goal.returns-clause-exact
returns-clause-exact c =
    let t = c.args.blocks.now in
    let w = c.args.w.now in
    let all : c.lists.n ≡ 9 = omega arith in
    c.lists.invariant.exact ∙ ap (λ (n : ℕ). with_lists (lists_before t n) w) all ∙ ap (λ (ds : List (List Decision)). with_lists ds w) (all_lists t)

pub returns-clause-spelled : goal.returns-clause-spelled
returns-clause-spelled c =
    let t = c.args.blocks.now in
    let w = c.args.w.now in
    let all : c.lists.n ≡ 9 = omega arith in
    let short : ListsHaveShortBlocks (block_decisions t (least_numbers t)) =
    subst ListsHaveShortBlocks (all_lists t) (subst (λ (n : ℕ). ListsHaveShortBlocks (lists_before t n)) all c.lists.invariant.lists_have_short_blocks) in
    let exact = c.lists.invariant.exact ∙ ap (λ (n : ℕ). with_lists (lists_before t n) w) all ∙ ap (λ (ds : List (List Decision)). with_lists ds w) (all_lists t) in
    subst (λ (l : List Bool). SpelledBehind (blocks t.across t.down t.refs) t w l) (sym exact) (table_spelled t w c.refs.ensures.lawful c.requires short)

pub returns-in-Err-clause-front : goal.returns-in-Err-clause-front
returns-in-Err-clause-front c =
    let t = c.args.blocks.now in
    broke_off t c.lists.n (omega arith) c.lists.invariant.exact
    (subst (λ (l : Option ListKind). HoldsFront c.lists.w c.write_list.new.w (with_lists (list_there l t) c.lists.w)) c.nth_list.ensures c.in-Err.ensures.front)

pub nth_list-requires : goal.nth_list-requires
nth_list-requires c = omega arith
