use Rattle.std.proofs.Common.{◌≡◌, ◌≤◌, ℕ, List, length, arith, ap, subst, sym, ◌∙◌}
use Rattle.dirac_bits.specs.Cursor.{Cursor, place}
use Rattle.dirac_bits.specs.Fields.{block_read_at}
use Rattle.dirac_coeffs.proofs.Sited.{coded_found, coded_no_index, coded_refused, coded_unread}
use Rattle.dirac_coeffs.proofs.site.find_coded.Goals as goal

pub returns-in-Err : goal.returns-in-Err
returns-in-Err c =
    record {
      value = coded_unread c.args.len c.args.r.now c.in-Err.refusal c.in-Err.ensures.value.0;
      place_inside = c.in-Err.ensures.place_inside;
      kept = c.uint.ensures.kept;
      index = tt;
      block_inside = tt;
    }

pub returns-then-index : goal.returns-then-index
returns-then-index c =
    record {
      value = coded_no_index c.args.len c.in-Ok.index c.place-place.result c.args.r.now c.uint.new.self c.in-Ok.ensures.value (omega arith) c.place-place.ensures.value;
      place_inside = c.place-place.ensures.place_inside;
      kept = c.uint.ensures.kept;
      index = tt;
      block_inside = tt;
    }

pub returns-in-Ok-block : goal.returns-in-Ok-block
returns-in-Ok-block c =
    let kept : c.align.new.self.bytes ≡ c.args.r.now.bytes = ap (λ (k : Cursor). k.bytes) c.align.ensures.value ∙ c.uint.ensures.kept in
    record {
      value =
          coded_found c.args.len c.in-Ok.index c.place-at.result c.in-Ok-block.block.now c.args.r.now c.uint.new.self c.block.new.self c.in-Ok.ensures.value (omega arith)
          (c.place-at.ensures.value ∙ ap place c.align.ensures.value) (ap (block_read_at c.args.len) (sym c.align.ensures.value) ∙ c.in-Ok-block.ensures.value);
      place_inside = tt;
      kept = c.block.ensures.kept ∙ kept;
      index = omega arith;
      block_inside = subst (λ (l : List ℕ). c.place-at.result ≤ length l) kept c.place-at.ensures.place_inside;
    }

pub returns-in-Err-block : goal.returns-in-Err-block
returns-in-Err-block c =
    let kept : c.align.new.self.bytes ≡ c.args.r.now.bytes = ap (λ (k : Cursor). k.bytes) c.align.ensures.value ∙ c.uint.ensures.kept in
    record {
      value =
          coded_refused c.args.len c.in-Ok.index c.args.r.now c.uint.new.self c.in-Err-block.refusal c.in-Ok.ensures.value (omega arith) (ap (block_read_at c.args.len) (sym c.align.ensures.value) ∙ c.in-Err-block.ensures.value.0);
      place_inside = subst (λ (l : List ℕ). c.in-Err-block.refusal.at ≤ length l) kept c.in-Err-block.ensures.place_inside;
      kept = c.block.ensures.kept ∙ kept;
      index = tt;
      block_inside = tt;
    }
