use Rattle.std.proofs.Common.{◌≡◌, ◌≤◌, ℕ, List, length, ap, subst, sym, ◌∙◌}
use Rattle.dirac_bits.specs.Cursor.{Cursor}
use Rattle.dirac_bits.specs.Fields.{uint_at}
use Rattle.dirac_coeffs.proofs.Sited.{site_found, site_none, site_refused, site_unread}
use Rattle.dirac_coeffs.proofs.site.find_site.Goals as goal

pub returns-in-Err : goal.returns-in-Err
returns-in-Err c =
    let kept : c.align.new.self.bytes ≡ c.args.r.now.bytes = ap (λ (k : Cursor). k.bytes) c.align.ensures.value in
    record {
      value = site_unread c.args.r.now c.in-Err.refusal (ap uint_at (sym c.align.ensures.value) ∙ c.in-Err.ensures.value.0);
      place_inside = subst (λ (l : List ℕ). c.in-Err.refusal.at ≤ length l) kept c.in-Err.ensures.place_inside;
      kept = c.uint.ensures.kept ∙ kept;
      index = tt;
      block_inside = tt;
    }

pub returns-then-len-eq0 : goal.returns-then-len-eq0
returns-then-len-eq0 c =
    record {
      value = site_none c.in-Ok.len c.args.r.now c.uint.new.self (ap uint_at (sym c.align.ensures.value) ∙ c.in-Ok.ensures.value) c.if-len-eq0.true;
      place_inside = tt;
      kept = c.uint.ensures.kept ∙ ap (λ (k : Cursor). k.bytes) c.align.ensures.value;
      index = tt;
      block_inside = tt;
    }

pub returns-in-Ok-find_coded : goal.returns-in-Ok-find_coded
returns-in-Ok-find_coded c =
    let kept : c.uint.new.self.bytes ≡ c.args.r.now.bytes = c.uint.ensures.kept ∙ ap (λ (k : Cursor). k.bytes) c.align.ensures.value in
    record {
      value = site_found c.in-Ok.len c.in-Ok-find_coded.site c.args.r.now c.uint.new.self c.find_coded.new.r (ap uint_at (sym c.align.ensures.value) ∙ c.in-Ok.ensures.value) c.if-len-eq0.false c.in-Ok-find_coded.ensures.value;
      place_inside = tt;
      kept = c.find_coded.ensures.kept ∙ kept;
      index = c.in-Ok-find_coded.ensures.index;
      block_inside = subst (λ (l : List ℕ). c.in-Ok-find_coded.site.at ≤ length l) kept c.in-Ok-find_coded.ensures.block_inside;
    }

pub returns-in-Err-find_coded : goal.returns-in-Err-find_coded
returns-in-Err-find_coded c =
    let kept : c.uint.new.self.bytes ≡ c.args.r.now.bytes = c.uint.ensures.kept ∙ ap (λ (k : Cursor). k.bytes) c.align.ensures.value in
    record {
      value = site_refused c.in-Ok.len c.args.r.now c.uint.new.self c.in-Err-find_coded.refusal (ap uint_at (sym c.align.ensures.value) ∙ c.in-Ok.ensures.value) c.if-len-eq0.false c.in-Err-find_coded.ensures.value;
      place_inside = subst (λ (l : List ℕ). c.in-Err-find_coded.refusal.at ≤ length l) kept c.in-Err-find_coded.ensures.place_inside;
      kept = c.find_coded.ensures.kept ∙ kept;
      index = tt;
      block_inside = tt;
    }
