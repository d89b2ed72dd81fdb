use Rattle.std.proofs.Common.{◌≡◌, ◌*◌, ◌≤◌, ◌∙◌, ℕ, ℤ, List, Result, Ok, Err, ap, arith, length, pos, refl, subst, sym}
use Rattle.std.proofs.lemmas.List.{length-replicate}
use Rattle.dirac_common.specs.declared.faults.Cause.{Cause}
use Rattle.dirac_arith.specs.Coded.{read_coded}
use Rattle.dirac_arith.specs.Deciding.{begin}
use Rattle.dirac_arith.specs.Reading.{Reading}
use Rattle.dirac_arith.proofs.CodedValues.{repeated_none, repeated_next}
use Rattle.dirac_coeffs.specs.BandRead.{Content, block_step, blocks_step, block_rows_step}
use Rattle.dirac_coeffs.specs.Lent.{IsNarrow, content_in, numbers_in, values_in}
use Rattle.dirac_coeffs.proofs.Edges.{edge_most, span_end}
use Rattle.dirac_coeffs.proofs.Read.{content_filled}
use Rattle.dirac_coeffs.proofs.Steps.{repeated_unread}
use Rattle.dirac_coeffs.proofs.codeblocks.read_content.Goals as goal

pub down-init : goal.down-init
down-init c =
    let layout = c.args.frame.layout in
    let filling = content_in c.args.filling.now in
    record {
      value =
          repeated_none (λ cy. blocks_step layout (numbers_in c.args.frame.parent) c.args.frame.index cy layout.across) filling (begin c.args.block.now)
          ∙ ap (λ (r : Reading). let x : Result (Content × Reading) Cause = Ok (filling, r) in x) (sym c.new-decoder.ensures);
      len = ap (λ (l : List ℤ). length l) c.requires.zeros ∙ length-replicate (layout.width * layout.height) (pos 0);
      narrow = λ n. n;
      count = ap (λ (l : List ℕ). length l) c.requires.equal ∙ length-replicate (layout.across * layout.down) c.args.frame.index;
      few_doublings = subst (λ (r : Reading). r.at.doublings ≤ 0) (sym c.new-decoder.ensures) (omega arith);
    }

pub across-init : goal.across-init
across-init c =
    record {
      value =
          record {
            content = content_in c.down.filling;
            reading = c.down.decoder;
            rows = c.down.invariant.value;
            row = repeated_none (block_step c.args.frame.layout (numbers_in c.args.frame.parent) c.args.frame.index c.down.cy) (content_in c.down.filling) c.down.decoder;
          };
      len = c.down.invariant.len;
      narrow = c.down.invariant.narrow;
      count = c.down.invariant.count;
      few_doublings = omega (arith, c.down.invariant.few_doublings);
    }

pub read_codeblock-requires-clause-block : goal.read_codeblock-requires-clause-block
read_codeblock-requires-clause-block c = record { layout = c.requires.layout; row = omega arith; column = omega arith }

pub read_codeblock-requires-clause-len : goal.read_codeblock-requires-clause-len
read_codeblock-requires-clause-len c = c.across.invariant.len

pub read_codeblock-requires-clause-count : goal.read_codeblock-requires-clause-count
read_codeblock-requires-clause-count c = c.across.invariant.count

pub read_codeblock-requires-clause-no_overflow : goal.read_codeblock-requires-clause-no_overflow
read_codeblock-requires-clause-no_overflow c =
    omega (arith, c.across.invariant.few_doublings, c.requires.layout.down, c.requires.layout.width, c.requires.layout.across, edge_most c.args.frame.layout.width c.args.frame.layout.across c.across.cx (omega arith) (omega arith))

pub across-preserved : goal.across-preserved
across-preserved c =
    let layout = c.args.frame.layout in
    let v = c.across.invariant.value in
    record {
      value =
          record {
            content = v.content;
            reading = v.reading;
            rows = v.rows;
            row = repeated_next (block_step layout (numbers_in c.args.frame.parent) c.args.frame.index c.down.cy) c.across.cx v.content v.reading (content_in c.across.filling) c.across.decoder _ v.row c.in-Ok.ensures.value;
          };
      len = c.read_codeblock.ensures.len ∙ c.across.invariant.len;
      narrow = λ n. c.across.invariant.narrow (c.read_codeblock.ensures.narrow n);
      count = c.read_codeblock.ensures.count ∙ c.across.invariant.count;
      few_doublings = omega (arith, c.read_codeblock.ensures.few_doublings, c.across.invariant.few_doublings, span_end layout.width layout.across c.across.cx (omega arith));
    }

pub down-preserved : goal.down-preserved
down-preserved c =
    let layout = c.args.frame.layout in
    let parent = numbers_in c.args.frame.parent in
    let index = c.args.frame.index in
    let v = c.across.invariant.value in
    let all : c.across.cx ≡ layout.across = omega (arith, c.across.auto.cx-end) in
    let row = subst (λ (n : ℕ). read_coded (blocks_step layout parent index c.down.cy n v.content) v.reading ≡ Ok (content_in c.across.filling, c.across.decoder)) all v.row in
    record {
      value = repeated_next (λ cy. blocks_step layout parent index cy layout.across) c.down.cy (content_in c.args.filling.now) (begin c.args.block.now) v.content v.reading _ v.rows row;
      len = c.across.invariant.len;
      narrow = c.across.invariant.narrow;
      count = c.across.invariant.count;
      few_doublings = omega (arith, c.across.invariant.few_doublings, c.requires.layout.width, c.requires.layout.across, edge_most layout.width layout.across c.across.cx (omega arith) (omega arith));
    }

pub returns-clause-value : goal.returns-clause-value
returns-clause-value c =
    let layout = c.args.frame.layout in
    let parent = numbers_in c.args.frame.parent in
    let block = c.args.block.now in
    let all : c.down.cy ≡ layout.down = omega (arith, c.down.auto.cy-end) in
    let read = subst (λ (n : ℕ). read_coded (block_rows_step layout parent c.args.frame.index n (content_in c.args.filling.now)) (begin block) ≡ Ok (content_in c.down.filling, c.down.decoder)) all c.down.invariant.value in
    content_filled {A = ℕ} (IsNarrow c.down.filling.values) (Ok 0) layout parent c.args.frame.index block (values_in c.args.filling.now.values) c.args.filling.now.indices (begin block) c.down.decoder (content_in c.down.filling)
    c.requires.layout c.requires.zeros c.requires.equal refl read

pub returns-clause-len : goal.returns-clause-len
returns-clause-len c = c.down.invariant.len

pub returns-clause-narrow : goal.returns-clause-narrow
returns-clause-narrow c = c.down.invariant.narrow

pub returns-in-Err-clause-value : goal.returns-in-Err-clause-value
returns-in-Err-clause-value c =
    let layout = c.args.frame.layout in
    let parent = numbers_in c.args.frame.parent in
    let index = c.args.frame.index in
    let block = c.args.block.now in
    let v = c.across.invariant.value in
    let narrow = IsNarrow c.read_codeblock.new.filling.values in
    let row = repeated_unread narrow (block_step layout parent index c.down.cy) c.across.cx layout.across v.content v.reading (content_in c.across.filling) c.across.decoder c.in-Err.unread (omega arith) v.row c.in-Err.ensures.value in
    let stops = repeated_unread narrow (λ cy. blocks_step layout parent index cy layout.across) c.down.cy layout.down (content_in c.args.filling.now) (begin block) v.content v.reading c.in-Err.unread (omega arith) v.rows row in
    content_filled {A = ℕ} narrow (Err c.in-Err.unread) layout parent index block (values_in c.args.filling.now.values) c.args.filling.now.indices (begin block) c.read_codeblock.new.decoder (content_in c.read_codeblock.new.filling)
    c.requires.layout c.requires.zeros c.requires.equal refl stops

pub returns-in-Err-clause-len : goal.returns-in-Err-clause-len
returns-in-Err-clause-len c = c.read_codeblock.ensures.len ∙ c.across.invariant.len

pub returns-in-Err-clause-narrow : goal.returns-in-Err-clause-narrow
returns-in-Err-clause-narrow c = λ n. c.across.invariant.narrow (c.read_codeblock.ensures.narrow n)
