-- Lists of a table, unit by unit and superblock by superblock.
use Rattle.std.proofs.Common.{◌≡◌, ℕ, zero, suc, ◌+◌, ◌*◌, ◌^◌, ◌<◌, ◌≤◌, inl, inr, Ok, refl, sym, ap, ◌∙◌, arith, subst}
use Rattle.std.proofs.lemmas.Nat.{mul-le}
use Rattle.dirac_arith.specs.Coded.{done, read_coded, repeated}
use Rattle.dirac_arith.specs.Deciding.{begin, after_all}
use Rattle.dirac_arith.specs.Reading.{Reading, DecisionsAreRead}
use Rattle.dirac_arith.proofs.Carrieds.{IsLed}
use Rattle.dirac_arith.proofs.CodedValues.{then_is_read}
use Rattle.dirac_arith.proofs.Led.{led_begin, led_more, reads_parted, carried_reads}
use Rattle.dirac_block_table.specs.declared.block.Block.{Block}
use Rattle.dirac_blocks.specs.declared.parts.ListKind.{ListKind}
use Rattle.dirac_blocks.specs.Carried.{with_list_part}
use Rattle.dirac_blocks.specs.Decisions.{unit_row, unit_rows, superblock_part, superblock_row, superblock_rows, unit_decisions}
use Rattle.dirac_blocks.specs.Grammar.{TableStep, with_unit, unit_coded, unit_read_step, unit_row_step, unit_rows_step, superblock_step, units_step}
use Rattle.dirac_blocks.specs.Laws.{CarriedIsRead}
use Rattle.dirac_blocks.specs.Parts.{part_at}
use Rattle.dirac_blocks.specs.Reached.{SameShape, IsFirstOfUnit}
use Rattle.dirac_block_table.specs.Tables.{BlockTable, IsBlock, IsBlockTable, block_at, split_at, unit_size}
use Rattle.dirac_blocks.proofs.Filled.{square, filled_or_same, one_table}
use Rattle.dirac_block_table.proofs.Fills.{filled_inside, unit_lawful, split_few, unit_placed}
use Rattle.dirac_blocks.proofs.Forwards.{Meets, unit_forward}
use Rattle.dirac_blocks.proofs.Going.{Goes, nothing_goes, beside_goes, below_goes, kept, grown, none_left, none_above}
use Rattle.dirac_blocks.proofs.Nearby.{SameWithin, near_within, block_lawful}
use Rattle.dirac_blocks.proofs.Shapes.{repeated_sizes, split_same, unit_same, unit_of_superblock, units_fill}
use Rattle.dirac_block_table.proofs.Units.{size_some}
use Rattle.dirac_blocks.proofs.Valued.{part_again}

-- a table on its way to a finished one: what it lacks is in this part
pub record Toward (part : ListKind) (m u : BlockTable) : Type 0 where
  pub lawful : IsBlockTable m
  pub shape : SameShape u m
  pub rest : (x y : ℕ) → x < 4 * u.across → y < 4 * u.down → with_list_part part (block_at m x y) (block_at u x y) ≡ block_at u x y

-- a step leads toward the finished table, and fills a rectangle of its blocks
abbrev pub UnitsGo : ListKind → BlockTable → TableStep → BlockTable → Reading → Reading → ℕ → ℕ → ℕ → ℕ → Type 0
UnitsGo part u step m r s left right top bottom = Goes (λ t. Toward part t u) block_at (4 * u.across) u step m r s left right top bottom

-- a part that is told again is the same
part_twice : (part : ListKind) (a b : Block) → with_list_part part a b ≡ b → with_list_part part b b ≡ b
part_twice part a b is = subst (λ (x : Block). with_list_part part x b ≡ b) is (part_again part a b b ∙ is)

-- a unit
unit_goes : (part : ListKind) (u m : BlockTable) (size i j : ℕ) (r s : Reading) → IsBlockTable u → Toward part m u → IsFirstOfUnit u size i j
    → SameWithin m u i (j + 1) → SameWithin m u (i + 1) j → IsLed r → DecisionsAreRead r (part_at part u i j) s
    → UnitsGo part u (unit_read_step part size i j) m r s i (i + size) j (j + size)
unfolding unit_read_step
unit_goes part u m size i j r s inv toward unit before over led reads =
    let placed = unit_placed u size i j inv unit in
    let some = placed.some in
    let columns = placed.columns in
    let rows = placed.row in
    let here = unit_same u m size i j toward.shape unit in
    let b = block_at u i j in
    let lawful : IsBlock m.refs b = subst (λ (n : ℕ). IsBlock n b) (sym toward.shape.refs) (block_lawful u i j inv) in
    let width : 4 * m.across ≡ 4 * u.across = ap (λ (n : ℕ). 4 * n) toward.shape.across in
    let meets : Meets part m u i j = record {
      former = toward.lawful;
      lawful = inv;
      refs = toward.shape.refs;
      near = near_within m u i j before over;
      is = toward.rest i j (omega arith) (omega arith);
    } in
    let found = unit_forward part m u i j r s meets led reads in
    let new = with_unit m size i j b in
    let place = λ (x y : ℕ) (l : x < 4 * u.across). filled_or_same m size i j b toward.lawful here x y (omega arith) in
    record {
      table = new;
      is = then_is_read (unit_coded part m i j) (λ c. done (with_unit m size i j c)) r ∙ rw found refl;
      toward = record {
        lawful = unit_lawful m size i j b toward.lawful here lawful;
        shape = record { across = toward.shape.across; down = toward.shape.down; refs = toward.shape.refs; splits = toward.shape.splits };
        rest = λ x y p q.
            elim (place x y p) [
              | inl k ↦
                  let filled = filled_inside m size i j b toward.lawful here x y k.left k.right k.top k.bottom in
                  let equal = square u size i j inv unit x y k.left k.right k.top k.bottom in
                  subst (λ (c : Block). with_list_part part c (block_at u x y) ≡ block_at u x y) (equal ∙ sym filled) (part_twice part (block_at m x y) (block_at u x y) (toward.rest x y p q))
              | inr same ↦ subst (λ (c : Block). with_list_part part c (block_at u x y) ≡ block_at u x y) (sym same) (toward.rest x y p q)
            ];
      };
      inside = λ x y a c d e. filled_inside m size i j b toward.lawful here x y a c d e ∙ sym (square u size i j inv unit x y a c d e);
      keeps = λ x y p agree.
          elim (place x y p) [
            | inl k ↦ filled_inside m size i j b toward.lawful here x y k.left k.right k.top k.bottom ∙ sym (square u size i j inv unit x y k.left k.right k.top k.bottom)
            | inr same ↦ same ∙ agree
          ];
    }

-- n units of a row
pub row_goes : (part : ListKind) (u m : BlockTable) (size i j count n : ℕ) (r s : Reading) → IsBlockTable u → Toward part m u
    → ((k : ℕ) → k < count → IsFirstOfUnit u size (i + k * size) j) → i + count * size ≤ 4 * u.across → 1 ≤ size → n ≤ count
    → SameWithin m u i (j + size) → SameWithin m u (i + count * size) j → IsLed r → DecisionsAreRead r (unit_row (part_at part u) size i j n) s
    → UnitsGo part u (unit_row_step part size i j n) m r s i (i + n * size) j (j + size)
unfolding unit_row repeated
row_goes part u m size i j count zero r s inv toward units fits some few before over led reads =
    nothing_goes refl toward reads (λ x y a b c d. omega arith)
row_goes part u m size i j count (suc n) r s inv toward units fits some few before over led reads =
    let parted = reads_parted r s (unit_row (part_at part u) size i j n) (part_at part u (i + n * size) j) led reads in
    let g = row_goes part u m size i j count n r parted.mid inv toward units fits some (omega arith) before over led parted.first in
    let place : (n + 1) * size ≤ count * size = mul-le (n + 1) size count size (omega arith) (omega arith) in
    let near_left = grown (j + 1) (omega arith) (omega arith) (omega arith) (omega arith) g before over in
    let near_over = kept (i + n * size + 1) j (omega arith) (omega arith) (omega arith) g over in
    let led' = led_more r parted.mid (unit_row (part_at part u) size i j n) led parted.first in
    let h = unit_goes part u g.table size (i + n * size) j parted.mid s inv g.toward (units n (omega arith)) near_left near_over led' parted.then in
    let end : suc n * size ≡ n * size + size = omega arith in
    beside_goes (i + suc n * size) (omega arith) (omega arith) g h

-- n rows of units
pub rows_go : (part : ListKind) (u m : BlockTable) (size across i j count n : ℕ) (r s : Reading) → IsBlockTable u → Toward part m u
    → ((k l : ℕ) → k < across → l < count → IsFirstOfUnit u size (i + k * size) (j + l * size)) → i + across * size ≤ 4 * u.across → 1 ≤ size → n ≤ count
    → SameWithin m u i (j + count * size) → SameWithin m u (i + across * size) j → IsLed r → DecisionsAreRead r (unit_rows (part_at part u) size across i j n) s
    → UnitsGo part u (unit_rows_step part size across i j n) m r s i (i + across * size) j (j + n * size)
unfolding unit_rows repeated
rows_go part u m size across i j count zero r s inv toward units fits some few before over led reads =
    nothing_goes refl toward reads (λ x y a b c d. omega arith)
rows_go part u m size across i j count (suc n) r s inv toward units fits some few before over led reads =
    let parted = reads_parted r s (unit_rows (part_at part u) size across i j n) (unit_row (part_at part u) size i (j + n * size) across) led reads in
    let g = rows_go part u m size across i j count n r parted.mid inv toward units fits some (omega arith) before over led parted.first in
    let place : (n + 1) * size ≤ count * size = mul-le (n + 1) size count size (omega arith) (omega arith) in
    let near_left = kept i (j + n * size + size) (omega arith) (omega arith) (omega arith) g before in
    let near_over = grown (j + n * size) (omega arith) (omega arith) (omega arith) (omega arith) g before over in
    let led' = led_more r parted.mid (unit_rows (part_at part u) size across i j n) led parted.first in
    let h = row_goes part u g.table size i (j + n * size) across across parted.mid s inv g.toward (λ k l. units k n l (omega arith)) fits some (omega arith) near_left near_over led' parted.then in
    let end : suc n * size ≡ n * size + size = omega arith in
    below_goes (j + suc n * size) (omega arith) (omega arith) g h

-- a superblock
superblock_goes : (part : ListKind) (u m : BlockTable) (sx sy : ℕ) (r s : Reading) → IsBlockTable u → Toward part m u → sx < u.across → sy < u.down
    → SameWithin m u (4 * sx) (4 * sy + 4) → SameWithin m u (4 * sx + 4) (4 * sy) → IsLed r → DecisionsAreRead r (superblock_part (part_at part u) u sx sy) s
    → UnitsGo part u (superblock_step part sy sx) m r s (4 * sx) (4 * sx + 4) (4 * sy) (4 * sy + 4)
unfolding superblock_step
superblock_goes part u m sx sy r s inv toward hx hy before over led reads =
    let t = split_at u sx sy in
    let two : t ≤ 2 = split_few u sx sy inv hx hy in
    let size = unit_size t in
    let fill : 2 ^ t * size ≡ 4 = units_fill t two in
    let split : split_at m sx sy ≡ t = split_same u m sx sy toward.shape in
    let within : SameWithin m u (4 * sx) (4 * sy + 2 ^ t * size) = subst (λ (n : ℕ). SameWithin m u (4 * sx) (4 * sy + n)) (sym fill) before in
    let above : SameWithin m u (4 * sx + 2 ^ t * size) (4 * sy) = subst (λ (n : ℕ). SameWithin m u (4 * sx + n) (4 * sy)) (sym fill) over in
    let g = rows_go part u m size (2 ^ t) (4 * sx) (4 * sy) (2 ^ t) (2 ^ t) r s inv toward (λ k l p q. unit_of_superblock u sx sy k l hx hy p q)
    (omega arith) (size_some t two) (omega arith) within above led reads in
    record {
      table = g.table;
      is = subst (λ (n : ℕ). read_coded (unit_rows_step part (unit_size n) (2 ^ n) (4 * sx) (4 * sy) (2 ^ n) m) r ≡ Ok (g.table, s)) (sym split) g.is;
      toward = g.toward;
      inside = λ x y a c d e. g.inside x y a (omega arith) d (omega arith);
      keeps = g.keeps;
    }

-- n superblocks of a row
pub superblocks_go : (part : ListKind) (u m : BlockTable) (sy n : ℕ) (r s : Reading) → IsBlockTable u → Toward part m u → n ≤ u.across → sy < u.down
    → SameWithin m u (4 * u.across) (4 * sy) → IsLed r → DecisionsAreRead r (superblock_row (part_at part u) u sy n) s
    → UnitsGo part u (λ x. repeated (superblock_step part sy) n x) m r s 0 (4 * n) (4 * sy) (4 * sy + 4)
unfolding superblock_row repeated
superblocks_go part u m sy zero r s inv toward few hy over led reads =
    nothing_goes refl toward reads (λ x y a b c d. omega arith)
superblocks_go part u m sy (suc n) r s inv toward few hy over led reads =
    let parted = reads_parted r s (superblock_row (part_at part u) u sy n) (superblock_part (part_at part u) u n sy) led reads in
    let g = superblocks_go part u m sy n r parted.mid inv toward (omega arith) hy over led parted.first in
    let near_left = grown (4 * sy + 4) (omega arith) (omega arith) (omega arith) (omega arith) g (none_left (4 * sy + 4)) over in
    let near_over = kept (4 * n + 4) (4 * sy) (omega arith) (omega arith) (omega arith) g over in
    let led' = led_more r parted.mid (superblock_row (part_at part u) u sy n) led parted.first in
    let h = superblock_goes part u g.table n sy parted.mid s inv g.toward (omega arith) hy near_left near_over led' parted.then in
    beside_goes (4 * suc n) (omega arith) (omega arith) g h

-- n rows of superblocks
pub superblock_rows_go : (part : ListKind) (u m : BlockTable) (n : ℕ) (r s : Reading) → IsBlockTable u → Toward part m u → n ≤ u.down
    → IsLed r → DecisionsAreRead r (superblock_rows (part_at part u) u n) s
    → UnitsGo part u (λ x. repeated (λ sy. repeated (superblock_step part sy) u.across) n x) m r s 0 (4 * u.across) 0 (4 * n)
unfolding superblock_rows repeated
superblock_rows_go part u m zero r s inv toward few led reads =
    nothing_goes refl toward reads (λ x y a b c d. omega arith)
superblock_rows_go part u m (suc n) r s inv toward few led reads =
    let parted = reads_parted r s (superblock_rows (part_at part u) u n) (superblock_row (part_at part u) u n u.across) led reads in
    let g = superblock_rows_go part u m n r parted.mid inv toward (omega arith) led parted.first in
    let near_over = grown (4 * n) (omega arith) (omega arith) (omega arith) (omega arith) g (none_left (4 * n)) (none_above (4 * u.across)) in
    let led' = led_more r parted.mid (superblock_rows (part_at part u) u n) led parted.first in
    let h = superblocks_go part u g.table n u.across parted.mid s inv g.toward (omega arith) (omega arith) near_over led' parted.then in
    below_goes (4 * suc n) (omega arith) (omega arith) g h

pub shape_back : (a b : BlockTable) → SameShape a b → SameShape b a
shape_back a b s = record { across = sym s.across; down = sym s.down; refs = sym s.refs; splits = sym s.splits }

-- a whole list
pub carried_is_read : CarriedIsRead
carried_is_read part former t block inv h =
    let rest = h.rest in
    let width : 4 * t.across ≡ 4 * former.across = ap (λ (n : ℕ). 4 * n) rest.shape.across in
    let height : 4 * t.down ≡ 4 * former.down = ap (λ (n : ℕ). 4 * n) rest.shape.down in
    let toward : Toward part former t = record {
      lawful = inv;
      shape = shape_back former t rest.shape;
      rest = λ x y p q. rest.blocks x y (omega arith) (omega arith);
    } in
    let s = after_all (begin block) (unit_decisions t (part_at part t)) in
    let g = superblock_rows_go part t former t.down (begin block) s h.lawful toward (omega arith) (led_begin block)
    (carried_reads block (unit_decisions t (part_at part t)) h.carried) in
    let one : g.table ≡ t = one_table g.table t g.toward.lawful h.lawful g.toward.shape (λ x y p q. g.inside x y (omega arith) p (omega arith) q) in
    let at_across : read_coded (repeated (λ sy. repeated (superblock_step part sy) former.across) former.down former) (begin block) ≡ Ok (g.table, s) =
    repeated_sizes (superblock_step part) former (begin block) rest.shape.across rest.shape.down g.is in
    (s, subst (λ (x : BlockTable). read_coded (units_step part former) (begin block) ≡ Ok (x, s)) one at_across)
