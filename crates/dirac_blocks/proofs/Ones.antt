-- Where lists are refused: where their blocks break off, or begin with sixteen ones though a decision is needed.
use Rattle.std.proofs.Common.{◌≡◌, ℕ, ℤ, ◌+◌, ◌*◌, ◌^◌, ◌≤◌, inl, inr, Bool, true, false, List, [], ◌∷◌, Err, refl, arith}
use Rattle.dirac_common.specs.declared.faults.Cause.{Cause}
use Rattle.dirac_common.specs.declared.faults.Cause.TheVariants as cause
use Rattle.dirac_arith.specs.Carried.{Carries}
use Rattle.dirac_arith.specs.Coded.{done, read_coded, repeated}
use Rattle.dirac_arith.specs.Deciding.{begin}
use Rattle.dirac_arith.specs.Front.{front}
use Rattle.dirac_arith.specs.Interval.{Decision}
use Rattle.dirac_arith.specs.Reading.{Reading}
use Rattle.dirac_arith.proofs.Carrieds.{not_shut}
use Rattle.dirac_arith.proofs.CodedValues.{Open, broken_is_refused, is_read, open_shut, then_open, repeated_none, repeated_open, repeated_stops}
use Rattle.dirac_arith.proofs.Decidings.{number_is_shut}
use Rattle.dirac_arith.proofs.Led.{led_begin}
use Rattle.dirac_block_table.specs.declared.block.Block.{Block}
use Rattle.dirac_blocks.specs.declared.parts.ListKind.{ListKind}
use Rattle.dirac_blocks.specs.declared.parts.ListKind.TheVariants as parts
use Rattle.dirac_blocks.specs.Carried.{ReadsTo}
use Rattle.dirac_blocks.specs.Decisions.{unit_decisions}
use Rattle.dirac_blocks.specs.Grammar.{TableStep, coded_into, unit_coded, with_unit, unit_read_step, unit_row_step, superblock_step, split_step, units_step}
use Rattle.dirac_blocks.specs.Laws.{RefusedIsBroken, OnesInListAreRefused, OnesRefuseSplits}
use Rattle.dirac_blocks.specs.Parts.{part_at}
use Rattle.dirac_block_table.specs.Tables.{BlockTable, block_at, split_at, unit_size}
use Rattle.dirac_blocks.proofs.BackwardLoops.{read_is_carried}
use Rattle.dirac_blocks.proofs.Valued.{ByDifference, told_coded, across_tells, down_tells, dc_tells}

pub refused_is_broken : RefusedIsBroken
refused_is_broken step former block cause some = broken_is_refused (step former) cause block some

-- no unit is refused before anything of it is read
told_open : (has : Bool) (b : Block) (put : Block → ℤ → Block) (v : ByDifference) → Open (coded_into has b put (told_coded v))
told_open true b put v = tt
told_open false b put v = tt

unit_open : (part : ListKind) (t : BlockTable) (i j : ℕ) → Open (unit_coded part t i j)
unit_open parts.Modes t i j = tt
unit_open (parts.Across k) t i j = let l = across_tells k in told_open (l.has (block_at t i j)) (block_at t i j) l.put (l.told t i j)
unit_open (parts.Down k) t i j = let l = down_tells k in told_open (l.has (block_at t i j)) (block_at t i j) l.put (l.told t i j)
unit_open (parts.Dc c) t i j = let l = dc_tells c in told_open (l.has (block_at t i j)) (block_at t i j) l.put (l.told t i j)

step_open : (part : ListKind) (size i j : ℕ) (t : BlockTable) → Open (unit_read_step part size i j t)
unfolding unit_read_step
step_open part size i j t = then_open (unit_coded part t i j) (λ b. done (with_unit t size i j b)) (unit_open part t i j) (λ b. tt)

superblock_open : (part : ListKind) (sy sx : ℕ) (t : BlockTable) → Open (superblock_step part sy sx t)
unfolding superblock_step
superblock_open part sy sx t =
    let s = split_at t sx sy in
    let size = unit_size s in
    repeated_open (λ v. unit_row_step part size (4 * sx) (4 * sy + v * size) (2 ^ s)) (2 ^ s) t
    (λ v u. repeated_open (λ w. unit_read_step part size (4 * sx + w * size) (4 * sy + v * size)) (2 ^ s) u (λ w x. step_open part size (4 * sx + w * size) (4 * sy + v * size) x))

units_open : (part : ListKind) (t : BlockTable) → Open (units_step part t)
units_open part t =
    repeated_open (λ sy. repeated (superblock_step part sy) t.across) t.down t
    (λ sy u. repeated_open (superblock_step part sy) t.across u (λ sx x. superblock_open part sy sx x))

-- ones carry no decision
no_decision : (block : List ℕ) (ds : List Decision) → front block 16 ≡ 65535 → Carries block ds → ds ≡ []
no_decision block [] ones carries = refl
no_decision block (d ∷ ds) ones carries =
    absurd (not_shut (begin block) (d ∷ ds) (led_begin block) (omega arith) (λ more. carries) ones)

pub ones_are_refused : OnesInListAreRefused
ones_are_refused part former block inv ones =
    elim (open_shut (units_step part former) block (units_open part former) ones) [
      | inl e ↦ inl e
      | inr q ↦
          let reads : ReadsTo (units_step part) former block q.0 = (begin block, is_read (units_step part former) q.0 [] block q.1 tt) in
          let carried = read_is_carried part former q.0 block inv reads in
          inr (q.0, reads, no_decision block (unit_decisions q.0 (part_at part q.0)) ones carried.carried)
    ]

-- a split always needs a decision
split_shut : (sy sx : ℕ) (t : BlockTable) (r : Reading) → front r.block 16 ≡ 65535 → read_coded (split_step sy sx t) r ≡ Err cause.CodeWord
unfolding split_step
split_shut sy sx t r ones = rw (number_is_shut (22 ∷ 23 ∷ []) 24 r ones) refl

-- steps whose first is refused are refused
first_refused : (step : ℕ → TableStep) (n : ℕ) (t : BlockTable) (r : Reading) (e : Cause) → 1 ≤ n → read_coded (step 0 t) r ≡ Err e → read_coded (repeated step n t) r ≡ Err e
first_refused step n t r e some is = repeated_stops step 0 n t r t r e (omega arith) (repeated_none step t r) is

pub ones_refuse_splits : OnesRefuseSplits
ones_refuse_splits former block inv ones =
    first_refused (λ sy. repeated (split_step sy) former.across) former.down former (begin block) cause.CodeWord inv.size.some_down
    (first_refused (split_step 0) former.across former (begin block) cause.CodeWord inv.size.some_across (split_shut 0 0 former (begin block) ones))
