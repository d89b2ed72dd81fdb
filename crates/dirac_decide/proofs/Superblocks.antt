-- Superblocks that are decided one after another.
use Rattle.std.proofs.Common.{◌≡◌, ℕ, zero, suc, ◌+◌, ◌*◌, ◌/◌, ◌%◌, ◌^◌, ◌<◌, ◌≤◌, ◌⊎◌, List, length, get_or, set, arith, inl, inr, ap, sym, subst, ◌∙◌}
use Rattle.std.proofs.lemmas.Bool.{cases_eq}
use Rattle.std.proofs.lemmas.List.{get_or-set_same, get_or-set_other}
use Rattle.dirac_block_table.specs.declared.block.Block.{Block}
use Rattle.dirac_block_table.specs.Puts.{IsPut}
use Rattle.dirac_block_table.specs.Tables.{BlockTable, block_in, grey, split_at, unit_of, unit_size}
use Rattle.dirac_decide.specs.Best.{IsBestSplit}
use Rattle.dirac_decide.specs.declared.superblock.BestSplit.{BestSplit}
use Rattle.dirac_decide.specs.Deciding.{Deciding}
use Rattle.dirac_decide.specs.Modes.{choice_of}
use Rattle.dirac_decide.specs.Rooms.{IsTableFor}
use Rattle.dirac_decide.specs.Splits.{DecidedTo, IsBefore, IsDecided, SuperblockDecided, UnitsChosen, best_block, best_split, split_cost, unit_in}
use Rattle.dirac_costs.specs.Least.{first_least_to}

-- one more unit
pub units_more : (d : Deciding) (sx sy split n : ℕ) (units : List Block) (b : Block) → n < length units → b ≡ (choice_of d (unit_in split sx sy n)).block
    → UnitsChosen d sx sy split n units → UnitsChosen d sx sy split (n + 1) (set units n b)
units_more d sx sy split n units b inside e u = record {
  each = λ k l. elim (cases_eq k n) [
    | inl here ↦
        ap (λ i. get_or (set units n b) i grey) here ∙ get_or-set_same units n b grey inside ∙ e
        ∙ ap (λ i. (choice_of d (unit_in split sx sy i)).block) (sym here)
    | inr other ↦ get_or-set_other units n k b grey (omega arith) ∙ u.each k (omega arith)
  ];
}

-- a block's unit is one of those of its superblock
unit_below : (split i j : ℕ) → split ≤ 2 → i < 4 → j < 4 → unit_of split i j < 4 ^ split
unit_below zero i j few a b = omega arith
unit_below (suc zero) i j few a b = omega arith
unit_below (suc (suc zero)) i j few a b = omega arith
unit_below (suc (suc (suc split))) i j few a b = absurd (omega arith)

-- a unit lies in its superblock
pub unit_inside : (split k : ℕ) → split ≤ 2 → k < 4 ^ split → (k % 2 ^ split * unit_size split + unit_size split ≤ 4) × (k / 2 ^ split * unit_size split + unit_size split ≤ 4)
unit_inside zero k few l = (omega arith, omega arith)
unit_inside (suc zero) k few l = (omega arith, omega arith)
unit_inside (suc (suc zero)) k few l = (omega arith, omega arith)
unit_inside (suc (suc (suc split))) k few l = absurd (omega arith)

-- what a put of the best split's units leaves
pub superblock_decided : (d : Deciding) (sx sy split : ℕ) (units : List Block) (old new : BlockTable) → split ≤ 2 → best_split d sx sy ≡ split
    → UnitsChosen d sx sy split (4 ^ split) units → IsPut old sx sy split units new → SuperblockDecided d sx sy old new
superblock_decided d sx sy split units old new few e u p = record {
  across = p.across;
  down = p.down;
  refs = p.refs;
  split = p.chosen ∙ sym e;
  blocks = λ i j a b.
      p.blocks i j a b ∙ u.each (unit_of split i j) (unit_below split i j few a b)
      ∙ ap (λ s. (choice_of d (unit_in s sx sy (unit_of s i j))).block) (sym e);
  other_splits = p.other_splits;
  other_blocks = p.other_blocks;
}

-- what a put of what was decided leaves
pub put_decided : (d : Deciding) (sx sy : ℕ) (b : BestSplit) (units : List Block) (old new : BlockTable) → IsBestSplit d sx sy b → units ≡ b.units.items → IsPut old sx sy b.split units new → SuperblockDecided d sx sy old new
put_decided d sx sy b units old new is e p =
    superblock_decided d sx sy b.split units old new is.at_most_2 is.best (subst (λ (us : List Block). UnitsChosen d sx sy b.split (4 ^ b.split) us) (sym e) is.units) p

-- one more superblock of a row
pub decided_more : (d : Deciding) (sx sy : ℕ) (old new : BlockTable) → DecidedTo d sx sy old → SuperblockDecided d sx sy old new → DecidedTo d (sx + 1) sy new
decided_more d sx sy old new t s = record {
  across = s.across ∙ t.across;
  down = s.down ∙ t.down;
  refs = s.refs ∙ t.refs;
  splits = λ x y a b before. splits x y a b (parted x y before);
  blocks = λ x y i j a b c e before. blocks x y i j a b c e (parted x y before);
} where
  parted : (x y : ℕ) → IsBefore x y (sx + 1) sy → ((x ≡ sx) × (y ≡ sy)) ⊎ (IsBefore x y sx sy × (x ≡ sx → y ≡ sy → ⊥))
  parted x y (inl above) = inr (inl above, λ e f. absurd (omega arith))
  parted x y (inr (row, left)) = elim (cases_eq x sx) [
    | inl here ↦ inl (here, row)
    | inr other ↦ inr (inr (row, omega arith), λ e f. absurd (omega arith))
  ]

  splits : (x y : ℕ) → x < d.across → y < d.down → ((x ≡ sx) × (y ≡ sy)) ⊎ (IsBefore x y sx sy × (x ≡ sx → y ≡ sy → ⊥)) → split_at new x y ≡ best_split d x y
  splits x y a b (inl (e, f)) = ap (λ i. split_at new i y) e ∙ ap (split_at new sx) f ∙ s.split ∙ ap (λ i. best_split d i sy) (sym e) ∙ ap (best_split d x) (sym f)
  splits x y a b (inr (before, other)) = s.other_splits x y (omega (arith, t.across)) (omega (arith, t.down)) other ∙ t.splits x y a b before

  blocks : (x y i j : ℕ) → x < d.across → y < d.down → i < 4 → j < 4 → ((x ≡ sx) × (y ≡ sy)) ⊎ (IsBefore x y sx sy × (x ≡ sx → y ≡ sy → ⊥)) → block_in new x y i j ≡ best_block d x y i j
  blocks x y i j a b l m (inl (e, f)) =
      ap (λ n. block_in new n y i j) e ∙ ap (λ n. block_in new sx n i j) f ∙ s.blocks i j l m ∙ ap (λ n. best_block d n sy i j) (sym e) ∙ ap (λ n. best_block d x n i j) (sym f)
  blocks x y i j a b l m (inr (before, other)) = s.other_blocks x y i j (omega (arith, t.across)) (omega (arith, t.down)) l m other ∙ t.blocks x y i j a b l m before

-- a whole row
pub row_decided : (d : Deciding) (sx sy : ℕ) (t : BlockTable) → d.across ≤ sx → DecidedTo d sx sy t → DecidedTo d 0 (sy + 1) t
row_decided d sx sy t all r = record {
  across = r.across;
  down = r.down;
  refs = r.refs;
  splits = λ x y a b before. r.splits x y a b (in_row x y a before);
  blocks = λ x y i j a b l m before. r.blocks x y i j a b l m (in_row x y a before);
} where
  in_row : (x y : ℕ) → x < d.across → IsBefore x y 0 (sy + 1) → IsBefore x y sx sy
  in_row x y a (inl above) = elim (cases_eq y sy) [
    | inl here ↦ inr (here, omega arith)
    | inr other ↦ inl (omega arith)
  ]
  in_row x y a (inr (row, left)) = absurd (omega arith)

-- nothing yet
pub none_decided : (d : Deciding) (t : BlockTable) → IsTableFor d t → DecidedTo d 0 0 t
none_decided d t is = record {
  across = is.across;
  down = is.down;
  refs = is.refs;
  splits = λ x y l m before. absurd (never x y before);
  blocks = λ x y i j l m n o before. absurd (never x y before);
} where
  never : (x y : ℕ) → IsBefore x y 0 0 → ⊥
  never x y (inl above) = omega arith
  never x y (inr (row, left)) = omega arith

-- all rows
pub all_decided : (d : Deciding) (sy : ℕ) (t : BlockTable) → d.down ≤ sy → DecidedTo d 0 sy t → IsDecided d t
all_decided d sy t all r = record {
  across = r.across;
  down = r.down;
  refs = r.refs;
  splits = λ x y a b. r.splits x y a b (inl (omega arith));
  blocks = λ x y i j a b l m. r.blocks x y i j a b l m (inl (omega arith));
}

-- the same in the words of the code
pub unit_fits : (split k units size : ℕ) → split ≤ 2 → k < 4 ^ split → units ≡ 2 ^ split → size ≡ unit_size split → (k % units * size + size ≤ 4) × (k / units * size + size ≤ 4)
unit_fits split k units size few l e f = rw (e, f) (unit_inside split k few l)

pub few_units : (split : ℕ) → split ≤ 2 → 4 ^ split ≤ 16
few_units zero few = omega arith
few_units (suc zero) few = omega arith
few_units (suc (suc zero)) few = omega arith
few_units (suc (suc (suc split))) few = absurd (omega arith)

pub best_is : (d : Deciding) (sx sy n : ℕ) → first_least_to (split_cost d sx sy) 2 ≡ n → best_split d sx sy ≡ n
unfolding best_split
best_is d sx sy n e = e
