-- What a block predicts, by the references that it has.
use Rattle.std.proofs.Common.{◌≡◌, ℕ, ℤ, true, false, refl}
use Rattle.dirac_block_table.specs.declared.block.Block.{Block}
use Rattle.dirac_obmc.specs.Compensation.{Compensation, component_dc, from_one, from_two, moved_sample, predicts, second_sample}

pub by_two : (m : Compensation) (b : Block) (x y : ℕ) (v w : ℤ) → b.ref1 ≡ true → b.ref2 ≡ true → v ≡ moved_sample m m.up1 b.v1 x y → w ≡ second_sample m m.up2 b.v2 x y → from_two m.prediction v w ≡ predicts m b x y
unfolding predicts
by_two m b x y v w first second ev ew = rw (first, second, ev, ew) refl

pub by_first : (m : Compensation) (b : Block) (x y : ℕ) (v : ℤ) → b.ref1 ≡ true → b.ref2 ≡ false → v ≡ moved_sample m m.up1 b.v1 x y → from_one m.prediction v ≡ predicts m b x y
unfolding predicts
by_first m b x y v first second ev = rw (first, second, ev) refl

pub by_second : (m : Compensation) (b : Block) (x y : ℕ) (w : ℤ) → b.ref1 ≡ false → b.ref2 ≡ true → w ≡ second_sample m m.up2 b.v2 x y → from_one m.prediction w ≡ predicts m b x y
unfolding predicts
by_second m b x y w first second ew = rw (first, second, ew) refl

pub by_value : (m : Compensation) (b : Block) (x y : ℕ) → b.ref1 ≡ false → b.ref2 ≡ false → component_dc m.component b ≡ predicts m b x y
unfolding predicts
by_value m b x y first second = rw (first, second) refl
