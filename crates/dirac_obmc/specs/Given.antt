-- What a `Motion` holds, seen through its references.
use Rattle.std.specs.Prelude.{Option, option_map}
use Rattle.std.specs.Borrow.{Bor}
use Rattle.dirac_obmc.specs.declared.motion.Motion.{Motion}
use Rattle.dirac_obmc.specs.Compensation.{Compensation}

-- the data behind a reference, where there is one
abbrev pub lent : {A : Type 0} → Option (Bor A) → Option A
lent one = option_map (λ b. b.now) one

-- the data behind a motion's references
abbrev pub compensation_of : Motion → Compensation
compensation_of m = record {
  blocks = m.blocks.now;
  prediction = m.prediction.now;
  up1 = m.up1.now;
  up2 = lent m.up2;
  component = m.component;
  chroma = m.chroma;
  width = m.width;
  height = m.height;
}
