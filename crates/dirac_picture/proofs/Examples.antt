-- Worked examples of the definitions.
use Rattle.std.proofs.Common.{◌≡◌, [], ◌∷◌, refl}
use Rattle.dirac_common.specs.declared.formats.Band.TheVariants.{LL, HL, LH, HH}
use Rattle.dirac_parameters.specs.declared.transform.Transform.{Transform}
use Rattle.dirac_picture.specs.Bands.{band_count, layout_of}

-- a plane of 10 by 6 at depth 2 is padded to 12 by 8
parameters : Transform
parameters = record { wavelet = 1; depth = 2; counts = (1, 1) ∷ (2, 1) ∷ (4, 3) ∷ []; mode = 0 }

seven_bands : band_count 2 ≡ 7
seven_bands = refl

first_band : layout_of parameters 10 6 0 ≡ record { band = LL; width = 3; height = 2; across = 1; down = 1; mode = 0 }
unfolding layout_of parameters
first_band = refl

third_band : layout_of parameters 10 6 2 ≡ record { band = LH; width = 3; height = 2; across = 2; down = 1; mode = 0 }
unfolding layout_of parameters
third_band = refl

fifth_band : layout_of parameters 10 6 4 ≡ record { band = HL; width = 6; height = 4; across = 4; down = 3; mode = 0 }
unfolding layout_of parameters
fifth_band = refl

last_band : layout_of parameters 10 6 6 ≡ record { band = HH; width = 6; height = 4; across = 4; down = 3; mode = 0 }
unfolding layout_of parameters
last_band = refl

-- the same in codeblock mode 1
moded : Transform
moded = record { wavelet = 1; depth = 2; counts = (1, 1) ∷ (2, 1) ∷ (4, 3) ∷ []; mode = 1 }

moded_band : layout_of moded 10 6 2 ≡ record { band = LH; width = 3; height = 2; across = 2; down = 1; mode = 1 }
unfolding layout_of moded
moded_band = refl
