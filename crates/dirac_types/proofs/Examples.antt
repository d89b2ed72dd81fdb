-- The settings, computed on small cases.
use Rattle.std.proofs.Common.{◌≡◌, [], ◌∷◌, refl, Some, None}
use Rattle.dirac_types.specs.declared.settings.Name.TheVariants as name
use Rattle.dirac_types.specs.declared.settings.Settings.{Settings}
use Rattle.dirac_types.specs.Settings.{first_bad, table, format_of, formats, of_base, defaults as gives}
use Rattle.dirac_types.specs.Sizes.{picture_height}

-- the first setting out of its range is reported, in the order of the table
first : first_bad (table (record (of_base 0) { width = 7; depth = 5 })) ≡ Some (record { name = name.Width; value = 7 })
unfolding table format_of
first = refl

-- the height of fields is a multiple of twice the chroma ratio
field_height : first_bad (table (record (of_base 0) { width = 8; height = 10; fields = 1 })) ≡ Some (record { name = name.Height; value = 10 })
unfolding table format_of
field_height = refl

-- fields are accepted, and have half the rows of a frame
fields : first_bad (table (record (of_base 0) { fields = 1 })) ≡ None
unfolding table format_of
fields = refl

field_rows : picture_height (record (of_base 0) { fields = 1 }) ≡ 240
unfolding format_of
field_rows = refl

no_third_mode : first_bad (table (record (of_base 0) { fields = 2 })) ≡ Some (record { name = name.Fields; value = 2 })
unfolding table format_of
no_third_mode = refl

unknown_base : first_bad (table (record (of_base 0) { base = 17; chroma = 3 })) ≡ Some (record { name = name.Base; value = 17 })
unfolding table format_of
unknown_base = refl

defaults : (s : Settings) → s ≡ of_base 8 → (s.width ≡ 720) × (s.height ≡ 576) × (s.chroma ≡ 1) × (s.signal ≡ 2)
unfolding format_of
defaults s is = rw is (refl, refl, refl, refl)

-- what each base video format gives to the settings
given : formats ≡ gives 2 640 480 1 1 ∷ gives 2 176 120 9 1 ∷ gives 2 176 144 10 1 ∷ gives 2 352 240 9 1
    ∷ gives 2 352 288 10 1 ∷ gives 2 704 480 9 1 ∷ gives 2 704 576 10 1 ∷ gives 1 720 480 4 2 ∷ gives 1 720 576 3 2
    ∷ gives 1 1280 720 7 2 ∷ gives 1 1280 720 6 2 ∷ gives 1 1920 1080 4 2 ∷ gives 1 1920 1080 3 2
    ∷ gives 1 1920 1080 7 2 ∷ gives 1 1920 1080 6 2 ∷ gives 0 2048 1080 2 2 ∷ gives 0 4096 2160 2 2 ∷ []
given = refl
