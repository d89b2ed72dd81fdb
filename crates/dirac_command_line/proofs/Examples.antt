-- What words say, computed on small cases.
use Rattle.std.proofs.Common.{◌≡◌, [], ◌∷◌, None, Some, Ok, Err, refl}
use Rattle.std.specs.Prelude.{codes}
use Rattle.dirac_types.specs.Settings.{format_of, of_base, table}
use Rattle.dirac_command_line.specs.declared.words.Command.TheVariants.{Encode, Make, Rate}
use Rattle.dirac_command_line.specs.declared.words.WordsStop.TheVariants.{Usage}
use Rattle.dirac_command_line.specs.Options.{fits, is_new_path, is_new_setting, number_in_digits, path_in, settings_given}
use Rattle.dirac_command_line.specs.Options.{value_in, value_or}
use Rattle.dirac_command_line.specs.Words.{command_read, encode_read, make_read, path_read, rate_read}

-- settings by name, in any order, beside the defaults of base 0
small : command_read (codes "encode" ∷ codes "--width=8" ∷ codes "--height=8" ∷ codes "--depth=1" ∷ [])
    ≡ Ok (Encode (record (of_base 0) { width = 8; height = 8; depth = 1 }))
unfolding encode_read settings_given value_or value_in number_in_digits fits is_new_setting is_new_path path_in format_of
small = refl

other_order : command_read (codes "encode" ∷ codes "--depth=1" ∷ codes "--recon=a" ∷ codes "--height=8" ∷ codes "--width=8" ∷ [])
    ≡ command_read (codes "encode" ∷ codes "--width=8" ∷ codes "--height=8" ∷ codes "--depth=1" ∷ [])
unfolding encode_read settings_given value_or value_in number_in_digits fits is_new_setting is_new_path path_in format_of
other_order = refl

-- the defaults are those of the base that is named, and a base beyond the last format stands beside those of base 0
base_eight : command_read (codes "encode" ∷ codes "--base=8" ∷ []) ≡ Ok (Encode (of_base 8))
unfolding encode_read settings_given value_or value_in number_in_digits fits is_new_setting is_new_path path_in format_of
base_eight = refl

base_kept : command_read (codes "encode" ∷ codes "--base=99" ∷ []) ≡ Ok (Encode (record (of_base 0) { base = 99 }))
unfolding encode_read settings_given value_or value_in number_in_digits fits is_new_setting is_new_path path_in format_of
base_kept = refl

-- fields, by their word
of_fields : command_read (codes "encode" ∷ codes "--fields=1" ∷ codes "--gop=5" ∷ []) ≡ Ok (Encode (record (of_base 0) { fields = 1; gop = 5 }))
unfolding encode_read settings_given value_or value_in number_in_digits fits is_new_setting is_new_path path_in format_of
of_fields = refl

-- a name given a second time doesn't fit at its second place
twice : command_read (codes "encode" ∷ codes "--width=8" ∷ codes "--width=8" ∷ []) ≡ Err (Usage 2)
unfolding encode_read value_in number_in_digits fits is_new_setting is_new_path path_in
twice = refl

two_paths : command_read (codes "encode" ∷ codes "--recon=a" ∷ codes "--recon=a" ∷ []) ≡ Err (Usage 2)
unfolding encode_read value_in number_in_digits fits is_new_setting is_new_path path_in
two_paths = refl

-- other spellings, and names that `encode` doesn't have
decode_alone : command_read (codes "decode" ∷ codes "--x=1" ∷ []) ≡ Err (Usage 1)
decode_alone = refl

in_two_words : command_read (codes "encode" ∷ codes "--width" ∷ codes "8" ∷ []) ≡ Err (Usage 1)
unfolding encode_read value_in number_in_digits fits is_new_setting is_new_path path_in
in_two_words = refl

no_count : command_read (codes "encode" ∷ codes "--count=3" ∷ []) ≡ Err (Usage 1)
unfolding encode_read value_in number_in_digits fits is_new_setting is_new_path path_in
no_count = refl

no_path : command_read (codes "encode" ∷ codes "--recon=" ∷ []) ≡ Err (Usage 1)
unfolding encode_read value_in number_in_digits fits is_new_setting is_new_path path_in
no_path = refl

no_words : command_read [] ≡ Err (Usage 0)
no_words = refl

-- a value has 1 to 10 digits and at most 32 bits
largest : number_in_digits (codes "4294967295") ≡ Some 4294967295
unfolding number_in_digits
largest = refl

too_large : number_in_digits (codes "4294967296") ≡ None
unfolding number_in_digits
too_large = refl

zeros_before : number_in_digits (codes "0000000008") ≡ Some 8
unfolding number_in_digits
zeros_before = refl

eleven : number_in_digits (codes "00000000008") ≡ None
unfolding number_in_digits
eleven = refl

none : number_in_digits [] ≡ None
unfolding number_in_digits
none = refl

signed : number_in_digits (codes "+8") ≡ None
unfolding number_in_digits
signed = refl

-- the path of the reconstructions, and none where a setting is out of its range
path : path_read (codes "encode" ∷ codes "--width=8" ∷ codes "--recon=a.raw" ∷ codes "--height=8" ∷ []) ≡ Some (codes "a.raw")
unfolding path_read encode_read settings_given value_or value_in number_in_digits fits is_new_setting is_new_path path_in format_of table
path = refl

path_refused : path_read (codes "encode" ∷ codes "--width=7" ∷ codes "--recon=a.raw" ∷ []) ≡ None
unfolding path_read encode_read settings_given value_or value_in number_in_digits fits is_new_setting is_new_path path_in format_of table
path_refused = refl

-- `make` takes settings and the number of pictures, which is 12 where no word says it, and no path
make_words : command_read (codes "make" ∷ codes "--count=3" ∷ codes "--base=8" ∷ []) ≡ Ok (Make (of_base 8) 3)
unfolding make_read settings_given value_or value_in number_in_digits fits is_new_setting format_of
make_words = refl

make_default : command_read (codes "make" ∷ []) ≡ Ok (Make (of_base 0) 12)
unfolding make_read settings_given value_or value_in number_in_digits format_of
make_default = refl

make_path : command_read (codes "make" ∷ codes "--recon=a" ∷ []) ≡ Err (Usage 1)
unfolding make_read value_in number_in_digits fits is_new_setting
make_path = refl

make_twice : command_read (codes "make" ∷ codes "--count=3" ∷ codes "--count=3" ∷ []) ≡ Err (Usage 2)
unfolding make_read value_in number_in_digits fits is_new_setting
make_twice = refl

-- `rate` takes the words of `encode` and a budget, which is 65,536 where no word says it
rate_words : command_read (codes "rate" ∷ codes "--budget=33" ∷ codes "--base=8" ∷ codes "--recon=a" ∷ []) ≡ Ok (Rate (of_base 8) 33)
unfolding rate_read settings_given value_or value_in number_in_digits fits is_new_setting is_new_path path_in format_of
rate_words = refl

rate_default : command_read (codes "rate" ∷ []) ≡ Ok (Rate (of_base 0) 65536)
unfolding rate_read settings_given value_or value_in number_in_digits format_of
rate_default = refl

rate_path : path_read (codes "rate" ∷ codes "--budget=14" ∷ codes "--recon=a.raw" ∷ []) ≡ Some (codes "a.raw")
unfolding path_read rate_read settings_given value_or value_in number_in_digits fits is_new_setting is_new_path path_in format_of table
rate_path = refl

rate_path_refused : path_read (codes "rate" ∷ codes "--budget=13" ∷ codes "--recon=a.raw" ∷ []) ≡ None
unfolding path_read rate_read settings_given value_or value_in number_in_digits fits is_new_setting is_new_path path_in format_of table
rate_path_refused = refl
