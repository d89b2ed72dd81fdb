-- A picture that opens a group is coded as before: an intra picture with a sequence header before it. And with the
-- settings' index for every picture the recursion is the one without a rule.
use Rattle.std.proofs.Common.{◌≡◌, ℕ, List, Bool, ◌∷◌, ◌++◌, Some, None, refl}
use Rattle.dirac_common.specs.declared.formats.Kind.TheVariants.{Intra}
use Rattle.dirac_common.specs.declared.picture.Picture.{Picture}
use Rattle.dirac_types.specs.declared.settings.Settings.{Settings}
use Rattle.dirac_sequence.specs.Written.{sequence_of, sequence_payload}
use Rattle.dirac_header.specs.Written.{header_bits}
use Rattle.dirac_coeffs.specs.Written.{up_to_byte}
use Rattle.dirac_plan.specs.Plan.{opening_frame}
use Rattle.dirac_encode_laws.specs.Coded.{quantised_bands_of, coded_of, residual_of, transform_of}
use Rattle.dirac_encode_laws.specs.Coding.{Job, coded_under, made, made_under, own_index, refs_after}
use Rattle.dirac_picture.specs.Written.{with_residual}
use Rattle.dirac_encode_laws.specs.Payloads.{payload_of, with_coded_picture}
use Rattle.dirac_encode_laws.specs.Steps.{picture_units}
use Rattle.dirac_encode_laws.specs.Stream.{header_length, unit}
use Rattle.dirac_plan_laws.specs.Headers.{header_of}

pub opening_coded : (t : Settings) (refs : List Picture) (n : ℕ) (p : Picture)
    → coded_of t refs (opening_frame n) p ≡ record {
      code = 0x0C;
      header = record { number = n; ref1 = None; ref2 = None; retire = None };
      motion = None;
      residual = Some (record { transform = transform_of t; y = quantised_bands_of t Intra p.y; u = quantised_bands_of t Intra p.u; v = quantised_bands_of t Intra p.v });
    }
opening_coded t refs n p = refl

pub opening_written : (t : Settings) (refs : List Picture) (n : ℕ) (p : Picture) (bits : List Bool)
    → with_coded_picture t (coded_of t refs (opening_frame n) p) bits ≡ with_residual (sequence_of t) (residual_of t refs (header_of (opening_frame n)) None p) (up_to_byte (bits ++ header_bits bits 0x0C (header_of (opening_frame n))))
opening_written t refs n p bits = refl

pub opening_units : (t : Settings) (refs : List Picture) (previous n : ℕ) (p : Picture)
    → picture_units t previous (made t refs (record { planned = opening_frame n; source = p })) ≡ unit 0x00 previous (sequence_payload t) ++ unit 0x0C (header_length t) (payload_of t (coded_of t refs (opening_frame n) p))
opening_units t refs previous n p = refl

pub own_made : (t : Settings) (refs : List Picture) (j : Job) → made_under own_index t refs j ≡ made t refs j
own_made t refs j = refl

pub own_coded : (t : Settings) (refs : List Picture) (j : Job) (jobs : List Job)
    → coded_under own_index t refs (j ∷ jobs) ≡ made t refs j ∷ coded_under own_index t (refs_after refs (made t refs j)) jobs
unfolding coded_under
own_coded t refs j jobs = refl
