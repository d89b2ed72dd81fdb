-- A base video format, as a header begins with it.
use Rattle.std.proofs.Common.{◌≡◌, false, true, refl}
use Rattle.dirac_base_formats.specs.BaseFormats.{base_format}
use Rattle.dirac_common.specs.declared.formats.Chroma.TheVariants.{C422}
use Rattle.dirac_sequence_header.specs.Tables.{preset, rate_of, range_of, aspect_of}

-- base 7 as it is
seventh : preset 7 ≡ record {
  major = 0;
  minor = 0;
  profile = 0;
  level = 0;
  base = 7;
  width = 720;
  height = 480;
  chroma = C422;
  interlaced = true;
  rate = (30000, 1001);
  aspect = (10, 11);
  clean = (704, 480, 8, 0);
  luma = (64, 876);
  colour = (512, 896);
  fields = false;
}
unfolding preset base_format rate_of aspect_of range_of
seventh = refl
