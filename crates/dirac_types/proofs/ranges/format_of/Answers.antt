use Rattle.std.proofs.Common.{ap, sym, ◌∙◌}
use Rattle.std.proofs.Math.ListN.{get_or-map}
use Rattle.dirac_base_formats.specs.BaseFormats.{base_format, base_formats}
use Rattle.dirac_types.specs.Settings.{defaults_of, format_of}
use Rattle.dirac_types.proofs.ranges.format_of.Goals as goal

pub returns : goal.returns
unfolding format_of base_format
returns c =
    c.defaults_of.ensures ∙ ap defaults_of c.base_format-format.ensures.value
    ∙ sym (get_or-map defaults_of base_formats c.args.base (base_format 17))
