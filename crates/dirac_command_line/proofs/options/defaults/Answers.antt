use Rattle.std.proofs.Common.{◌≡◌, ℕ, ◌<◌, ap, sym, ◌∙◌, arith}
use Rattle.std.proofs.lemmas.List.{get_or_past}
use Rattle.dirac_types.specs.declared.ranges.Format.{Format}
use Rattle.dirac_types.specs.declared.settings.Settings.{Settings}
use Rattle.dirac_types.specs.Settings.{defaults, formats, format_of, of_base}
use Rattle.dirac_command_line.proofs.options.defaults.Goals as goal

-- beyond the last format stand those of base 0
beyond : (base : ℕ) → 16 < base → format_of 0 ≡ format_of base
unfolding format_of
beyond base large = sym (get_or_past formats base (defaults 2 640 480 1 1) (omega arith))

-- the defaults with this number, beside what a format says
with_format : ℕ → Format → Settings
with_format base format = record (of_base base) {
  chroma = format.chroma;
  width = format.width;
  height = format.height;
  rate = format.rate;
  signal = format.signal;
}

pub returns-else-base-le16 : goal.returns-else-base-le16
unfolding with_format
returns-else-base-le16 c =
    ap (λ (s : Settings). record s { base = c.args.base }) c.of_base-else-base-le16.ensures
    ∙ ap (with_format c.args.base) (beyond c.args.base c.if-base-le16.false)
