-- A sequence header refuses within its bytes.
use Rattle.std.proofs.Common.{◌≡◌, ℕ, ◌≤◌, ◌==◌, if◌then◌else◌, Bool, false, true, List, length, Err}
use Rattle.dirac_common.specs.declared.faults.Cause.TheVariants.{Size}
use Rattle.dirac_common.specs.declared.faults.Refusal.{Refusal}
use Rattle.dirac_common.specs.declared.formats.Chroma.{Chroma}
use Rattle.dirac_bits.specs.Syntax.{done, refuse}
use Rattle.dirac_sequence_header.specs.declared.sequence.Sequence.{Sequence}
use Rattle.dirac_sequence_header.specs.declared.sequence.SignalRange.{SignalRange}
use Rattle.dirac_sequence_header.specs.Grammar.{aspect, base_format_fields, chroma, clean_area, coding_mode, colour_part, colour_parts, colours, fraction, frames, has_whole_fields, own_chroma, own_range, rate, samples, sampling, sequence, sequence_read, signal, signal_range, size, values}
use Rattle.dirac_reading_laws.proofs.Within.{RefusesWithin, a_field, a_number, behind, either, from_here, if_custom, no_more, refused_within, refuses}

in_base_format : (n : ℕ) → RefusesWithin n base_format_fields
unfolding base_format_fields
in_base_format n =
    behind n _ _ (a_field n _ _) (λ major. behind n _ _ (a_number n) (λ minor. behind n _ _ (a_number n) (λ profile. behind n _ _ (a_number n) (λ level.
    behind n _ _ (a_field n _ _) (λ base. no_more n _)))))

in_size : (n : ℕ) (default : ℕ × ℕ) → RefusesWithin n (size default)
unfolding size
in_size n default = if_custom n _ _ (behind n _ _ (a_field n _ _) (λ width. behind n _ _ (a_field n _ _) (λ height. no_more n _)))

in_own_chroma : (n : ℕ) (default : Chroma) → RefusesWithin n (own_chroma default)
unfolding own_chroma
in_own_chroma n default = if_custom n _ _ (behind n _ _ (a_field n _ _) (λ index. no_more n _))

in_chroma : (n : ℕ) (frame : ℕ × ℕ) (default : Chroma) → RefusesWithin n (chroma frame default)
unfolding chroma
in_chroma n frame default = from_here n _ (λ at inside. behind n _ _ (in_own_chroma n default) (λ own. either n _ _ _ (no_more n _) (refuses _ n _ _ inside)))

in_sampling : (n : ℕ) (default : Bool) → RefusesWithin n (sampling default)
unfolding sampling
in_sampling n default = if_custom n _ _ (behind n _ _ (a_field n _ _) (λ index. no_more n _))

in_fraction : (n : ℕ) → RefusesWithin n fraction
unfolding fraction
in_fraction n = behind n _ _ (a_number n) (λ numerator. behind n _ _ (a_number n) (λ denominator. no_more n _))

in_rate : (n : ℕ) (default : ℕ × ℕ) → RefusesWithin n (rate default)
unfolding rate
in_rate n default = if_custom n _ _ (behind n _ _ (a_field n _ _) (λ index. either n _ _ _ (in_fraction n) (no_more n _)))

in_frames : (n : ℕ) (s : Sequence) → RefusesWithin n (frames s)
unfolding frames
in_frames n s =
    behind n _ _ (in_size n (s.width, s.height)) (λ frame. behind n _ _ (in_chroma n frame s.chroma) (λ own. behind n _ _ (in_sampling n s.interlaced) (λ interlaced.
    behind n _ _ (in_rate n s.rate) (λ pace. no_more n _))))

in_aspect : (n : ℕ) (default : ℕ × ℕ) → RefusesWithin n (aspect default)
unfolding aspect
in_aspect n default = if_custom n _ _ (behind n _ _ (a_field n _ _) (λ index. either n _ _ _ (in_fraction n) (no_more n _)))

in_clean_area : (n : ℕ) (default : ℕ × ℕ × ℕ × ℕ) → RefusesWithin n (clean_area default)
unfolding clean_area
in_clean_area n default =
    if_custom n _ _ (behind n _ _ (a_number n) (λ width. behind n _ _ (a_number n) (λ height. behind n _ _ (a_number n) (λ left. behind n _ _ (a_number n) (λ top. no_more n _)))))

in_own_range : (n : ℕ) → RefusesWithin n own_range
unfolding own_range
in_own_range n = behind n _ _ (in_fraction n) (λ luma. behind n _ _ (in_fraction n) (λ colour. no_more n _))

in_signal_range : (n : ℕ) (default : SignalRange) → RefusesWithin n (signal_range default)
unfolding signal_range
in_signal_range n default = if_custom n _ _ (behind n _ _ (a_field n _ _) (λ index. either n _ _ _ (in_own_range n) (no_more n _)))

in_signal : (n : ℕ) (default : SignalRange) → RefusesWithin n (signal default)
unfolding signal
in_signal n default = from_here n _ (λ at inside. behind n _ _ (in_signal_range n default) (λ range. either n _ _ _ (no_more n _) (refuses _ n _ _ inside)))

in_samples : (n : ℕ) (s : Sequence) → RefusesWithin n (samples s)
unfolding samples
in_samples n s =
    behind n _ _ (in_aspect n s.aspect) (λ ratio. behind n _ _ (in_clean_area n s.clean) (λ clean. behind n _ _ (in_signal n (record { luma = s.luma; colour = s.colour })) (λ range. no_more n _)))

in_colour_part : (n : ℕ) → RefusesWithin n colour_part
unfolding colour_part
in_colour_part n = if_custom n _ _ (behind n _ _ (a_number n) (λ index. no_more n _))

in_colour_parts : (n : ℕ) → RefusesWithin n colour_parts
unfolding colour_parts
in_colour_parts n = behind n _ _ (in_colour_part n) (λ primaries. behind n _ _ (in_colour_part n) (λ matrix. in_colour_part n))

in_colours : (n : ℕ) → RefusesWithin n colours
unfolding colours
in_colours n = if_custom n _ _ (behind n _ _ (a_number n) (λ index. either n _ _ _ (in_colour_parts n) (no_more n _)))

in_values : (n : ℕ) → RefusesWithin n values
unfolding values
in_values n = behind n _ _ (in_base_format n) (λ s. behind n _ _ (in_frames n s) (λ t. in_samples n t))

in_coding_mode : (n : ℕ) (s : Sequence) → RefusesWithin n (coding_mode s)
unfolding coding_mode
in_coding_mode n s =
    from_here n _ (λ at inside. behind n _ _ (a_field n _ _) (λ mode.
    either n (mode == 0) (done (record s { fields = false })) (if has_whole_fields s then done (record s { fields = true }) else refuse at Size) (no_more n (record s { fields = false }))
    (either n (has_whole_fields s) (done (record s { fields = true })) (refuse at Size) (no_more n (record s { fields = true })) (refuses Sequence n at Size inside))))

in_sequence : (n : ℕ) → RefusesWithin n sequence
unfolding sequence
in_sequence n = behind n _ _ (in_values n) (λ s. behind n _ _ (in_colours n) (λ none. in_coding_mode n s))

pub in_sequence_header : (payload : List ℕ) (r : Refusal) → sequence_read payload ≡ Err r → r.at ≤ length payload
in_sequence_header payload r e = refused_within sequence payload r (in_sequence (length payload)) e
