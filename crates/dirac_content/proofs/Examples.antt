-- What is due when the source fails, computed on small cases.
use Rattle.std.proofs.Common.{◌≡◌, ◌∙◌, [], ◌∷◌, Some, refl, sym, ap, append-nil}
use Rattle.std.specs.Prelude.{pos}
use Rattle.std.specs.Io.KnownBytes.{Appends}
use Rattle.dirac_common.specs.declared.picture.Picture.{Picture}
use Rattle.dirac_units.specs.Cut.{UnitText}
use Rattle.dirac_refs.specs.Delivery.{least_among}
use Rattle.dirac_content.specs.Leaving.{leaving}
use Rattle.dirac_content.specs.Raw.{raw, raws}
use Rattle.dirac_content.specs.Shown.{accepted}
use Rattle.dirac_content.specs.StreamState.{StreamState, stream_begun, unit_step}

-- a picture waits, and the end unit of its sequence follows
waits : Picture → StreamState
waits p = record stream_begun { waiting = record { key = pos 0; picture = p } ∷ [] }

end_unit : UnitText
end_unit = record { info = record { code = 16; next = 0; previous = 13 }; payload = [] }

-- it is due at that unit, whatever follows
due_at_an_end_unit : (p : Picture) → leaving (waits p) (end_unit ∷ []) ≡ p ∷ []
unfolding leaving unit_step least_among waits end_unit
due_at_an_end_unit p = refl

-- so a sink that took nothing of it is refused, but for a picture without bytes
hoarder_refused : (p : Picture) → Appends (Some []) (Some []) (raws (leaving (waits p) (end_unit ∷ []))) → raw p ≡ []
hoarder_refused p took = sym (append-nil (raw p)) ∙ ap raws (sym (due_at_an_end_unit p)) ∙ sym took

-- a picture before any sequence header
stray : UnitText
stray = record { info = record { code = 12; next = 0; previous = 13 }; payload = [] }

-- so a decoder that reads on behind it and answers that a read failed is refused: the fault of that unit was to be
-- answered
reader_on_refused : accepted stream_begun (stray ∷ []) ≡ stray ∷ [] → ⊥
unfolding accepted unit_step stray
reader_on_refused e = let both : [] ≡ stray ∷ [] = e in cc
