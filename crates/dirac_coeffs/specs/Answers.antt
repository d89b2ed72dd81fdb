-- What the answers of readers say.
use Rattle.std.specs.Prelude.{◌≡◌, ⊤, ℕ, Bool, true, false, Option, Some, None, Result, Ok, Err}
use Rattle.dirac_common.specs.declared.faults.Cause.{Cause}
use Rattle.dirac_common.specs.declared.faults.Refusal.{Refusal}
use Rattle.dirac_common.specs.declared.faults.Stop.{Stop}
use Rattle.dirac_common.specs.declared.faults.Stop.TheVariants as stop
use Rattle.dirac_arith.specs.Coded.{Coded, read_coded}
use Rattle.dirac_arith.specs.Reading.{Reading}
use Rattle.dirac_coeffs.specs.declared.layout.BandLayout.{BandLayout}
use Rattle.dirac_coeffs.specs.declared.layout.BandBlock.{BandBlock}
use Rattle.dirac_coeffs.specs.declared.store.Unread.{Unread}
use Rattle.dirac_coeffs.specs.declared.store.Unread.TheVariants as unread
use Rattle.dirac_coeffs.specs.BandRead.{Content, band_content, flagged_coded}
use Rattle.dirac_coeffs.specs.Grammar.{band_table}
use Rattle.dirac_coeffs.specs.Layouts.{is_flagged}

-- the answer is what is read, from which the state and the reading come; nothing is said of them after a refusal
abbrev pub Moves : {A S : Type 0} → Result A Cause → S → Reading → Result (S × Reading) Cause → Type 0
Moves (Ok x) new behind read = read ≡ Ok (new, behind)
Moves (Err cause) new behind read = read ≡ Err cause

-- why reading stopped: it was refused, or a value doesn't fit, of which nothing is said but that this holds
abbrev pub RefusedBy : {X : Type 0} → Type 0 → Unread → Result X Cause → Type 0
RefusedBy narrow (unread.Refused cause) read = read ≡ Err cause
RefusedBy narrow unread.TooWide read = narrow

-- the same of a reading that may stop at a value that doesn't fit
abbrev pub Goes : {A S : Type 0} → Type 0 → Result A Unread → S → Reading → Result (S × Reading) Cause → Type 0
Goes narrow (Ok x) new behind read = read ≡ Ok (new, behind)
Goes narrow (Err e) new behind read = RefusedBy narrow e read

-- the same of a whole block
abbrev pub Fills : {A : Type 0} → Type 0 → Result A Unread → Content → Result Content Cause → Type 0
Fills narrow (Ok x) new read = read ≡ Ok new
Fills narrow (Err e) new read = RefusedBy narrow e read

-- what a zero flag tells: that a codeblock is skipped, or what is read behind it
abbrev pub flag_told : Result Bool Cause → Content → Coded Content → Reading → Result (Content × Reading) Cause
flag_told (Ok true) skipped unskipped behind = Ok (skipped, behind)
flag_told (Ok false) skipped unskipped behind = read_coded unskipped behind
flag_told (Err cause) skipped unskipped behind = Err cause

-- the answer of a codeblock's flag, which is false where there is none
abbrev pub Flags : BandLayout → Result Bool Cause → Reading → Reading → Type 0
Flags layout result old behind =
    (skipped : Content) (unskipped : Coded Content)
    → read_coded (flagged_coded (is_flagged layout) skipped unskipped) old ≡ flag_told result skipped unskipped behind

-- the answer is what the block at this place reads to; want of memory says nothing of the input
abbrev pub GivesBlock : BandLayout → ℕ → Result BandBlock Stop → Result Content Cause → Type 0
GivesBlock layout at (Ok b) read =
    (b.table ≡ band_table layout b.table.values) × (read ≡ Ok (band_content b.table.values b.indices))
GivesBlock layout at (Err (stop.Refused r)) read = (r.at ≡ at) × (read ≡ Err r.cause)
GivesBlock layout at (Err stop.NoMemory) read = ⊤

-- the same of a reading that finds none where a value doesn't fit, of which then nothing is said
abbrev pub GivesNarrow : BandLayout → ℕ → Result (Option BandBlock) Stop → Result Content Cause → Type 0
GivesNarrow layout at (Ok (Some b)) read = GivesBlock layout at (Ok b) read
GivesNarrow layout at (Ok None) read = ⊤
GivesNarrow layout at (Err e) read = GivesBlock layout at (Err e) read

-- the answer is a block of these values and indices, or want of memory
abbrev pub Holds : BandLayout → Result (Option BandBlock) Stop → Content → Type 0
Holds layout (Ok (Some b)) c = (b.table ≡ band_table layout c.values) × (b.indices ≡ c.indices)
Holds layout (Ok None) c = ⊥
Holds layout (Err (stop.Refused r)) c = ⊥
Holds layout (Err stop.NoMemory) c = ⊤

-- what is answered of a block at this place where its reading stopped
abbrev pub stopped_at : ℕ → Unread → Result (Option BandBlock) Stop
stopped_at at (unread.Refused cause) = Err (stop.Refused (record { at = at; cause = cause }))
stopped_at at unread.TooWide = Ok None

-- the answer is what is read; want of memory says nothing of the input
abbrev pub GivesOrStops : {X : Type 0} → Result X Stop → Result X Refusal → Type 0
GivesOrStops (Ok x) read = read ≡ Ok x
GivesOrStops (Err (stop.Refused r)) read = read ≡ Err r
GivesOrStops (Err stop.NoMemory) read = ⊤
