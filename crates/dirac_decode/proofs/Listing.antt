-- The listed pictures are pictures of the open sequence.
use Rattle.std.proofs.Common.{ℕ, Bool, true, false, not, nat_le, if◌then◌else◌, List, [], ◌∷◌, length, drop, Option, None, Some}
use Rattle.std.specs.Prelude.{◌==◌}
use Rattle.std.specs.List.{All}
use Rattle.std.proofs.lemmas.List.Elements.{All-filter, All-drop, All-append, All-cons, All-nil}
use Rattle.dirac_common.specs.declared.picture.Picture.{Picture}
use Rattle.dirac_common.specs.Codes.{is_reference}
use Rattle.dirac_refs.specs.References.{without, retire, append, appended, committed}
use Rattle.dirac_content.specs.declared.opened.Opened.{Opened}
use Rattle.dirac_content.specs.Content.{IsPicture}
use Rattle.dirac_content.specs.StreamState.{as_reference}
use Rattle.dirac_decode.specs.Taking.{IsOpen, IsOfOpen}

-- the list without some pictures, and with one more
retire_fits : (P : Picture → Type 0) (list : List Picture) (retired : Option ℕ) → All P list → All P (retire list retired)
retire_fits P list None all = all
retire_fits P list (Some number) all = All-filter (λ p. not (p.number == number)) P list all

shorter_fits : (P : Picture → Type 0) (list : List Picture) (b : Bool) → All P list → All P (if b then drop 1 list else list)
shorter_fits P list true all = All-drop P 1 list all
shorter_fits P list false all = all

appended_fits : (P : Picture → Type 0) (list : List Picture) (p : Picture) → All P list → P p → All P (append list p)
appended_fits P list p all one =
    All-append P (if nat_le 8 (length list) then drop 1 list else list) (p ∷ []) (shorter_fits P list (nat_le 8 (length list)) all) (All-cons P p [] one (All-nil P))

reference_fits : (P : Picture → Type 0) (list : List Picture) (reference : Bool) (p : Picture) → All P list → P p
    → All P (appended list (if reference then Some p else None))
reference_fits P list true p all one =
    appended_fits P (without p.number list) p (All-filter (λ q. not (q.number == p.number)) P list all) one
reference_fits P list false p all one = all

-- after a picture of the open sequence
pub open_still : (o : Option Opened) (refs : List Picture) (retired : Option ℕ) (code : ℕ) (p : Picture) → IsOpen o refs → IsOfOpen o p
    → IsOpen o (committed refs retired (as_reference code p))
open_still None refs retired code p lawful one = absurd one
open_still (Some o) refs retired code p lawful one =
    (lawful.0, reference_fits (IsPicture o.sequence) (retire refs retired) (is_reference code) p (retire_fits (IsPicture o.sequence) refs retired lawful.1) one)
