use Rattle.std.proofs.Common.{◌≡◌, ◌<◌, ◌/◌, ℕ, get_or, length, arith, sym, subst, ap, ◌∙◌, inl, inr}
use Rattle.std.proofs.lemmas.Bool.{cases_lt}
use Rattle.std.proofs.lemmas.List.{get_or_past}
use Rattle.dirac_arith.specs.Tail.{Waiting}
use Rattle.dirac_arith.specs.Written.{number_in_bytes}
use Rattle.dirac_arith.proofs.Tails.{whole_bytes}
use Rattle.dirac_arith.proofs.tail.Tail.into_bytes.Goals as goal

pub returns : goal.returns
returns c =
    let a = c.self.inside in
    let bs = a.bytes.items in
    let none = ap (λ (x : Waiting). x.pending) c.self.view_is ∙ c.requires.whole in
    let P : Waiting → Type 0 = λ x. x.register < 65536 in
    let below = subst P (sym c.self.view_is) c.requires.settled in
    let fits : (i : ℕ) → get_or bs i 0 < 256 = λ i.
    elim (cases_lt i (length bs)) [ inl inside ↦ omega arith | inr past ↦ let e = get_or_past bs i 0 past in omega arith ] in
    let Q : Waiting → Type 0 = λ x. bs ≡ number_in_bytes (x.doublings / 8) (x.value / 65536) in
    subst Q c.self.view_is (whole_bytes bs a.register a.pending fits none below)
