-- Answers behind flushes of both sinks.
use Rattle.std.proofs.Common.{◌≡◌, ◌∙◌, ◌↔◌, ◌⊎◌, ℕ, refl, sym, ap, inl, inr, Bool, true, false}
use Rattle.dirac_types.specs.declared.settings.BadSetting.{BadSetting}
use Rattle.dirac_command_line.specs.declared.ended.Ended.{Ended}
use Rattle.dirac_command_line.specs.declared.ended.Ended.TheVariants as ended
use Rattle.dirac_command_line.specs.Ended.{after_flushes}

-- flushing the side behind them
again : (answer : Ended) (out side : Bool)
    → after_flushes (after_flushes answer out true) true side ≡ after_flushes answer out side
again ended.Done true side = refl
again ended.Done false side = refl
again (ended.Usage n) out side = refl
again (ended.BadSettings bad) out side = refl
again (ended.Fault fault) out side = refl
again (ended.PartialPicture n) out side = refl
again (ended.UnitTooLong n) out side = refl
again ended.TooManyPictures out side = refl
again ended.ReadFault out side = refl
again ended.WriteFault out side = refl
again ended.SideFault out side = refl
again ended.NoMemory out side = refl
again (ended.NoSuchPoint n) out side = refl
again (ended.OpenCut n) out side = refl

pub flushed_again : (answer first behind : Ended) (out side : Bool) → first ≡ after_flushes answer out true
    → behind ≡ after_flushes first true side
    → behind ≡ after_flushes answer out side
flushed_again answer first behind out side once twice =
    twice ∙ ap (λ (a : Ended). after_flushes a true side) once ∙ again answer out side

-- they are the run's answer, or the fault of a sink
kept_or_fault : (answer : Ended) (out side : Bool) → (after_flushes answer out side ≡ answer)
    ⊎ ((answer ≡ ended.Done) × ((after_flushes answer out side ≡ ended.WriteFault) ⊎ (after_flushes answer out side ≡ ended.SideFault)))
kept_or_fault ended.Done true true = inl refl
kept_or_fault ended.Done true false = inr (refl, inr refl)
kept_or_fault ended.Done false side = inr (refl, inl refl)
kept_or_fault (ended.Usage n) out side = inl refl
kept_or_fault (ended.BadSettings bad) out side = inl refl
kept_or_fault (ended.Fault fault) out side = inl refl
kept_or_fault (ended.PartialPicture n) out side = inl refl
kept_or_fault (ended.UnitTooLong n) out side = inl refl
kept_or_fault ended.TooManyPictures out side = inl refl
kept_or_fault ended.ReadFault out side = inl refl
kept_or_fault ended.WriteFault out side = inl refl
kept_or_fault ended.SideFault out side = inl refl
kept_or_fault ended.NoMemory out side = inl refl
kept_or_fault (ended.NoSuchPoint n) out side = inl refl
kept_or_fault (ended.OpenCut n) out side = inl refl

same_usage : (answer : Ended) (out side : Bool) (n : ℕ) → after_flushes answer out side ≡ ended.Usage n
    → answer ≡ ended.Usage n
same_usage answer out side n is =
    elim (kept_or_fault answer out side) [
      | inl kept ↦ sym kept ∙ is
      | inr (done, inl write) ↦ (let both = sym write ∙ is in absurd cc)
      | inr (done, inr fault) ↦ (let both = sym fault ∙ is in absurd cc)
    ]

same_settings : (answer : Ended) (out side : Bool) (bad : BadSetting)
    → after_flushes answer out side ≡ ended.BadSettings bad → answer ≡ ended.BadSettings bad
same_settings answer out side bad is =
    elim (kept_or_fault answer out side) [
      | inl kept ↦ sym kept ∙ is
      | inr (done, inl write) ↦ (let both = sym write ∙ is in absurd cc)
      | inr (done, inr fault) ↦ (let both = sym fault ∙ is in absurd cc)
    ]

-- words that don't fit and bad settings are answered as the run answers them
pub usage_kept : (answer behind : Ended) (out side : Bool) (n : ℕ) {P : Type 0} → behind ≡ after_flushes answer out side
    → (answer ≡ ended.Usage n) ↔ P
    → (behind ≡ ended.Usage n) ↔ P
usage_kept answer behind out side n {P} is run =
    (λ e. run.0 (same_usage answer out side n (sym is ∙ e)), λ p. is ∙ ap (λ (a : Ended). after_flushes a out side) (run.1 p))

pub settings_kept : (answer behind : Ended) (out side : Bool) (bad : BadSetting) {P : Type 0}
    → behind ≡ after_flushes answer out side → (answer ≡ ended.BadSettings bad) ↔ P
    → (behind ≡ ended.BadSettings bad) ↔ P
settings_kept answer behind out side bad {P} is run =
    (λ e. run.0 (same_settings answer out side bad (sym is ∙ e)), λ p. is ∙ ap (λ (a : Ended). after_flushes a out side) (run.1 p))
