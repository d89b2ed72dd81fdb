-- Which answers have a status.
use Rattle.std.proofs.Common.{◌≡◌, ◌∙◌, ◌↔◌, ℕ, refl, sym, ap, arith, Option, None, Some, Result, Ok, Err}
use Rattle.std.specs.Prelude.{IsErr, IsSome}
use Rattle.dirac_types.specs.declared.settings.BadSetting.{BadSetting}
use Rattle.dirac_command_line.specs.declared.ended.Ended.{Ended}
use Rattle.dirac_command_line.specs.declared.ended.Ended.TheVariants as ended
use Rattle.dirac_command_line.specs.declared.words.Command.{Command}
use Rattle.dirac_command_line.specs.declared.words.WordsStop.{WordsStop}
use Rattle.dirac_command_line.specs.declared.words.WordsStop.TheVariants.{Usage}
use Rattle.dirac_command_line.specs.Ended.{status_of}

pub done_by : (answer : Ended) → status_of answer ≡ 0 → answer ≡ ended.Done
done_by ended.Done is = refl
done_by answer is = absurd (omega arith)

pub usage_by : (answer : Ended) → status_of answer ≡ 2 → (n : ℕ) × (answer ≡ ended.Usage n)
usage_by (ended.Usage n) is = (n, refl)
usage_by answer is = absurd (omega arith)

pub settings_by : (answer : Ended) → status_of answer ≡ 3 → (bad : BadSetting) × (answer ≡ ended.BadSettings bad)
settings_by (ended.BadSettings bad) is = (bad, refl)
settings_by answer is = absurd (omega arith)

pub read_by : (answer : Ended) → status_of answer ≡ 8 → answer ≡ ended.ReadFault
read_by ended.ReadFault is = refl
read_by answer is = absurd (omega arith)

pub write_by : (answer : Ended) → status_of answer ≡ 9 → answer ≡ ended.WriteFault
write_by ended.WriteFault is = refl
write_by answer is = absurd (omega arith)

pub side_by : (answer : Ended) → status_of answer ≡ 10 → answer ≡ ended.SideFault
side_by ended.SideFault is = refl
side_by answer is = absurd (omega arith)

-- the status of words that don't fit
usage_refused : (answer : Ended) (status : ℕ) (asked : Result Command WordsStop) → status ≡ status_of answer
    → ((n : ℕ) → (answer ≡ ended.Usage n) ↔ (asked ≡ Err (Usage n))) → IsErr asked → status ≡ 2
usage_refused answer status (Err (Usage n)) is run err = is ∙ ap status_of ((run n).1 refl)
usage_refused answer status (Ok command) is run err = cc

refused : (asked : Result Command WordsStop) (stop : WordsStop) → asked ≡ Err stop → IsErr asked
refused (Err stop) other is = refl
refused (Ok command) stop is = cc

pub usage_status : (answer : Ended) (status : ℕ) (asked : Result Command WordsStop) → status ≡ status_of answer
    → ((n : ℕ) → (answer ≡ ended.Usage n) ↔ (asked ≡ Err (Usage n))) → (status ≡ 2) ↔ IsErr asked
usage_status answer status asked is run =
    (λ two. let by = usage_by answer (sym is ∙ two) in refused asked (Usage by.0) ((run by.0).0 by.1), usage_refused answer status asked is run)

-- the status of a setting that is out of its range
named : (bad : Option BadSetting) (one : BadSetting) → bad ≡ Some one → IsSome bad
named (Some bad) one is = refl
named None one is = cc

settings_refused : (answer : Ended) (status : ℕ) (bad : Option BadSetting) → status ≡ status_of answer
    → ((one : BadSetting) → (answer ≡ ended.BadSettings one) ↔ (bad ≡ Some one)) → IsSome bad → status ≡ 3
settings_refused answer status (Some one) is run some = is ∙ ap status_of ((run one).1 refl)
settings_refused answer status None is run some = cc

pub settings_status : (answer : Ended) (status : ℕ) (bad : Option BadSetting) → status ≡ status_of answer
    → ((one : BadSetting) → (answer ≡ ended.BadSettings one) ↔ (bad ≡ Some one)) → (status ≡ 3) ↔ IsSome bad
settings_status answer status bad is run =
    (λ three. let by = settings_by answer (sym is ∙ three) in named bad by.0 ((run by.0).0 by.1), settings_refused answer status bad is run)
