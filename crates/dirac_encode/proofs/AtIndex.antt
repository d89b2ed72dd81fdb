-- A picture at another quantiser index.
use Rattle.std.proofs.Common.{◌≡◌, ℕ, ◌+◌, ◌<◌, ◌≤◌, List, subst, arith, inl, inr}
use Rattle.std.proofs.lemmas.Bool.{cases_lt}
use Rattle.dirac_common.specs.declared.picture.Picture.{Picture}
use Rattle.dirac_types.specs.declared.settings.Settings.{Settings}
use Rattle.dirac_types.specs.Settings.{IsAccepted}
use Rattle.dirac_motion.specs.Chosen.{at_index}
use Rattle.dirac_encode_laws.specs.Coding.{Job, made, made_under}
use Rattle.dirac_encode_laws.specs.Fit.{IsLeast, fit, length_at}
use Rattle.dirac_encode_laws.proofs.Fitting.{fit_is}

-- one index more at which the unit is too long
pub more_long : (lengths : ℕ → ℕ) (budget first n : ℕ) → ((i : ℕ) → first ≤ i → i < n → budget < lengths i) → budget < lengths n → (i : ℕ) → first ≤ i → i < n + 1 → budget < lengths i
more_long lengths budget first n before here i after below = elim (cases_lt i n) [
  | inl less ↦ before i after less
  | inr more ↦ let same : n ≡ i = omega (arith, more, below) in subst (λ (k : ℕ). budget < lengths k) same here
]

same_at : {X : Type 0} (f : ℕ → X) (x : X) (m n : ℕ) → m ≡ n → x ≡ f m → x ≡ f n
same_at f x m n same is = subst (λ (k : ℕ). x ≡ f k) same is

-- payload and reconstruction at the least index are those under the rule
pub payload_at_fit : (budget : ℕ) (t : Settings) (refs : List Picture) (j : Job) (index : ℕ) (payload : List ℕ) → IsAccepted t → IsLeast (length_at t refs j) budget t.index index → payload ≡ (made (at_index t index) refs j).payload
    → payload ≡ (made_under (fit budget) t refs j).payload
payload_at_fit budget t refs j index payload accepted least is =
    same_at (λ (k : ℕ). (made (at_index t k) refs j).payload) payload index (fit budget t refs j) (fit_is budget t refs j index accepted least) is

pub shown_at_fit : (budget : ℕ) (t : Settings) (refs : List Picture) (j : Job) (index : ℕ) (shown : Picture) → IsAccepted t → IsLeast (length_at t refs j) budget t.index index → shown ≡ (made (at_index t index) refs j).shown
    → shown ≡ (made_under (fit budget) t refs j).shown
shown_at_fit budget t refs j index shown accepted least is =
    same_at (λ (k : ℕ). (made (at_index t k) refs j).shown) shown index (fit budget t refs j) (fit_is budget t refs j index accepted least) is
