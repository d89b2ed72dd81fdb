-- Accepted settings.
use Rattle.std.proofs.Common.{◌≡◌, ℕ, ◌≤◌, ◌*◌, ◌%◌, if◌then◌else◌, Bool, arith, refl, subst, inl, inr}
use Rattle.std.proofs.lemmas.Bool.{cases_eq, eq-eqb, ne_eqb}
use Rattle.dirac_types.specs.declared.settings.Settings.{Settings}
use Rattle.dirac_types.specs.Settings.{IsAccepted, step_across, step_down, step_of_height}
use Rattle.dirac_types.proofs.Accepted.{in_range}
use Rattle.dirac_types.proofs.Heights.{height_divides}
use Rattle.dirac_sequence_header.specs.Grammar.{chroma_of}
use Rattle.dirac_common.specs.Ratios.{ratio_across, ratio_down}
use Rattle.dirac_sequence.specs.Written.{IsWritable}

across_same : (c : ℕ) → step_across c ≡ ratio_across (chroma_of c)
across_same c = elim (cases_eq c 0) [
  | inl first ↦ rw (eq-eqb c 0 first) refl
  | inr other ↦ elim (cases_eq c 1) [
    | inl second ↦ rw (ne_eqb c 0 other, eq-eqb c 1 second) refl
    | inr third ↦ rw (ne_eqb c 0 other, ne_eqb c 1 third) refl
  ]
]

down_same : (c : ℕ) → c ≤ 2 → step_down c ≡ ratio_down (chroma_of c)
down_same c few = elim (cases_eq c 0) [
  | inl first ↦ rw first refl
  | inr other ↦ elim (cases_eq c 1) [
    | inl second ↦ rw second refl
    | inr third ↦ let two : c ≡ 2 = omega arith in rw two refl
  ]
]

-- the height of fields
fields_divide : (chroma fields height : ℕ) → fields ≡ 1 → height % step_of_height chroma fields ≡ 0 → height % (2 * step_down chroma) ≡ 0
fields_divide chroma fields height one e = subst (λ (b : Bool). height % (if b then 2 * step_down chroma else step_down chroma) ≡ 0) (eq-eqb fields 1 one) e

pub writable : (t : Settings) → IsAccepted t → IsWritable t
writable t is = let range = in_range t is in record {
  base = range.base;
  chroma = range.chroma;
  size = (range.width.0, range.width.1, range.height.0, range.height.1);
  whole_across = rw (← across_same t.chroma) range.whole_across;
  whole_down = rw (← down_same t.chroma range.chroma) (height_divides t.chroma t.fields t.height range.whole_down);
  rate = range.rate;
  signal = range.signal;
  profile = range.profile;
  level = range.level;
  mode = range.fields;
  whole_fields = λ one. rw (← down_same t.chroma range.chroma) (fields_divide t.chroma t.fields t.height one range.whole_down);
}
