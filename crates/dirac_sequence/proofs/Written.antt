-- The bits of a sequence header spell the sequence of its settings.
use Rattle.std.proofs.Common.{◌≡◌, ℕ, ◌+◌, ◌*◌, ◌≤◌, ◌==◌, ◌%◌, ◌/◌, ◌&&◌, not, if◌then◌else◌, Bool, true, false, List, [], ◌∷◌, ◌++◌, length, refl, sym, ap, ap₂, subst, ◌∙◌, arith, inl, inr, append_assoc, append-nil}
use Rattle.std.proofs.lemmas.Bool.{and_parts, and_from, eq-eqb, eqb-true, cases_eq, ne_eqb}
use Rattle.dirac_base_formats.specs.declared.base_formats.TheConstants.{LAST_BASE}
use Rattle.dirac_common.specs.Ratios.{ratio_across, ratio_down}
use Rattle.dirac_common.specs.declared.faults.Cause.TheVariants.{Preset, Size, ChromaFormat, RateIndex, SignalRange as SignalIndex, Depth8}
use Rattle.dirac_common.specs.declared.formats.Chroma.{Chroma}
use Rattle.dirac_common.specs.declared.formats.Chroma.TheVariants.{C444, C422, C420}
use Rattle.dirac_types.specs.declared.settings.Settings.{Settings}
use Rattle.dirac_common.specs.Numbers.{uint}
use Rattle.dirac_bits.specs.Spelling.{Spells}
use Rattle.dirac_bits.specs.Syntax.{Syntax, done, refuse, ◌>>=◌, number_field, between, custom}
use Rattle.dirac_sequence_header.specs.declared.sequence.Sequence.{Sequence}
use Rattle.dirac_sequence_header.specs.declared.sequence.SignalRange.{SignalRange}
use Rattle.dirac_sequence_header.specs.Grammar.{base_format_fields, size, chroma_of, own_chroma, is_whole, chroma, sampling, rate, fraction, frames, aspect, clean_area, own_range, signal_range, signal, is_depth, samples, colours, values, has_whole_fields, coding_mode, sequence}
use Rattle.dirac_sequence_header.specs.Tables.{preset, rate_of, range_of}
use Rattle.dirac_sequence.specs.Written.{IsWritable, is_same_pair, index_of, is_own_size, is_own_chroma, is_own_rate, is_own_signal, custom_bits, base_bits, whole_area_bits, frames_bits, samples_bits, sequence_bits, sequence_of}
use Rattle.dirac_bits.proofs.Fields.{spells_then, spells_last, field_spelled, between_is}

-- a custom flag and what it announces, or the default
custom_spelled : {A : Type 0} (default : A) (s : Syntax A) (x : A) (own : Bool) (bits : List Bool) (k : ℕ) → Spells s x (k + 1) bits → (own ≡ false → default ≡ x)
    → Spells (custom default s) x k (custom_bits own bits)
custom_spelled default s x true bits k spelled same = (true, bits, refl, spelled)
custom_spelled default s x false bits k spelled same = (false, [], refl, (same refl, refl))

-- the default, where the flag isn't set
default_spelled : {A : Type 0} (default : A) (s : Syntax A) (k : ℕ) → Spells (custom default s) default k (false ∷ [])
default_spelled default s k = (false, [], refl, (refl, refl))

same_pair : (a b : ℕ × ℕ) → not (is_same_pair a b) ≡ false → b ≡ a
same_pair a b e =
    let same : is_same_pair a b ≡ true = grind arith in
    let parts = and_parts (a.0 == b.0) (a.1 == b.1) same in
    let pair : ℕ → ℕ → ℕ × ℕ = λ x y. (x, y) in
    sym (ap₂ pair (eqb-true a.0 b.0 parts.0) (eqb-true a.1 b.1 parts.1))

chroma_again : (c : Chroma) → chroma_of (index_of c) ≡ c
chroma_again C444 = refl
chroma_again C422 = refl
chroma_again C420 = refl

same_chroma : (n : ℕ) (c : Chroma) → not (n == index_of c) ≡ false → c ≡ chroma_of n
same_chroma n c e =
    let same : (n == index_of c) ≡ true = grind arith in
    sym (ap chroma_of (eqb-true n (index_of c) same) ∙ chroma_again c)

size_spelled : (t : Settings) (k : ℕ) → IsWritable t → Spells (size ((preset t.base).width, (preset t.base).height)) (t.width, t.height) k (custom_bits (is_own_size t) (uint t.width ++ uint t.height))
unfolding size
size_spelled t k w =
    let k1 = k + 1 in
    let k2 = k1 + length (uint t.width) in
    let pair : ℕ → ℕ → Syntax (ℕ × ℕ) = λ a b. done (a, b) in
    let next : ℕ → Syntax (ℕ × ℕ) = λ a. number_field Size (between 1 2304) >>= pair a in
    let limits = w.size in
    let height = field_spelled Size (between 1 2304) t.height k2 (omega arith) (between_is 1 2304 t.height limits.2 limits.3) in
    let last : Spells (next t.width) (t.width, t.height) k2 (uint t.height) =
    spells_last (number_field Size (between 1 2304)) (pair t.width) t.height (t.width, t.height) k2 (uint t.height) height (refl, refl) in
    let own = spells_then (number_field Size (between 1 4096)) next t.width (t.width, t.height) k1 (uint t.width) (uint t.height)
    (field_spelled Size (between 1 4096) t.width k1 (omega arith) (between_is 1 4096 t.width limits.0 limits.1)) last in
    custom_spelled ((preset t.base).width, (preset t.base).height) (number_field Size (between 1 4096) >>= next) (t.width, t.height) (is_own_size t) (uint t.width ++ uint t.height) k own
    (same_pair (t.width, t.height) ((preset t.base).width, (preset t.base).height))

own_chroma_spelled : (t : Settings) (k : ℕ) → IsWritable t → Spells (own_chroma (preset t.base).chroma) (chroma_of t.chroma) k (custom_bits (is_own_chroma t) (uint t.chroma))
unfolding own_chroma
own_chroma_spelled t k w =
    let made : ℕ → Syntax Chroma = λ n. done (chroma_of n) in
    let number = field_spelled ChromaFormat (between 0 2) t.chroma (k + 1) (omega (arith, w.chroma)) (between_is 0 2 t.chroma (omega arith) w.chroma) in
    let own = spells_last (number_field ChromaFormat (between 0 2)) made t.chroma (chroma_of t.chroma) (k + 1) (uint t.chroma) number (refl, refl) in
    custom_spelled (preset t.base).chroma (number_field ChromaFormat (between 0 2) >>= made) (chroma_of t.chroma) (is_own_chroma t) (uint t.chroma) k own (same_chroma t.chroma (preset t.base).chroma)

chroma_spelled : (t : Settings) (k : ℕ) → IsWritable t → Spells (chroma (t.width, t.height) (preset t.base).chroma) (chroma_of t.chroma) k (custom_bits (is_own_chroma t) (uint t.chroma))
unfolding chroma
chroma_spelled t k w =
    let whole : is_whole (t.width, t.height) (chroma_of t.chroma) ≡ true = and_from (t.width % ratio_across (chroma_of t.chroma) == 0) (t.height % ratio_down (chroma_of t.chroma) == 0) (eq-eqb (t.width % ratio_across (chroma_of t.chroma)) 0 w.whole_across) (eq-eqb (t.height % ratio_down (chroma_of t.chroma)) 0 w.whole_down) in
    let rest : Chroma → Syntax Chroma = λ c. if is_whole (t.width, t.height) c then done c else refuse (k / 8) Size in
    spells_last (own_chroma (preset t.base).chroma) rest (chroma_of t.chroma) (chroma_of t.chroma) k (custom_bits (is_own_chroma t) (uint t.chroma)) (own_chroma_spelled t k w)
    (subst (λ (b : Bool). Spells (if b then done (chroma_of t.chroma) else refuse (k / 8) Size) (chroma_of t.chroma) (k + length (custom_bits (is_own_chroma t) (uint t.chroma))) []) (sym whole) (refl, refl))

rate_spelled : (t : Settings) (k : ℕ) → IsWritable t → Spells (rate (preset t.base).rate) (rate_of t.rate) k (custom_bits (is_own_rate t) (uint t.rate))
unfolding rate
rate_spelled t k w =
    let limits = w.rate in
    let made : ℕ → Syntax (ℕ × ℕ) = λ n. if n == 0 then fraction else done (rate_of n) in
    let some : (t.rate == 0) ≡ false = ne_eqb t.rate 0 (λ e. omega arith) in
    let number = field_spelled RateIndex (between 0 10) t.rate (k + 1) (omega arith) (between_is 0 10 t.rate (omega arith) limits.1) in
    let own = spells_last (number_field RateIndex (between 0 10)) made t.rate (rate_of t.rate) (k + 1) (uint t.rate) number
    (subst (λ (b : Bool). Spells (if b then fraction else done (rate_of t.rate)) (rate_of t.rate) (k + 1 + length (uint t.rate)) []) (sym some) (refl, refl)) in
    custom_spelled (preset t.base).rate (number_field RateIndex (between 0 10) >>= made) (rate_of t.rate) (is_own_rate t) (uint t.rate) k own (same_pair (rate_of t.rate) (preset t.base).rate)

-- the base's values with versions, profile and level
begun : Settings → Sequence
begun t = record (preset t.base) { major = 2; minor = 2; profile = t.profile; level = t.level }

-- and with size, chroma format and rate
framed : Settings → Sequence
framed t = record (begun t) { width = t.width; height = t.height; chroma = chroma_of t.chroma; rate = rate_of t.rate }

base_spelled : (t : Settings) (k : ℕ) → IsWritable t → Spells base_format_fields (begun t) k (base_bits t)
unfolding base_format_fields begun
base_spelled t k w =
    let two = uint 2 in
    let profile = uint t.profile in
    let level = uint t.level in
    let base = uint t.base in
    let k4 = k + length two + length two + length profile + length level in
    let made : ℕ → Syntax Sequence = λ n. done (record (preset n) { major = 2; minor = 2; profile = t.profile; level = t.level }) in
    let last : Spells (number_field Preset (between 0 LAST_BASE) >>= made) (begun t) k4 base =
    spells_last (number_field Preset (between 0 LAST_BASE)) made t.base (begun t) k4 base (field_spelled Preset (between 0 LAST_BASE) t.base k4 (omega (arith, w.base)) (between_is 0 LAST_BASE t.base (omega arith) w.base)) (refl, refl) in
    let parts : base_bits t ≡ two ++ (two ++ (profile ++ (level ++ base))) = simp append_assoc in
    (2, two ++ (profile ++ (level ++ base)), omega arith, parts, (2, profile ++ (level ++ base), omega arith, refl, (t.profile, level ++ base, omega (arith, w.profile), refl, (t.level, base, omega (arith, w.level), refl, last))))

frames_spelled : (t : Settings) (k : ℕ) → IsWritable t → Spells (frames (begun t)) (framed t) k (frames_bits t)
unfolding frames begun framed sampling
frames_spelled t k w =
    let a = custom_bits (is_own_size t) (uint t.width ++ uint t.height) in
    let b = custom_bits (is_own_chroma t) (uint t.chroma) in
    let c : List Bool = false ∷ [] in
    let d = custom_bits (is_own_rate t) (uint t.rate) in
    let s = begun t in
    let k1 = k + length a in
    let k2 = k1 + length b in
    let k3 = k2 + length c in
    let make : ℕ × ℕ → Chroma → Bool → ℕ × ℕ → Syntax Sequence = λ size chroma interlaced rate.
    done (record s { width = size.0; height = size.1; chroma = chroma; interlaced = interlaced; rate = rate }) in
    let fourth : ℕ × ℕ → Chroma → Bool → Syntax Sequence = λ size chroma interlaced. rate s.rate >>= make size chroma interlaced in
    let third : ℕ × ℕ → Chroma → Syntax Sequence = λ size c. sampling s.interlaced >>= fourth size c in
    let second : ℕ × ℕ → Syntax Sequence = λ size. chroma size s.chroma >>= third size in
    let wh : ℕ × ℕ = (t.width, t.height) in
    let last : Spells (fourth wh (chroma_of t.chroma) s.interlaced) (framed t) k3 d =
    spells_last (rate s.rate) (make wh (chroma_of t.chroma) s.interlaced) (rate_of t.rate) (framed t) k3 d (rate_spelled t k3 w) (refl, refl) in
    let more : Spells (third wh (chroma_of t.chroma)) (framed t) k2 (c ++ d) =
    spells_then (sampling s.interlaced) (fourth wh (chroma_of t.chroma)) s.interlaced (framed t) k2 c d (false, [], refl, (refl, refl)) last in
    let most : Spells (second wh) (framed t) k1 (b ++ (c ++ d)) =
    spells_then (chroma wh s.chroma) (third wh) (chroma_of t.chroma) (framed t) k1 b (c ++ d) (chroma_spelled t k1 w) more in
    let all = spells_then (size (s.width, s.height)) second wh (framed t) k a (b ++ (c ++ d)) (size_spelled t k w) most in
    let parts : a ++ (b ++ (c ++ d)) ≡ frames_bits t = simp append_assoc in
    subst (λ (l : List Bool). Spells (frames s) (framed t) k l) parts all

-- ranges 1 and 2 are of 8 bits
both_8 : SignalRange → Bool
both_8 range = is_depth 8 range.luma.1 && is_depth 8 range.colour.1

range_8 : (n : ℕ) → 1 ≤ n → n ≤ 2 → both_8 (range_of n) ≡ true
unfolding both_8 range_of
range_8 n some few = elim (cases_eq n 1) [
  | inl one ↦ rw one refl
  | inr other ↦ let two : n ≡ 2 = omega arith in rw two refl
]

same_range : (t : Settings) → is_own_signal t ≡ false → record { luma = (preset t.base).luma; colour = (preset t.base).colour } ≡ range_of t.signal
same_range t e =
    let a = range_of t.signal in
    let b = preset t.base in
    let same : (is_same_pair a.luma b.luma && is_same_pair a.colour b.colour) ≡ true = grind arith in
    let parts = and_parts (is_same_pair a.luma b.luma) (is_same_pair a.colour b.colour) same in
    let both : ℕ × ℕ → ℕ × ℕ → SignalRange = λ x y. record { luma = x; colour = y } in
    ap₂ both (same_pair a.luma b.luma (ap not parts.0)) (same_pair a.colour b.colour (ap not parts.1))

range_spelled : (t : Settings) (k : ℕ) → IsWritable t
    → Spells (signal_range (record { luma = (preset t.base).luma; colour = (preset t.base).colour })) (range_of t.signal) k (custom_bits (is_own_signal t) (uint t.signal))
unfolding signal_range
range_spelled t k w =
    let limits = w.signal in
    let made : ℕ → Syntax SignalRange = λ n. if n == 0 then own_range else done (range_of n) in
    let some : (t.signal == 0) ≡ false = ne_eqb t.signal 0 (λ e. omega arith) in
    let number = field_spelled SignalIndex (between 0 4) t.signal (k + 1) (omega arith) (between_is 0 4 t.signal (omega arith) (omega arith)) in
    let own = spells_last (number_field SignalIndex (between 0 4)) made t.signal (range_of t.signal) (k + 1) (uint t.signal) number
    (subst (λ (b : Bool). Spells (if b then own_range else done (range_of t.signal)) (range_of t.signal) (k + 1 + length (uint t.signal)) []) (sym some) (refl, refl)) in
    custom_spelled (record { luma = (preset t.base).luma; colour = (preset t.base).colour }) (number_field SignalIndex (between 0 4) >>= made) (range_of t.signal) (is_own_signal t) (uint t.signal) k own (same_range t)

signal_spelled : (t : Settings) (k : ℕ) → IsWritable t
    → Spells (signal (record { luma = (preset t.base).luma; colour = (preset t.base).colour })) (range_of t.signal) k (custom_bits (is_own_signal t) (uint t.signal))
unfolding signal both_8
signal_spelled t k w =
    let limits = w.signal in
    let bits = custom_bits (is_own_signal t) (uint t.signal) in
    let rest : SignalRange → Syntax SignalRange = λ r. if both_8 r then done r else refuse (k / 8) Depth8 in
    spells_last (signal_range (record { luma = (preset t.base).luma; colour = (preset t.base).colour })) rest (range_of t.signal) (range_of t.signal) k bits (range_spelled t k w)
    (subst (λ (b : Bool). Spells (if b then done (range_of t.signal) else refuse (k / 8) Depth8) (range_of t.signal) (k + length bits) []) (sym (range_8 t.signal limits.0 limits.1)) (refl, refl))

-- the clean area
area_of : Settings → ℕ × ℕ × ℕ × ℕ
area_of t = if is_own_size t then (t.width, t.height, 0, 0) else (preset t.base).clean

whole_area : (t : Settings) (own : Bool) (k : ℕ) → IsWritable t
    → Spells (clean_area (preset t.base).clean) (if own then (t.width, t.height, 0, 0) else (preset t.base).clean) k (custom_bits own (whole_area_bits t))
unfolding clean_area
whole_area t true k w =
    let limits = w.size in
    let parts : whole_area_bits t ≡ uint t.width ++ (uint t.height ++ (uint 0 ++ uint 0)) = simp append_assoc in
    (true, whole_area_bits t, refl, (t.width, uint t.height ++ (uint 0 ++ uint 0), omega arith, parts, (t.height, uint 0 ++ uint 0, omega arith, refl, (0, uint 0, omega arith, refl, (0, [], omega arith, sym (append-nil (uint 0)), (refl, refl))))))
whole_area t false k w = (false, [], refl, (refl, refl))

-- the sequence before its coding mode is known: as of frames
shown : Settings → Sequence
shown t = record (sequence_of t) { fields = false }

samples_spelled : (t : Settings) (k : ℕ) → IsWritable t → Spells (samples (framed t)) (shown t) k (samples_bits t)
unfolding samples begun framed shown aspect sequence_of preset
samples_spelled t k w =
    let a : List Bool = false ∷ [] in
    let b = custom_bits (is_own_size t) (whole_area_bits t) in
    let c = custom_bits (is_own_signal t) (uint t.signal) in
    let s = framed t in
    let k1 = k + length a in
    let k2 = k1 + length b in
    let area : ℕ × ℕ × ℕ × ℕ = if is_own_size t then (t.width, t.height, 0, 0) else (preset t.base).clean in
    let default : SignalRange = record { luma = (preset t.base).luma; colour = (preset t.base).colour } in
    let make : ℕ × ℕ → ℕ × ℕ × ℕ × ℕ → SignalRange → Syntax Sequence = λ aspect clean signal.
    done (record s { aspect = aspect; clean = clean; luma = signal.luma; colour = signal.colour }) in
    let third : ℕ × ℕ → ℕ × ℕ × ℕ × ℕ → Syntax Sequence = λ aspect clean. signal default >>= make aspect clean in
    let second : ℕ × ℕ → Syntax Sequence = λ aspect. clean_area s.clean >>= third aspect in
    let last : Spells (third s.aspect area) (shown t) k2 c =
    spells_last (signal default) (make s.aspect area) (range_of t.signal) (shown t) k2 c (signal_spelled t k2 w) (refl, refl) in
    let more : Spells (second s.aspect) (shown t) k1 (b ++ c) =
    spells_then (clean_area s.clean) (third s.aspect) area (shown t) k1 b c (whole_area t (is_own_size t) k1 w) last in
    let all = spells_then (aspect s.aspect) second s.aspect (shown t) k a (b ++ c) (false, [], refl, (refl, refl)) more in
    let parts : a ++ (b ++ c) ≡ samples_bits t = simp append_assoc in
    subst (λ (l : List Bool). Spells (samples s) (shown t) k l) parts all

values_spelled : (t : Settings) (k : ℕ) → IsWritable t → Spells values (shown t) k (base_bits t ++ frames_bits t ++ samples_bits t)
unfolding values
values_spelled t k w =
    let a = base_bits t in
    let b = frames_bits t in
    let c = samples_bits t in
    let second : Sequence → Syntax Sequence = λ s. frames s >>= samples in
    let more = spells_then (frames (begun t)) samples (framed t) (shown t) (k + length a) b c (frames_spelled t (k + length a) w) (samples_spelled t (k + length a + length b) w) in
    let all = spells_then base_format_fields second (begun t) (shown t) k a (b ++ c) (base_spelled t k w) more in
    let parts : a ++ (b ++ c) ≡ a ++ b ++ c = simp append_assoc in
    subst (λ (l : List Bool). Spells values (shown t) k l) parts all

-- the coding mode: frames, or fields of a height that allows them
mode_spelled : (t : Settings) (k : ℕ) → IsWritable t → Spells (coding_mode (shown t)) (sequence_of t) k (uint t.fields)
unfolding coding_mode shown sequence_of
mode_spelled t k w = elim (cases_eq t.fields 1) [
  | inl one ↦
      let whole : has_whole_fields (shown t) ≡ true = eq-eqb (t.height % (2 * ratio_down (chroma_of t.chroma))) 0 (w.whole_fields one) in
      (t.fields, [], omega (arith, one), sym (append-nil (uint t.fields)), rw (one, whole) (refl, refl))
  | inr other ↦
      let none : t.fields ≡ 0 = omega (arith, w.mode) in
      (t.fields, [], omega (arith, none), sym (append-nil (uint t.fields)), rw none (refl, refl))
]

pub sequence_spelled : (t : Settings) (k : ℕ) → IsWritable t → Spells sequence (sequence_of t) k (sequence_bits t)
unfolding sequence colours
sequence_spelled t k w =
    let a = base_bits t ++ frames_bits t ++ samples_bits t in
    let b : List Bool = false ∷ [] in
    let c = uint t.fields in
    let k1 = k + length a in
    let k2 = k1 + length b in
    let third : Sequence → Unit {0} → Syntax Sequence = λ s none. coding_mode s in
    let second : Sequence → Syntax Sequence = λ s. colours >>= third s in
    let last : Spells (third (shown t) tt) (sequence_of t) k2 c = mode_spelled t k2 w in
    let more : Spells (second (shown t)) (sequence_of t) k1 (b ++ c) =
    spells_then colours (third (shown t)) tt (sequence_of t) k1 b c (false, [], refl, (refl, refl)) last in
    let all = spells_then values second (shown t) (sequence_of t) k a (b ++ c) (values_spelled t k w) more in
    let parts : a ++ (b ++ c) ≡ sequence_bits t = simp append_assoc in
    subst (λ (l : List Bool). Spells sequence (sequence_of t) k l) parts all
