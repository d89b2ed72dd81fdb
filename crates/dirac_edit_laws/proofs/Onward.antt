-- A picture whose number is moved on, and its references with it, is read as before but for the numbers.
use Rattle.std.proofs.Common.{◌≡◌, ℕ, ℤ, suc, pos, negsuc, ◌+ℤ◌, ◌+◌, ◌-◌, ◌*◌, ◌/◌, ◌%◌, ◌<◌, ◌≤◌, ◌^◌, if◌then◌else◌, Bool, true, false, List, [], ◌∷◌, ◌++◌, length, take, drop, Option, None, Some, Ok, refl, sym, ◌∙◌, ap, ap₂, subst, arith, append_assoc, length-append}
use Rattle.std.specs.Prelude.{nat_le, unsigned_abs}
use Rattle.std.specs.Int.{from_be_bytes, to_be_bytes, w32}
use Rattle.std.specs.List.{AllByRecursion}
use Rattle.std.specs.Ordering.{int_eq}
use Rattle.std.proofs.lemmas.Int.{int_rem_euclid_is, ints}
use Rattle.std.proofs.lemmas.List.{take_at, drop_at}
use Rattle.dirac_common.specs.declared.faults.Cause.TheVariants.{MissingReference}
use Rattle.dirac_common.specs.declared.picture.Picture.{Picture}
use Rattle.dirac_common.specs.Bits.{bits_of, number_from}
use Rattle.dirac_common.specs.Numbers as numbers
use Rattle.dirac_common.specs.Numbers.{literal}
use Rattle.dirac_bits.specs.Laws.{StartsWith}
use Rattle.dirac_bits.specs.Spelling.{Spells}
use Rattle.dirac_bits.specs.Syntax.{Syntax, done, refuse, ◌>>=◌, align}
use Rattle.dirac_bits.proofs.Bits.{length-bits_of}
use Rattle.dirac_bits.proofs.Literals.{four_bytes, none_left}
use Rattle.dirac_bits.proofs.Runs.{bits_of-append}
use Rattle.dirac_bits.proofs.Whole.{read_whole, whole_read}
use Rattle.dirac_sequence_header.specs.declared.sequence.Sequence.{Sequence}
use Rattle.dirac_header.specs.declared.header.PictureHeader.{PictureHeader}
use Rattle.dirac_header.specs.Codes.{is_reference, references_of}
use Rattle.dirac_header.specs.Header.{header, moved_by, reference, retired_by, retirement}
use Rattle.dirac_picture.specs.declared.coded.CodedPicture.{CodedPicture}
use Rattle.dirac_picture.specs.Grammar.{are_listed, body, motion, picture, picture_read, residual_unless, zero_residual}
use Rattle.dirac_picture.proofs.Every.{Every, every_any, every_then}
use Rattle.dirac_edit_laws.specs.Joined.{number_in_payload}
use Rattle.dirac_edit_laws.proofs.Alike.{behind_gap, body_header, with_residual}
use Rattle.dirac_edit_laws.proofs.Spelled.{SpellsAs, every_more, every_spelled, spells_as}

-- ---- numbers moved on

-- a number moved on by so much, modulo 2 ^ 32
abbrev pub onward : ℕ → ℕ → ℕ
onward d n = (n + d) % 2 ^ 32

abbrev pub onward_of : ℕ → Option ℕ → Option ℕ
onward_of d None = None
onward_of d (Some n) = Some (onward d n)

abbrev pub header_onward : ℕ → PictureHeader → PictureHeader
header_onward d h = record { number = onward d h.number; ref1 = onward_of d h.ref1; ref2 = onward_of d h.ref2; retire = onward_of d h.retire }

abbrev pub coded_onward : ℕ → CodedPicture → CodedPicture
coded_onward d coded = record { code = coded.code; header = header_onward d coded.header; motion = coded.motion; residual = coded.residual }

-- an offset adds a number, whatever it is added to
record Adds (z : ℤ) : Type 0 where
  pub by : ℕ
  pub is : (n : ℕ) → moved_by n z ≡ (n + by) % 2 ^ 32

adds : (z : ℤ) → Adds z
adds (pos m) = record { by = m; is = λ n. refl }
adds (negsuc m) =
    let back = suc m * 2 ^ 32 - suc m in
    record {
      by = back;
      is = λ n. ap unsigned_abs (int_rem_euclid_is (pos n +ℤ negsuc m) (pos (2 ^ 32)) (2 ^ 32) (suc m) (n + back) (omega arith) refl (omega (arith, ints)));
    }

onward_twice : (n d by : ℕ) → ((n + d) % 2 ^ 32 + by) % 2 ^ 32 ≡ ((n + by) % 2 ^ 32 + d) % 2 ^ 32
onward_twice n d by = omega arith

pub moved_onward : (n d : ℕ) (z : ℤ) → moved_by (onward d n) z ≡ onward d (moved_by n z)
moved_onward n d z =
    let a = adds z in
    a.is (onward d n) ∙ onward_twice n d a.by ∙ sym (ap (onward d) (a.is n))

retired_onward : (n d : ℕ) (z : ℤ) → retired_by (onward d n) z ≡ onward_of d (retired_by n z)
retired_onward n d z =
    elim (int_eq z (pos 0)) as (λ b. (if b then None else Some (moved_by (onward d n) z)) ≡ onward_of d (if b then None else Some (moved_by n z))) [
      | true ↦ refl
      | false ↦ ap Some (moved_onward n d z)
    ]

-- ---- the fields of a header

reference_as : {A B : Type 0} (b : Bool) (n d : ℕ) (f g : Option ℕ → Syntax A) (K L : A → Syntax B) (x x' : B) → ((o : Option ℕ) → SpellsAs (f o >>= K) (g (onward_of d o) >>= L) x x')
    → SpellsAs ((reference b n >>= f) >>= K) ((reference b (onward d n) >>= g) >>= L) x x'
unfolding reference
reference_as false n d f g K L x x' same k bits e = same None k bits e
reference_as true n d f g K L x x' same k bits e =
    let z = e.0 in
    let place = k + length (numbers.sint z) in
    let here = same (Some (moved_by n z)) place e.1 e.4 in
    (z, e.1, e.2, e.3, subst (λ (m : ℕ). Spells (g (Some m) >>= L) x' place e.1) (sym (moved_onward n d z)) here)

retirement_as : {A B : Type 0} (b : Bool) (n d : ℕ) (f g : Option ℕ → Syntax A) (K L : A → Syntax B) (x x' : B) → ((o : Option ℕ) → SpellsAs (f o >>= K) (g (onward_of d o) >>= L) x x')
    → SpellsAs ((retirement b n >>= f) >>= K) ((retirement b (onward d n) >>= g) >>= L) x x'
unfolding retirement
retirement_as false n d f g K L x x' same k bits e = same None k bits e
retirement_as true n d f g K L x x' same k bits e =
    let z = e.0 in
    let place = k + length (numbers.sint z) in
    let here = same (retired_by n z) place e.1 e.4 in
    (z, e.1, e.2, e.3, subst (λ (o : Option ℕ). Spells (g o >>= L) x' place e.1) (sym (retired_onward n d z)) here)

-- the fields behind the number
abbrev pub last_field : ℕ → ℕ → Option ℕ → Option ℕ → Option ℕ → Syntax PictureHeader
last_field code number first second retire = done (record { number = number; ref1 = first; ref2 = second; retire = retire })

abbrev pub third_field : ℕ → ℕ → Option ℕ → Option ℕ → Syntax PictureHeader
third_field code number first second = retirement (is_reference code) number >>= λ retire. last_field code number first second retire

abbrev pub second_field : ℕ → ℕ → Option ℕ → Syntax PictureHeader
second_field code number first = reference (nat_le 2 (references_of code)) number >>= λ second. third_field code number first second

abbrev pub behind_number : ℕ → ℕ → Syntax PictureHeader
behind_number code number = reference (nat_le 1 (references_of code)) number >>= λ first. second_field code number first

header_as : {B : Type 0} (code n d : ℕ) (K L : PictureHeader → Syntax B) (x x' : B) → ((h : PictureHeader) → SpellsAs (K h) (L (header_onward d h)) x x')
    → SpellsAs (behind_number code n >>= K) (behind_number code (onward d n) >>= L) x x'
header_as code n d K L x x' same =
    let m = onward d n in
    reference_as (nat_le 1 (references_of code)) n d (second_field code n) (second_field code m) K L x x' (λ first.
    reference_as (nat_le 2 (references_of code)) n d (third_field code n first) (third_field code m (onward_of d first)) K L x x' (λ second.
    retirement_as (is_reference code) n d (last_field code n first second) (last_field code m (onward_of d first) (onward_of d second)) K L x x' (λ retire.
    same (record { number = n; ref1 = first; ref2 = second; retire = retire }))))

-- ---- the fields behind it

body_as : (code : ℕ) (s : Sequence) (h : PictureHeader) (d : ℕ) (coded : CodedPicture) → SpellsAs (body code s h) (body code s (header_onward d h)) coded (coded_onward d coded)
unfolding body
body_as code s h d coded =
    let h' = header_onward d h in
    let x' = coded_onward d coded in
    spells_as (motion code s) (behind_gap code s h) (behind_gap code s h') coded x' (λ m.
    spells_as align (λ gap. zero_residual code >>= with_residual code s h m) (λ gap. zero_residual code >>= with_residual code s h' m) coded x' (λ gap.
    spells_as (zero_residual code) (with_residual code s h m) (with_residual code s h' m) coded x' (λ none.
    spells_as (residual_unless none s) (λ r. done (record { code = code; header = h; motion = m; residual = r })) (λ r. done (record { code = code; header = h'; motion = m; residual = r })) coded x' (λ r k bits e.
    (ap (coded_onward d) e.0, e.1)))))

-- the references that are listed in the part are listed, moved on, in the whole
abbrev pub ListsOnward : ℕ → List Picture → List Picture → Type 0
ListsOnward d inside whole = (h : PictureHeader) → are_listed inside h ≡ true → are_listed whole (header_onward d h) ≡ true

abbrev behind_header : ℕ → Sequence → List Picture → PictureHeader → Syntax CodedPicture
behind_header code s refs head = if are_listed refs head then body code s head else refuse 0 MissingReference

found_as : (code : ℕ) (s : Sequence) (inside whole : List Picture) (d : ℕ) (coded : CodedPicture) (h : PictureHeader) → ListsOnward d inside whole
    → SpellsAs (behind_header code s inside h) (behind_header code s whole (header_onward d h)) coded (coded_onward d coded)
found_as code s inside whole d coded h lists k bits =
    let h' = header_onward d h in
    let x' = coded_onward d coded in
    elim (are_listed inside h) as (λ b. are_listed inside h ≡ b → Spells (if b then body code s h else refuse 0 MissingReference) coded k bits → Spells (behind_header code s whole h') x' k bits) [
      | false ↦ λ e bad. absurd bad
      | true ↦ λ e good.
          subst (λ (b : Bool). Spells (if b then body code s h' else refuse 0 MissingReference) x' k bits) (sym (lists h e)) (body_as code s h d coded k bits good)
    ] refl

-- ---- the number itself

-- a picture has the number that stands before the other fields
number_every : (code n : ℕ) → Every (λ (h : PictureHeader). h.number ≡ n) (behind_number code n)
number_every code n =
    let P : PictureHeader → Type 0 = λ h. h.number ≡ n in
    every_then (λ _. Unit {0}) P (reference (nat_le 1 (references_of code)) n) (second_field code n) (every_any (reference (nat_le 1 (references_of code)) n)) (λ first _.
    every_then (λ _. Unit {0}) P (reference (nat_le 2 (references_of code)) n) (third_field code n first) (every_any (reference (nat_le 2 (references_of code)) n)) (λ second _.
    every_then (λ _. Unit {0}) P (retirement (is_reference code) n) (last_field code n first second) (every_any (retirement (is_reference code) n)) (λ retire _. refl)))

found_every : (P : PictureHeader → Type 0) (code : ℕ) (s : Sequence) (refs : List Picture) (h : PictureHeader) → P h → Every (λ (x : CodedPicture). P x.header) (behind_header code s refs h)
found_every P code s refs h is =
    elim (are_listed refs h) as (λ b. Every (λ (x : CodedPicture). P x.header) (if b then body code s h else refuse 0 MissingReference)) [
      | true ↦ every_more (λ (x : CodedPicture). x.header ≡ h) (λ (x : CodedPicture). P x.header) (body code s h) (λ x e. subst P (sym e) is) (body_header code s h)
      | false ↦ tt
    ]

-- what holds of each header of this number holds of that of the picture
header_spelled : (P : PictureHeader → Type 0) (code n : ℕ) (s : Sequence) (refs : List Picture) (coded : CodedPicture) (k : ℕ) (bits : List Bool) → Every P (behind_number code n)
    → Spells (behind_number code n >>= behind_header code s refs) coded k bits → P coded.header
header_spelled P code n s refs coded k bits every e =
    let Q : CodedPicture → Type 0 = λ x. P x.header in
    every_spelled Q (behind_number code n >>= behind_header code s refs) coded k bits (every_then P Q (behind_number code n) (behind_header code s refs) every (found_every P code s refs)) e

-- a number below 2 ^ 32, where there is one
unfoldable pub IsBelow : Option ℕ → Type 0
IsBelow None = Unit {0}
IsBelow (Some n) = n < 2 ^ 32

retired_below : (n : ℕ) (z : ℤ) → IsBelow (retired_by n z)
unfolding IsBelow
retired_below n z =
    let a = adds z in
    elim (int_eq z (pos 0)) as (λ b. IsBelow (if b then None else Some (moved_by n z))) [
      | true ↦ tt
      | false ↦ subst (λ m. m < 2 ^ 32) (sym (a.is n)) (omega arith)
    ]

retirement_every : (b : Bool) (n : ℕ) → Every IsBelow (retirement b n)
unfolding retirement IsBelow
retirement_every false n = tt
retirement_every true n = λ z. retired_below n z

-- what a picture retires has such a number
retired_every : (code n : ℕ) → Every (λ (h : PictureHeader). IsBelow h.retire) (behind_number code n)
retired_every code n =
    let P : PictureHeader → Type 0 = λ h. IsBelow h.retire in
    every_then (λ _. Unit {0}) P (reference (nat_le 1 (references_of code)) n) (second_field code n) (every_any (reference (nat_le 1 (references_of code)) n)) (λ first _.
    every_then (λ _. Unit {0}) P (reference (nat_le 2 (references_of code)) n) (third_field code n first) (every_any (reference (nat_le 2 (references_of code)) n)) (λ second _.
    every_then IsBelow P (retirement (is_reference code) n) (last_field code n first second) (retirement_every (is_reference code) n) (λ retire is. is)))

-- what a payload begins with
record Begins (code : ℕ) (s : Sequence) (inside : List Picture) (coded : CodedPicture) (bits : List Bool) : Type 0 where
  pub number : ℕ
  pub more : List Bool
  pub small : number < 2 ^ 32
  pub parts : bits ≡ literal number ++ more
  pub rest : Spells (behind_number code number >>= behind_header code s inside) coded 32 more

begins : (code : ℕ) (s : Sequence) (inside : List Picture) (coded : CodedPicture) (bits : List Bool) → Spells (picture code s inside) coded 0 bits → Begins code s inside coded bits
unfolding picture header
begins code s inside coded bits e =
    let gap = e.0 in
    let none : gap ≡ [] = none_left gap (omega (arith, e.2)) in
    let f = e.4 in
    record {
      number = f.0;
      more = f.1;
      small = f.2;
      parts = e.3 ∙ ap (λ l. l ++ e.1) none ∙ f.3;
      rest = subst (λ (l : List Bool). Spells (behind_number code f.0 >>= behind_header code s inside) coded (0 + length l + 32) f.1) none f.4;
    }

begun_as : (code : ℕ) (s : Sequence) (whole : List Picture) (coded : CodedPicture) (number : ℕ) (more : List Bool) → number < 2 ^ 32 → Spells (behind_number code number >>= behind_header code s whole) coded 32 more
    → Spells (picture code s whole) coded 0 (literal number ++ more)
unfolding picture header
begun_as code s whole coded number more small e = ([], literal number ++ more, refl, refl, (number, more, small, refl, e))

-- ---- four bytes

-- four bytes and those behind them
record Four (bytes : List ℕ) : Type 0 where
  pub a : ℕ
  pub b : ℕ
  pub c : ℕ
  pub d : ℕ
  pub rest : List ℕ
  pub is : bytes ≡ a ∷ b ∷ c ∷ d ∷ rest

four : (bytes : List ℕ) → 4 ≤ length bytes → Four bytes
four [] few = absurd (omega arith)
four (a ∷ []) few = absurd (omega arith)
four (a ∷ b ∷ []) few = absurd (omega arith)
four (a ∷ b ∷ c ∷ []) few = absurd (omega arith)
four (a ∷ b ∷ c ∷ d ∷ rest) few = record { a = a; b = b; c = c; d = d; rest = rest; is = refl }

length-literal : (v : ℕ) → length (literal v) ≡ 32
length-literal v = refl

-- a literal spells its number
literal_value : (v : ℕ) → v < 2 ^ 32 → number_from 0 (literal v) ≡ v
literal_value v small =
    four_bytes (v / 16777216 % 256) (v / 65536 % 256) (v / 256 % 256) (v % 256) (omega arith) (omega arith) (omega arith) (omega arith) ∙ omega arith

-- four bytes spell theirs
bytes_value : (a b c d : ℕ) → a < 256 → b < 256 → c < 256 → d < 256 → from_be_bytes w32 (a ∷ b ∷ c ∷ d ∷ []) ≡ number_from 0 (bits_of (a ∷ b ∷ c ∷ d ∷ []))
bytes_value a b c d la lb lc ld = omega arith ∙ sym (four_bytes a b c d la lb lc ld)

written_bits : (v : ℕ) → bits_of (to_be_bytes w32 v) ≡ literal v
written_bits v = refl

-- the payload of a picture whose number is moved on
abbrev pub payload_onward : ℕ → List ℕ → List ℕ
payload_onward d payload = to_be_bytes w32 (onward d (number_in_payload payload)) ++ drop 4 payload

-- the number that a payload begins with, and the bits behind it
record Splits (payload : List ℕ) (number : ℕ) (more : List Bool) : Type 0 where
  pub number_is : number_in_payload payload ≡ number
  pub behind : bits_of (drop 4 payload) ≡ more
  pub long : 4 ≤ length payload

splits_by : (payload : List ℕ) (number : ℕ) (more : List Bool) (f : Four payload) → AllByRecursion (λ b. b < 2 ^ 8) payload → number < 2 ^ 32 → bits_of payload ≡ literal number ++ more → 4 ≤ length payload → Splits payload number more
splits_by payload number more f below small e long =
    let front = f.a ∷ f.b ∷ f.c ∷ f.d ∷ [] in
    let all : AllByRecursion (λ b. b < 2 ^ 8) (f.a ∷ f.b ∷ f.c ∷ f.d ∷ f.rest) = subst (AllByRecursion (λ b. b < 2 ^ 8)) f.is below in
    let e' : bits_of front ++ bits_of f.rest ≡ literal number ++ more = sym (bits_of-append front f.rest) ∙ ap bits_of (sym f.is) ∙ e in
    let first : bits_of front ≡ literal number = sym (take_at (bits_of front) (bits_of f.rest) 32 refl) ∙ ap (take 32) e' ∙ take_at (literal number) more 32 (length-literal number) in
    let last : bits_of f.rest ≡ more = sym (drop_at (bits_of front) (bits_of f.rest) 32 refl) ∙ ap (drop 32) e' ∙ drop_at (literal number) more 32 (length-literal number) in
    record {
      number_is =
          ap number_in_payload f.is ∙ bytes_value f.a f.b f.c f.d all.0 all.1.0 all.1.1.0 all.1.1.1.0
          ∙ ap (number_from 0) first ∙ literal_value number small;
      behind = ap (λ l. bits_of (drop 4 l)) f.is ∙ last;
      long = long;
    }

splits : (payload : List ℕ) (number : ℕ) (more : List Bool) → AllByRecursion (λ b. b < 2 ^ 8) payload → number < 2 ^ 32 → bits_of payload ≡ literal number ++ more → Splits payload number more
splits payload number more below small e =
    let long : 4 ≤ length payload = omega (arith, length-bits_of payload, ap length e, length-append (literal number) more, length-literal number) in
    splits_by payload number more (four payload long) below small e long

-- ---- the law

-- a picture that is read with the list of a part, with its numbers moved on
pub record IsReadOnward (code : ℕ) (s : Sequence) (whole : List Picture) (payload : List ℕ) (d : ℕ) (coded : CodedPicture) : Type 0 where
  pub read : picture_read code s whole (payload_onward d payload) ≡ Ok (coded_onward d coded)
  pub number : coded.header.number ≡ number_in_payload payload
  pub small : number_in_payload payload < 2 ^ 32
  pub long : 4 ≤ length payload
  pub retires : IsBelow coded.header.retire

pub read_onward : (code : ℕ) (s : Sequence) (inside whole : List Picture) (payload : List ℕ) (d : ℕ) (coded : CodedPicture) → AllByRecursion (λ b. b < 2 ^ 8) payload → ListsOnward d inside whole
    → picture_read code s inside payload ≡ Ok coded → IsReadOnward code s whole payload d coded
read_onward code s inside whole payload d coded below lists is =
    let p = read_whole (picture code s inside) coded payload is in
    let b = begins code s inside coded p.bits p.spells in
    let parts : bits_of payload ≡ literal b.number ++ (b.more ++ p.rest) = p.parts ∙ ap (λ l. l ++ p.rest) b.parts ∙ append_assoc (literal b.number) b.more p.rest in
    let split = splits payload b.number (b.more ++ p.rest) below b.small parts in
    let n' = onward d b.number in
    let small' : n' < 2 ^ 32 = omega arith in
    let x' = coded_onward d coded in
    let rest' = header_as code b.number d (behind_header code s inside) (behind_header code s whole) coded x' (λ h. found_as code s inside whole d coded h lists) 32 b.more b.rest in
    let spells' = begun_as code s whole x' n' b.more small' rest' in
    let bytes = payload_onward d payload in
    let same : onward d (number_in_payload payload) ≡ n' = ap (onward d) split.number_is in
    let bits : bits_of bytes ≡ (literal n' ++ b.more) ++ p.rest =
    bits_of-append (to_be_bytes w32 (onward d (number_in_payload payload))) (drop 4 payload)
    ∙ ap₂ (λ (a : ℕ) (l : List Bool). bits_of (to_be_bytes w32 a) ++ l) same split.behind
    ∙ ap (λ l. l ++ (b.more ++ p.rest)) (written_bits n')
    ∙ sym (append_assoc (literal n') b.more p.rest) in
    let starts : StartsWith (picture code s whole) x' bytes = record { bits = literal n' ++ b.more; rest = p.rest; spells = spells'; parts = bits } in
    let number = header_spelled (λ h. h.number ≡ b.number) code b.number s inside coded 32 b.more (number_every code b.number) b.rest in
    record {
      read = whole_read (picture code s whole) x' bytes starts;
      number = number ∙ sym split.number_is;
      small = subst (λ m. m < 2 ^ 32) (sym split.number_is) b.small;
      long = split.long;
      retires = header_spelled (λ h. IsBelow h.retire) code b.number s inside coded 32 b.more (retired_every code b.number) b.rest;
    }
