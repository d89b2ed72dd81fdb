-- Sources behind whole groups are coded as they are alone, but for their numbers.
use Rattle.std.proofs.Common.{◌≡◌, ◌<◌, ◌≤◌, ◌+◌, ◌^◌, ℕ, zero, suc, List, [], ◌∷◌, ◌++◌, length, map, drop, Option, option_map, refl, sym, ◌∙◌, ap, ap₂, subst, arith, length-append}
use Rattle.std.specs.Prelude.{slice_index_or}
use Rattle.std.specs.Int.{to_be_bytes, w32}
use Rattle.std.specs.List.{AllByRecursion}
use Rattle.std.proofs.lemmas.List.{length-map}
use Rattle.std.proofs.lemmas.Nat.{from_be_bytes-to_be_bytes_4}
use Rattle.dirac_common.specs.declared.picture.Picture.{Picture}
use Rattle.dirac_types.specs.declared.settings.Settings.{Settings}
use Rattle.dirac_sequence.specs.Written.{sequence_of}
use Rattle.dirac_header.specs.Written.{NumbersHave32Bits}
use Rattle.dirac_picture.specs.declared.coded.CodedPicture.{CodedPicture}
use Rattle.dirac_plan.specs.declared.planned.Planned.{Planned}
use Rattle.dirac_plan.specs.Plan.{plan}
use Rattle.dirac_plan.proofs.Accepted.{paced}
use Rattle.dirac_plan_laws.specs.Headers.{IsPlanned, header_of}
use Rattle.dirac_plan_laws.specs.Plans.{PlansCanBeCoded}
use Rattle.dirac_encode_laws.specs.Coding.{Job, Made, blank, coded_under, coding, job_of, jobs_of, made, own_index, refs_after}
use Rattle.dirac_encode_laws.specs.Laws.{AreNumbered, JobsAreRead}
use Rattle.dirac_encode_laws.proofs.Indices.{own_gives, sources_under}
use Rattle.dirac_encode_laws.proofs.Sourcing.{jobs_read_under, sources_made}
use Rattle.dirac_edit_laws.specs.Joined.{number_in_payload}
use Rattle.dirac_edit_laws.proofs.Cutting.{FitsPicture}
use Rattle.dirac_edit_laws.proofs.EncodedCut.{codes_of, texts_fit_made}
use Rattle.dirac_edit_laws.proofs.EncodedMade.{coded_append, coded_from, index_up, points_up, refs_behind, texts_made}
use Rattle.dirac_edit_laws.proofs.Inside.{few_behind}
use Rattle.dirac_edit_laws.proofs.Onward.{onward, onward_of}
use Rattle.dirac_edit_laws.proofs.Renumbered.{picture_onward}
use Rattle.dirac_edit_laws.proofs.Restricted.{none_yet}
use Rattle.dirac_parts_laws.specs.Behind.{SourcesBehindAreCodedAlike, made_behind, picture_behind}
use Rattle.dirac_parts_laws.specs.Payloads.{coded_behind, header_behind}
use Rattle.dirac_parts_laws.specs.Plans.{planned_behind}
use Rattle.dirac_parts_laws.proofs.CodedBehind.{AllCanMove, CanMove, coded_behind_others, coded_is, job_onward, made_onward, option_is, planned_onward, plus_is}
use Rattle.dirac_parts_laws.proofs.Payloads.{payload_begins}
use Rattle.dirac_parts_laws.proofs.Plans.{plans_on}

-- ---- sources by their places

at_front : (xs more : List Picture) (n : ℕ) → n < length xs → slice_index_or (xs ++ more) n blank ≡ slice_index_or xs n blank
at_front [] more n less = absurd (omega arith)
at_front (x ∷ xs) more zero less = refl
at_front (x ∷ xs) more (suc n) less = at_front xs more n (omega arith)

at_behind : (xs more : List Picture) (n : ℕ) → slice_index_or (xs ++ more) (n + length xs) blank ≡ slice_index_or more n blank
at_behind [] more n = ap (λ k. slice_index_or more k blank) (let same : n + 0 ≡ n = omega arith in same)
at_behind (x ∷ xs) more n =
    let same : n + suc (length xs) ≡ suc (n + length xs) = omega arith in
    ap (λ k. slice_index_or (x ∷ (xs ++ more)) k blank) same ∙ at_behind xs more n

at_moved : (ys : List Picture) (d n : ℕ) → n < length ys → slice_index_or (map (picture_behind d) ys) n blank ≡ picture_behind d (slice_index_or ys n blank)
at_moved [] d n less = absurd (omega arith)
at_moved (y ∷ ys) d zero less = refl
at_moved (y ∷ ys) d (suc n) less = at_moved ys d n (omega arith)

number_at : (ys : List Picture) (k n : ℕ) → AreNumbered k ys → n < length ys → (slice_index_or ys n blank).number ≡ k + n
number_at [] k n all less = absurd (omega arith)
number_at (y ∷ ys) k zero all less = all.0 ∙ (let same : k ≡ k + 0 = omega arith in same)
number_at (y ∷ ys) k (suc n) all less = number_at ys (k + 1) n all.1 (omega arith) ∙ (let same : k + 1 + n ≡ k + suc n = omega arith in same)

moved_is : (d : ℕ) (p : Picture) → p.number + d < 2 ^ 32 → picture_behind d p ≡ picture_onward d p
moved_is d p small = ap (λ (n : ℕ). let q : Picture = record { number = n; y = p.y; u = p.u; v = p.v } in q) (plus_is d p.number small)

planned_is : (d : ℕ) (q : Planned) → NumbersHave32Bits (header_behind d (header_of q)) → planned_behind d q ≡ planned_onward d q
planned_is d q range =
    let make : ℕ → Option ℕ → Option ℕ → Option ℕ → Planned = λ n a b c. record { number = n; code = q.code; ref1 = a; ref2 = b; retire = c } in
    ap (λ n. make n (option_map (λ m. m + d) q.ref1) (option_map (λ m. m + d) q.ref2) (option_map (λ m. m + d) q.retire)) (plus_is d q.number range.number)
    ∙ ap₂ (λ (a b : Option ℕ). make (onward d q.number) a b (option_map (λ m. m + d) q.retire)) (option_is d q.ref1 range.first) (option_is d q.ref2 range.second)
    ∙ ap (make (onward d q.number) (onward_of d q.ref1) (onward_of d q.ref2)) (option_is d q.retire range.retired)

jobs_front : (qs : List Planned) (xs more : List Picture) → AllByRecursion (λ (q : Planned). q.number < length xs) qs → map (job_of (xs ++ more)) qs ≡ map (job_of xs) qs
jobs_front [] xs more below = refl
jobs_front (q ∷ qs) xs more below =
    ap₂ (λ (p : Picture) (l : List Job). (let j : Job = record { planned = q; source = p } in j) ∷ l) (at_front xs more q.number below.0) (jobs_front qs xs more below.1)

jobs_behind : (qs : List Planned) (xs ys : List Picture) → AreNumbered 0 ys → length xs + length ys < 2 ^ 31 → AllByRecursion (λ (q : Planned). q.number < length ys) qs → AllByRecursion IsPlanned (map (planned_behind (length xs)) qs)
    → map (job_of (xs ++ map (picture_behind (length xs)) ys)) (map (planned_behind (length xs)) qs) ≡ map (job_onward (length xs)) (map (job_of ys) qs)
jobs_behind [] xs ys numbered small below planned = refl
jobs_behind (q ∷ qs) xs ys numbered small below planned =
    let d = length xs in
    let n = q.number in
    let p = slice_index_or ys n blank in
    let number : p.number ≡ 0 + n = number_at ys 0 n numbered below.0 in
    let source : slice_index_or (xs ++ map (picture_behind d) ys) (n + d) blank ≡ picture_onward d p =
    at_behind xs (map (picture_behind d) ys) n ∙ at_moved ys d n below.0 ∙ moved_is d p (omega (arith, number, below.0)) in
    let make : Planned → Picture → Job = λ a b. record { planned = a; source = b } in
    ap₂ (λ (j : Job) (l : List Job). j ∷ l) (ap₂ make (planned_is d q planned.0.range) source) (jobs_behind qs xs ys numbered small below.1 planned.1)

-- ---- what becomes of them

can_move : (qs : List Planned) (t : Settings) (d : ℕ) (ys refs : List Picture) (index points : ℕ) → AllByRecursion IsPlanned (map (planned_behind d) qs) → AllByRecursion FitsPicture (texts_made index points (coded_from t refs (map (job_of ys) qs)))
    → AllCanMove t d refs (map (job_of ys) qs)
unfolding coded_under AllCanMove
can_move [] t d ys refs index points planned fits = tt
can_move (q ∷ qs) t d ys refs index points planned fits =
    let m = made t refs (job_of ys q) in
    let one : CanMove t d (job_of ys q) m = record { fits = fits.0.payload; range = planned.0.range } in
    (one, can_move qs t d ys (refs_after refs m) (suc (index_up index m)) (points_up points m) planned.1 fits.1)

plain_one : (t : Settings) (d : ℕ) (refs : List Picture) (j : Job) → NumbersHave32Bits (header_behind d (header_of j.planned)) → made_onward d (made t refs j) ≡ made_behind d (made t refs j)
plain_one t d refs j range =
    let m = made t refs j in
    let c = m.coded in
    let n = c.header.number in
    let plus = plus_is d n range.number in
    let small : n < 2 ^ 32 = omega (arith, range.number) in
    let number : number_in_payload m.payload ≡ n = ap number_in_payload (payload_begins (sequence_of t) t.blocks t.precision c) ∙ from_be_bytes-to_be_bytes_4 n small in
    let make : CodedPicture → ℕ → ℕ → Made = λ x k l. record { coded = x; payload = to_be_bytes w32 k ++ drop 4 m.payload; shown = record { number = l; y = m.shown.y; u = m.shown.u; v = m.shown.v } } in
    ap (λ (x : CodedPicture). make x (onward d (number_in_payload m.payload)) (onward d m.shown.number)) (sym (coded_is d c range))
    ∙ ap₂ (λ (k l : ℕ). make (coded_behind d c) k l) (ap (onward d) number ∙ sym plus) (sym plus)

all_plain : (qs : List Planned) (t : Settings) (d : ℕ) (ys refs : List Picture) → AllByRecursion IsPlanned (map (planned_behind d) qs) → map (made_onward d) (coded_from t refs (map (job_of ys) qs)) ≡ map (made_behind d) (coded_from t refs (map (job_of ys) qs))
unfolding coded_under
all_plain [] t d ys refs planned = refl
all_plain (q ∷ qs) t d ys refs planned =
    let m = made t refs (job_of ys q) in
    ap₂ (λ (x : Made) (l : List Made). x ∷ l) (plain_one t d refs (job_of ys q) planned.0.range) (all_plain qs t d ys (refs_after refs m) planned.1)

-- ---- the law

each_second : {X : Type 0} (P : X → Type 0) (xs ys : List X) → AllByRecursion P (xs ++ ys) → AllByRecursion P ys
each_second P [] ys all = all
each_second P (x ∷ xs) ys all = each_second P xs ys all.1

pub behind_alike : PlansCanBeCoded → JobsAreRead → SourcesBehindAreCodedAlike
unfolding coded_under
behind_alike plans law t m xs ys none whole small is numbered =
    let d = length xs in
    let n = length ys in
    let more = map (picture_behind d) ys in
    let all = xs ++ more in
    let some : 0 < t.gop = omega (arith, (paced t is.accepted).gop_least) in
    let count : length all ≡ d + n = length-append xs more ∙ ap (λ k. d + k) (length-map ys (picture_behind d)) in
    let first = plan d t in
    let second = map (planned_behind d) (plan n t) in
    let both : plan (d + n) t ≡ first ++ second = subst (λ (g : ℕ). plan (g + n) t ≡ plan g t ++ map (planned_behind g) (plan n t)) (sym whole) (plans_on t m n none some) in
    let planned = each_second IsPlanned first second (subst (AllByRecursion IsPlanned) both (plans t (d + n) is.accepted (omega arith)).each) in
    let below = (plans t d is.accepted (omega arith)).below in
    let below' = (plans t n is.accepted (omega arith)).below in
    let made = (sources_made plans (jobs_read_under law) own_index own_gives t ys (sources_under t ys is)).0 in
    let codes = codes_of t (coding t ys) [] made in
    let can = can_move (plan n t) t d ys [] 0 0 planned (texts_fit_made t ys [] (plan n t) 0 0 is.short codes) in
    let refs = refs_behind t all [] first in
    let few : length refs ≤ 8 = few_behind t all first [] (omega arith) in
    ap (λ (qs : List Planned). coded_from t [] (map (job_of all) qs)) (ap (λ k. plan k t) count ∙ both)
    ∙ coded_append t all [] first second
    ∙ ap₂ (λ (x y : List Made). x ++ y) (ap (coded_from t []) (jobs_front first xs more below))
    (ap (coded_from t refs) (jobs_behind (plan n t) xs ys numbered small below' planned)
    ∙ coded_behind_others (jobs_of t ys) t d [] refs (none_yet refs) few tt made can
    ∙ all_plain (plan n t) t d ys [] planned)
