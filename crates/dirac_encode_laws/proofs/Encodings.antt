-- The encoding of pictures, of which the first are coded.
use Rattle.std.proofs.Common.{◌≡◌, ℕ, zero, suc, ◌+◌, ◌≤◌, ◌==◌, if◌then◌else◌, Bool, true, false, List, [], ◌∷◌, ◌++◌, length, map, drop, refl, sym, ap, ◌∙◌, subst, arith, append_assoc, append-nil, ne_eqb, Option, None, Some}
use Rattle.std.specs.Prelude.{slice_get}
use Rattle.std.specs.List.{AllByRecursion}
use Rattle.std.proofs.lemmas.List.{map-append}
use Rattle.dirac_common.specs.declared.picture.Picture.{Picture}
use Rattle.dirac_types.specs.declared.settings.Settings.{Settings}
use Rattle.dirac_refs.specs.Delivery.{Leaving, deliver, flushed, pushed_all}
use Rattle.dirac_content.proofs.Flushing.{pushed_append}
use Rattle.dirac_encode_laws.specs.declared.answers.Encoded.{Encoded}
use Rattle.dirac_encode_laws.specs.declared.answers.Encoded.TheVariants as encoded
use Rattle.dirac_encode_laws.specs.Coding.{IndexRule, Job, Made, coded_under, made_under, keyed_reconstructions, refs_after, shown_of, waiting_of}
use Rattle.dirac_encode_laws.specs.Encoding.{Encoding, before_long, encoding_by, first_long, is_short, stream_before}
use Rattle.dirac_encode_laws.specs.Standing.{AreShort, Leave, pushed_now}
use Rattle.dirac_encode_laws.specs.Steps.{last_units, leaving_with, picture_units}
use Rattle.dirac_encode_laws.specs.Stream.{closing, header_before, last_length, picture_length, picture_unit, stream_from, units_of, end_unit, header_length, header_unit}
use Rattle.dirac_plan_laws.specs.Order.{by_number}
use Rattle.dirac_picture.proofs.Taken.{dropped_next}

-- ---- the first long unit

pub first_long_parts : (t : Settings) (ps qs : List Made) → AreShort t ps → first_long t (ps ++ qs) ≡ first_long t qs
first_long_parts t [] qs all = refl
first_long_parts t (p ∷ ps) qs all = rw all.0 (first_long_parts t ps qs all.1)

pub none_long : (t : Settings) (ps : List Made) → AreShort t ps → first_long t ps ≡ None
none_long t [] all = refl
none_long t (p ∷ ps) all = rw all.0 (none_long t ps all.1)

pub before_long_parts : (t : Settings) (ps qs : List Made) → AreShort t ps → before_long t (ps ++ qs) ≡ ps ++ before_long t qs
before_long_parts t [] qs all = refl
before_long_parts t (p ∷ ps) qs all = rw all.0 (ap (λ l. p ∷ l) (before_long_parts t ps qs all.1))

-- ---- the units

pub units_parts : (t : Settings) (previous : ℕ) (ps qs : List Made) → units_of t previous (ps ++ qs) ≡ units_of t previous ps ++ units_of t (last_length previous ps) qs
unfolding units_of
units_parts t previous [] qs = refl
units_parts t previous (p ∷ ps) qs =
    let a = picture_units t previous p in
    let b = units_of t (picture_length p) ps in
    let c = units_of t (last_length (picture_length p) ps) qs in
    ap (λ l. a ++ l) (units_parts t (picture_length p) ps qs) ∙ sym (append_assoc a b c)

pub last_parts : (previous : ℕ) (ps qs : List Made) → last_length previous (ps ++ qs) ≡ last_length (last_length previous ps) qs
last_parts previous [] qs = refl
last_parts previous (p ∷ ps) qs = last_parts (picture_length p) ps qs

-- the units of one picture more
pub units_more : (t : Settings) (previous : ℕ) (ps : List Made) (p : Made) → units_of t previous (ps ++ p ∷ []) ≡ units_of t previous ps ++ picture_units t (last_length previous ps) p
unfolding units_of
units_more t previous ps p =
    units_parts t previous ps (p ∷ []) ∙ ap (λ l. units_of t previous ps ++ l) (append-nil (picture_units t (last_length previous ps) p))

-- ---- the pictures that leave

pub gone_parts : (ps qs : List Made) → (pushed_now (ps ++ qs)).gone ≡ (pushed_now ps).gone ++ (pushed_all (pushed_now ps).waiting (keyed_reconstructions qs)).gone
gone_parts ps qs =
    ap (λ l. (pushed_all [] l).gone) (map-append waiting_of ps qs) ∙ ap (λ (l : Leaving). l.gone) (pushed_append [] (keyed_reconstructions ps) (keyed_reconstructions qs))

pub gone_more : (ps : List Made) (p : Made) → (pushed_now (ps ++ p ∷ [])).gone ≡ (pushed_now ps).gone ++ (leaving_with p (pushed_now ps).waiting).gone
gone_more ps p =
    gone_parts ps (p ∷ []) ∙ ap (λ l. (pushed_now ps).gone ++ l) (append-nil (leaving_with p (pushed_now ps).waiting).gone)

pub waiting_more : (ps : List Made) (p : Made) → (pushed_now (ps ++ p ∷ [])).waiting ≡ (leaving_with p (pushed_now ps).waiting).waiting
waiting_more ps p =
    ap (λ l. (pushed_all [] l).waiting) (map-append waiting_of ps (p ∷ [])) ∙ ap (λ (l : Leaving). l.waiting) (pushed_append [] (keyed_reconstructions ps) (keyed_reconstructions (p ∷ [])))

-- ---- what is still to come

-- a front of what is written as the stream, and of the pictures delivered
pub record Ahead (e : Encoding) (stream : List ℕ) (shown : List Picture) : Type 0 where
  pub rest : List ℕ
  pub later : List Picture
  pub stream_is : e.stream ≡ stream ++ rest
  pub shown_is : e.shown ≡ shown ++ later

shown_ahead : (ps qs : List Made) → Leave (ps ++ qs)
    → by_number (length (ps ++ qs)) (map shown_of (ps ++ qs)) ≡ (pushed_now ps).gone ++ ((pushed_all (pushed_now ps).waiting (keyed_reconstructions qs)).gone ++ flushed (pushed_now (ps ++ qs)).waiting)
shown_ahead ps qs leave =
    let gone = (pushed_all (pushed_now ps).waiting (keyed_reconstructions qs)).gone in
    sym leave ∙ ap (λ l. l ++ flushed (pushed_now (ps ++ qs)).waiting) (gone_parts ps qs) ∙ append_assoc (pushed_now ps).gone gone (flushed (pushed_now (ps ++ qs)).waiting)

ahead_by : (t : Settings) (answer : Encoded) (ps qs : List Made) (o : Option Made) → AreShort t ps → Leave (ps ++ qs) → Ahead (encoding_by t answer (ps ++ qs) o) (units_of t 0 ps) (pushed_now ps).gone
ahead_by t answer ps qs None short leave =
    let here = units_of t 0 ps in
    let more = units_of t (last_length 0 ps) qs in
    let last = closing t (ps ++ qs) in
    record {
      rest = more ++ last;
      later = (pushed_all (pushed_now ps).waiting (keyed_reconstructions qs)).gone ++ flushed (pushed_now (ps ++ qs)).waiting;
      stream_is = ap (λ l. l ++ last) (units_parts t 0 ps qs) ∙ append_assoc here more last;
      shown_is = shown_ahead ps qs leave;
    }
ahead_by t answer ps qs (Some m) short leave =
    let before = before_long_parts t ps qs short in
    let rs = before_long t qs in
    let here = units_of t 0 ps in
    let more = units_of t (last_length 0 ps) rs in
    let last = header_before t m (last_length 0 (ps ++ rs)) in
    record {
      rest = more ++ last;
      later = (pushed_all (pushed_now ps).waiting (keyed_reconstructions rs)).gone;
      stream_is = ap (λ l. stream_before t l m) before ∙ ap (λ l. l ++ last) (units_parts t 0 ps rs) ∙ append_assoc here more last;
      shown_is = ap (λ l. deliver (keyed_reconstructions l)) before ∙ gone_parts ps rs;
    }

-- pictures are coded, and perhaps others follow
pub ahead : (t : Settings) (answer : Encoded) (ps qs : List Made) → AreShort t ps → Leave (ps ++ qs)
    → Ahead (encoding_by t answer (ps ++ qs) (first_long t (ps ++ qs))) (units_of t 0 ps) (pushed_now ps).gone
ahead t answer ps qs short leave = ahead_by t answer ps qs (first_long t (ps ++ qs)) short leave

pub all_more : {X : Type 0} (P : X → Type 0) (xs : List X) (x : X) → AllByRecursion P xs → P x → AllByRecursion P (xs ++ x ∷ [])
all_more P [] x all one = (one, tt)
all_more P (y ∷ xs) x all one = (all.0, all_more P xs x all.1 one)

-- the next unit is too long
pub ends_long : (t : Settings) (answer : Encoded) (ps : List Made) (q : Made) (qs : List Made) → AreShort t ps → is_short t q ≡ false
    → encoding_by t answer (ps ++ q ∷ qs) (first_long t (ps ++ q ∷ qs))
    ≡ record { answer = encoded.UnitTooLong q.coded.header.number; stream = units_of t 0 ps ++ header_before t q (last_length 0 ps); shown = (pushed_now ps).gone }
ends_long t answer ps q qs short long =
    let found : first_long t (ps ++ q ∷ qs) ≡ Some q = first_long_parts t ps (q ∷ qs) short ∙ ap (λ (b : Bool). if b then first_long t qs else Some q) long in
    let before : before_long t (ps ++ q ∷ qs) ≡ ps = before_long_parts t ps (q ∷ qs) short ∙ ap (λ (b : Bool). ps ++ (if b then q ∷ before_long t qs else [])) long ∙ append-nil ps in
    ap (encoding_by t answer (ps ++ q ∷ qs)) found
    ∙ ap (λ l. record { answer = encoded.UnitTooLong q.coded.header.number; stream = stream_before t l q; shown = deliver (keyed_reconstructions l) }) before

-- at least one follows: its sequence header, where it has one, comes next
pub ahead_next : (t : Settings) (answer : Encoded) (ps : List Made) (q : Made) (qs : List Made) → AreShort t ps → Leave (ps ++ q ∷ qs)
    → Ahead (encoding_by t answer (ps ++ q ∷ qs) (first_long t (ps ++ q ∷ qs))) (units_of t 0 ps ++ header_before t q (last_length 0 ps)) (pushed_now ps).gone
unfolding units_of
ahead_next t answer ps q qs short leave = by (is_short t q) refl
  where
    here : List ℕ
    here = units_of t 0 ps

    head : List ℕ
    head = header_before t q (last_length 0 ps)

    by : (b : Bool) → is_short t q ≡ b → Ahead (encoding_by t answer (ps ++ q ∷ qs) (first_long t (ps ++ q ∷ qs))) (here ++ head) (pushed_now ps).gone
    by true e =
        let all = ps ++ q ∷ [] in
        let parts : ps ++ q ∷ qs ≡ all ++ qs = sym (append_assoc ps (q ∷ []) qs) in
        let a = ahead t answer all qs (all_more (λ m. is_short t m ≡ true) ps q short e) (subst Leave parts leave) in
        let own = picture_unit t q (last_length 0 ps) in
        let text : units_of t 0 all ≡ (here ++ head) ++ own = units_more t 0 ps q ∙ sym (append_assoc here head own) in
        let gone = (leaving_with q (pushed_now ps).waiting).gone in
        let b : Ahead (encoding_by t answer (all ++ qs) (first_long t (all ++ qs))) (here ++ head) (pushed_now ps).gone = record {
          rest = own ++ a.rest;
          later = gone ++ a.later;
          stream_is = a.stream_is ∙ ap (λ l. l ++ a.rest) text ∙ append_assoc (here ++ head) own a.rest;
          shown_is = a.shown_is ∙ ap (λ l. l ++ a.later) (gone_more ps q) ∙ append_assoc (pushed_now ps).gone gone a.later;
        } in
        subst (λ (l : List Made). Ahead (encoding_by t answer l (first_long t l)) (here ++ head) (pushed_now ps).gone) (sym parts) b
    by false e =
        let is = ends_long t answer ps q qs short e in
        subst (λ (x : Encoding). Ahead x (here ++ head) (pushed_now ps).gone) (sym is) (record { rest = []; later = []; stream_is = sym (append-nil (here ++ head)); shown_is = sym (append-nil (pushed_now ps).gone) })

-- no other follows
pub ends_whole : (t : Settings) (answer : Encoded) (ps : List Made) → AreShort t ps → Leave ps
    → encoding_by t answer ps (first_long t ps)
    ≡ record { answer = answer; stream = units_of t 0 ps ++ closing t ps; shown = (pushed_now ps).gone ++ flushed (pushed_now ps).waiting }
ends_whole t answer ps short leave =
    ap (encoding_by t answer ps) (none_long t ps short) ∙ ap (λ l. record { answer = answer; stream = stream_from t ps; shown = l }) (sym leave)

-- ---- one picture more is coded

none_left : {X : Type 0} (xs : List X) (n : ℕ) → length xs ≤ n → drop n xs ≡ []
none_left [] zero few = refl
none_left [] (suc n) few = refl
none_left (x ∷ xs) zero few = absurd (omega (arith, few))
none_left (x ∷ xs) (suc n) few = none_left xs n (omega (arith, few))

-- the next job is known: what it becomes joins those that are coded
pub coded_more : (f : IndexRule) (t : Settings) (all : List Made) (done : List Made) (refs : List Picture) (jobs : List Job) (n : ℕ) (j : Job) → all ≡ done ++ coded_under f t refs (drop n jobs) → slice_get jobs n ≡ Some j
    → all ≡ (done ++ made_under f t refs j ∷ []) ++ coded_under f t (refs_after refs (made_under f t refs j)) (drop (n + 1) jobs)
unfolding coded_under
coded_more f t all done refs jobs n j is there =
    is ∙ ap (λ l. done ++ coded_under f t refs l) (dropped_next jobs n j there)
    ∙ sym (append_assoc done (made_under f t refs j ∷ []) (coded_under f t (refs_after refs (made_under f t refs j)) (drop (n + 1) jobs)))

-- no job is left: all are coded
pub coded_all : (f : IndexRule) (t : Settings) (all done : List Made) (refs : List Picture) (jobs : List Job) (n : ℕ) → all ≡ done ++ coded_under f t refs (drop n jobs) → length jobs ≤ n → all ≡ done
unfolding coded_under
coded_all f t all done refs jobs n is few =
    is ∙ ap (λ l. done ++ coded_under f t refs l) (none_left jobs n few) ∙ append-nil done

-- the last units, by the count of pictures
pub closing_is : (t : Settings) (ms : List Made) → closing t ms ≡ last_units t (length ms) (last_length 0 ms)
closing_is t [] = refl
closing_is t (m ∷ ms) =
    let some : (length (m ∷ ms) == 0) ≡ false = ne_eqb (length (m ∷ ms)) 0 (λ e. omega (arith, e)) in
    ap (λ (b : Bool). if b then header_unit t 0 ++ end_unit (header_length t) else end_unit (last_length 0 (m ∷ ms))) (sym some)
