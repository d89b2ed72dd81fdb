-- The payload of a planned source is read again as it was coded.
use Rattle.dirac_picture.specs.Written.{payload_by}
use Rattle.std.proofs.Common.{◌≡◌, ℕ, ◌+◌, ◌-◌, ◌*◌, ◌/◌, ◌%◌, ◌<◌, ◌≤◌, ◌^◌, if◌then◌else◌, Bool, true, false, List, [], ◌∷◌, ◌++◌, length, Option, None, Some, Ok, refl, sym, ap, ◌∙◌, subst, arith, length-append}
use Rattle.std.specs.Prelude.{is_some}
use Rattle.std.specs.List.{AllByRecursion}
use Rattle.std.specs.Option.{ForSome}
use Rattle.std.proofs.lemmas.Bool.{and_parts, le-leb}
use Rattle.std.proofs.lemmas.List.{length-replicate}
use Rattle.dirac_common.specs.Bits.{bits_of}
use Rattle.dirac_common.specs.Bytes.{bytes_in, bytes_of}
use Rattle.dirac_common.specs.declared.formats.Kind.{Kind}
use Rattle.dirac_common.specs.declared.picture.Picture.{Picture}
use Rattle.dirac_types.specs.declared.settings.Settings.{Settings}
use Rattle.dirac_types.specs.Settings.{IsAccepted}
use Rattle.dirac_types.specs.Sizes.{picture_height}
use Rattle.dirac_types.proofs.Accepted.{in_range}
use Rattle.dirac_common.specs.Numbers.{uint}
use Rattle.dirac_common.specs.Table.{Table}
use Rattle.dirac_arith.specs.Interval.{Decision}
use Rattle.dirac_arith.specs.Written.{flush}
use Rattle.dirac_bits.specs.Spelling.{SpelledBehind}
use Rattle.dirac_bits.specs.Syntax.{Syntax}
use Rattle.dirac_bits.specs.Writing.{IsWhole, gap, up_to_byte}
use Rattle.dirac_bits.proofs.Bits.{length-bits_of}
use Rattle.dirac_bits.proofs.Whole.{whole_read}
use Rattle.dirac_bands.specs.Geometry.{lowest_size}
use Rattle.dirac_sequence_header.specs.declared.sequence.Sequence.{Sequence}
use Rattle.dirac_sequence.specs.Written.{sequence_of}
use Rattle.dirac_header.specs.Codes.{references_of}
use Rattle.dirac_header.specs.Written.{header_bits, prediction_bits, prediction_of}
use Rattle.dirac_header.proofs.HeaderSpelled.{header_spelled}
use Rattle.dirac_header.proofs.PredictionSpelled.{prediction_spelled}
use Rattle.dirac_blocks.specs.Decisions.{block_decisions, least_numbers}
use Rattle.dirac_blocks.specs.Grammar.{blocks}
use Rattle.dirac_block_table.specs.Tables.{BlockTable}
use Rattle.dirac_blocks.specs.Written.{ListsHaveShortBlocks, with_block, with_lists}
use Rattle.dirac_blocks.proofs.Spelled.{table_spelled}
use Rattle.dirac_common.specs.declared.formats.Component.{Component}
use Rattle.dirac_common.specs.declared.formats.Component.TheVariants as component
use Rattle.dirac_picture.specs.declared.coded.CodedMotion.{CodedMotion}
use Rattle.dirac_picture.specs.declared.coded.CodedResidual.{CodedResidual}
use Rattle.dirac_picture.specs.Grammar.{are_listed, chroma_height, chroma_width, is_intra, is_listed, motion, picture, picture_read, prediction_fields, residual_fields, residual_unless, zero_residual}
use Rattle.dirac_picture.specs.Writable.{IsWritten}
use Rattle.dirac_picture.specs.Written.{with_coefficients, with_flag, with_residual}
use Rattle.dirac_encode_laws.specs.Payloads.{HasSpelledBlocks, payload_of, with_blocks, with_motion, with_coded_picture}
use Rattle.dirac_picture.proofs.Spelled.{behind_align, fields_spelled, flag_spelled, left_out, motion_spelled, no_flag, no_motion, not_left_out, picture_spelled, whole_starts}
use Rattle.dirac_picture.proofs.Written.{residual_written}
use Rattle.dirac_analysis.specs.Fits.{AreDifferences, AreLevelBands}
use Rattle.dirac_analysis.proofs.Fitting.{planes_fit, samples_small}
use Rattle.dirac_content.specs.Content.{IsPicture, height_of, named, plane_of, width_of}
use Rattle.dirac_plan.specs.declared.planned.Planned.{Planned}
use Rattle.dirac_encode_laws.specs.Coded.{IsSourcePlane, IsSource, quantised_bands_of, coded_with, is_left_out, kind_of, residual_plane, motion_with, residual_of, residual_unless_left_out, transform_of}
use Rattle.dirac_encode_laws.specs.Laws.{JobsAreRead, JobsAreSmall}
use Rattle.dirac_encode_laws.specs.Tables.{TablesAreChosen}
use Rattle.dirac_motion.specs.Chosen.{ChosenTablesFit, IsChosen, chosen}
use Rattle.dirac_encode_laws.specs.Codable.{ResidualIsSmall, IsCodable}
use Rattle.dirac_encode_laws.proofs.Coding.{bands_fit, bands_writable, bands_small, codable, is_written}
use Rattle.dirac_encode_laws.proofs.Headers.{length-bytes_in}
use Rattle.dirac_encode_laws.proofs.InBytes.{bytes_again}
use Rattle.dirac_encode_laws.proofs.Lefts.{IsPredicting, differences_small, found_is, named_is, picture_is, predicted_are, samples_are}
use Rattle.dirac_sequence.proofs.Sizes.{sequence_lawful}
use Rattle.dirac_plan_laws.specs.Headers.{IsPlanned, header_of}

-- ---- settings

pub predicting : (t : Settings) → IsAccepted t → IsPredicting t
predicting t is = let range = in_range t is in record {
  lawful = sequence_lawful t (codable t is).sequence;
  some_blocks = range.blocks.0;
  most_blocks = range.blocks.1;
  precision = range.precision;
}

-- ---- what is left fits what codes it

-- a plane of this size whose values can be coded
pub record IsLeft (width height : ℕ) (t : Table) : Type 0 where
  pub across : t.width ≡ width
  pub down : t.height ≡ height
  pub small : AreDifferences t.values

pub source_plane : (t : Settings) (p : Picture) (o : Component) → IsSource t p → IsSourcePlane (width_of (sequence_of t) o) (height_of (sequence_of t) o) (plane_of p o)
unfolding sequence_of
source_plane t p component.Y is = is.y
source_plane t p component.U is = is.u
source_plane t p component.V is = is.v

-- the motion of a planned picture: just an inter picture has one, by a block table that fits it
pub data Moves (t : Settings) (q : Planned) : Option CodedMotion → Type 0 where
  stays : is_intra q.code ≡ true → Moves t q None
  moves : (b : BlockTable) → is_intra q.code ≡ false → IsChosen t q.code b → Moves t q (Some (motion_with t b))

pub second_found : (refs : List Picture) (q : Planned) → IsPlanned q → are_listed refs (header_of q) ≡ true → references_of q.code ≡ 2 → named refs q.ref2 ≡ None → ⊥
second_found refs q is found two =
    let some : is_some q.ref2 ≡ true = is.references.second ∙ le-leb 2 (references_of q.code) (omega (arith, two)) in
    found_is refs q.ref2 some (and_parts (is_listed refs q.ref1) (is_listed refs q.ref2) found).1

pub left_fits : (t : Settings) (refs : List Picture) (q : Planned) (p : Picture) (m : Option CodedMotion) (o : Component) → IsAccepted t → AllByRecursion (IsSource t) refs → IsSource t p → IsPlanned q → are_listed refs (header_of q) ≡ true
    → Moves t q m → IsLeft (width_of (sequence_of t) o) (height_of (sequence_of t) o) (residual_plane t refs (header_of q) m p o)
left_fits t refs q p None o accepted listed source planned found (stays intra) =
    let plane = source_plane t p o source in
    record { across = plane.across; down = plane.down; small = samples_small (plane_of p o).values plane.samples }
left_fits t refs q p (Some m) o accepted listed source planned found (moves b inter chose) =
    let plane = source_plane t p o source in
    record {
      across = plane.across;
      down = plane.down;
      small = differences_small (plane_of p o) _ (samples_are (plane_of p o).values plane.samples)
          (predicted_are t q.code b (named refs q.ref1) (named refs q.ref2) o (predicting t accepted) chose (named_is (IsSource t) refs q.ref1 listed) (named_is (IsSource t) refs q.ref2 listed)
          (second_found refs q planned found));
    }

level_bands : (t : Settings) (kind : Kind) (width height : ℕ) (plane : Table) → IsCodable t → IsLeft width height plane → AreLevelBands (transform_of t).counts t.finer (lowest_size width t.depth) (lowest_size height t.depth) t.depth (quantised_bands_of t kind plane)
level_bands t kind width height plane codes is =
    subst (λ w. AreLevelBands (transform_of t).counts t.finer (lowest_size w t.depth) (lowest_size height t.depth) t.depth (quantised_bands_of t kind plane)) is.across
    (subst (λ h. AreLevelBands (transform_of t).counts t.finer (lowest_size plane.width t.depth) (lowest_size h t.depth) t.depth (quantised_bands_of t kind plane)) is.down
    (planes_fit kind (transform_of t) t.finer t.index plane codes.wavelet codes.depth.1 codes.index is.small))

pub residual_fits : (t : Settings) (refs : List Picture) (q : Planned) (p : Picture) (m : Option CodedMotion) → IsAccepted t → AllByRecursion (IsSource t) refs → IsSource t p → IsPlanned q → are_listed refs (header_of q) ≡ true
    → Moves t q m → IsWritten (sequence_of t) (residual_of t refs (header_of q) m p)
unfolding sequence_of
residual_fits t refs q p m accepted listed source planned found is =
    let codes = codable t accepted in
    let s = sequence_of t in
    let left : (o : Component) → IsLeft (width_of s o) (height_of s o) (residual_plane t refs (header_of q) m p o) = λ o. left_fits t refs q p m o accepted listed source planned found is in
    let bands : Component → List _ = λ o. quantised_bands_of t (kind_of m) (residual_plane t refs (header_of q) m p o) in
    let y = level_bands t (kind_of m) t.width (picture_height t) (residual_plane t refs (header_of q) m p component.Y) codes (left component.Y) in
    let u = level_bands t (kind_of m) (chroma_width s) (chroma_height s) (residual_plane t refs (header_of q) m p component.U) codes (left component.U) in
    let v = level_bands t (kind_of m) (chroma_width s) (chroma_height s) (residual_plane t refs (header_of q) m p component.V) codes (left component.V) in
    is_written t (residual_of t refs (header_of q) m p) codes refl
    (bands_fit t t.width (picture_height t) (bands component.Y) codes.depth.0 y) (bands_fit t (chroma_width s) (chroma_height s) (bands component.U) codes.depth.0 u) (bands_fit t (chroma_width s) (chroma_height s) (bands component.V) codes.depth.0 v)
    (bands_writable t t.width (picture_height t) (bands component.Y) codes.depth.0 y) (bands_writable t (chroma_width s) (chroma_height s) (bands component.U) codes.depth.0 u)
    (bands_writable t (chroma_width s) (chroma_height s) (bands component.V) codes.depth.0 v)

-- ---- the lengths of blocks

with_block_length : (block : List ℕ) (bits : List Bool) → length bits + 8 * length block ≤ length (with_block block bits)
with_block_length block bits =
    let u = bits ++ uint (length block) in
    omega (arith, length-append (up_to_byte u) (bits_of block), length-bits_of block, length-append u (gap u), length-append bits (uint (length block)))

lists_longer : (lists : List (List Decision)) (bits : List Bool) → length bits ≤ length (with_lists lists bits)
lists_longer [] bits = omega arith
lists_longer (ds ∷ more) bits = omega (arith, lists_longer more (with_block (flush ds) bits), with_block_length (flush ds) bits)

pub lists_short : (lists : List (List Decision)) (bits : List Bool) → length (with_lists lists bits) < 2 ^ 40 → ListsHaveShortBlocks lists
lists_short [] bits small = tt
lists_short (ds ∷ more) bits small =
    let here = with_block_length (flush ds) bits in
    let rest = lists_longer more (with_block (flush ds) bits) in
    (omega (arith, here, rest, small), lists_short more (with_block (flush ds) bits) small)

-- ---- the parts of a payload

byte_whole : (bits : List Bool) → IsWhole (up_to_byte bits)
byte_whole bits = omega (arith, length-append bits (gap bits), length-replicate ((8 - length bits % 8) % 8) false)

fields_written : (t : Settings) (code : ℕ) (b : BlockTable) (old : List Bool) → IsPredicting t → IsChosen t code b → HasSpelledBlocks t (Some (motion_with t b)) old
    → SpelledBehind (prediction_fields code (sequence_of t)) (motion_with t b) old (with_blocks t b old)
unfolding blocks
fields_written t code b old is c table =
    let s = sequence_of t in
    let mid = old ++ prediction_bits old t.blocks t.precision in
    let new = with_blocks t b old in
    let behind : SpelledBehind (blocks b.across b.down b.refs) b mid new = behind_align _ b mid new table in
    fields_spelled code s (prediction_of t.blocks t.precision) b old mid new
    (prediction_spelled old mid t.blocks t.precision is.some_blocks is.most_blocks is.precision refl code s.chroma) c.across c.down
    (subst (λ n. SpelledBehind (blocks b.across b.down n) b mid new) c.refs behind)

motion_written : (t : Settings) (q : Planned) (m : Option CodedMotion) (old : List Bool) → IsPredicting t → Moves t q m → HasSpelledBlocks t m old
    → SpelledBehind (motion q.code (sequence_of t)) m old (with_motion t m old)
motion_written t q None old is (stays intra) spelled = no_motion q.code (sequence_of t) old intra
motion_written t q (Some m) old is (moves b inter chose) spelled =
    motion_spelled q.code (sequence_of t) (motion_with t b) old (with_blocks t b old) inter (fields_written t q.code b old is chose spelled)

-- a block table is spelt if it isn't too long
blocks_spelled : (t : Settings) (q : Planned) (m : Option CodedMotion) (old : List Bool) → Moves t q m → length (with_motion t m old) < 2 ^ 40 → HasSpelledBlocks t m old
blocks_spelled t q None old (stays intra) small = tt
blocks_spelled t q (Some m) old (moves b inter chose) small =
    let start = up_to_byte (old ++ prediction_bits old t.blocks t.precision) in
    table_spelled b start chose.table (byte_whole (old ++ prediction_bits old t.blocks t.precision)) (lists_short (block_decisions b (least_numbers b)) start small)

-- the flag, and the residual where it is written
pub record Coefficients (code : ℕ) (s : Sequence) (r : Option CodedResidual) (old new : List Bool) : Type 0 where
  pub none : Bool
  pub mid : List Bool
  pub flag : SpelledBehind (zero_residual code) none old mid
  pub rest : SpelledBehind (residual_unless none s) r mid new

unless_left_out : (code : ℕ) (s : Sequence) (r : CodedResidual) (b : Bool) (old : List Bool) → is_intra code ≡ false → ((start : List Bool) → SpelledBehind (residual_fields s) r start (with_residual s r start))
    → Coefficients code s (if b then None else Some r) old (with_coefficients s code (if b then None else Some r) old)
unless_left_out code s r true old inter written =
    let flagged = old ++ true ∷ [] in
    let whole : with_flag code true old ≡ flagged = ap (λ (i : Bool). if i then old else flagged) inter in
    subst (λ (l : List Bool). Coefficients code s None old l) (sym whole) (record { none = true; mid = flagged; flag = flag_spelled code true old inter; rest = left_out s flagged })
unless_left_out code s r false old inter written =
    let flagged = old ++ false ∷ [] in
    let whole : with_flag code false old ≡ flagged = ap (λ (i : Bool). if i then old else flagged) inter in
    subst (λ (l : List Bool). Coefficients code s (Some r) old (with_residual s r l)) (sym whole)
    (record { none = false; mid = flagged; flag = flag_spelled code false old inter; rest = not_left_out s r flagged (with_residual s r flagged) (written flagged) })

coefficients_written : (t : Settings) (refs : List Picture) (q : Planned) (p : Picture) (m : Option CodedMotion) (old : List Bool) → IsPredicting t → Moves t q m → IsWritten (sequence_of t) (residual_of t refs (header_of q) m p)
    → Coefficients q.code (sequence_of t) (residual_unless_left_out t m (residual_of t refs (header_of q) m p)) old (with_coefficients (sequence_of t) q.code (residual_unless_left_out t m (residual_of t refs (header_of q) m p)) old)
coefficients_written t refs q p None old is (stays intra) fits =
    let s = sequence_of t in
    let r = residual_of t refs (header_of q) None p in
    let whole : with_flag q.code false old ≡ old = ap (λ (i : Bool). if i then old else (old ++ false ∷ [])) intra in
    subst (λ (l : List Bool). Coefficients q.code s (Some r) old (with_residual s r l)) (sym whole)
    (record { none = false; mid = old; flag = no_flag q.code old intra; rest = not_left_out s r old (with_residual s r old) (residual_written s r old is.lawful fits) })
coefficients_written t refs q p (Some m) old is (moves b inter chose) fits =
    let s = sequence_of t in
    let mm = motion_with t b in
    let r = residual_of t refs (header_of q) (Some mm) p in
    unless_left_out q.code s r (is_left_out t r) old inter (λ start. residual_written s r start is.lawful fits)

-- what is behind other bits is no shorter
spelled_longer : {A : Type 0} (s : Syntax A) (x : A) (old new : List Bool) → SpelledBehind s x old new → length old ≤ length new
spelled_longer s x old new is = omega (arith, ap length is.is, length-append old is.bits)

-- ---- the whole

pub moves_so : TablesAreChosen → (t : Settings) (refs : List Picture) (q : Planned) (p : Picture) → IsAccepted t → AllByRecursion (IsSource t) refs → IsSource t p → IsPlanned q → are_listed refs (header_of q) ≡ true
    → (b : Bool) → is_intra q.code ≡ b → Moves t q (if b then None else Some (motion_with t (chosen t refs q p)))
moves_so law t refs q p accepted listed source planned found true e = stays e
moves_so law t refs q p accepted listed source planned found false e = moves (chosen t refs q p) e (law t refs q p accepted listed source planned found e)

-- the payload of a coded picture is read again, where its block table is spelt
pub read_spelled : (t : Settings) (refs : List Picture) (q : Planned) (p : Picture) (m : Option CodedMotion) → IsAccepted t → AllByRecursion (IsSource t) refs → IsSource t p → IsPlanned q → are_listed refs (header_of q) ≡ true → Moves t q m
    → HasSpelledBlocks t m (header_bits [] q.code (header_of q)) → picture_read q.code (sequence_of t) refs (payload_of t (coded_with t refs q p m)) ≡ Ok (coded_with t refs q p m)
unfolding payload_by
read_spelled t refs q p m accepted listed source planned found is blocks =
    let s = sequence_of t in
    let c = coded_with t refs q p m in
    let predicts = predicting t accepted in
    let fits = residual_fits t refs q p m accepted listed source planned found is in
    let head = [] ++ header_bits [] q.code (header_of q) in
    let mid = with_motion t m head in
    let last = coefficients_written t refs q p m (up_to_byte mid) predicts is fits in
    let bits = with_coded_picture t c [] in
    let bytes = bytes_of (up_to_byte bits) in
    let first = header_spelled [] head q.code (header_of q) planned.range planned.references planned.retires refl in
    let spelled : SpelledBehind (picture q.code s refs) c [] bits =
    picture_spelled q.code s refs (header_of q) m last.none c.residual [] head mid last.mid bits first found (motion_written t q m head predicts is blocks) last.flag last.rest in
    whole_read (picture q.code s refs) c bytes (whole_starts (picture q.code s refs) c [] bits bytes refl spelled (bytes_again bits))

-- and where its unit is shorter than 2^32 bytes, so that its block table is short enough
pub read_with : (t : Settings) (refs : List Picture) (q : Planned) (p : Picture) (m : Option CodedMotion) → IsAccepted t → AllByRecursion (IsSource t) refs → IsSource t p → IsPlanned q → are_listed refs (header_of q) ≡ true → Moves t q m
    → 13 + length (payload_of t (coded_with t refs q p m)) < 2 ^ 32 → picture_read q.code (sequence_of t) refs (payload_of t (coded_with t refs q p m)) ≡ Ok (coded_with t refs q p m)
unfolding payload_by bytes_in
read_with t refs q p m accepted listed source planned found is short =
    let s = sequence_of t in
    let c = coded_with t refs q p m in
    let fits = residual_fits t refs q p m accepted listed source planned found is in
    let head = [] ++ header_bits [] q.code (header_of q) in
    let mid = with_motion t m head in
    let last = coefficients_written t refs q p m (up_to_byte mid) (predicting t accepted) is fits in
    let bits = with_coded_picture t c [] in
    let bytes = bytes_of (up_to_byte bits) in
    let count : length bytes ≡ length (up_to_byte bits) / 8 = length-bytes_in (length (up_to_byte bits) / 8) (up_to_byte bits) in
    let whole : length (up_to_byte bits) ≡ length bits + length (gap bits) = length-append bits (gap bits) in
    let longer = spelled_longer (zero_residual q.code) last.none (up_to_byte mid) last.mid last.flag in
    let longest = spelled_longer (residual_unless last.none s) c.residual last.mid bits last.rest in
    let some : length (up_to_byte mid) ≡ length mid + length (gap mid) = length-append mid (gap mid) in
    let small : length mid < 2 ^ 40 = omega (arith, short, count, whole, longer, longest, some) in
    read_spelled t refs q p m accepted listed source planned found is (blocks_spelled t q m head is small)

-- the tables of the definitions are those that fit
pub tables_chosen : ChosenTablesFit → TablesAreChosen
tables_chosen law t refs q p accepted listed source planned found inter =
    let one : (o : Option ℕ) → ForSome (named refs o) (IsPicture (sequence_of t)) = λ o x e. picture_is t x (named_is (IsSource t) refs o listed x e) in
    law t refs q p
    (record {
      accepted = accepted;
      source = picture_is t p source;
      references = record { listed = found; first = one q.ref1; second = one q.ref2 };
      header = planned.references;
      predicted = planned.predicted;
    })
    inter

pub jobs_read : TablesAreChosen → JobsAreRead
jobs_read law t refs j accepted listed source planned found short =
    let q = j.planned in
    let p = j.source in
    read_with t refs q p _ accepted listed source planned found (moves_so law t refs q p accepted listed source planned found (is_intra q.code) refl) short

pub residual_small : (t : Settings) (refs : List Picture) (q : Planned) (p : Picture) (m : Option CodedMotion) → IsAccepted t → AllByRecursion (IsSource t) refs → IsSource t p → IsPlanned q → are_listed refs (header_of q) ≡ true
    → Moves t q m → ResidualIsSmall (residual_of t refs (header_of q) m p)
unfolding sequence_of
residual_small t refs q p m accepted listed source planned found is =
    let codes = codable t accepted in
    let s = sequence_of t in
    let left : (o : Component) → IsLeft (width_of s o) (height_of s o) (residual_plane t refs (header_of q) m p o) = λ o. left_fits t refs q p m o accepted listed source planned found is in
    let bands : Component → List _ = λ o. quantised_bands_of t (kind_of m) (residual_plane t refs (header_of q) m p o) in
    record {
      y = bands_small (transform_of t).counts t.finer (lowest_size t.width t.depth) (lowest_size (picture_height t) t.depth) t.depth (bands component.Y) (level_bands t (kind_of m) t.width (picture_height t) (residual_plane t refs (header_of q) m p component.Y) codes (left component.Y));
      u = bands_small (transform_of t).counts t.finer (lowest_size (chroma_width s) t.depth) (lowest_size (chroma_height s) t.depth) t.depth (bands component.U) (level_bands t (kind_of m) (chroma_width s) (chroma_height s) (residual_plane t refs (header_of q) m p component.U) codes (left component.U));
      v = bands_small (transform_of t).counts t.finer (lowest_size (chroma_width s) t.depth) (lowest_size (chroma_height s) t.depth) t.depth (bands component.V) (level_bands t (kind_of m) (chroma_width s) (chroma_height s) (residual_plane t refs (header_of q) m p component.V) codes (left component.V));
    }

pub jobs_small : TablesAreChosen → JobsAreSmall
jobs_small law t refs j accepted listed source planned found =
    let q = j.planned in
    residual_small t refs q j.source _ accepted listed source planned found (moves_so law t refs q j.source accepted listed source planned found (is_intra q.code) refl)
