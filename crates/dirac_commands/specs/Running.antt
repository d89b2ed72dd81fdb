-- What a run answers, reads and writes, command by command.
use Rattle.std.specs.Prelude.{◌≡◌, ℕ, ◌≤◌, List, Option, None, Some, IfSome, Result, Ok, Err, []}
use Rattle.std.specs.Io.KnownBytes.{IsAtEnd}
use Rattle.dirac_types.specs.declared.settings.BadSetting.{BadSetting}
use Rattle.dirac_types.specs.declared.settings.Settings.{Settings}
use Rattle.dirac_types.specs.Settings.{first_bad, table}
use Rattle.dirac_content.specs.Leaving.{IsBrokenOff, IsFrontOfRead}
use Rattle.dirac_encode_laws.specs.Alike.{AreShownAlike}
use Rattle.dirac_encode_laws.specs.Coding.{own_index}
use Rattle.dirac_encode_laws.specs.Encoding.{encoding, encoding_under}
use Rattle.dirac_encode_laws.specs.Fit.{AllFitOrNone, fit}
use Rattle.dirac_encode_laws.specs.Standing.{jobs_in}
use Rattle.dirac_encode.specs.Alone.{WritesDue, WritesFrontOfRead}
use Rattle.dirac_choice_laws.specs.Insides.{HaveVectorsInside}
use Rattle.dirac_choice_laws.specs.Pictures.{AreLeastInters}
use Rattle.dirac_choice_laws.specs.Workers.{with_workers}
use Rattle.dirac_command_line.specs.Checks.{bad_workers, first_bad_for_make, first_bad_for_rate}
use Rattle.dirac_command_line.specs.declared.ended.Ended.{Ended}
use Rattle.dirac_command_line.specs.declared.ended.Ended.TheVariants as ended
use Rattle.dirac_command_line.specs.declared.words.Command.{Command}
use Rattle.dirac_command_line.specs.declared.words.Command.TheVariants as command
use Rattle.dirac_command_line.specs.declared.words.WordsStop.{WordsStop}
use Rattle.dirac_command_line.specs.declared.words.WordsStop.TheVariants.{Usage}
use Rattle.dirac_stream_commands.specs.Cutting.{Cuts}
use Rattle.dirac_stream_commands.specs.Decoding.{IsDecoded, IsDecodeAnswer, TellsFew}
use Rattle.dirac_encode_commands.specs.Delivered.{DeliversShown, SideGetsShown}
use Rattle.dirac_encode_commands.specs.Encoding.{EndsStream, IsEncoded, IsEncodeAnswer}
use Rattle.dirac_stream_commands.specs.Inside.{IsFaultInside}
use Rattle.dirac_stream_commands.specs.Joining.{Joins}
use Rattle.dirac_stream_commands.specs.Listing.{IsFrontListed, IsListed, IsListAnswer, IsReadListed}
use Rattle.dirac_encode_commands.specs.Making.{AnswersMake, making}
use Rattle.dirac_encode_commands.specs.Rating.{IsRated}

-- the bytes that the source holds and that the two sinks took, where they tell them
pub record Held : Type 0 where
  pub held : Option (List ℕ)
  pub out : Option (List ℕ)
  pub side : Option (List ℕ)

-- `list`: the lines of the cut of the bytes held, and its end or fault; nothing is said beside them; what wasn't read
-- is still held, and whatever is answered, a front of the lines of the units in what was read was written; where a
-- read fails, all of them
pub record Lists (old new : Held) (answer : Ended) : Type 0 where
  pub answers : IsListAnswer answer
  pub listed : IfSome old.held (λ bytes. IsListed bytes answer old.out new.out)
  pub whole : answer ≡ ended.Done → IsAtEnd new.held
  pub front_of_read : IfSome old.held (λ bytes. IsFrontListed bytes new.held old.out new.out)
  pub broken_off : answer ≡ ended.ReadFault → IfSome old.held (λ bytes. IsReadListed bytes new.held old.out new.out)
  pub side : new.side ≡ old.side
  pub fault_inside : IfSome old.held (IsFaultInside answer)

-- `decode`: the pictures that the bytes held show, and their tally; what wasn't read is still held, and whatever is
-- answered, a front of what the bytes read show by themselves was written; where a read fails, just the pictures that
-- leave while the units that were read whole are taken
pub record Decodes (old new : Held) (answer : Ended) : Type 0 where
  pub answers : IsDecodeAnswer answer
  pub decoded : IfSome old.held (λ bytes. IsDecoded bytes answer old.out new.out old.side new.side)
  pub tells_at_most_8_references : IfSome old.held (TellsFew answer)
  pub whole : answer ≡ ended.Done → IsAtEnd new.held
  pub front_of_read : IfSome old.held (λ bytes. IsFrontOfRead bytes new.held old.out new.out)
  pub broken_off : answer ≡ ended.ReadFault → IfSome old.held (λ bytes. IsBrokenOff bytes new.held old.out new.out)
  pub fault_inside : IfSome old.held (IsFaultInside answer)

-- `pardecode`: what `decode` leaves, or the number of workers is out of its range, is answered and nothing is read or
-- written
abbrev pub DecodesUnless : Option BadSetting → Held → Held → Ended → Type 0
DecodesUnless (Some bad) old new answer = (answer ≡ ended.BadSettings bad) × (new ≡ old)
DecodesUnless None old new answer = Decodes old new answer

-- `encode` with accepted settings: the stream of the raw pictures that the bytes held are, and their reconstructions,
-- which are just what the stream shows; each inter picture costs least, and the number of workers changes nothing;
-- where the settings ask for it each inter picture has a residual and vectors that keep inside, so that decoders which
-- differ from the standard show it alike; what wasn't read is still held, and whatever is answered, fronts of the
-- encoding of the bytes read by themselves were written; where a read fails, all but the pictures that may wait
pub record Encodes (t : Settings) (old new : Held) (answer : Ended) : Type 0 where
  pub answers : IsEncodeAnswer answer
  pub encoded : IfSome old.held (λ bytes. IsEncoded t bytes answer old.out new.out old.side new.side)
  pub front_of_read : IfSome old.held (λ bytes. WritesFrontOfRead own_index t bytes new.held old.out new.out
      old.side new.side)
  pub due : answer ≡ ended.ReadFault → IfSome old.held (λ bytes. WritesDue own_index t bytes new.held old.out new.out
      old.side new.side)
  pub whole : answer ≡ ended.Done → IsAtEnd new.held
  pub partial : (n : ℕ) → answer ≡ ended.PartialPicture n → (1 ≤ n) × IsAtEnd new.held
  pub shows : IfSome old.held (λ bytes. EndsStream answer → SideGetsShown (encoding t bytes) old.side new.side)
  pub least : (bytes : List ℕ) → AreLeastInters own_index t [] (jobs_in t bytes)
  pub workers : (workers : ℕ) (bytes : List ℕ) → encoding (with_workers t workers) bytes ≡ encoding t bytes
  pub alike : (bytes : List ℕ) → t.alike ≡ 1
      → AreShownAlike own_index t [] (jobs_in t bytes) × HaveVectorsInside own_index t [] (jobs_in t bytes)

-- `encode`: the first setting that is out of its range is answered and nothing is read or written, or there is none
abbrev pub EncodesUnless : Option BadSetting → Settings → Held → Held → Ended → Type 0
EncodesUnless (Some bad) t old new answer = (answer ≡ ended.BadSettings bad) × (new ≡ old)
EncodesUnless None t old new answer = Encodes t old new answer

-- `make` with accepted settings and number of pictures: nothing is read, and nothing is said beside what comes out;
-- what is counted as exact is among what the stream shows
pub record Makes (t : Settings) (count : ℕ) (old new : Held) (answer : Ended) : Type 0 where
  pub made : AnswersMake answer t count old.out new.out
  pub unread : new.held ≡ old.held
  pub side : new.side ≡ old.side
  pub shows : answer ≡ ended.Done → DeliversShown (making t count)

-- `make`: the first setting that is out of its range, or else the number of pictures, is answered and nothing is
-- written
abbrev pub MakesUnless : Option BadSetting → Settings → ℕ → Held → Held → Ended → Type 0
MakesUnless (Some bad) t count old new answer = (answer ≡ ended.BadSettings bad) × (new ≡ old)
MakesUnless None t count old new answer = Makes t count old new answer

-- `rate` with accepted settings and budget: as `encode`, with the least index for each picture by which its unit fits;
-- each unit fits, or at no index from the settings' on does
pub record Rates (t : Settings) (budget : ℕ) (old new : Held) (answer : Ended) : Type 0 where
  pub answers : IsEncodeAnswer answer
  pub rated : IfSome old.held (λ bytes. IsRated t budget bytes answer old.out new.out old.side new.side)
  pub front_of_read : IfSome old.held (λ bytes. WritesFrontOfRead (fit budget) t bytes new.held old.out new.out
      old.side new.side)
  pub due : answer ≡ ended.ReadFault → IfSome old.held (λ bytes. WritesDue (fit budget) t bytes new.held old.out
      new.out old.side new.side)
  pub fits : (bytes : List ℕ) → AllFitOrNone budget t [] (jobs_in t bytes)
  pub whole : answer ≡ ended.Done → IsAtEnd new.held
  pub partial : (n : ℕ) → answer ≡ ended.PartialPicture n → (1 ≤ n) × IsAtEnd new.held
  pub shows : IfSome old.held (λ bytes. EndsStream answer
      → SideGetsShown (encoding_under (fit budget) t bytes) old.side new.side)
  pub least : (bytes : List ℕ) → AreLeastInters (fit budget) t [] (jobs_in t bytes)
  pub workers : (workers : ℕ) (bytes : List ℕ)
      → encoding_under (fit budget) (with_workers t workers) bytes ≡ encoding_under (fit budget) t bytes
  pub alike : (bytes : List ℕ) → t.alike ≡ 1
      → AreShownAlike (fit budget) t [] (jobs_in t bytes) × HaveVectorsInside (fit budget) t [] (jobs_in t bytes)

-- `rate`: the first setting that is out of its range, or else the budget, is answered and nothing is read or written
abbrev pub RatesUnless : Option BadSetting → Settings → ℕ → Held → Held → Ended → Type 0
RatesUnless (Some bad) t budget old new answer = (answer ≡ ended.BadSettings bad) × (new ≡ old)
RatesUnless None t budget old new answer = Rates t budget old new answer

-- what the words ask for
abbrev pub RunsTo : Result Command WordsStop → Held → Held → Ended → Type 0
RunsTo (Err (Usage n)) old new answer = (answer ≡ ended.Usage n) × (new ≡ old)
RunsTo (Ok command.List) old new answer = Lists old new answer
RunsTo (Ok command.Decode) old new answer = Decodes old new answer
RunsTo (Ok (command.Encode t)) old new answer = EncodesUnless (first_bad (table t)) t old new answer
RunsTo (Ok (command.Make t count)) old new answer = MakesUnless (first_bad_for_make t count) t count old new answer
RunsTo (Ok (command.Pardecode workers)) old new answer = DecodesUnless (bad_workers workers) old new answer
RunsTo (Ok (command.Cut from to)) old new answer =
    Cuts from to old.held new.held old.out new.out answer × (new.side ≡ old.side)
RunsTo (Ok (command.Rate t budget)) old new answer =
    RatesUnless (first_bad_for_rate t budget) t budget old new answer
RunsTo (Ok command.Join) old new answer =
    Joins old.held new.held old.out new.out answer × (new.side ≡ old.side)

-- the first setting that is out of its range, where the words fit a command with settings
abbrev pub bad_setting : Result Command WordsStop → Option BadSetting
bad_setting (Ok (command.Encode t)) = first_bad (table t)
bad_setting (Ok (command.Make t count)) = first_bad_for_make t count
bad_setting (Ok (command.Pardecode workers)) = bad_workers workers
bad_setting (Ok (command.Rate t budget)) = first_bad_for_rate t budget
bad_setting _ = None
