-- The number of workers changes nothing.
use Rattle.std.proofs.Common.{◌≡◌, ℕ, List, [], ◌∷◌, length, map, if◌then◌else◌, Option, None, Some, refl, ap, ◌∙◌}
use Rattle.std.proofs.Math.Path.{fun_ext}
use Rattle.dirac_common.specs.declared.picture.Picture.{Picture}
use Rattle.dirac_types.specs.declared.settings.Settings.{Settings}
use Rattle.dirac_block_table.specs.Tables.{BlockTable}
use Rattle.dirac_search.specs.Candidates.{Vectors}
use Rattle.dirac_search.proofs.Workers.{field_same}
use Rattle.dirac_sequence.specs.Written.{sequence_of, sequence_payload}
use Rattle.dirac_picture.specs.Grammar.{is_intra}
use Rattle.dirac_picture.specs.declared.coded.CodedMotion.{CodedMotion}
use Rattle.dirac_picture.specs.declared.coded.CodedPicture.{CodedPicture}
use Rattle.dirac_plan.specs.Plan.{frames_plan, plan, retired_of_former}
use Rattle.dirac_plan.specs.declared.planned.Planned.{Planned}
use Rattle.dirac_decide.specs.Deciding.{View}
use Rattle.dirac_decide.specs.Splits.{decided_by}
use Rattle.dirac_content.specs.Content.{named, up_of}
use Rattle.dirac_motion.specs.Chosen.{at_index, blocks_among, blocks_from, chosen, searched_in, view_in}
use Rattle.dirac_sources.specs.Sources.{pictures_in, sources}
use Rattle.dirac_encode_laws.specs.Coded.{coded_of, coded_with, counts_below, motion_of, motion_with}
use Rattle.dirac_encode_laws.specs.Coding.{Job, Made, coded_under, coding_under, job_of, jobs_of, made, made_from, made_under, refs_after}
use Rattle.dirac_encode_laws.specs.Encoding.{encoding_by, encoding_under, ending, first_long}
use Rattle.dirac_encode_laws.specs.declared.answers.Encoded.{Encoded}
use Rattle.dirac_encode_laws.specs.Fit.{least_fitting, rule_of}
use Rattle.dirac_encode_laws.specs.Stream.{picture_length, units_of}
use Rattle.dirac_choice_laws.specs.Workers.{WorkersChangeNoBlocks, WorkersChangeNothing, with_workers}

-- ---- the blocks

view_same : (t : Settings) (w : ℕ) (p r : Picture) → view_in (with_workers t w) p r ≡ view_in t p r
view_same t w p r = ap (λ (f : Vectors). viewed r f) (field_same (searched_in t p r) t w) where
  viewed : Picture → Vectors → View
  viewed x f = record { up = up_of x.y; field = f }

decided_same : (t : Settings) (w : ℕ) (p : Picture) (first : View) (second : Option View) → decided_by (with_workers t w) p first second ≡ decided_by t p first second
unfolding sequence_of
decided_same t w p first second = refl

blocks_from_same : (t : Settings) (w : ℕ) (p first : Picture) (second : Option Picture) → blocks_from (with_workers t w) p first second ≡ blocks_from t p first second
blocks_from_same t w p first None =
    decided_same t w p (view_in (with_workers t w) p first) None ∙ ap (λ (v : View). decided_by t p v None) (view_same t w p first)
blocks_from_same t w p first (Some second) =
    decided_same t w p (view_in (with_workers t w) p first) (Some (view_in (with_workers t w) p second))
    ∙ ap (λ (v : View). decided_by t p v (Some (view_in (with_workers t w) p second))) (view_same t w p first)
    ∙ ap (λ (v : View). decided_by t p (view_in t p first) (Some v)) (view_same t w p second)

among_same : (t : Settings) (w : ℕ) (p : Picture) (first second : Option Picture) → blocks_among (with_workers t w) p first second ≡ blocks_among t p first second
among_same t w p None second = refl
among_same t w p (Some first) second = blocks_from_same t w p first second

pub blocks_same : WorkersChangeNoBlocks
unfolding chosen
blocks_same t w refs q p = among_same t w p (named refs q.ref1) (named refs q.ref2)

-- ---- the pictures

motion_same : (t : Settings) (w : ℕ) (refs : List Picture) (q : Planned) (p : Picture) → motion_of (with_workers t w) refs q p ≡ motion_of t refs q p
motion_same t w refs q p = ap (λ (b : BlockTable). motion_or b) (blocks_same t w refs q p) where
  motion_or : BlockTable → Option CodedMotion
  motion_or b = if is_intra q.code then None else Some (motion_with t b)

coded_same : (t : Settings) (w : ℕ) (refs : List Picture) (q : Planned) (p : Picture) (m : Option CodedMotion) → coded_with (with_workers t w) refs q p m ≡ coded_with t refs q p m
unfolding sequence_of counts_below
coded_same t w refs q p m = refl

made_from_same : (t : Settings) (w : ℕ) (refs : List Picture) (c : CodedPicture) → made_from (with_workers t w) refs c ≡ made_from t refs c
unfolding sequence_of
made_from_same t w refs c = refl

made_same : (t : Settings) (w : ℕ) (refs : List Picture) (j : Job) → made (with_workers t w) refs j ≡ made t refs j
made_same t w refs j =
    made_from_same t w refs (coded_of (with_workers t w) refs j.planned j.source)
    ∙ ap (made_from t refs) (coded_same t w refs j.planned j.source (motion_of (with_workers t w) refs j.planned j.source)
    ∙ ap (coded_with t refs j.planned j.source) (motion_same t w refs j.planned j.source))

-- ---- the rules

rule_same : (budget : Option ℕ) (t : Settings) (w : ℕ) (refs : List Picture) (j : Job) → rule_of budget (with_workers t w) refs j ≡ rule_of budget t refs j
rule_same None t w refs j = refl
rule_same (Some budget) t w refs j =
    ap (λ (lengths : ℕ → ℕ). least_fitting lengths budget t.index) (fun_ext (λ i. ap picture_length (made_same (at_index t i) w refs j)))

-- ---- the stream

made_under_same : (budget : Option ℕ) (t : Settings) (w : ℕ) (refs : List Picture) (j : Job) → made_under (rule_of budget) (with_workers t w) refs j ≡ made_under (rule_of budget) t refs j
made_under_same budget t w refs j =
    made_same (at_index t (rule_of budget (with_workers t w) refs j)) w refs j
    ∙ ap (λ (i : ℕ). made (at_index t i) refs j) (rule_same budget t w refs j)

coded_under_same : (budget : Option ℕ) (t : Settings) (w : ℕ) (refs : List Picture) (jobs : List Job) → coded_under (rule_of budget) (with_workers t w) refs jobs ≡ coded_under (rule_of budget) t refs jobs
unfolding coded_under
coded_under_same budget t w refs [] = refl
coded_under_same budget t w refs (j ∷ jobs) =
    ap (λ (m : Made). m ∷ coded_under (rule_of budget) (with_workers t w) (refs_after refs m) jobs) (made_under_same budget t w refs j)
    ∙ ap (λ (ms : List Made). made_under (rule_of budget) t refs j ∷ ms) (coded_under_same budget t w (refs_after refs (made_under (rule_of budget) t refs j)) jobs)

plan_same : (t : Settings) (w n : ℕ) → plan n (with_workers t w) ≡ plan n t
unfolding plan frames_plan retired_of_former
plan_same t w n = refl

sources_same : (t : Settings) (w : ℕ) (bytes : List ℕ) → sources (with_workers t w) bytes ≡ sources t bytes
unfolding sequence_of pictures_in
sources_same t w bytes = refl

ending_same : (t : Settings) (w : ℕ) (bytes : List ℕ) → ending (with_workers t w) bytes ≡ ending t bytes
unfolding sequence_of
ending_same t w bytes = refl

by_same : (t : Settings) (w : ℕ) (answer : Encoded) (ms : List Made) (o : Option Made) → encoding_by (with_workers t w) answer ms o ≡ encoding_by t answer ms o
unfolding sequence_of sequence_payload units_of
by_same t w answer ms None = refl
by_same t w answer ms (Some m) = refl

long_same : (t : Settings) (w : ℕ) (ms : List Made) → first_long (with_workers t w) ms ≡ first_long t ms
long_same t w ms = refl

coding_same : (budget : Option ℕ) (t : Settings) (w : ℕ) (pictures : List Picture) → coding_under (rule_of budget) (with_workers t w) pictures ≡ coding_under (rule_of budget) t pictures
coding_same budget t w pictures =
    coded_under_same budget t w [] (jobs_of (with_workers t w) pictures)
    ∙ ap (λ (plan : List Planned). coded_under (rule_of budget) t [] (map (job_of pictures) plan)) (plan_same t w (length pictures))

pub encoding_same : WorkersChangeNothing
unfolding encoding_under
encoding_same budget t w bytes =
    let former = coding_under (rule_of budget) (with_workers t w) (sources (with_workers t w) bytes) in
    by_same t w (ending (with_workers t w) bytes) former (first_long (with_workers t w) former)
    ∙ ap (λ (answer : Encoded). encoding_by t answer former (first_long (with_workers t w) former)) (ending_same t w bytes)
    ∙ ap (encoding_by t (ending t bytes) former) (long_same t w former)
    ∙ ap (λ (ms : List Made). encoding_by t (ending t bytes) ms (first_long t ms))
    (coding_same budget t w (sources (with_workers t w) bytes) ∙ ap (coding_under (rule_of budget) t) (sources_same t w bytes))
