use Rattle.std.proofs.Common.{◌≡◌, ◌<◌, ◌==◌, ◌∙◌, ℕ, true, List, [], take, Some, refl, sym, ap, subst, arith, append-nil, length}
use Rattle.std.proofs.lemmas.List.{length-take-le}
use Rattle.dirac_plan.specs.Planning.{Planning, gives_none, is_closed}
use Rattle.dirac_encode_laws.specs.declared.answers.Encoded.TheVariants as encoded
use Rattle.dirac_encode_laws.specs.Encoding.{EncodesToTheEnd, answer_behind}
use Rattle.dirac_encode_laws.specs.Fit.{rule_of}
use Rattle.dirac_encode_laws.proofs.Fitting.{rule_gives}
use Rattle.dirac_encode_laws.specs.Steps.{Progress}
use Rattle.dirac_encode_laws.proofs.Accepted.{most_pictures, raw_some}
use Rattle.dirac_encode_progress.specs.Going.{so_far}
use Rattle.dirac_encode_progress.proofs.Finding.{lists_first, lists_last, lists_pushed}
use Rattle.dirac_encode_progress.proofs.Reading.{all_full, behind_some, many_ends, next_leads, next_stops, open_at_first, part_ends, so_far_first, stop_no_part, stopped_before_the_end, stops_here, waits_leads, waits_stops}
use Rattle.dirac_encode_progress.proofs.OfRead.{alone_first, alone_leads, alone_waits, due_by, front_by}
use Rattle.dirac_encode_progress.proofs.Closing.{many_answer, part_answers, rest_behind, rest_recovered}
use Rattle.dirac_encode_progress.proofs.pictures.put_pictures.Goals as goal

pub pictures-init : goal.pictures-init
pictures-init g c =
    let f = rule_of c.args.coder.now.budget in
    let t = c.args.coder.now.settings.now in
    let p = c.args.planner.now in
    let k = so_far c.args.coding.now in
    record {
      runs = so_far_first f t (g.S.Source.held c.args.source.now) p k (g.K.Sink.taken c.args.out.now) (g.N.Sink.taken c.args.side.now)
          (ap (λ (q : Planning). q.accepted) c.requires.planner) (ap (λ (q : Planning). q.waiting) c.requires.planner) (ap (λ (q : Planning). q.given) c.requires.planner)
          (ap (λ (q : Progress). q.count) c.requires.coding) (ap (λ (q : Progress). q.previous) c.requires.coding) (ap (λ (q : Progress). q.refs) c.requires.coding) (ap (λ (q : Progress). q.delivery) c.requires.coding);
      alone = alone_first f t (g.S.Source.held c.args.source.now) p k (g.K.Sink.taken c.args.out.now) (g.N.Sink.taken c.args.side.now)
          (ap (λ (q : Planning). q.accepted) c.requires.planner) (ap (λ (q : Planning). q.waiting) c.requires.planner) (ap (λ (q : Planning). q.given) c.requires.planner)
          (ap (λ (q : Progress). q.count) c.requires.coding) (ap (λ (q : Progress). q.previous) c.requires.coding) (ap (λ (q : Progress). q.refs) c.requires.coding) (ap (λ (q : Progress). q.delivery) c.requires.coding);
      lists = lists_first t p k (ap (λ (q : Planning). q.accepted) c.requires.planner) (ap (λ (q : Planning). q.given) c.requires.planner)
          (ap (λ (q : Progress). q.count) c.requires.coding) (ap (λ (q : Progress). q.refs) c.requires.coding) (ap (λ (q : Planning). q.waiting) c.requires.planner);
      settings = ap (λ (q : Planning). q.settings) c.requires.planner;
      going = ap (λ (q : Planning). q.ended) c.requires.planner;
      opened = ap is_closed c.requires.planner ∙ open_at_first c.plans_can_be_coded.ensures t c.requires.accepted;
      counts = omega (arith, ap (λ (q : Planning). q.accepted) c.requires.planner, ap (λ (q : Planning). q.given) c.requires.planner, ap (λ (q : Planning). length q.waiting) c.requires.planner);
      fit = omega (arith, ap (λ (q : Planning). length q.waiting) c.requires.planner);
      in_range = omega (arith, ap (λ (q : Planning). q.accepted) c.requires.planner);
      size = c.requires.bytes;
      reads = omega arith;
      writes = omega arith;
      sides = omega arith;
    }

pub returns-in-Err-clause-encoded : goal.returns-in-Err-clause-encoded
returns-in-Err-clause-encoded g c =
    let f = rule_of c.args.coder.now.budget in
    let t = c.args.coder.now.settings.now in
    let first = g.S.Source.held c.args.source.now in
    waits_stops c.plans_can_be_coded.ensures f t (c.accepted-number.result == t.pictures) first c.pictures.planner (so_far c.pictures.coding) c.in-Err.answer (g.S.Source.held c.pictures.source) (g.K.Sink.taken c.args.out.now) (g.K.Sink.taken c.pictures.out) (g.K.Sink.taken c.put_planned.new.out) (g.N.Sink.taken c.args.side.now) (g.N.Sink.taken c.pictures.side) (g.N.Sink.taken c.put_planned.new.side)
    c.requires.accepted (all_full c.accepted-number.result c.pictures.planner t c.accepted-number.ensures.value) c.pictures.invariant.runs c.in-Err.ensures.stopped

pub returns-in-Err-clause-recovered : goal.returns-in-Err-clause-recovered
returns-in-Err-clause-recovered g c =
    stopped_before_the_end (rule_of c.args.coder.now.budget) c.args.coder.now.settings.now (g.S.Source.held c.args.source.now) c.in-Err.answer c.in-Err.ensures.stops

pub returns-in-Err-clause-partial : goal.returns-in-Err-clause-partial
returns-in-Err-clause-partial g c =
    λ n is. absurd (stop_no_part c.in-Err.answer n c.in-Err.ensures.stops is)

pub returns-in-Err-clause-front_of_read : goal.returns-in-Err-clause-front_of_read
returns-in-Err-clause-front_of_read g c =
    let f = rule_of c.args.coder.now.budget in
    let t = c.args.coder.now.settings.now in
    let first = g.S.Source.held c.args.source.now in
    let front = c.in-Failed.ensures.front refl in
    let part : List ℕ = take front.0 c.fill.new.buf in
    front_by f t first c.pictures.planner (so_far c.pictures.coding) c.in-Err.answer (g.S.Source.held c.pictures.source) (g.S.Source.held c.fill.new.source) (g.K.Sink.taken c.args.out.now) (g.K.Sink.taken c.pictures.out) (g.K.Sink.taken c.put_planned.new.out) (g.N.Sink.taken c.args.side.now) (g.N.Sink.taken c.pictures.side) (g.N.Sink.taken c.put_planned.new.side)
    part c.pictures.invariant.alone front.2
    (λ bytes runs.
    waits_stops c.plans_can_be_coded.ensures f t (c.accepted-number.result == t.pictures) (Some bytes) c.pictures.planner (so_far c.pictures.coding) c.in-Err.answer (Some part) (g.K.Sink.taken c.args.out.now) (g.K.Sink.taken c.pictures.out) (g.K.Sink.taken c.put_planned.new.out) (g.N.Sink.taken c.args.side.now) (g.N.Sink.taken c.pictures.side) (g.N.Sink.taken c.put_planned.new.side)
    c.requires.accepted (all_full c.accepted-number.result c.pictures.planner t c.accepted-number.ensures.value) runs c.in-Err.ensures.stopped)

pub returns-in-Failed-clause-encoded : goal.returns-in-Failed-clause-encoded
returns-in-Failed-clause-encoded g c =
    let f = rule_of c.args.coder.now.budget in
    let t = c.args.coder.now.settings.now in
    let first = g.S.Source.held c.args.source.now in
    stops_here c.plans_can_be_coded.ensures f t first c.put_planned.new.planner (so_far c.put_planned.new.coding) (g.S.Source.held c.pictures.source) (g.K.Sink.taken c.args.out.now) (g.K.Sink.taken c.put_planned.new.out) (g.N.Sink.taken c.args.side.now) (g.N.Sink.taken c.put_planned.new.side) c.requires.accepted
    (waits_leads f t (c.accepted-number.result == t.pictures) first c.pictures.planner c.put_planned.new.planner (so_far c.pictures.coding) (so_far c.put_planned.new.coding) (g.S.Source.held c.pictures.source) (g.K.Sink.taken c.args.out.now) (g.K.Sink.taken c.pictures.out) (g.K.Sink.taken c.put_planned.new.out) (g.N.Sink.taken c.args.side.now) (g.N.Sink.taken c.pictures.side) (g.N.Sink.taken c.put_planned.new.side)
    (all_full c.accepted-number.result c.pictures.planner t c.accepted-number.ensures.value) c.pictures.invariant.runs c.in_default.ensures.led c.in_default.ensures.accepted)

pub returns-in-Ended-clause-encoded : goal.returns-in-Ended-clause-encoded
returns-in-Ended-clause-encoded g c =
    let f = rule_of c.args.coder.now.budget in
    let t = c.args.coder.now.settings.now in
    let first = g.S.Source.held c.args.source.now in
    let ends = part_ends f t first c.pictures.planner (so_far c.pictures.coding) (g.S.Source.held c.pictures.source) (g.S.Source.held c.fill.new.source) (g.K.Sink.taken c.args.out.now) (g.K.Sink.taken c.pictures.out) (g.N.Sink.taken c.args.side.now) (g.N.Sink.taken c.pictures.side)
    c.fill.new.buf c.in-Ended.n c.pictures.invariant.runs (c.in-Ended.ensures.part c.in-Ended.n refl) (c.in-Ended.ensures.end c.in-Ended.n refl)
    (omega (arith, c.in-Ended.ensures.below_size c.in-Ended.n refl, c.fill.ensures.size)) (c.fill.ensures.size ∙ c.pictures.invariant.size) c.pictures.invariant.in_range in
    part_answers c.plans_can_be_coded.ensures f t first c.pictures.planner (so_far c.pictures.coding) c.in-Ended.n c.behind_whole.result c.put_rest.result
    (g.K.Sink.taken c.args.out.now) (g.K.Sink.taken c.pictures.out) (g.K.Sink.taken c.put_rest.new.out) (g.N.Sink.taken c.args.side.now) (g.N.Sink.taken c.pictures.side) (g.N.Sink.taken c.put_rest.new.side)
    c.requires.accepted c.behind_whole.ensures.value ends c.put_rest.ensures.ends

pub returns-in-Ended-clause-recovered : goal.returns-in-Ended-clause-recovered
returns-in-Ended-clause-recovered g c =
    let f = rule_of c.args.coder.now.budget in
    let t = c.args.coder.now.settings.now in
    let first = g.S.Source.held c.args.source.now in
    let ends = part_ends f t first c.pictures.planner (so_far c.pictures.coding) (g.S.Source.held c.pictures.source) (g.S.Source.held c.fill.new.source) (g.K.Sink.taken c.args.out.now) (g.K.Sink.taken c.pictures.out) (g.N.Sink.taken c.args.side.now) (g.N.Sink.taken c.pictures.side)
    c.fill.new.buf c.in-Ended.n c.pictures.invariant.runs (c.in-Ended.ensures.part c.in-Ended.n refl) (c.in-Ended.ensures.end c.in-Ended.n refl)
    (omega (arith, c.in-Ended.ensures.below_size c.in-Ended.n refl, c.fill.ensures.size)) (c.fill.ensures.size ∙ c.pictures.invariant.size) c.pictures.invariant.in_range in
    rest_recovered c.streams_show_their_pictures.ensures.shown c.streams_show_their_pictures.ensures.cut c.plans_can_be_coded.ensures c.streams_show_their_pictures.ensures.tables f (rule_gives c.args.coder.now.budget) t first c.pictures.planner (so_far c.pictures.coding) (answer_behind c.in-Ended.n) c.behind_whole.result c.put_rest.result
    (g.K.Sink.taken c.args.out.now) (g.K.Sink.taken c.pictures.out) (g.K.Sink.taken c.put_rest.new.out) (g.N.Sink.taken c.args.side.now) (g.N.Sink.taken c.pictures.side) (g.N.Sink.taken c.put_rest.new.side)
    c.requires.accepted c.pictures.invariant.in_range ends c.put_rest.ensures.ends

pub returns-in-Ended-clause-partial : goal.returns-in-Ended-clause-partial
returns-in-Ended-clause-partial g c =
    λ n is.
    let same = rest_behind (rule_of c.args.coder.now.budget) c.args.coder.now.settings.now c.pictures.planner (so_far c.pictures.coding) c.behind_whole.result c.put_rest.result (encoded.PartialPicture n) (g.K.Sink.taken c.pictures.out) (g.K.Sink.taken c.put_rest.new.out) (g.N.Sink.taken c.pictures.side) (g.N.Sink.taken c.put_rest.new.side) (λ stops. stops) c.put_rest.ensures.ends is in
    (behind_some c.in-Ended.n n (sym c.behind_whole.ensures.value ∙ same), c.in-Ended.ensures.end c.in-Ended.n refl)

pub returns-in-Ended-clause-whole : goal.returns-in-Ended-clause-whole
returns-in-Ended-clause-whole g c =
    λ is. c.in-Ended.ensures.end c.in-Ended.n refl

pub returns-in-Ended-clause-due : goal.returns-in-Ended-clause-due
returns-in-Ended-clause-due g c =
    λ is.
    let same = rest_behind (rule_of c.args.coder.now.budget) c.args.coder.now.settings.now c.pictures.planner (so_far c.pictures.coding) c.behind_whole.result c.put_rest.result encoded.ReadFault (g.K.Sink.taken c.pictures.out) (g.K.Sink.taken c.put_rest.new.out) (g.N.Sink.taken c.pictures.side) (g.N.Sink.taken c.put_rest.new.side) (λ stops. stops) c.put_rest.ensures.ends is in
    absurd (subst EncodesToTheEnd same c.behind_whole.ensures.ends)

pub returns-in-Ended-clause-read : goal.returns-in-Ended-clause-read
returns-in-Ended-clause-read g c =
    λ is.
    let same = rest_behind (rule_of c.args.coder.now.budget) c.args.coder.now.settings.now c.pictures.planner (so_far c.pictures.coding) c.behind_whole.result c.put_rest.result encoded.ReadFault (g.K.Sink.taken c.pictures.out) (g.K.Sink.taken c.put_rest.new.out) (g.N.Sink.taken c.pictures.side) (g.N.Sink.taken c.put_rest.new.side) (λ stops. stops) c.put_rest.ensures.ends is in
    absurd (subst EncodesToTheEnd same c.behind_whole.ensures.ends)

pub returns-then-number-settings-clause-encoded : goal.returns-then-number-settings-clause-encoded
returns-then-number-settings-clause-encoded g c =
    let f = rule_of c.args.coder.now.budget in
    let t = c.args.coder.now.settings.now in
    let first = g.S.Source.held c.args.source.now in
    let ends = many_ends f t first c.pictures.planner (so_far c.pictures.coding) (g.S.Source.held c.pictures.source) (g.S.Source.held c.fill.new.source) (g.K.Sink.taken c.args.out.now) (g.K.Sink.taken c.pictures.out) (g.N.Sink.taken c.args.side.now) (g.N.Sink.taken c.pictures.side)
    c.fill.new.buf c.pictures.invariant.runs (c.in-Whole.ensures.whole refl) (c.fill.ensures.size ∙ c.pictures.invariant.size) (raw_some t c.requires.accepted) (omega (arith, c.accepted-number.ensures.value, c.if-number-settings.true)) in
    many_answer c.plans_can_be_coded.ensures f t first c.pictures.planner (so_far c.pictures.coding) c.put_rest-then-number-settings.result
    (g.K.Sink.taken c.args.out.now) (g.K.Sink.taken c.pictures.out) (g.K.Sink.taken c.put_rest-then-number-settings.new.out) (g.N.Sink.taken c.args.side.now) (g.N.Sink.taken c.pictures.side) (g.N.Sink.taken c.put_rest-then-number-settings.new.side)
    c.requires.accepted ends c.put_rest-then-number-settings.ensures.ends

pub returns-then-number-settings-clause-recovered : goal.returns-then-number-settings-clause-recovered
returns-then-number-settings-clause-recovered g c =
    let f = rule_of c.args.coder.now.budget in
    let t = c.args.coder.now.settings.now in
    let first = g.S.Source.held c.args.source.now in
    let ends = many_ends f t first c.pictures.planner (so_far c.pictures.coding) (g.S.Source.held c.pictures.source) (g.S.Source.held c.fill.new.source) (g.K.Sink.taken c.args.out.now) (g.K.Sink.taken c.pictures.out) (g.N.Sink.taken c.args.side.now) (g.N.Sink.taken c.pictures.side)
    c.fill.new.buf c.pictures.invariant.runs (c.in-Whole.ensures.whole refl) (c.fill.ensures.size ∙ c.pictures.invariant.size) (raw_some t c.requires.accepted) (omega (arith, c.accepted-number.ensures.value, c.if-number-settings.true)) in
    rest_recovered c.streams_show_their_pictures.ensures.shown c.streams_show_their_pictures.ensures.cut c.plans_can_be_coded.ensures c.streams_show_their_pictures.ensures.tables f (rule_gives c.args.coder.now.budget) t first c.pictures.planner (so_far c.pictures.coding) encoded.TooManyPictures encoded.TooManyPictures c.put_rest-then-number-settings.result
    (g.K.Sink.taken c.args.out.now) (g.K.Sink.taken c.pictures.out) (g.K.Sink.taken c.put_rest-then-number-settings.new.out) (g.N.Sink.taken c.args.side.now) (g.N.Sink.taken c.pictures.side) (g.N.Sink.taken c.put_rest-then-number-settings.new.side)
    c.requires.accepted c.pictures.invariant.in_range ends c.put_rest-then-number-settings.ensures.ends

pub returns-then-number-settings-clause-partial : goal.returns-then-number-settings-clause-partial
returns-then-number-settings-clause-partial g c =
    λ n is.
    let same = rest_behind (rule_of c.args.coder.now.budget) c.args.coder.now.settings.now c.pictures.planner (so_far c.pictures.coding) encoded.TooManyPictures c.put_rest-then-number-settings.result (encoded.PartialPicture n) (g.K.Sink.taken c.pictures.out) (g.K.Sink.taken c.put_rest-then-number-settings.new.out) (g.N.Sink.taken c.pictures.side) (g.N.Sink.taken c.put_rest-then-number-settings.new.side) (λ stops. stops) c.put_rest-then-number-settings.ensures.ends is in
    absurd cc

pub returns-then-number-settings-clause-whole : goal.returns-then-number-settings-clause-whole
returns-then-number-settings-clause-whole g c =
    λ is.
    let same = rest_behind (rule_of c.args.coder.now.budget) c.args.coder.now.settings.now c.pictures.planner (so_far c.pictures.coding) encoded.TooManyPictures c.put_rest-then-number-settings.result encoded.Done (g.K.Sink.taken c.pictures.out) (g.K.Sink.taken c.put_rest-then-number-settings.new.out) (g.N.Sink.taken c.pictures.side) (g.N.Sink.taken c.put_rest-then-number-settings.new.side) (λ stops. stops) c.put_rest-then-number-settings.ensures.ends is in
    absurd cc

pub returns-then-number-settings-clause-due : goal.returns-then-number-settings-clause-due
returns-then-number-settings-clause-due g c =
    λ is.
    let same = rest_behind (rule_of c.args.coder.now.budget) c.args.coder.now.settings.now c.pictures.planner (so_far c.pictures.coding) encoded.TooManyPictures c.put_rest-then-number-settings.result encoded.ReadFault (g.K.Sink.taken c.pictures.out) (g.K.Sink.taken c.put_rest-then-number-settings.new.out) (g.N.Sink.taken c.pictures.side) (g.N.Sink.taken c.put_rest-then-number-settings.new.side) (λ stops. stops) c.put_rest-then-number-settings.ensures.ends is in
    absurd (subst EncodesToTheEnd same tt)

pub returns-then-number-settings-clause-read : goal.returns-then-number-settings-clause-read
returns-then-number-settings-clause-read g c =
    λ is.
    let same = rest_behind (rule_of c.args.coder.now.budget) c.args.coder.now.settings.now c.pictures.planner (so_far c.pictures.coding) encoded.TooManyPictures c.put_rest-then-number-settings.result encoded.ReadFault (g.K.Sink.taken c.pictures.out) (g.K.Sink.taken c.put_rest-then-number-settings.new.out) (g.N.Sink.taken c.pictures.side) (g.N.Sink.taken c.put_rest-then-number-settings.new.side) (λ stops. stops) c.put_rest-then-number-settings.ensures.ends is in
    absurd (subst EncodesToTheEnd same tt)

pub returns-in_default-push_raw-clause-encoded : goal.returns-in_default-push_raw-clause-encoded
returns-in_default-push_raw-clause-encoded g c =
    stops_here c.plans_can_be_coded.ensures (rule_of c.args.coder.now.budget) c.args.coder.now.settings.now (g.S.Source.held c.args.source.now) c.pictures.planner (so_far c.pictures.coding) (g.S.Source.held c.pictures.source) (g.K.Sink.taken c.args.out.now) (g.K.Sink.taken c.pictures.out)
    (g.N.Sink.taken c.args.side.now) (g.N.Sink.taken c.pictures.side) c.requires.accepted c.pictures.invariant.runs

pub returns-in-Err-put_planned-clause-encoded : goal.returns-in-Err-put_planned-clause-encoded
returns-in-Err-put_planned-clause-encoded g c =
    let f = rule_of c.args.coder.now.budget in
    let t = c.args.coder.now.settings.now in
    let first = g.S.Source.held c.args.source.now in
    let few : c.pictures.planner.accepted < t.pictures = omega (arith, c.accepted-number.ensures.value, c.if-number-settings.false, c.pictures.invariant.in_range) in
    next_stops c.plans_can_be_coded.ensures f t first c.pictures.planner c.push_raw.new.planner (so_far c.pictures.coding) c.in-Err-put_planned.answer (g.S.Source.held c.pictures.source) (g.S.Source.held c.fill.new.source)
    (g.K.Sink.taken c.args.out.now) (g.K.Sink.taken c.pictures.out) (g.K.Sink.taken c.put_planned-in-pictures.new.out) (g.N.Sink.taken c.args.side.now) (g.N.Sink.taken c.pictures.side) (g.N.Sink.taken c.put_planned-in-pictures.new.side)
    c.fill.new.buf c.requires.accepted c.pictures.invariant.runs (c.in-Whole.ensures.whole refl) c.push_raw.ensures.below_256 (c.fill.ensures.size ∙ c.pictures.invariant.size) (raw_some t c.requires.accepted) few c.in-Ok.ensures.pushed c.in-Err-put_planned.ensures.stopped

pub returns-in-Err-put_planned-clause-recovered : goal.returns-in-Err-put_planned-clause-recovered
returns-in-Err-put_planned-clause-recovered g c =
    stopped_before_the_end (rule_of c.args.coder.now.budget) c.args.coder.now.settings.now (g.S.Source.held c.args.source.now) c.in-Err-put_planned.answer c.in-Err-put_planned.ensures.stops

pub returns-in-Err-put_planned-clause-partial : goal.returns-in-Err-put_planned-clause-partial
returns-in-Err-put_planned-clause-partial g c =
    λ n is. absurd (stop_no_part c.in-Err-put_planned.answer n c.in-Err-put_planned.ensures.stops is)

pub pictures-preserved : goal.pictures-preserved
pictures-preserved g c =
    let f = rule_of c.args.coder.now.budget in
    let t = c.args.coder.now.settings.now in
    let first = g.S.Source.held c.args.source.now in
    let few : c.pictures.planner.accepted < t.pictures = omega (arith, c.accepted-number.ensures.value, c.if-number-settings.false, c.pictures.invariant.in_range) in
    let same = c.in_default-put_planned.ensures.accepted in
    record {
      runs = next_leads f t first c.pictures.planner c.push_raw.new.planner c.put_planned-in-pictures.new.planner (so_far c.pictures.coding) (so_far c.put_planned-in-pictures.new.coding) (g.S.Source.held c.pictures.source) (g.S.Source.held c.fill.new.source)
          (g.K.Sink.taken c.args.out.now) (g.K.Sink.taken c.pictures.out) (g.K.Sink.taken c.put_planned-in-pictures.new.out) (g.N.Sink.taken c.args.side.now) (g.N.Sink.taken c.pictures.side) (g.N.Sink.taken c.put_planned-in-pictures.new.side)
          c.fill.new.buf c.pictures.invariant.runs (c.in-Whole.ensures.whole refl) c.push_raw.ensures.below_256 (c.fill.ensures.size ∙ c.pictures.invariant.size) (raw_some t c.requires.accepted) few c.in-Ok.ensures.pushed c.in_default-put_planned.ensures.led same;
      alone = alone_leads f t first c.pictures.planner c.push_raw.new.planner c.put_planned-in-pictures.new.planner (so_far c.pictures.coding) (so_far c.put_planned-in-pictures.new.coding) (g.S.Source.held c.pictures.source) (g.S.Source.held c.fill.new.source)
          (g.K.Sink.taken c.args.out.now) (g.K.Sink.taken c.pictures.out) (g.K.Sink.taken c.put_planned-in-pictures.new.out) (g.N.Sink.taken c.args.side.now) (g.N.Sink.taken c.pictures.side) (g.N.Sink.taken c.put_planned-in-pictures.new.side)
          c.fill.new.buf c.pictures.invariant.alone (c.in-Whole.ensures.whole refl) c.push_raw.ensures.below_256 (c.fill.ensures.size ∙ c.pictures.invariant.size) (raw_some t c.requires.accepted) few c.in-Ok.ensures.pushed c.in_default-put_planned.ensures.led same;
      lists = c.in_default-put_planned.ensures.lists;
      settings = c.in_default-put_planned.ensures.settings;
      going = c.in_default-put_planned.ensures.told;
      opened = c.in_default-put_planned.ensures.opened refl;
      counts = c.in_default-put_planned.ensures.counts;
      fit = c.in_default-put_planned.ensures.waiting_fit;
      in_range = omega (arith, few, same, ap (λ (p : Planning). p.accepted) c.in-Ok.ensures.pushed);
      size = c.fill.ensures.size ∙ c.pictures.invariant.size;
      reads = omega (arith, c.pictures.invariant.reads, c.fill.ensures.count);
      writes = omega (arith, c.pictures.invariant.writes, c.put_planned-in-pictures.ensures.writes);
      sides = omega (arith, c.pictures.invariant.sides, c.put_planned-in-pictures.ensures.sides);
    }

pub put_planned-requires-in-pictures-clause-lists : goal.put_planned-requires-in-pictures-clause-lists
put_planned-requires-in-pictures-clause-lists g c =
    lists_pushed c.args.coder.now.settings.now c.pictures.planner c.push_raw.new.planner (so_far c.pictures.coding) _ c.pictures.invariant.lists c.in-Ok.ensures.source c.in-Ok.ensures.pushed
    (omega (arith, c.accepted-number.ensures.value, c.if-number-settings.false, c.pictures.invariant.in_range, most_pictures c.args.coder.now.settings.now c.requires.accepted))

pub put_planned-requires-clause-lists : goal.put_planned-requires-clause-lists
put_planned-requires-clause-lists g c = lists_last c.args.coder.now.settings.now _ c.pictures.planner (so_far c.pictures.coding) c.pictures.invariant.lists

pub put_rest-requires-clause-lists : goal.put_rest-requires-clause-lists
put_rest-requires-clause-lists g c = lists_last c.args.coder.now.settings.now true c.pictures.planner (so_far c.pictures.coding) c.pictures.invariant.lists

pub put_rest-requires-then-number-settings-clause-lists : goal.put_rest-requires-then-number-settings-clause-lists
put_rest-requires-then-number-settings-clause-lists g c = lists_last c.args.coder.now.settings.now true c.pictures.planner (so_far c.pictures.coding) c.pictures.invariant.lists

pub returns-in-Failed-clause-front_of_read : goal.returns-in-Failed-clause-front_of_read
returns-in-Failed-clause-front_of_read g c =
    let f = rule_of c.args.coder.now.budget in
    let t = c.args.coder.now.settings.now in
    let first = g.S.Source.held c.args.source.now in
    let front = c.in-Failed.ensures.front refl in
    let part : List ℕ = take front.0 c.fill.new.buf in
    let alone = alone_waits f t (c.accepted-number.result == t.pictures) first c.pictures.planner c.put_planned.new.planner (so_far c.pictures.coding) (so_far c.put_planned.new.coding) (g.S.Source.held c.pictures.source) (g.K.Sink.taken c.args.out.now) (g.K.Sink.taken c.pictures.out) (g.K.Sink.taken c.put_planned.new.out) (g.N.Sink.taken c.args.side.now) (g.N.Sink.taken c.pictures.side) (g.N.Sink.taken c.put_planned.new.side)
    (all_full c.accepted-number.result c.pictures.planner t c.accepted-number.ensures.value) c.pictures.invariant.alone c.in_default.ensures.led c.in_default.ensures.accepted in
    front_by f t first c.put_planned.new.planner (so_far c.put_planned.new.coding) encoded.ReadFault (g.S.Source.held c.pictures.source) (g.S.Source.held c.fill.new.source) (g.K.Sink.taken c.args.out.now) (g.K.Sink.taken c.put_planned.new.out) (g.K.Sink.taken c.put_planned.new.out) (g.N.Sink.taken c.args.side.now) (g.N.Sink.taken c.put_planned.new.side) (g.N.Sink.taken c.put_planned.new.side)
    part alone front.2
    (λ bytes runs.
    stops_here c.plans_can_be_coded.ensures f t (Some bytes) c.put_planned.new.planner (so_far c.put_planned.new.coding) (Some part) (g.K.Sink.taken c.args.out.now) (g.K.Sink.taken c.put_planned.new.out) (g.N.Sink.taken c.args.side.now) (g.N.Sink.taken c.put_planned.new.side) c.requires.accepted runs)

pub returns-in-Ended-clause-front_of_read : goal.returns-in-Ended-clause-front_of_read
returns-in-Ended-clause-front_of_read g c =
    let f = rule_of c.args.coder.now.budget in
    let t = c.args.coder.now.settings.now in
    let part : List ℕ = take c.in-Ended.n c.fill.new.buf in
    front_by f t (g.S.Source.held c.args.source.now) c.pictures.planner (so_far c.pictures.coding) c.put_rest.result (g.S.Source.held c.pictures.source) (g.S.Source.held c.fill.new.source)
    (g.K.Sink.taken c.args.out.now) (g.K.Sink.taken c.pictures.out) (g.K.Sink.taken c.put_rest.new.out) (g.N.Sink.taken c.args.side.now) (g.N.Sink.taken c.pictures.side) (g.N.Sink.taken c.put_rest.new.side)
    part c.pictures.invariant.alone (c.in-Ended.ensures.part c.in-Ended.n refl)
    (λ bytes runs.
    let ends = part_ends f t (Some bytes) c.pictures.planner (so_far c.pictures.coding) (Some part) (Some []) (g.K.Sink.taken c.args.out.now) (g.K.Sink.taken c.pictures.out) (g.N.Sink.taken c.args.side.now) (g.N.Sink.taken c.pictures.side)
    c.fill.new.buf c.in-Ended.n runs (sym (append-nil part)) refl
    (omega (arith, c.in-Ended.ensures.below_size c.in-Ended.n refl, c.fill.ensures.size)) (c.fill.ensures.size ∙ c.pictures.invariant.size) c.pictures.invariant.in_range in
    part_answers c.plans_can_be_coded.ensures f t (Some bytes) c.pictures.planner (so_far c.pictures.coding) c.in-Ended.n c.behind_whole.result c.put_rest.result
    (g.K.Sink.taken c.args.out.now) (g.K.Sink.taken c.pictures.out) (g.K.Sink.taken c.put_rest.new.out) (g.N.Sink.taken c.args.side.now) (g.N.Sink.taken c.pictures.side) (g.N.Sink.taken c.put_rest.new.side)
    c.requires.accepted c.behind_whole.ensures.value ends c.put_rest.ensures.ends)

pub returns-then-number-settings-clause-front_of_read : goal.returns-then-number-settings-clause-front_of_read
returns-then-number-settings-clause-front_of_read g c =
    let f = rule_of c.args.coder.now.budget in
    let t = c.args.coder.now.settings.now in
    let part : List ℕ = c.fill.new.buf in
    front_by f t (g.S.Source.held c.args.source.now) c.pictures.planner (so_far c.pictures.coding) c.put_rest-then-number-settings.result (g.S.Source.held c.pictures.source) (g.S.Source.held c.fill.new.source)
    (g.K.Sink.taken c.args.out.now) (g.K.Sink.taken c.pictures.out) (g.K.Sink.taken c.put_rest-then-number-settings.new.out) (g.N.Sink.taken c.args.side.now) (g.N.Sink.taken c.pictures.side) (g.N.Sink.taken c.put_rest-then-number-settings.new.side)
    part c.pictures.invariant.alone (c.in-Whole.ensures.whole refl)
    (λ bytes runs.
    let ends = many_ends f t (Some bytes) c.pictures.planner (so_far c.pictures.coding) (Some part) (Some []) (g.K.Sink.taken c.args.out.now) (g.K.Sink.taken c.pictures.out) (g.N.Sink.taken c.args.side.now) (g.N.Sink.taken c.pictures.side)
    c.fill.new.buf runs (sym (append-nil part)) (c.fill.ensures.size ∙ c.pictures.invariant.size) (raw_some t c.requires.accepted) (omega (arith, c.accepted-number.ensures.value, c.if-number-settings.true)) in
    many_answer c.plans_can_be_coded.ensures f t (Some bytes) c.pictures.planner (so_far c.pictures.coding) c.put_rest-then-number-settings.result
    (g.K.Sink.taken c.args.out.now) (g.K.Sink.taken c.pictures.out) (g.K.Sink.taken c.put_rest-then-number-settings.new.out) (g.N.Sink.taken c.args.side.now) (g.N.Sink.taken c.pictures.side) (g.N.Sink.taken c.put_rest-then-number-settings.new.side)
    c.requires.accepted ends c.put_rest-then-number-settings.ensures.ends)

pub returns-in_default-push_raw-clause-front_of_read : goal.returns-in_default-push_raw-clause-front_of_read
returns-in_default-push_raw-clause-front_of_read g c =
    let f = rule_of c.args.coder.now.budget in
    let t = c.args.coder.now.settings.now in
    let part : List ℕ = c.fill.new.buf in
    front_by f t (g.S.Source.held c.args.source.now) c.pictures.planner (so_far c.pictures.coding) encoded.NoMemory (g.S.Source.held c.pictures.source) (g.S.Source.held c.fill.new.source)
    (g.K.Sink.taken c.args.out.now) (g.K.Sink.taken c.pictures.out) (g.K.Sink.taken c.pictures.out) (g.N.Sink.taken c.args.side.now) (g.N.Sink.taken c.pictures.side) (g.N.Sink.taken c.pictures.side)
    part c.pictures.invariant.alone (c.in-Whole.ensures.whole refl)
    (λ bytes runs.
    stops_here c.plans_can_be_coded.ensures f t (Some bytes) c.pictures.planner (so_far c.pictures.coding) (Some part) (g.K.Sink.taken c.args.out.now) (g.K.Sink.taken c.pictures.out)
    (g.N.Sink.taken c.args.side.now) (g.N.Sink.taken c.pictures.side) c.requires.accepted runs)

pub returns-in-Err-put_planned-clause-front_of_read : goal.returns-in-Err-put_planned-clause-front_of_read
returns-in-Err-put_planned-clause-front_of_read g c =
    let f = rule_of c.args.coder.now.budget in
    let t = c.args.coder.now.settings.now in
    let part : List ℕ = c.fill.new.buf in
    front_by f t (g.S.Source.held c.args.source.now) c.pictures.planner (so_far c.pictures.coding) c.in-Err-put_planned.answer (g.S.Source.held c.pictures.source) (g.S.Source.held c.fill.new.source)
    (g.K.Sink.taken c.args.out.now) (g.K.Sink.taken c.pictures.out) (g.K.Sink.taken c.put_planned-in-pictures.new.out) (g.N.Sink.taken c.args.side.now) (g.N.Sink.taken c.pictures.side) (g.N.Sink.taken c.put_planned-in-pictures.new.side)
    part c.pictures.invariant.alone (c.in-Whole.ensures.whole refl)
    (λ bytes runs.
    let few : c.pictures.planner.accepted < t.pictures = omega (arith, c.accepted-number.ensures.value, c.if-number-settings.false, c.pictures.invariant.in_range) in
    next_stops c.plans_can_be_coded.ensures f t (Some bytes) c.pictures.planner c.push_raw.new.planner (so_far c.pictures.coding) c.in-Err-put_planned.answer (Some part) (Some [])
    (g.K.Sink.taken c.args.out.now) (g.K.Sink.taken c.pictures.out) (g.K.Sink.taken c.put_planned-in-pictures.new.out) (g.N.Sink.taken c.args.side.now) (g.N.Sink.taken c.pictures.side) (g.N.Sink.taken c.put_planned-in-pictures.new.side)
    c.fill.new.buf c.requires.accepted runs (sym (append-nil part)) c.push_raw.ensures.below_256 (c.fill.ensures.size ∙ c.pictures.invariant.size) (raw_some t c.requires.accepted) few c.in-Ok.ensures.pushed c.in-Err-put_planned.ensures.stopped)

pub returns-in-Failed-clause-due : goal.returns-in-Failed-clause-due
returns-in-Failed-clause-due g c = λ failed.
    let f = rule_of c.args.coder.now.budget in
    let t = c.args.coder.now.settings.now in
    let first = g.S.Source.held c.args.source.now in
    let front = c.in-Failed.ensures.front refl in
    let few : front.0 < length c.fill.new.buf = omega (arith, front.1, c.fill.ensures.size) in
    let alone = alone_waits f t (c.accepted-number.result == t.pictures) first c.pictures.planner c.put_planned.new.planner (so_far c.pictures.coding) (so_far c.put_planned.new.coding) (g.S.Source.held c.pictures.source) (g.K.Sink.taken c.args.out.now) (g.K.Sink.taken c.pictures.out) (g.K.Sink.taken c.put_planned.new.out) (g.N.Sink.taken c.args.side.now) (g.N.Sink.taken c.pictures.side) (g.N.Sink.taken c.put_planned.new.side)
    (all_full c.accepted-number.result c.pictures.planner t c.accepted-number.ensures.value) c.pictures.invariant.alone c.in_default.ensures.led c.in_default.ensures.accepted in
    due_by f t first c.put_planned.new.planner (so_far c.put_planned.new.coding) (g.S.Source.held c.pictures.source) (g.S.Source.held c.fill.new.source) (g.K.Sink.taken c.args.out.now) (g.K.Sink.taken c.put_planned.new.out) (g.N.Sink.taken c.args.side.now) (g.N.Sink.taken c.put_planned.new.side)
    (take front.0 c.fill.new.buf) alone front.2
    (omega (arith, few, length-take-le front.0 c.fill.new.buf (omega (arith, few)), c.fill.ensures.size, c.pictures.invariant.size))
    (omega (arith, c.in_default.ensures.accepted, c.pictures.invariant.in_range)) c.in_default.ensures.counts c.in_default.ensures.waiting_fit c.in_default.ensures.settings
    (subst (λ (n : ℕ). gives_none c.put_planned.new.planner (n == t.pictures) ≡ true) (c.accepted-number.ensures.value ∙ sym c.in_default.ensures.accepted) (c.in_default.ensures.none_due refl))
