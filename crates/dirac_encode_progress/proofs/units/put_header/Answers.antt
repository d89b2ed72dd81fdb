use Rattle.std.proofs.Common.{◌≡◌, ◌∙◌, ℕ, Bool, true, List, [], if◌then◌else◌, subst, sym}
use Rattle.dirac_picture.specs.Grammar.{is_intra}
use Rattle.std.specs.Io.KnownBytes.{Appends}
use Rattle.std.proofs.lemmas.Result.{on_ok_weaker}
use Rattle.dirac_encode_laws.specs.Stream.{header_unit, unit}
use Rattle.dirac_encode_progress.proofs.Stepping.{header_fits}
use Rattle.dirac_encode_progress.proofs.units.put_header.Goals as goal

pub put_unit-requires : goal.put_unit-requires
put_unit-requires g c = header_fits c.args.settings.now c.args.header.now c.requires

pub returns-then-is_intra-clause-all : goal.returns-then-is_intra-clause-all
returns-then-is_intra-clause-all g c =
    let t = c.args.settings.now in
    let out = g.K.Sink.taken c.args.out.now in
    let out' = g.K.Sink.taken c.put_unit.new.out in
    let intra : is_intra c.args.code ≡ true = sym c.is_intra.ensures ∙ c.if-is_intra.true in
    on_ok_weaker c.done.result
    (λ all. subst (λ (b : Bool). Appends out out' (if b then header_unit t c.args.previous else [])) (sym intra)
    (subst (λ (h : List ℕ). Appends out out' (unit 0x00 c.args.previous h)) c.requires (c.put_unit.ensures.all all)))
    c.done.ensures.all
