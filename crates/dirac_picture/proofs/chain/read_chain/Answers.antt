use Rattle.std.proofs.Common.{◌≡◌, ℕ, ◌+◌, ◌*◌, length, ap, sym, subst, ◌∙◌, arith, Some, length-append, List, [], ◌∷◌}
use Rattle.std.proofs.lemmas.Option.{slice_get-get_or}
use Rattle.dirac_coeffs.specs.declared.layout.CodedBand.{CodedBand}
use Rattle.dirac_coeffs.specs.Grammar.{IsCodedBand}
use Rattle.dirac_picture.specs.Bands.{layout_of}
use Rattle.dirac_picture.specs.Chains.{AreBandsOfOrientation}
use Rattle.dirac_picture.proofs.Levels.{chain_inside, chain_more, lawful_more}
use Rattle.dirac_picture.proofs.chain.read_chain.Goals as goal

pub read_next-requires-clause-before : goal.read_next-requires-clause-before
read_next-requires-clause-before c =
    subst (λ (l : List CodedBand). AreBandsOfOrientation c.args.transform.now c.args.size.width c.args.size.height c.args.first l) (sym c.as_slice.ensures.value) c.levels.invariant.lawful

pub levels-preserved : goal.levels-preserved
levels-preserved c =
    let pushed = c.in_ok-push-in-Ok.ensures.items in
    let t = c.args.transform.now in
    let now : length c.as_slice.result.now ≡ c.levels.k = ap length c.as_slice.ensures.value ∙ c.levels.invariant.count in
    let inside = chain_inside t c.args.first c.levels.k c.requires.first (omega arith) in
    record {
      count = (let l = ap length pushed in omega (arith, l, length-append c.levels.bands.items (c.in-Ok.band ∷ []), c.levels.invariant.count));
      lawful =
          lawful_more t c.args.size.width c.args.size.height c.args.first c.levels.k c.levels.bands.items c.push.new.self.items c.in-Ok.band c.levels.invariant.count pushed
          (subst (λ (i : ℕ). IsCodedBand (layout_of t c.args.size.width c.args.size.height (c.args.first + 3 * i)) c.in-Ok.band) now c.in-Ok.ensures.lawful) c.levels.invariant.lawful;
      read =
          chain_more t c.args.size.width c.args.size.height c.args.sites.now c.args.first c.levels.k c.levels.bands.items c.as_slice.result.now c.push.new.self.items c.in-Ok.band _
          c.levels.invariant.count c.as_slice.ensures.value pushed c.in-Ok.ensures.value
          (slice_get-get_or c.args.sites.now (c.args.first + 3 * c.levels.k) _ (omega (arith, c.requires.whole.count, inside)) ∙ ap Some (sym c.index-sites-first.is)) c.levels.invariant.read;
    }
