use Rattle.std.proofs.Common.{◌≡◌, ap, arith, subst, sym}
use Rattle.dirac_content.specs.StreamState.{StreamState}
use Rattle.dirac_decode.specs.Taking.{IsOfOpen}
use Rattle.dirac_decode.proofs.Listing.{open_still}
use Rattle.dirac_decode.proofs.state.State.show.Goals as goal

pub invariant_of-self : goal.invariant_of-self
invariant_of-self c =
    let opened : c.self.inside.opened ≡ c.args.self.now.opened = ap (λ (x : StreamState). x.opened) c.self.view_is in
    let one : IsOfOpen c.self.inside.opened c.args.decoded.picture = subst (λ o. IsOfOpen o c.args.decoded.picture) (sym opened) c.requires.fits in (
      rw (c.commit.ensures.list, c.requires.reference)
          (open_still c.self.inside.opened c.self.inside.refs c.args.decoded.header.retire c.args.decoded.code c.args.decoded.picture c.self.invariant.0 one),
      omega (arith, c.max-self-inside.ensures, c.count.ensures.at_most_8_references, c.self.invariant.1),
    )
