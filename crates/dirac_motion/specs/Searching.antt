-- A picture whose blocks are searched for, and what is found in a reference.
-- Inner: for the proofs of this crate.
use Rattle.std.specs.Prelude.{◌≡◌}
use Rattle.dirac_common.specs.declared.picture.Picture.{Picture}
use Rattle.dirac_types.specs.declared.settings.Settings.{Settings}
use Rattle.dirac_types.specs.Settings.{IsAccepted}
use Rattle.dirac_sequence.specs.Written.{sequence_of}
use Rattle.dirac_content.specs.Content.{IsPicture}
use Rattle.dirac_pyramid.specs.Pyramid.{pyramid_of}
use Rattle.dirac_search.specs.Candidates.{Vectors}
use Rattle.dirac_search.specs.Fields.{field}
use Rattle.dirac_decide.specs.Deciding.{IsSearched}
use Rattle.dirac_motion.specs.Chosen.{searched_in}
use Rattle.dirac_motion.specs.declared.lent.Reference.{Reference}
use Rattle.dirac_motion.specs.Lent.{IsReference}
use Rattle.dirac_motion.specs.declared.search.SearchedFor.{SearchedFor}
use Rattle.dirac_motion.specs.declared.search.SearchedInTwo.{SearchedInTwo}

-- a picture of these settings, with the pyramid of its luma
pub record IsSearchedFor (s : Settings) (of : SearchedFor) : Type 0 where
  pub picture : IsPicture (sequence_of s) of.picture.now
  pub pyramid : of.pyramid.now ≡ pyramid_of of.picture.now.y s.pyramid

-- the field of vectors that is found for a picture in a reference
pub record IsFoundIn (s : Settings) (p : Picture) (r : Reference) (f : Vectors) : Type 0 where
  pub value : f ≡ field (searched_in s p r.picture.now) s
  pub found : IsSearched s p (record { up = r.luma.now; field = f })

-- a picture, its settings and two references that go with them
pub record AreSearchedIn (x : SearchedInTwo) : Type 0 where
  pub accepted : IsAccepted x.settings.now
  pub source : IsSearchedFor x.settings.now x.source
  pub first : IsReference (sequence_of x.settings.now) x.first
  pub second : IsReference (sequence_of x.settings.now) x.second
