use Rattle.std.proofs.Common.{refl}
use Rattle.dirac_edit_laws.specs.Texts.{points_of, sequences_from}
use Rattle.dirac_edit_laws.specs.Units.{pictures_bytes, sequences_bytes}
use Rattle.dirac_edit_laws.specs.Joined.{groups_behind}
use Rattle.dirac_edit_laws.proofs.laws.examples_of_edits.Goals as goal

pub returns-clause-points : goal.returns-clause-points
unfolding points_of
returns-clause-points c = λ h p q r. refl

pub returns-clause-first : goal.returns-clause-first
unfolding sequences_from sequences_bytes pictures_bytes
returns-clause-first c = λ h p q r. refl

pub returns-clause-last : goal.returns-clause-last
unfolding sequences_from sequences_bytes pictures_bytes
returns-clause-last c = λ h p q r. refl

pub returns-clause-end : goal.returns-clause-end
unfolding sequences_from
returns-clause-end c = refl

pub returns-clause-header : goal.returns-clause-header
unfolding sequences_from
returns-clause-header c = λ h. refl

pub returns-clause-merge : goal.returns-clause-merge
unfolding sequences_from sequences_bytes pictures_bytes groups_behind
returns-clause-merge c = λ p q. refl

pub returns-clause-grey_cut : goal.returns-clause-grey_cut
unfolding sequences_from sequences_bytes pictures_bytes
returns-clause-grey_cut c = refl

pub returns-clause-grey_joined : goal.returns-clause-grey_joined
unfolding sequences_from sequences_bytes pictures_bytes groups_behind
returns-clause-grey_joined c = refl
