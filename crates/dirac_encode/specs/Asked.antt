-- A prepared picture, as it is fitted to a budget.
-- Inner: for the proofs of this crate.
use Rattle.dirac_encode_laws.specs.Coding.{Job}
use Rattle.dirac_motion.specs.Chosen.{IsChosenAtEachIndex}
use Rattle.dirac_encode_picture.specs.declared.asked.Asked.{Asked}
use Rattle.dirac_encode_picture.specs.declared.prepared.Prepared.{Prepared}
use Rattle.dirac_encode_picture.specs.Prepared.{blocks_in}

-- the planned source that is asked for
abbrev pub asked_job : Asked → Job
asked_job a = record { planned = a.planned.now; source = a.source.now }

-- its blocks are those that are chosen for it, the same at each index
abbrev pub HasChosenBlocks : Asked → Prepared → Type 0
HasChosenBlocks a x = IsChosenAtEachIndex a.settings.now a.refs.now a.planned.now a.source.now (blocks_in x)
