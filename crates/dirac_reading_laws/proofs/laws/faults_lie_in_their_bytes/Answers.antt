use Rattle.dirac_reading_laws.proofs.Faults.{cut_faults_lie, faults_lie}
use Rattle.dirac_reading_laws.proofs.InPictures.{in_picture}
use Rattle.dirac_reading_laws.proofs.InSequences.{in_sequence_header}
use Rattle.dirac_reading_laws.proofs.laws.faults_lie_in_their_bytes.Goals as goal

pub returns-clause-shown : goal.returns-clause-shown
returns-clause-shown c = faults_lie

pub returns-clause-cut : goal.returns-clause-cut
returns-clause-cut c = cut_faults_lie

pub returns-clause-sequence_headers : goal.returns-clause-sequence_headers
returns-clause-sequence_headers c = in_sequence_header

pub returns-clause-pictures : goal.returns-clause-pictures
returns-clause-pictures c = in_picture
