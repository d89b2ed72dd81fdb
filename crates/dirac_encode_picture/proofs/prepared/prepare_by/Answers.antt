use Rattle.dirac_encode_picture.proofs.prepared.prepare_by.Goals as goal

pub prepare_inter-requires-clause-moving : goal.prepare_inter-requires-clause-moving
prepare_inter-requires-clause-moving g c = c.requires.moving c.in-Some.moving c.in-Some.is
