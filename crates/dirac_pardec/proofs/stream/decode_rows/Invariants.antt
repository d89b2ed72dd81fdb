use Rattle.dirac_pardec.proofs.stream.decode_rows.Given as goal

-- the reference to the source, and how often a read of it has failed
abbrev pub ghosts-decode_reading_ahead : goal.ghosts-decode_reading_ahead
ghosts-decode_reading_ahead g a = record { name = a.lent.source.ghost_name; faults = g.S.Source.faults a.lent.source.now }
