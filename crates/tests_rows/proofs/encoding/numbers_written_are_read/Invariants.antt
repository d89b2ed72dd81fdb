use Rattle.std.proofs.Common.{◌≤◌, ◌*◌}
use Rattle.tests_rows.proofs.encoding.numbers_written_are_read.Given as goal

abbrev pub invariant-reading : goal.invariant-reading
invariant-reading g l = l.decoder.at.doublings ≤ 702 * l.i
