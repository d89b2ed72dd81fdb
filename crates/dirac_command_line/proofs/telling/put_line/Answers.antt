use Rattle.std.proofs.Common.{take, ◌++◌, arith}
use Rattle.std.proofs.KnownBytes.{Appends-trans}
use Rattle.dirac_io.proofs.Parts.{written_more}
use Rattle.dirac_command_line.proofs.telling.put_line.Goals as goal

pub writing-preserved : goal.writing-preserved
writing-preserved g c =
    let before = c.writing.invariant.0 in
    let more = take c.in-Bytes.n c.writing.rest.now in (
      (
        before.0 ++ more,
        written_more _ before.0 _ c.in-Bytes.n before.1,
        Appends-trans _ _ _ before.0 more before.2 c.in-Bytes.ensures.bytes.grown,
      ),
      omega arith,
    )
