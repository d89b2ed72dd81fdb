-- How a run ends that edits a stream.
use Rattle.std.proofs.Common.{◌≡◌, refl}
use Rattle.dirac_edit.specs.declared.answers.Edited.{Edited}
use Rattle.dirac_edit.specs.declared.answers.Edited.TheVariants as edited
use Rattle.dirac_edit.specs.Edits.{IfUnwritten}
use Rattle.dirac_edit.specs.Edits as edits
use Rattle.dirac_command_line.specs.declared.ended.Ended.TheVariants as ended
use Rattle.dirac_stream_commands.specs.Cutting.{IfUnwrittenBy, IsCutAnswer, ended_of_edit}
use Rattle.dirac_stream_commands.specs.Joining.{IsJoinAnswer}

pub is_answer : (how : Edited) → IsCutAnswer (ended_of_edit how)
is_answer edited.Done = tt
is_answer (edited.Fault fault) = tt
is_answer (edited.NoSuchPoint n) = tt
is_answer (edited.OpenCut n) = tt
is_answer edited.ReadFault = tt
is_answer edited.WriteFault = tt
is_answer edited.NoMemory = tt

pub unwritten : (how : Edited) (P : Type 0) → IfUnwritten how P → IfUnwrittenBy (ended_of_edit how) P
unwritten edited.Done P so = tt
unwritten (edited.Fault fault) P so = so
unwritten (edited.NoSuchPoint n) P so = so
unwritten (edited.OpenCut n) P so = so
unwritten edited.ReadFault P so = so
unwritten edited.WriteFault P so = tt
unwritten edited.NoMemory P so = tt

pub done_by : (how : Edited) → ended_of_edit how ≡ ended.Done → how ≡ edited.Done
done_by edited.Done is = refl
done_by (edited.Fault fault) is = cc
done_by (edited.NoSuchPoint n) is = cc
done_by (edited.OpenCut n) is = cc
done_by edited.ReadFault is = cc
done_by edited.WriteFault is = cc
done_by edited.NoMemory is = cc

pub read_by : (how : Edited) → ended_of_edit how ≡ ended.ReadFault → how ≡ edited.ReadFault
read_by edited.Done is = cc
read_by (edited.Fault fault) is = cc
read_by (edited.NoSuchPoint n) is = cc
read_by (edited.OpenCut n) is = cc
read_by edited.ReadFault is = refl
read_by edited.WriteFault is = cc
read_by edited.NoMemory is = cc

pub write_by : (how : Edited) → ended_of_edit how ≡ ended.WriteFault → how ≡ edited.WriteFault
write_by edited.Done is = cc
write_by (edited.Fault fault) is = cc
write_by (edited.NoSuchPoint n) is = cc
write_by (edited.OpenCut n) is = cc
write_by edited.ReadFault is = cc
write_by edited.WriteFault is = refl
write_by edited.NoMemory is = cc

pub is_join_answer : (how : Edited) → edits.IsAnswerOfJoining how → IsJoinAnswer (ended_of_edit how)
is_join_answer edited.Done is = tt
is_join_answer (edited.Fault fault) is = tt
is_join_answer (edited.NoSuchPoint n) is = absurd is
is_join_answer (edited.OpenCut n) is = absurd is
is_join_answer edited.ReadFault is = tt
is_join_answer edited.WriteFault is = tt
is_join_answer edited.NoMemory is = tt
