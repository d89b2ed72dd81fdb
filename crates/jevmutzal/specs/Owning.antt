-- What a handle of C owns.
use base.Fml.{Fml, ftrue}
use denote.RawPtr.{Ptr}
use Rattle.std.specs.Prelude.{Bool, true, false}
use Rattle.std.specs.Box.Ownership.{box_owns}
use Rattle.std.specs.Global.{Global}
use Rattle.std_heap.specs.contracts.GlobalAllocator.TheImpl.{ghosts}
use Rattle.dirac_push.specs.contracts.push.PushDecoder.{the_row}

abbrev pub handle_owns : Bool → Global → Ptr → the_row.Denot → Fml
handle_owns true alloc at decoder = box_owns (ghosts.dealloc_token alloc) the_row at decoder
handle_owns false alloc at decoder = ftrue
