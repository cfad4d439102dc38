-- A `Held` can be sent to another thread. The memory that its pointer points to, and the modules in
-- that memory, go with it.
use Rattle.std.specs.Prelude.{Option, None, Some}
use mir.Raw.{raw}
use denote.Memory.{lone}
use denote.RawPtr.{Ptr}
use base.Shift.{Keyless}
use denote.Struct.Struct.{exits_of}
use denote.Struct.Owning.{shape, fields, to}
use denote.Param.Send.{IsSend, AllSend, owning_send, struct_send, sendable}
use Rattle.std.specs.Global.{Global}
use Rattle.std.proofs.Crossing as heap
use Rattle.std_alloc.proofs.SendSync.{quiet, lies}
use Rattle.std_heap.proofs.Global.TheSendSync as handle
use Rattle.dw_process.proofs.process.Process.TheSendSync as process
use Rattle.dw_process.specs.Processes.{ProcessState}
use Rattle.dwcheck_c.specs.Held.{the_process, held_if}
use Rattle.dwcheck_c.specs.contracts.modules_pointer.Held.{the_row, the_type}

keyless : (alloc : Global) (at : Ptr) (f : Option ProcessState) → Keyless (held_if alloc at f)
keyless alloc at None = tt
keyless alloc at (Some f) = (lies the_process process.the_send at f, heap.frees.frees alloc (raw (lone the_process.mir)) at)

pub send : IsSend the_row
send =
    let all : AllSend (fields the_type) = (search sendable, (handle.the_field_send, tt)) in
    owning_send the_type all (λ d. keyless d.alloc d.at d.process)
    (λ k. quiet (to the_type) (exits_of k (fields the_type)) ((struct_send (shape the_type) all).leaving k))
