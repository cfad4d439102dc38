-- A `Right` can be sent to another thread: what it lets its holder read can be read by several
-- threads at once.
use Rattle.std.specs.Prelude.{ℕ, [], ◌∷◌, Option, None, Some}
use base.Shift.{Keyless}
use denote.RawPtr.{Ptr}
use denote.Struct.Struct.{exits_of}
use denote.Struct.Owning.{shape, fields, to}
use denote.Param.Send.{IsSend, AllSend, owning_send, struct_send}
use Rattle.std_alloc.proofs.SendSync.{quiet, seen}
use Rattle.dw_process.proofs.process.Process.TheSendSync as process
use Rattle.dw_process.specs.Processes.{ProcessState}
use Rattle.dwcheck_c.specs.Held.{the_process, lent_if}
use Rattle.dwcheck_c.specs.contracts.read_right.Right.{the_row, the_type}

keyless : (at : Ptr) (round count : ℕ) (f : Option ProcessState) → Keyless (lent_if at round count f)
keyless at round count None = tt
keyless at round count (Some f) = ((λ e c. tt), seen the_process process.the_sync at f (round ∷ []))

pub send : IsSend the_row
send =
    let all : AllSend (fields the_type) = tt in
    owning_send the_type all (λ d. keyless d.at d.round d.count d.process)
    (λ k. quiet (to the_type) (exits_of k (fields the_type)) ((struct_send (shape the_type) all).leaving k))
