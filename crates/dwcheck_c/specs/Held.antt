-- What the pointer in C's struct for a process points to.
use Rattle.std.specs.Prelude.{ℕ, Option, None, Some}
use Rattle.std.specs.Coded.{coded_option}
use base.Fml.{Fml, ftrue}
use base.Stored.{Coded}
use denote.RawPtr.{Ptr}
use denote.RattleType.{RattleType}
use Rattle.std.specs.Box.Ownership.{box_owns}
use Rattle.std.specs.Global.{Global}
use Rattle.std.specs.contracts.impls.GlobalAllocator.TheImpl.{ghosts}
use Rattle.left_right.specs.Parted.{part_owns}
use Rattle.dw_process.specs.Processes.{ProcessState}
use Rattle.dw_process.specs.contracts.process.Process as the_contract

-- how a process is laid out in memory
abbrev pub the_process : RattleType
the_process = the_contract.the_row

abbrev pub process_coded : Coded (Option ProcessState)
process_coded = coded_option the_process.coded

-- ownership of the box at address `at`, which contains the process; ownership of nothing if there
-- is no process
abbrev pub held_if : Global → Ptr → Option ProcessState → Fml
held_if alloc at None = ftrue
held_if alloc at (Some p) = box_owns (ghosts.dealloc_token alloc) the_process at p

-- `count` parts in 2 ^ 63 of the right to read the process at address `at`; ownership of nothing if
-- there is no process
abbrev pub lent_if : Ptr → ℕ → ℕ → Option ProcessState → Fml
lent_if at round count None = ftrue
lent_if at round count (Some p) = part_owns the_process at p round count
