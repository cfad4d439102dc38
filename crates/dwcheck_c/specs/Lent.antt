-- The right to read a process, which C lends to a call that reads it.
use Rattle.std.specs.Prelude.{◌≡◌, ◌↔◌, ℕ, Option, Some, IsTrue, IsSome}
use denote.RawPtr.{Ptr}
use Rattle.dw_process.specs.Processes.{ProcessState}
use Rattle.dwcheck_c.specs.declared.right_part.Part.{Part}
use Rattle.dwcheck_c.specs.declared.read_right.Right.{Right}
use Rattle.dwcheck_c.specs.declared.process_reader.LentProcess.{LentProcess}

-- what tells one right from another
pub record Loan : Type 0 where
  pub at : Ptr
  pub process : Option ProcessState
  pub round : ℕ
  pub count : ℕ

abbrev pub loan_of : Right → Loan
loan_of r = record { at = r.at; process = r.process; round = r.round; count = r.count }

abbrev pub loan_by : Part ProcessState → Loan
loan_by p = record { at = p.ptr; process = Some p.value; round = p.round; count = p.count }

-- the process that a right lets its holder read; None if it is closed
abbrev pub read_by : Right → Option ProcessState
read_by r = r.process

-- the right is one to read this process
abbrev pub Reads : Right → LentProcess → Type 0
Reads r p = (r.at ≡ p.at) × (IsTrue p.is_open ↔ IsSome r.process)
