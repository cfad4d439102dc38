-- Whether C is told that an address is one of a signal frame, or that the return address is signed there.
use Rattle.std.specs.Prelude.{ℕ, if◌then◌else◌, Option, Some, None}
use Rattle.dw_process.specs.Processes.{ProcessState, is_signal_in, is_signed_in}

-- 1 if the address as loaded is one of a signal frame, and 0 if it isn't, or if the process is
-- closed
abbrev pub flag_at : Option ProcessState → ℕ → ℕ
flag_at None address = 0
flag_at (Some p) address = if is_signal_in p address then 1 else 0

-- 1 if the return address is signed at the address as loaded, and 0 if it isn't, or if the process is closed
abbrev pub signed_flag_at : Option ProcessState → ℕ → ℕ
signed_flag_at None address = 0
signed_flag_at (Some p) address = if is_signed_in p address then 1 else 0
