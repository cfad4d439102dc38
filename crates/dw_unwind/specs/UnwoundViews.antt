-- Translates the code's `Unwound`, with the list that holds the caller's registers, to the `Caller`
-- of Caller.antt.
use Rattle.std.specs.Prelude.{ℕ, List, Option, Some, None}
use Rattle.dw_unwind.specs.declared.unwinding.Unwound.{Unwound}
use Rattle.dw_unwind.specs.Caller.{Answer, Caller}
use Rattle.dw_unwind.specs.CallerViews.{answer_in}
use Rattle.dw_unwind.specs.Walks.{stop_of_return}
use Rattle.dw_unwind.specs.declared.frames.Stop.{Stop}
use Rattle.dw_unwind.specs.declared.frames.Stop.TheVariants.{NotCovered}

-- the caller that has the CFA and return address of an `Unwound`, and these registers
abbrev pub caller_with : List (ℕ × Answer) → Unwound → Caller
caller_with registers u = record { cfa = answer_in u.cfa; registers = registers; return_address = answer_in u.return_address }

-- why a walk ends with a frame, where the option is the result of unwinding that frame; none if
-- another frame follows
abbrev pub stop_of_unwound : Option Unwound → Option Stop
stop_of_unwound None = Some NotCovered
stop_of_unwound (Some u) = stop_of_return (answer_in u.return_address)
