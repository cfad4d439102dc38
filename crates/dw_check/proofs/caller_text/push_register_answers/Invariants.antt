use Rattle.std.proofs.Common.{◌≡◌, ◌++◌, take, map}
use Rattle.std.specs.List.{flat_map}
use Rattle.std.specs.String.{string_bytes}
use Rattle.dw_check.specs.CallerText.{found_line}
use Rattle.dw_unwind.specs.CallerViews.{found_in}
use Rattle.dw_check.proofs.caller_text.push_register_answers.Given as goal

abbrev pub invariant-loop-found : goal.invariant-loop-found
invariant-loop-found l = string_bytes l.line ≡ string_bytes l.fn.line
    ++ flat_map (found_line l.size) (map found_in (take l.found-index l.registers))
