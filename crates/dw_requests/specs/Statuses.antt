-- The exit statuses, and the text for a command line from which no request can be made.
use Rattle.std.specs.Prelude.{ℕ, List, codes}
use Rattle.std.specs.String.{string_bytes}
use Rattle.dw_requests.specs.declared.requests.Usage.{Usage}
use Rattle.dw_requests.specs.declared.requests.Usage.TheVariants as usages
use Rattle.dw_requests.specs.declared.requests.End.{End}
use Rattle.dw_requests.specs.declared.requests.End.TheVariants as ends

abbrev pub status_of_usage : Usage → ℕ
status_of_usage (usages.Line _) = 2
status_of_usage usages.BadArgument = 2
status_of_usage usages.Memory = 3

abbrev pub status_of_end : End → ℕ
status_of_end ends.Done = 0
status_of_end ends.Refused = 1
status_of_end (ends.BadHex _) = 3
status_of_end (ends.StateLine _) = 2
status_of_end ends.Memory = 3
status_of_end ends.Output = 3

abbrev pub usage_text : Usage → List ℕ
usage_text (usages.Line text) = string_bytes text
usage_text usages.BadArgument = codes "bad argument"
usage_text usages.Memory = codes "out of memory"
