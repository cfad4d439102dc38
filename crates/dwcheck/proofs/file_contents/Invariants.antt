use Rattle.std.proofs.Common.{◌≡◌, vec_len}
use Rattle.dwcheck.proofs.file_contents.Given as goal

abbrev pub invariant-loop-name : goal.invariant-loop-name
invariant-loop-name g l = vec_len l.contents ≡ l.name-index
