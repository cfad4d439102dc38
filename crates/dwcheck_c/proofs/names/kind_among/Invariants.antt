use Rattle.std.proofs.Common.{◌≡◌, ◌==◌, drop, find}
use Rattle.dw_bytes.specs.Faults.{number_of}
use Rattle.dwcheck_c.proofs.names.kind_among.Given as goal

abbrev pub invariant-loop-kind : goal.invariant-loop-kind
invariant-loop-kind l = find (λ k. number_of k == l.number) l.kinds ≡ find (λ k. number_of k == l.number) (drop l.kind-index l.kinds)
