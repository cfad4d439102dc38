-- Runs of expressions whose operations are known.
use Rattle.std.proofs.Common.{ℕ, List, sym, subst, length}
use Rattle.std.specs.Prelude.{Option, None}
use Rattle.dw_bytes.specs.declared.target.Target.{Target}
use Rattle.dw_stack.specs.Expressions.{operations_in}
use Rattle.dw_stack.specs.Located.{LocatedExpression}
use Rattle.dw_stack.specs.Paths.{Placed}
use Rattle.dw_stack.specs.declared.state.Kind.{Kind}
use Rattle.dw_eval.specs.Results.{IsRun, Outcome}
use Rattle.dw_eval.specs.World.{World}
use Rattle.dw_unwind.specs.Caller.{under}
use Rattle.dw_cached_rows.specs.PackedRows.{IsCoded, little_64}

-- what a run of an expression reads
abbrev pub world : (ℕ → Option ℕ) → (ℕ → Option ℕ) → Option ℕ → World
world registers memory cfa =
    record { target = little_64; registers = registers; memory = memory; cfa = cfa; frame_base = None; object = None }

-- a run of the operations is one of the expression
pub coded-run : (registers memory : ℕ → Option ℕ) (cfa : Option ℕ) (kind : Kind) (ops : List Placed) (size : ℕ) (x : LocatedExpression)
    (outcome : Outcome) (steps : ℕ) → IsCoded ops size x → IsRun (world registers memory cfa) kind ops size outcome steps
    → IsRun (under x.target (world registers memory cfa)) kind (operations_in x.target x.bytes) (length x.bytes) outcome steps
coded-run registers memory cfa kind ops size x outcome steps is run =
    let w = world registers memory cfa in
    let in-bytes = operations_in x.target x.bytes in
    let a = subst (λ (l : List Placed). IsRun w kind l size outcome steps) (sym is.are) run in
    let b = subst (λ (n : ℕ). IsRun w kind in-bytes n outcome steps) (sym is.long) a in
    subst (λ (t : Target). IsRun (under t w) kind in-bytes (length x.bytes) outcome steps) (sym is.target) b

-- and the other way round
pub run-coded : (registers memory : ℕ → Option ℕ) (cfa : Option ℕ) (kind : Kind) (ops : List Placed) (size : ℕ) (x : LocatedExpression)
    (outcome : Outcome) (steps : ℕ) → IsCoded ops size x
    → IsRun (under x.target (world registers memory cfa)) kind (operations_in x.target x.bytes) (length x.bytes) outcome steps
    → IsRun (world registers memory cfa) kind ops size outcome steps
run-coded registers memory cfa kind ops size x outcome steps is run =
    let w = world registers memory cfa in
    let in-bytes = operations_in x.target x.bytes in
    let a = subst (λ (t : Target). IsRun (under t w) kind in-bytes (length x.bytes) outcome steps) is.target run in
    let b = subst (λ (n : ℕ). IsRun w kind in-bytes n outcome steps) is.long a in
    subst (λ (l : List Placed). IsRun w kind l size outcome steps) is.are b
