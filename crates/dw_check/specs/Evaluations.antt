-- The outcome of an expression, given the machine state in a state file.
use Rattle.std.specs.Prelude.{◌≡◌, ℕ, ◌<◌, ◌^◌, List, length}
use Rattle.dw_bytes.specs.declared.target.Target.{Target}
use Rattle.dw_stack.specs.declared.state.Kind.{Kind}
use Rattle.dw_stack.specs.Expressions.{operations_in, IsGoodExpression, IsDepthOf}
use Rattle.dw_eval.specs.World.{World}
use Rattle.dw_eval.specs.Results.{Outcome, IsRun}
use Rattle.dw_state.specs.StateFile.{StateFact, first_that, content_in, byte_in, cfa_in, frame_base_in, object_in}
use Rattle.dw_check.specs.Outcomes.{evaluation_text}

-- what an evaluation may read: the target, and what the facts of a state file give
abbrev pub world_of : Target → List StateFact → World
world_of target facts = record {
  target = target;
  registers = λ n. first_that (content_in n) facts;
  memory = λ a. first_that (byte_in a) facts;
  cfa = first_that cfa_in facts;
  frame_base = first_that frame_base_in facts;
  object = first_that object_in facts;
}

-- The expression passes the check. Run on what the facts give, it has `outcome` after `steps`
-- operations. Its greatest stack depth on any path is `depth`.
pub record ComesTo (kind : Kind) (target : Target) (bytes : List ℕ) (facts : List StateFact) (outcome : Outcome)
    (steps depth : ℕ) : Type 0 where
  pub short : length bytes < 2 ^ 32
  pub good : IsGoodExpression kind target bytes
  pub run : IsRun (world_of target facts) kind (operations_in target bytes) (length bytes) outcome steps
  pub deepest : IsDepthOf kind target bytes depth

-- The text shows the outcome of an expression.
pub record Evaluates (kind : Kind) (target : Target) (bytes : List ℕ) (facts : List StateFact) (written : List ℕ) : Type 0 where
  pub outcome : Outcome
  pub steps : ℕ
  pub depth : ℕ
  pub comes : ComesTo kind target bytes facts outcome steps depth
  pub text : written ≡ evaluation_text target.address_size outcome steps depth
