-- What holds for two sections that a check accepts (`AreSound`), assuming the laws of the crates
-- below.
use Rattle.std.proofs.Common.{◌≡◌, ℕ, ◌≤◌, List, [], ◌∷◌, length, map, refl, ap, ◌∙◌}
use Rattle.std.specs.Prelude.{Result, Ok}
use Rattle.dw_bytes.specs.declared.target.Target.{Target}
use Rattle.dw_bytes.specs.declared.fault.Fault.{Fault}
use Rattle.dw_bytes.specs.Answers.{values_in}
use Rattle.dw_stack.specs.declared.state.Kind.{Kind}
use Rattle.dw_stack.specs.Expressions.{Checked, IsChecked, IsGoodExpression, IsDepthOf, RunsWellWithin, operations_in}
use Rattle.dw_eval.specs.World.{World}
use Rattle.dw_eval.specs.Results.{Outcome, IsEvaluation}
use Rattle.dw_unwind.specs.Caller.{under}
use Rattle.dw_sections.specs.Headline.{IsSafe}

-- if no item is a fault, the values among the items are all of them
values_given : {X : Type 0} (xs : List X) → values_in {X = X} (map Ok xs) ≡ xs
values_given [] = refl
values_given (x ∷ xs) = ap (λ l. x ∷ l) (values_given xs)

-- if the items are the values xs without a fault, a function of the values among the items gives
-- what it gives for xs
pub made_of : {X Y : Type 0} (make : List X → Y) (items : List (Result X Fault)) (xs : List X) → items ≡ map Ok xs
    → make (values_in items) ≡ make xs
made_of make items xs are = ap (λ its. make (values_in its)) are ∙ ap make (values_given xs)

-- an expression that passes the check is safe (`IsSafe`), assuming the laws of dw_stack and dw_eval
pub safe : ((kind : Kind) (target : Target) (bytes : List ℕ) → IsGoodExpression kind target bytes → (d : ℕ) × IsDepthOf kind target bytes d)
    → ((kind : Kind) (target : Target) (bytes : List ℕ) (depth : ℕ) → IsGoodExpression kind target bytes
    → IsDepthOf kind target bytes depth → RunsWellWithin kind target bytes depth)
    → ((c : Checked) (e : World) → IsChecked c → (o : Outcome) × (n : ℕ) × IsEvaluation c e o n × (n ≤ c.count))
    → ((c : Checked) (e : World) (o p : Outcome) (n k : ℕ) → IsGoodExpression c.kind c.target c.bytes → IsEvaluation c e o n
    → IsEvaluation c e p k → (o ≡ p) × (n ≡ k))
    → (kind : Kind) (target : Target) (bytes : List ℕ) → IsGoodExpression kind target bytes → IsSafe kind target bytes
safe has_depth runs_well has_one only_one kind target bytes good =
    let deepest = has_depth kind target bytes good in
    let c : Checked = record {
      kind = kind;
      target = target;
      bytes = bytes;
      depth = deepest.0;
      count = length (operations_in target bytes);
    } in
    let checked : IsChecked c = record { good = good; depth = deepest.1; count = refl } in
    record {
      good = good;
      depth = deepest.0;
      deepest = deepest.1;
      runs = runs_well kind target bytes deepest.0 good deepest.1;
      ends = λ e.
          let w : World = under target e in
          let found = has_one c w checked in
          record {
            outcome = found.0;
            steps = found.1;
            run = found.2;
            within = found.3;
            only = λ other n run. only_one c w found.0 other found.1 n good found.2 run;
          };
    }
