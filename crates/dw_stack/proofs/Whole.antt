-- What is proved for the operations of an expression, stated for the expression and its bytes.
use Rattle.std.proofs.Common.{◌≡◌, ◌∙◌, ◌⊎◌, ℕ, List, length, Option, Some, None, sym, ap, subst, inl, inr}
use Rattle.std.specs.Prelude.{slice_get, IfSome}
use Rattle.std.specs.Borrow.{Bor}
use Rattle.dw_bytes.specs.declared.target.Target.{Target}
use Rattle.dw_bytes.specs.declared.fault.Fault.{Fault}
use Rattle.dw_bytes.specs.Answers.{memory}
use Rattle.dw_stack.specs.declared.state.Kind.{Kind}
use Rattle.dw_stack.specs.declared.state.State.{State}
use Rattle.dw_stack.specs.declared.state.StackState.{StackState}
use Rattle.dw_stack.specs.States.{at_offset}
use Rattle.dw_stack.specs.Paths.{Placed, IsLaidOut, Reaches, IsGood, AreStates, IsDepth}
use Rattle.dw_stack.specs.Faults.{FitsCertificate, IsFirstFault, KnowsOnly}
use Rattle.dw_stack.specs.InStates.{given_of}
use Rattle.dw_stack.specs.Expressions.{operations_in, reading_fault, IsGoodExpression, IsDepthOf, RunsWellWithin, IsOtherCount, IsFaultOf}
use Rattle.dw_stack.specs.Expressions.{Checked, IsChecked, IsOf, Knows}
use Rattle.dw_stack.proofs.Places.{place_of_some}
use Rattle.dw_stack.proofs.Verdicts.{good_refuses}
use Rattle.dw_stack.proofs.paths.Runs.{good_runs}
use Rattle.dw_stack.proofs.Encoded.{laid_out, encoded_of, read_of, laid_if_read}

-- if the caller passed as many states as there are operations, there is no fault of their number
pub same_count : (target : Target) (bytes : List ℕ) (given : Option (Bor (List State))) (n : ℕ) → n ≡ length (operations_in target bytes)
    → IfSome given (λ states. length states.now ≡ n) → IsOtherCount target bytes (given_of given) → ⊥
same_count target bytes None n is same other = other
same_count target bytes (Some states) n is same other = other (same ∙ is)

-- `ops` and `len` are equal to the operations and the length of bytes that can be read
module _ (kind : Kind) (target : Target) (bytes : List ℕ) (ops : List Placed) (len : ℕ) (read : reading_fault target bytes ≡ None)
    (are : ops ≡ operations_in target bytes) (long : len ≡ length bytes) where
  pub laid_for : IsLaidOut ops len
  laid_for = subst (λ (xs : List Placed). IsLaidOut xs len) (sym are)
      (subst (λ (n : ℕ). IsLaidOut (operations_in target bytes) n) (sym long) (laid_if_read target bytes read))

  pub checked_for : (depth count : ℕ) → IsGood kind ops len → IsDepth kind ops len depth → count ≡ length ops
      → IsChecked (record { kind = kind; target = target; bytes = bytes; depth = depth; count = count })
  checked_for depth count good deepest counted = record {
    good = record {
      encoded = encoded_of target bytes read;
      good = subst (λ (xs : List Placed). IsGood kind xs (length bytes)) are (subst (λ (n : ℕ). IsGood kind ops n) long good);
    };
    depth = subst (λ (xs : List Placed). IsDepth kind xs (length bytes) depth) are
        (subst (λ (n : ℕ). IsDepth kind ops n depth) long deepest);
    count = counted ∙ ap length are;
  }

  pub fault_for : (given : Option (List State)) (f : Fault) → (IsOtherCount target bytes given → ⊥)
      → (f ≡ memory) ⊎ IsFirstFault kind ops len given f.kind f.at → (f ≡ memory) ⊎ IsFaultOf kind target bytes given f
  fault_for given f same refused = elim refused [
    | inl lacks ↦ inl lacks
    | inr first ↦
        inr (inr (inr (
          read,
          same,
          subst (λ (xs : List Placed). IsFirstFault kind xs (length bytes) given f.kind f.at) are
              (subst (λ (n : ℕ). IsFirstFault kind ops n given f.kind f.at) long first),
        )))
  ]

-- if the caller passed as many states as there are operations, and each is the state that paths
-- have (`KnowsOnly`), then `AreStates` holds for these states
pub states_known : (kind : Kind) (ops : List Placed) (len : ℕ) (given : List State) → length given ≡ length ops
    → KnowsOnly kind ops len (Some given) → AreStates kind ops len given
states_known kind ops len given long knows = record {
  long = long;
  each = λ k x s stands r. knows.each k x s stands r ∙ ap (λ (n : ℕ). Some (at_offset n s)) (place_of_some ops len k x stands);
}

pub knows_for : (kind : Kind) (target : Target) (bytes : List ℕ) (ops : List Placed) (len : ℕ) (given : Option (Bor (List State))) (n : ℕ)
    → ops ≡ operations_in target bytes → len ≡ length bytes → n ≡ length ops → IfSome given (λ states. length states.now ≡ n)
    → KnowsOnly kind ops len (given_of given) → Knows kind target bytes (given_of given)
knows_for kind target bytes ops len None n are long count same knows = tt
knows_for kind target bytes ops len (Some states) n are long count same knows =
    subst (λ (xs : List Placed). AreStates kind xs (length bytes) states.now) are
    (subst (λ (m : ℕ). AreStates kind ops m states.now) long (states_known kind ops len states.now (same ∙ count) knows))

-- all runs of a good expression go well (`RunsWellWithin`)
pub good_expressions_run_well : (kind : Kind) (target : Target) (bytes : List ℕ) (depth : ℕ) → IsGoodExpression kind target bytes
    → IsDepthOf kind target bytes depth → RunsWellWithin kind target bytes depth
good_expressions_run_well kind target bytes depth good deepest =
    good_runs kind (operations_in target bytes) (length bytes)
    (laid_out target bytes (operations_in target bytes) good.encoded) good.good depth deepest

-- all runs of a checked expression go well (`RunsWellWithin`)
pub runs_for : (kind : Kind) (target : Target) (bytes : List ℕ) (c : Checked) → IsChecked c → IsOf kind target bytes c
    → RunsWellWithin kind target bytes c.depth
runs_for kind target bytes c checked is =
    let runs = good_expressions_run_well c.kind c.target c.bytes c.depth checked.good checked.depth in
    subst (λ (k : Kind). RunsWellWithin k target bytes c.depth) is.kind_is
    (subst (λ (t : Target). RunsWellWithin c.kind t bytes c.depth) is.target_is
    (subst (λ (b : List ℕ). RunsWellWithin c.kind c.target b c.depth) is.bytes_are runs))

-- a good expression has no fault, as long as the states that the caller passed, if any, are right
pub good_faultless : (kind : Kind) (target : Target) (bytes : List ℕ) (given : Option (List State)) (f : Fault)
    → Knows kind target bytes given → IsGoodExpression kind target bytes → IsFaultOf kind target bytes given f → ⊥
good_faultless kind target bytes given f right good fault = elim fault [
  | inl unread ↦ let both : None ≡ Some f = sym (read_of target bytes (operations_in target bytes) good.encoded) ∙ unread in cc
  | inr rest ↦ elim rest [
    | inl count ↦ no_other given right count.1
    | inr first ↦ good_refuses kind (operations_in target bytes) (length bytes)
        (laid_out target bytes (operations_in target bytes) good.encoded) given
        (λ k x s stands r. known given right k x s stands r) good.good f.kind f.at first.2.refuses
  ]
]
  where
    no_other : (g : Option (List State)) → Knows kind target bytes g → IsOtherCount target bytes g → ⊥
    no_other None knows other = other
    no_other (Some states) knows other = other knows.long

    known : (g : Option (List State)) → Knows kind target bytes g → (k : ℕ) (x : Placed) (s : StackState)
        → slice_get (operations_in target bytes) k ≡ Some x → Reaches kind (operations_in target bytes) (length bytes) x.0 s
        → FitsCertificate (operations_in target bytes) (length bytes) g k s
    known None knows k x s stands r = tt
    known (Some states) knows k x s stands r = knows.each k x s stands r
        ∙ ap (λ (n : ℕ). Some (at_offset n s)) (sym (place_of_some (operations_in target bytes) (length bytes) k x stands))
