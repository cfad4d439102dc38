-- The text that shows the result of evaluating a checked expression: there is exactly one.
use Rattle.std.proofs.Common.{◌≡◌, ℕ, ◌^◌, ◌<◌, ◌≤◌, List, length, refl, sym, ap, ◌∙◌, subst}
use Rattle.std.specs.Prelude.{Some}
use Rattle.dw_bytes.specs.declared.target.Target.{Target}
use Rattle.dw_bytes.specs.declared.target.AddressSize.{AddressSize}
use Rattle.dw_bytes.specs.declared.target.AddressSize.TheVariants.{Four, Eight}
use Rattle.dw_bytes.specs.declared.fault.Fault.{Fault}
use Rattle.dw_sections.specs.Checked.{too_long}
use Rattle.dw_sections.proofs.Lengths.{short_fault, long_fault}
use Rattle.dw_stack.specs.declared.state.Kind.{Kind}
use Rattle.dw_stack.specs.Expressions.{Checked, IsOf, IsGoodExpression, IsDepthOf, operations_in}
use Rattle.dw_stack.specs.FirstFault.{expression_fault}
use Rattle.dw_stack.proofs.Existing.{each_has_a_depth}
use Rattle.dw_stack.proofs.Unique.{one_depth}
use Rattle.dw_eval.specs.Numbers.{width_of}
use Rattle.std.proofs.Math.Path.{fun_ext}
use Rattle.dw_eval.specs.World.{World}
use Rattle.dw_eval.specs.Results.{Outcome, IsEvaluation}
use Rattle.dw_eval.proofs.Determined.{each_evaluation, one_evaluation}
use Rattle.dw_check.specs.Text.{digits_of}
use Rattle.dw_check.specs.Outcomes.{evaluation_text}
use Rattle.dw_check.specs.Evaluations.{world_of, Evaluates}
use Rattle.dw_state.specs.StateFile.{StateFact, KnownState, IsGivenBy, first_that, content_in, byte_in}
use Rattle.dw_check.specs.Runs.{refusal, IsOutcome}
use Rattle.dw_sections.specs.declared.section.Section.TheVariants.{Expression}

pub same_bound : (size : AddressSize) → 2 ^ width_of size ≡ 16 ^ digits_of size
same_bound Four = refl
same_bound Eight = refl

-- if an expression passes the check, so does its checked form
pub good_checked : (kind : Kind) (target : Target) (bytes : List ℕ) (c : Checked) → IsOf kind target bytes c
    → IsGoodExpression kind target bytes → IsGoodExpression c.kind c.target c.bytes
good_checked kind target bytes c same good = rw (same.kind_is, same.target_is, same.bytes_are) good

-- what an evaluation may read: the target, and what is known of the machine's state
abbrev pub known_world : Target → KnownState → World
known_world target k = record {
  target = target;
  registers = k.registers;
  memory = k.memory;
  cfa = k.cfa;
  frame_base = k.frame_base;
  object = k.object;
}

same_world : (target : Target) (k : KnownState) (gs : List StateFact) → IsGivenBy k gs → known_world target k ≡ world_of target gs
same_world target k gs is =
    let registers : k.registers ≡ (λ n. first_that (content_in n) gs) = fun_ext is.registers in
    let memory : k.memory ≡ (λ a. first_that (byte_in a) gs) = fun_ext is.memory in
    rw (registers, memory, is.cfa, is.frame_base, is.object) refl

pub evaluates : (c : Checked) (known : KnownState) (gs : List StateFact) (outcome : Outcome) (steps depth : ℕ) → length c.bytes < 2 ^ 32
    → IsGoodExpression c.kind c.target c.bytes → IsGivenBy known gs
    → IsEvaluation c (known_world c.target known) outcome steps → IsDepthOf c.kind c.target c.bytes depth
    → Evaluates c.kind c.target c.bytes gs (evaluation_text c.target.address_size outcome steps depth)
evaluates c known gs outcome steps depth short good given run deepest = record {
  outcome = outcome;
  steps = steps;
  depth = depth;
  comes = record {
    short = short;
    good = good;
    run = subst (λ e. IsEvaluation c e outcome steps) (same_world c.target known gs given) run;
    deepest = deepest;
  };
  text = refl;
}

pub refused_short : (kind : Kind) (target : Target) (bytes : List ℕ) (gs : List StateFact) (fault : Fault) → length bytes < 2 ^ 32
    → expression_fault kind target bytes ≡ Some fault → IsOutcome kind target bytes gs (refusal Expression fault)
refused_short kind target bytes gs fault h e = (refl, short_fault bytes _ h ∙ e)

pub refused_long : (kind : Kind) (target : Target) (bytes : List ℕ) (gs : List StateFact) → 2 ^ 32 ≤ length bytes
    → IsOutcome kind target bytes gs (refusal Expression too_long)
refused_long kind target bytes gs h = (refl, long_fault bytes _ h)

-- if c is the checked form of `bytes`, a text that shows the outcome of c shows the outcome of
-- `bytes`
pub written_same : (kind : Kind) (target : Target) (bytes : List ℕ) (c : Checked) (gs : List StateFact) (W : List ℕ → Type 0)
    → IsOf kind target bytes c → ((t : List ℕ) × Evaluates c.kind c.target c.bytes gs t × W t)
    → (t : List ℕ) × Evaluates kind target bytes gs t × W t
written_same kind target bytes c gs W same h = (
  h.0,
  subst (λ k. Evaluates k target bytes gs h.0) same.kind_is
      (subst (λ t. Evaluates c.kind t bytes gs h.0) same.target_is (subst (λ b. Evaluates c.kind c.target b gs h.0) same.bytes_are h.1)),
  h.2,
)

-- an expression of fewer than 2^32 bytes that passes the check has a text that shows its outcome
pub each_text : (kind : Kind) (target : Target) (bytes : List ℕ) (gs : List StateFact) → length bytes < 2 ^ 32
    → IsGoodExpression kind target bytes → (t : List ℕ) × Evaluates kind target bytes gs t
each_text kind target bytes gs short good =
    let deep = each_has_a_depth kind target bytes good in
    let c : Checked = record {
      kind = kind;
      target = target;
      bytes = bytes;
      depth = deep.0;
      count = length (operations_in target bytes);
    } in
    let run = each_evaluation c (world_of target gs) (record { good = good; depth = deep.1; count = refl }) in (
      evaluation_text target.address_size run.0 run.1 deep.0,
      record {
        outcome = run.0;
        steps = run.1;
        depth = deep.0;
        comes = record { short = short; good = good; run = run.2; deepest = deep.1 };
        text = refl;
      },
    )

-- there is at most one text that shows the outcome of an expression
pub same_text : (kind : Kind) (target : Target) (bytes : List ℕ) (gs : List StateFact) (a b : List ℕ) → Evaluates kind target bytes gs a
    → Evaluates kind target bytes gs b → a ≡ b
same_text kind target bytes gs a b h k =
    let c : Checked = record { kind = kind; target = target; bytes = bytes; depth = h.depth; count = 0 } in
    let runs = one_evaluation c (world_of target gs) h.outcome k.outcome h.steps k.steps h.comes.good h.comes.run k.comes.run in
    let deep = one_depth kind (operations_in target bytes) (length bytes) h.depth k.depth h.comes.deepest k.comes.deepest in
    h.text
    ∙ ap (λ o. evaluation_text target.address_size o h.steps h.depth) runs.0
    ∙ ap (λ n. evaluation_text target.address_size k.outcome n h.depth) runs.1
    ∙ ap (λ d. evaluation_text target.address_size k.outcome k.steps d) deep
    ∙ sym k.text
