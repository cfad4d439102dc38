-- The first fault of an expression as a function of its bytes. First the whole expression is read.
-- Then the operations are checked in order of offset, and the end last. Each is checked by
-- yes-or-no questions in a fixed order, and the first question answered with no gives the fault.
-- The questions ask what DWARF 5, sections 2.5 and 2.6, and this checker's rules on paths require.
-- Their order is this checker's own.
use Rattle.std.specs.Prelude.{ℕ, zero, suc, ◌+◌, ◌==◌, ◌&&◌, Bool, true, false, not, if◌then◌else◌, List, [], ◌∷◌, ◌++◌, length, map}
use Rattle.std.specs.Prelude.{Option, Some, None, slice_get}
use Rattle.std.specs.Option.{option_or}
use Rattle.std.specs.List.{list_all, flat_map}
use Rattle.dw_bytes.specs.declared.target.Target.{Target}
use Rattle.dw_bytes.specs.declared.fault.Fault.{Fault}
use Rattle.dw_bytes.specs.declared.fault.FaultKind.{FaultKind}
use Rattle.dw_bytes.specs.declared.fault.FaultKind.TheVariants as fault
use Rattle.dw_stack.specs.declared.effect.StackEffect.{StackEffect}
use Rattle.dw_stack.specs.declared.state.Mode.{Mode}
use Rattle.dw_stack.specs.declared.state.Mode.TheVariants as mode
use Rattle.dw_stack.specs.declared.state.StackState.{StackState}
use Rattle.dw_stack.specs.declared.state.Kind.{Kind}
use Rattle.dw_stack.specs.Effects.{effect_of}
use Rattle.dw_stack.specs.States.{start_of, state_after, has_result}
use Rattle.dw_stack.specs.Paths.{Placed, place, branch_target_of, pieces_before}
use Rattle.dw_stack.specs.Faults.{verdicts, passes}
use Rattle.dw_stack.specs.Expressions.{operations_in, reading_fault}

-- ---- the states with which paths reach an offset

abbrev pub offsets_to : Option ℕ → List ℕ
offsets_to None = []
offsets_to (Some t) = t ∷ []

-- the offsets that a path may go to from the operation numbered k, whose effect is e: the next
-- operation's, and the branch target
abbrev pub offsets_after : List Placed → ℕ → ℕ → StackEffect → List ℕ
offsets_after ops len k e = (if e.falls_through then place ops len (k + 1) ∷ [] else []) ++ offsets_to (branch_target_of ops len k e)

-- the states at offset `at`, from a list of offsets with states
abbrev pub states_at : ℕ → List (ℕ × StackState) → List StackState
states_at at [] = []
states_at at (c ∷ come) = if c.0 == at then c.1 ∷ states_at at come else states_at at come

-- the offsets that paths may go to from the operation numbered k, each with the state there;
-- `states` are the states with which paths reach that operation
abbrev pub onward : List Placed → ℕ → ℕ → Option Placed → List StackState → List (ℕ × StackState)
onward ops len k None states = []
onward ops len k (Some x) states =
    flat_map (λ s. map (λ b. (b, state_after (effect_of x.1) s)) (offsets_after ops len k (effect_of x.1))) states

-- the offsets that paths through the first k operations reach, each with the state there
abbrev pub arrivals : Kind → List Placed → ℕ → ℕ → List (ℕ × StackState)
arrivals kind ops len zero = (0, start_of kind) ∷ []
arrivals kind ops len (suc k) =
    arrivals kind ops len k ++ onward ops len k (slice_get ops k) (states_at (place ops len k) (arrivals kind ops len k))

-- the states with which paths reach the operation numbered k, or the end
abbrev pub states_to : Kind → List Placed → ℕ → ℕ → List StackState
states_to kind ops len k = states_at (place ops len k) (arrivals kind ops len k)

-- ---- whether states are the same

abbrev pub number_of : Mode → ℕ
number_of mode.Stack = 0
number_of mode.Register = 1
number_of mode.Value = 2
number_of mode.AfterPiece = 3

-- whether two states have the same height and mode, and both have pieces or neither has
abbrev pub same_state : StackState → StackState → Bool
same_state s t =
    (s.height == t.height) && (number_of s.mode == number_of t.mode) && (if s.pieced then t.pieced else not t.pieced)

-- ---- the questions, each with the fault if the answer is no

abbrev pub Question : Type 0
Question = Bool × Fault

-- the question whether b is true, with the fault if it isn't
abbrev pub else_fault : Bool → FaultKind → ℕ → Question
else_fault b kind at = (b, record { kind = kind; at = at })

-- the fault of the first question whose answer is no
abbrev pub first_no : List Question → Option Fault
first_no [] = None
first_no ((true, f) ∷ asked) = first_no asked
first_no ((false, f) ∷ asked) = Some f

-- the questions about the operation numbered k, with effect e and at offset `at`, which paths reach
-- with state s
abbrev pub asked_at : Kind → List Placed → ℕ → ℕ → StackEffect → StackState → ℕ → List Question
asked_at kind ops len k e s at =
    map (λ f. else_fault (passes kind ops len k (pieces_before ops k) e s f) f at) verdicts

-- the questions about the operation x, numbered k, which paths reach with these states
abbrev pub asked_of : Kind → List Placed → ℕ → ℕ → Placed → List StackState → List Question
asked_of kind ops len k x [] = else_fault false fault.Unreachable x.0 ∷ []
asked_of kind ops len k x (s ∷ others) =
    else_fault (list_all (same_state s) others) fault.Mismatch x.0 ∷ asked_at kind ops len k (effect_of x.1) s x.0

-- the questions about the end, which paths reach with these states
abbrev pub asked_last : Kind → List Placed → ℕ → List StackState → List Question
asked_last kind ops len [] = []
asked_last kind ops len (s ∷ others) =
    else_fault (list_all (same_state s) others) fault.Mismatch len
    ∷ else_fault (has_result kind s.mode (length ops == 0) s.pieced s.height) fault.EndsEmpty len
    ∷ []

-- the questions about the operations `left`, which are numbered from k on, and then about the end
abbrev pub asked_from : Kind → List Placed → ℕ → ℕ → List Placed → List Question
asked_from kind ops len k [] = asked_last kind ops len (states_to kind ops len k)
asked_from kind ops len k (x ∷ left) =
    asked_of kind ops len k x (states_to kind ops len k) ++ asked_from kind ops len (k + 1) left

-- the first fault of operations that are laid out in order up to the length; None if there is none
unfoldable pub first_fault : Kind → List Placed → ℕ → Option Fault
first_fault kind ops len = first_no (asked_from kind ops len 0 ops)

-- The first fault of an expression: None exactly if the expression is good, and f exactly if the
-- relation `IsFaultOf` holds for f (law `the_fault_is_the_first`).
unfoldable pub expression_fault : Kind → Target → List ℕ → Option Fault
expression_fault kind target bytes =
    option_or (reading_fault target bytes) (first_fault kind (operations_in target bytes) (length bytes))
