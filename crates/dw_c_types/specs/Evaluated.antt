-- What C passes when it evaluates an expression, and what it gets as the outcome.
use Rattle.std.specs.Prelude.{◌≡◌, ◌==◌, if◌then◌else◌, ℕ, List, [], length, map, slice_get, Option, Some, None}
use Rattle.dw_bytes.specs.declared.target.Target.{Target}
use Rattle.dw_stack.specs.declared.state.Kind.{Kind}
use Rattle.dw_stack.specs.declared.state.Kind.TheVariants.{FrameCfa, FrameRegister, Location}
use Rattle.dw_stack.specs.Machine.{LocationDescription, Nowhere, AtAddress, InRegister, HasValue, HasBytes, PieceExtent, bytes, bits, Piece}
use Rattle.dw_stack.specs.Expressions.{operations_in}
use Rattle.dw_eval.specs.World.{World}
use Rattle.dw_eval.specs.Results.{Outcome, value, single, pieces, unreadable, division_by_zero, IsRun}
use Rattle.dw_c_types.specs.declared.context.CContext.{CContext}
use Rattle.dw_c_types.specs.declared.state.CState.{CState}
use Rattle.dw_c_types.specs.declared.value.CValue.{CValue}
use Rattle.dw_c_types.specs.declared.value.CPiece.{CPiece}
use Rattle.dw_c_types.specs.Machine.{registers_of, memory_of}
use Rattle.dw_c_types.specs.Slots.{put_into}

-- ---- the inputs

-- the kind of expression that C's number stands for: 0 is the rule of a CFA, 1 the rule of a
-- register, 2 a location; None for any other number
abbrev pub kind_by : ℕ → Option Kind
kind_by n = if n == 0 then Some FrameCfa else if n == 1 then Some FrameRegister else if n == 2 then Some Location else None

-- a number that C passes together with a flag: None if the flag is 0
abbrev pub given_by : ℕ → ℕ → Option ℕ
given_by flag n = if flag == 0 then None else Some n

abbrev pub world_by : Target → CState → CContext → World
world_by target state c = record {
  target = target;
  registers = registers_of state;
  memory = memory_of state;
  cfa = given_by c.has_cfa c.cfa;
  frame_base = given_by c.has_frame_base c.frame_base;
  object = given_by c.has_object c.object;
}

-- ---- the results

abbrev pub kind_of_location : LocationDescription → ℕ
kind_of_location Nowhere = 3
kind_of_location (AtAddress a) = 4
kind_of_location (InRegister r) = 5
kind_of_location (HasValue v) = 6
kind_of_location (HasBytes bs) = 7

-- what C gets as the `value` of a location: its address, its register, its value, or the number of
-- its bytes; 0 if the object has no location and no value
abbrev pub number_of_location : LocationDescription → ℕ
number_of_location Nowhere = 0
number_of_location (AtAddress a) = a
number_of_location (InRegister r) = r
number_of_location (HasValue v) = v
number_of_location (HasBytes bs) = length bs

abbrev pub bytes_of_location : LocationDescription → List ℕ
bytes_of_location (HasBytes bs) = bs
bytes_of_location _ = []

-- the pieces of an outcome; the empty list if it has none
abbrev pub pieces_of : Outcome → List Piece
pieces_of (pieces ps) = ps
pieces_of _ = []

abbrev pub bytes_of_piece : Option Piece → List ℕ
bytes_of_piece None = []
bytes_of_piece (Some p) = bytes_of_location p.location

-- the bytes that C gets for an outcome: those of a single location, or those of piece n, counted
-- from 0; the empty list if there are none
abbrev pub bytes_of_outcome : ℕ → Outcome → List ℕ
bytes_of_outcome n (single l) = bytes_of_location l
bytes_of_outcome n (pieces ps) = bytes_of_piece (slice_get ps n)
bytes_of_outcome n _ = []

abbrev pub kind_of_outcome : Outcome → ℕ
kind_of_outcome (value v) = 0
kind_of_outcome (unreadable at) = 1
kind_of_outcome (division_by_zero at) = 2
kind_of_outcome (single l) = kind_of_location l
kind_of_outcome (pieces ps) = 8

abbrev pub number_of_outcome : Outcome → ℕ
number_of_outcome (value v) = v
number_of_outcome (single l) = number_of_location l
number_of_outcome _ = 0

abbrev pub offset_of_outcome : Outcome → ℕ
offset_of_outcome (unreadable at) = at
offset_of_outcome (division_by_zero at) = at
offset_of_outcome _ = 0

-- C's struct for an outcome that was reached after `steps` operations
abbrev pub cvalue_of : Outcome → ℕ → CValue
cvalue_of outcome steps = record {
  value = number_of_outcome outcome;
  kind = kind_of_outcome outcome;
  offset = offset_of_outcome outcome;
  steps = steps;
  count = length (pieces_of outcome);
}

-- C's struct for a piece: its size is in bytes, or its size and its offset are in bits
abbrev pub cpiece_by : LocationDescription → PieceExtent → CPiece
cpiece_by l (bytes n) =
    record { value = number_of_location l; kind = kind_of_location l; size = n; bit_offset = 0; is_bits = 0 }
cpiece_by l (bits n offset) =
    record { value = number_of_location l; kind = kind_of_location l; size = n; bit_offset = offset; is_bits = 1 }

abbrev pub cpiece_of : Piece → CPiece
cpiece_of p = cpiece_by p.location p.size

-- `out` is C's struct for the outcome. The outcome's pieces, and its bytes (`bytes_of_outcome`),
-- are written to the front of the slots, as many as fit.
pub record ShowsOutcome (outcome : Outcome) (steps n : ℕ) (out : CValue) (old_pieces new_pieces : List CPiece)
    (old_bytes new_bytes : List ℕ) : Type 0 where
  pub value : out ≡ cvalue_of outcome steps
  pub pieces : new_pieces ≡ put_into (map cpiece_of (pieces_of outcome)) old_pieces
  pub bytes : new_bytes ≡ put_into (bytes_of_outcome n outcome) old_bytes

-- evaluating `expression` as an expression of kind `kind` gives an outcome, which is written to
-- `out` and to the slots, as `ShowsOutcome` says
pub record IsRunOf (kind : Kind) (target : Target) (expression : List ℕ) (state : CState) (context : CContext) (n : ℕ) (out : CValue)
    (old_pieces new_pieces : List CPiece) (old_bytes new_bytes : List ℕ) : Type 0 where
  pub outcome : Outcome
  pub run : IsRun (world_by target state context) kind (operations_in target expression) (length expression) outcome out.steps
  pub shows : ShowsOutcome outcome out.steps n out old_pieces new_pieces old_bytes new_bytes

-- both options have a value, which means that C's numbers are valid, and P holds for the two values
abbrev pub WithBoth : Option Kind → Option Target → (Kind → Target → Type 0) → Type 0
WithBoth (Some kind) (Some target) P = P kind target
WithBoth _ _ P = ⊥
