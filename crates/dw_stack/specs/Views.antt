-- What a list of the code's operations with their offsets stands for.
use Rattle.std.specs.Prelude.{ℕ, List, map}
use Rattle.dw_ops.specs.declared.operation.Operation as coded
use Rattle.dw_ops.specs.Views.{located_of}
use Rattle.dw_stack.specs.Paths.{Placed}

abbrev pub placed_in : List (ℕ × coded.Operation) → List Placed
placed_in items = map located_of items
