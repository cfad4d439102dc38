-- Checked expressions, stored together with a copy of their bytes.
use Rattle.std.specs.Prelude.{◌≡◌, ◌≤◌, ℕ, ◌+◌, List, length, map, take, drop}
use Rattle.std.specs.List.{AllByRecursion, sum_by}
use Rattle.dw_stack.specs.Expressions.{IsChecked}
use Rattle.dw_stack.specs.Located.{LocatedExpression}
use Rattle.dw_rules.specs.declared.owned_expressions.OwnedExpression.{OwnedExpression}

-- the bytes of the expression `k`, cut out of the bytes of all expressions
abbrev pub bytes_in : List ℕ → OwnedExpression → List ℕ
bytes_in bytes k = take k.length (drop k.start bytes)

-- the expression `k`, with its bytes and its offset in the section
abbrev pub owned_in : List ℕ → OwnedExpression → LocatedExpression
owned_in bytes k = record { offset = k.offset; kind = k.kind; target = k.target; bytes = bytes_in bytes k }

abbrev pub all_owned : List ℕ → List OwnedExpression → List LocatedExpression
all_owned bytes kept = map (owned_in bytes) kept

-- the bytes of `k` lie within `bytes`, and the expression has passed its check
pub record IsOwned (bytes : List ℕ) (k : OwnedExpression) : Type 0 where
  pub inside : k.start + k.length ≤ length bytes
  pub checked : IsChecked (record { kind = k.kind; target = k.target; bytes = bytes_in bytes k; depth = k.depth; count = k.count })

abbrev pub AreOwned : List ℕ → List OwnedExpression → Type 0
AreOwned bytes kept = AllByRecursion (IsOwned bytes) kept

-- The array `bytes` holds the bytes of these expressions, and nothing else: it is as long as all
-- expressions together.
pub record AreAllBytes (bytes : List ℕ) (kept : List OwnedExpression) : Type 0 where
  pub owned : AreOwned bytes kept
  pub together : length bytes ≡ sum_by (λ e. length e.bytes) (all_owned bytes kept)
