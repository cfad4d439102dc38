-- Where lists and expressions are in their section, and in what order.
use Rattle.std.specs.Prelude.{◌≡◌, ◌≤◌, ◌<◌, ◌+◌, ◌⊎◌, ℕ, List, [], ◌∷◌, ◌++◌, length, Option, Some, None}
use Rattle.std.specs.List.{AllByRecursion}
use Rattle.dw_bytes.specs.Operands.{Block}
use Rattle.dw_bytes.specs.declared.target.Target.{Target}
use Rattle.dw_loclists.specs.Entries.{Entry, expression_in}
use Rattle.dw_loclists.specs.Lists.{Loclist, IsList}

-- the offset `at` is at most the offset where the expression ends; false if there is no expression
abbrev pub IsUpTo : ℕ → Option Block → Type 0
IsUpTo at None = ⊥
IsUpTo at (Some e) = at ≤ e.offset + length e.bytes

-- the offset `at` is at most `begin`, the offset of the entry's first byte, or at most the offset
-- where the entry's expression ends, if it has one
abbrev pub IsBefore : ℕ → Entry → ℕ → Type 0
IsBefore begin entry at = (at ≤ begin) ⊎ IsUpTo at (expression_in entry)

-- the items ascend: `at` gives each item a lower number than it gives any later item
abbrev pub Ascends : {X : Type 0} → (X → ℕ) → List X → Type 0
Ascends at [] = Unit {0}
Ascends at (x ∷ xs) = AllByRecursion (λ y. at x < at y) xs × Ascends at xs

-- the numbers ascend, and each is at least `low` and less than `high`; if there are no numbers,
-- `low` is at most `high`
abbrev pub RiseWithin : ℕ → ℕ → List ℕ → Type 0
RiseWithin low high [] = low ≤ high
RiseWithin low high (n ∷ ns) = (low ≤ n) × RiseWithin (n + 1) high ns

-- the expression begins after its entry's first byte, which is at offset `at`, ends where the entry
-- ends, at offset `end`, and has the section's target
pub record StandsWithin (target : Target) (at end : ℕ) (b : Block) : Type 0 where
  pub past : at < b.offset
  pub ends : b.offset + length b.bytes ≡ end
  pub of_target : b.target ≡ target

-- if the entry has an expression, that expression begins after the entry's first byte, ends where
-- the entry ends, and has the section's target
abbrev pub AllWithin : Target → ℕ → ℕ → Option Block → Type 0
AllWithin target at end None = Unit {0}
AllWithin target at end (Some b) = StandsWithin target at end b

-- these bytes, which begin at offset `at` of the section, contain the encoding of the list at the
-- list's offset
pub record StandsIn (target : Target) (at : ℕ) (bytes : List ℕ) (l : Loclist) : Type 0 where
  pub front : List ℕ
  pub own : List ℕ
  pub rest : List ℕ
  pub parts : bytes ≡ front ++ (own ++ rest)
  pub offset_is : l.offset ≡ at + length front
  pub list_is : IsList target l.offset own l
