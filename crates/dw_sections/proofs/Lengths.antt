-- The first fault of a section or an expression, by its length.
use Rattle.std.proofs.Common.{◌≡◌, ℕ, ◌^◌, ◌<◌, ◌≤◌, Bool, List, length, ap, arith, nat_lt, if◌then◌else◌}
use Rattle.std.specs.Prelude.{Option, Some, None, false}
use Rattle.std.specs.Option.{option_or}
use Rattle.std.proofs.lemmas.Bool.Decides.{nat_tests}
use borrow.Author.Tests.{lt-ltb}
use Rattle.dw_bytes.specs.declared.fault.Fault.{Fault}
use Rattle.dw_sections.specs.Checked.{too_long, length_fault}

pub short_length : (bytes : List ℕ) → length bytes < 2 ^ 32 → length_fault bytes ≡ None
short_length bytes h = rw (lt-ltb (length bytes) (2 ^ 32) h)

pub long_length : (bytes : List ℕ) → 2 ^ 32 ≤ length bytes → length_fault bytes ≡ Some too_long
long_length bytes h =
    let e : nat_lt (length bytes) (2 ^ 32) ≡ false = grind (arith, nat_tests) in
    let chosen : Bool → Option Fault = λ b. if b then None else Some too_long in
    ap chosen e

-- the first fault of fewer than 2^32 bytes is the first fault of what they contain
pub short_fault : (bytes : List ℕ) (own : Option Fault) → length bytes < 2 ^ 32 → option_or (length_fault bytes) own ≡ own
short_fault bytes own h = ap (λ (l : Option Fault). option_or l own) (short_length bytes h)

-- the first fault of 2^32 bytes or more is that there are too many
pub long_fault : (bytes : List ℕ) (own : Option Fault) → 2 ^ 32 ≤ length bytes → option_or (length_fault bytes) own ≡ Some too_long
long_fault bytes own h = ap (λ (l : Option Fault). option_or l own) (long_length bytes h)

-- if there is no fault, then what the bytes contain has none
pub no_fault : (bytes : List ℕ) (own : Option Fault) → option_or (length_fault bytes) own ≡ None → own ≡ None
no_fault bytes own = by (length_fault bytes)
  where
    by : (l : Option Fault) → option_or l own ≡ None → own ≡ None
    by None h = h
    by (Some fault) h = absurd (cc)
