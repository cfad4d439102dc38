-- The contents of a caller's registers, found register by register, where a list of all answers
-- isn't needed. A walk that gives only addresses and CFAs keeps contents alone.
use Rattle.std.specs.Prelude.{◌≡◌, ℕ, ◌==◌, if◌then◌else◌, List, [], ◌∷◌, Option, Some, None, IfSome, option_map}
use Rattle.std.proofs.Math.ListN.{get_or}
use Rattle.dw_eval.specs.World.{World}
use Rattle.dw_rules.specs.Abi.{Abi, rule_of_role}
use Rattle.dw_rules.specs.Rules.{Rule}
use Rattle.dw_unwind.specs.declared.unwinding.Unwound.{Unwound}
use Rattle.dw_unwind.specs.Caller.{Answer, content, IsRegister}
use Rattle.dw_unwind.specs.UnwoundViews.{caller_with}
use Rattle.dw_unwind.specs.Walks.{CallerRelation, Place, UnwindsAt, address_before, content_of, contents_of}

-- the content of register `r`, where `contents[r]` counts if `known[r]` isn't 0
abbrev pub content_in : List ℕ → List ℕ → ℕ → Option ℕ
content_in contents known r = if get_or known r 0 == 0 then None else Some (get_or contents r 0)

-- registers by number: their contents, and which of these count
pub record File : Type 0 where
  pub contents : List ℕ
  pub known : List ℕ

abbrev pub contents_in : File → ℕ → Option ℕ
contents_in f = content_in f.contents f.known

-- the contents `base`, except that the register `n` has the content `x`
abbrev pub content_changed : (ℕ → Option ℕ) → ℕ → Option ℕ → ℕ → Option ℕ
content_changed base n x r = if n == r then x else base r

-- The contents `final` are the contents `base`, except that each register in `rules` has the
-- content that its rule gives.
abbrev pub Overlays : World → Answer → List (ℕ × Rule) → (ℕ → Option ℕ) → (ℕ → Option ℕ) → Type 0
Overlays e cfa [] base final = base ≡ final
Overlays e cfa (entry ∷ rules) base final = (answer : Answer) × IsRegister e cfa entry.0 entry.1 answer
    × Overlays e cfa rules (content_changed base entry.0 (content_of answer)) final

-- the contents `final` are the contents `base`, except that each register in `registers` has the
-- content that it has now
abbrev pub Keeps : World → List ℕ → (ℕ → Option ℕ) → (ℕ → Option ℕ) → Type 0
Keeps e [] base final = base ≡ final
Keeps e (n ∷ registers) base final = Keeps e registers (content_changed base n (content_of (content e n))) final

-- each register has the content that its rule by `rules` gives
abbrev pub HasContents : World → Answer → (ℕ → Rule) → (ℕ → Option ℕ) → Type 0
HasContents e cfa rules contents =
    (r : ℕ) → (answer : Answer) × IsRegister e cfa r (rules r) answer × (contents r ≡ content_of answer)

-- the rule of each register to which a row gives none
abbrev pub abi_rules : Abi → ℕ → Rule
abi_rules abi r = rule_of_role (abi r)

-- Unwinding a frame with these registers, for which the address `looked_up` is looked up, gives a
-- caller with the CFA and return address of `unwound`, and the registers of that caller have the
-- contents `contents`; or it gives none.
pub record UnwindsTo (u : CallerRelation) (registers : ℕ → Option ℕ) (looked_up : Option ℕ) (unwound : Option Unwound)
    (contents : ℕ → Option ℕ) : Type 0 where
  pub found : List (ℕ × Answer)
  pub unwinds : UnwindsAt u registers looked_up (option_map (caller_with found) unwound)
  pub contents_are : IfSome unwound (λ _. contents_of found ≡ contents)

-- where a walk is at a frame that isn't its first one, with these registers: it is looked up at its
-- address minus 1
abbrev pub place_before : ℕ → (ℕ → Option ℕ) → Place
place_before address registers = record { address = address; looked_up = address_before address; registers = registers }
