-- The expressions of a location list that apply at an address (DWARF 5, section 2.6.2), and their
-- outcomes, given the facts of a state file.
use Rattle.std.specs.Prelude.{◌≡◌, ℕ, ◌<◌, ◌^◌, ◌==◌, List, [], ◌∷◌, ◌++◌, length, Option, Some, None, codes}
use Rattle.std.specs.List.{find}
use Rattle.dw_bytes.specs.declared.target.AddressSize.{AddressSize}
use Rattle.dw_stack.specs.Expressions.{IsGoodExpression}
use Rattle.dw_loclists.specs.Lists.{Loclist}
use Rattle.dw_loclists.specs.Locations.{locations_of}
use Rattle.dw_stack.specs.Located.{LocatedExpression}
use Rattle.dw_loclists.specs.Reading.{ListSection, lists_in}
use Rattle.dw_state.specs.StateFile.{StateFact}
use Rattle.dw_check.specs.Text.{expression_offset_line}
use Rattle.dw_check.specs.Evaluations.{Evaluates}

-- the location list that begins at offset `at` in the section; None if no list begins there
abbrev pub list_that_begins_at : ListSection → ℕ → Option Loclist
list_that_begins_at s at = find (λ l. l.offset == at) (lists_in s)

-- The text shows expressions in order. For each of them it has the expression's offset in the
-- section, and then the expression's outcome.
abbrev pub AreEvaluated : List StateFact → List LocatedExpression → List ℕ → Type 0
AreEvaluated facts [] written = written ≡ []
AreEvaluated facts (x ∷ xs) written = (own rest : List ℕ) × (written ≡ (expression_offset_line x.offset ++ own) ++ rest)
    × Evaluates x.kind x.target x.bytes facts own × AreEvaluated facts xs rest

-- the text shows the expressions that apply, or that there are none
abbrev pub ShowsLocations : List StateFact → List LocatedExpression → List ℕ → Type 0
ShowsLocations facts [] written = written ≡ codes "none\n"
ShowsLocations facts (x ∷ xs) written = AreEvaluated facts (x ∷ xs) written

-- the text shows what a list gives at an address, or that there is no list; `base` is the base
-- address of the unit
abbrev pub ShowsList : List StateFact → Option Loclist → ℕ → ℕ → List ℕ → Type 0
ShowsList facts None base address written = written ≡ codes "no list\n"
ShowsList facts (Some l) base address written = ShowsLocations facts (locations_of l base address) written

-- The expression can be shown with addresses of `size`: it passes the check, and its target's
-- addresses have that size.
pub record IsShowable (size : AddressSize) (x : LocatedExpression) : Type 0 where
  pub short : length x.bytes < 2 ^ 32
  pub good : IsGoodExpression x.kind x.target x.bytes
  pub size_is : size ≡ x.target.address_size
