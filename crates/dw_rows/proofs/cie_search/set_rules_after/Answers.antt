use Rattle.std.proofs.Common.{◌≡◌, ℕ, List, Option, None, Some, map, refl, arith}
use Rattle.std.specs.Prelude.{IfSome, slice_get}
use Rattle.std.proofs.lemmas.List.{length-map}
use Rattle.dw_frame.specs.Records.{Cie}
use Rattle.dw_frame.specs.Views.{cie_of}
use Rattle.dw_rules.specs.Initial.{AreLeftBy}
use Rattle.dw_rules.specs.ProgramState.{IsLeftBy}
use Rattle.dw_rules.specs.RuleSet.{StoredRules}
use Rattle.dw_rules.proofs.Initials.{left-count, left-at}
use Rattle.dw_rows.specs.AddressIndex.{IsLeftAt}
use Rattle.dw_rows.proofs.cie_search.set_rules_after.Goals as goal

left-here : (cies : List Cie) (left : List StoredRules) (i : ℕ) (k : StoredRules) → AreLeftBy cies left → slice_get left i ≡ Some k
    → IsLeftAt cies i k
left-here cies left i k all there = go (slice_get cies i) refl
  where
    go : (o : Option Cie) → slice_get cies i ≡ o → IfSome o (λ (c : Cie). IsLeftBy c k)
    go None is = tt
    go (Some c) is = left-at cies left i c k all is there

pub set_initial_rules-requires : goal.set_initial_rules-requires
set_initial_rules-requires c =
    let long = length-map c.args.cies.now cie_of in
    omega (arith, left-count (map cie_of c.args.cies.now) c.args.initial.now c.requires.left, c.in_ok-place.ensures.0)

pub returns-then-ne-clause-first : goal.returns-then-ne-clause-first
returns-then-ne-clause-first c =
    left-here (map cie_of c.args.cies.now) c.args.initial.now c.in_ok-place.place _ c.requires.left c.set_initial_rules.ensures.first
