-- The rules that the initial instructions of CIEs leave, as a checked section stores them.
use Rattle.std.specs.Prelude.{◌≡◌, ◌+◌, ◌<◌, ◌≤◌, List, [], ◌∷◌, length, map, slice_range}
use Rattle.std.specs.Option.{option_map}
use Rattle.std.specs.List.{AllByRecursion, sum_by}
use Rattle.dw_frame.specs.Records.{Cie}
use Rattle.dw_rules.specs.declared.register_rules.RuleEntry.{RuleEntry}
use Rattle.dw_rules.specs.declared.register_rules.TheConstants.{MAX_RULES}
use Rattle.dw_rules.specs.declared.initial_rules.RuleSpan.{RuleSpan}
use Rattle.dw_rules.specs.Rules.{IsTable}
use Rattle.dw_rules.specs.SavedRules.{ArePlain}
use Rattle.dw_rules.specs.RuleSet.{StoredRules}
use Rattle.dw_rules.specs.Views.{stored_cfa_of, entries_of}
use Rattle.dw_rules.specs.ProgramState.{IsLeftBy}

-- one rule set for each CIE, in the order of the CIEs: the rules that the CIE's program leaves
abbrev pub AreLeftBy : List Cie → List StoredRules → Type 0
AreLeftBy [] [] = Unit {0}
AreLeftBy (c ∷ cies) (k ∷ left) = IsLeftBy c k × AreLeftBy cies left
AreLeftBy [] (k ∷ left) = ⊥
AreLeftBy (c ∷ cies) [] = ⊥

-- ---- rule sets that share one list of entries

-- The rule set that a span stands for. Its register rules are the entries from the span's start up
-- to but not including its end.
abbrev pub stored_in_span : List RuleEntry → RuleSpan → StoredRules
stored_in_span entries s = record { cfa = option_map stored_cfa_of s.cfa; rules = entries_of (slice_range entries s.start s.end) }

abbrev pub stored_in_spans : List RuleEntry → List RuleSpan → List StoredRules
stored_in_spans entries spans = map (stored_in_span entries) spans

-- The span lies within the entries, and those entries can be the register rules of a row. If
-- `plain_below` isn't 0, each of them says that a register below it is saved.
pub record IsSpan (entries : List RuleEntry) (s : RuleSpan) : Type 0 where
  pub order : s.start ≤ s.end
  pub within : s.end ≤ length entries
  pub few : s.end ≤ s.start + MAX_RULES
  pub table : IsTable 0 (entries_of (slice_range entries s.start s.end))
  pub plain : 0 < s.plain_below → ArePlain (slice_range entries s.start s.end) s.plain_below

abbrev pub AreSpans : List RuleEntry → List RuleSpan → Type 0
AreSpans entries spans = AllByRecursion (IsSpan entries) spans

-- The array `entries` holds the register rules of these rule sets, and nothing else: it is as long
-- as the register rules of all sets together.
pub record AreAllEntries (entries : List RuleEntry) (spans : List RuleSpan) : Type 0 where
  pub lie : AreSpans entries spans
  pub together : length entries ≡ sum_by (λ k. length k.rules) (stored_in_spans entries spans)
