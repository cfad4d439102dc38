-- Rules that say where registers are saved, and nothing else.
use Rattle.std.specs.Prelude.{◌≡◌, ◌<◌, ℕ, ℤ, List, All, map}
use Rattle.dw_rules.specs.Rules.{RuleOver, offset}
use Rattle.dw_rules.specs.Views.{entries_of}
use Rattle.dw_rules.specs.declared.register_rules.RuleEntry.{RuleEntry}

-- a register that is saved in memory, and the offset from the CFA
abbrev pub Saved : Type 0
Saved = ℕ × ℤ

-- the register with its rule
abbrev pub as_saved : {E : Type 0} → Saved → ℕ × RuleOver E
as_saved saved = (saved.0, offset saved.1)

-- the register and the offset of an entry
abbrev pub saved_of : RuleEntry → Saved
saved_of entry = (entry.register, entry.offset)

-- each entry says that a register below `limit` is saved
pub record ArePlain (entries : List RuleEntry) (limit : ℕ) : Type 0 where
  pub rules : entries_of entries ≡ map as_saved (map saved_of entries)
  pub below : All (λ saved. saved.0 < limit) (map saved_of entries)
