-- The answers of rules without expressions, where the CFA is known. Such an answer is computed from
-- the registers and one word of memory, without running anything.
use Rattle.std.specs.Prelude.{◌≡◌, ℕ, ◌≤◌, List, All}
use Rattle.dw_eval.specs.World.{World}
use Rattle.dw_rules.specs.Abi.{Abi, unnamed, rule_under}
use Rattle.dw_rules.specs.Rules.{Row, Rule, same_value, offset, val_offset, register, expression, val_expression}
use Rattle.dw_unwind.specs.Caller.{Answer, value, undefined, content, number_plus, word, IsCaller}
use Rattle.dw_unwind.specs.Walks.{content_of, contents_of}

-- the rule has no expression
abbrev pub IsDirect : Rule → Type 0
IsDirect (expression x) = ⊥
IsDirect (val_expression x) = ⊥
IsDirect rule = Unit {0}

abbrev pub AreDirect : List (ℕ × Rule) → Type 0
AreDirect rules = All (λ entry. IsDirect entry.1) rules

-- what a rule without an expression gives for the register `r`, where the CFA is `cfa`
abbrev pub direct_answer : World → ℕ → ℕ → Rule → Answer
direct_answer e cfa r same_value = content e r
direct_answer e cfa r (offset n) = word e (number_plus e n cfa)
direct_answer e cfa r (val_offset n) = value (number_plus e n cfa)
direct_answer e cfa r (register other) = content e other
direct_answer e cfa r _ = undefined

-- the ABI names only registers whose numbers have 16 bits, as all that rows name
abbrev pub NamesRegisters : Abi → Type 0
NamesRegisters abi = (r : ℕ) → 65536 ≤ r → abi r ≡ unnamed

-- the answer for each register of a caller, by the row's rule, or by the ABI's if the row has none
abbrev pub answer_under : World → Abi → Row → ℕ → ℕ → Answer
answer_under e abi row cfa r = direct_answer e cfa r (rule_under abi row.rules r)

-- a list of registers with which the row gives a caller whose CFA is `cfa`, and in which each
-- register has the content of its answer
pub record HasDirectCaller (e : World) (abi : Abi) (column : ℕ) (row : Row) (cfa : ℕ) : Type 0 where
  pub registers : List (ℕ × Answer)
  pub is : IsCaller e abi column row (record { cfa = value cfa; registers = registers; return_address = answer_under e abi row cfa column })
  pub contents : (r : ℕ) → contents_of registers r ≡ content_of (answer_under e abi row cfa r)
