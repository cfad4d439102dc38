-- The row that an entry of a cache stands for. It has the rules that compilers for x86-64 write: the
-- CFA is a register plus an offset, and registers are saved at multiples of 8 bytes from it. Or it is
-- that of an entry of a procedure linkage table, at one address. Or the stack was realigned, and what
-- is saved is found by rbp.
use Rattle.std.specs.Prelude.{◌≡◌, ◌≢◌, ◌<◌, ◌⊎◌, ℕ, zero, suc, ◌*◌, ◌-◌, ◌%◌, nat_le, nat_lt, ◌==◌, ◌&&◌, ◌||◌, Bool, true, if◌then◌else◌, ℤ, pos, negsuc, ◌+ℤ◌, ◌*ℤ◌, List, [], ◌∷◌, ◌++◌, length, Some}
use Rattle.dw_bytes.specs.declared.target.Target.{Target}
use Rattle.dw_bytes.specs.declared.target.Order.TheVariants.{Little}
use Rattle.dw_bytes.specs.declared.target.AddressSize.TheVariants.{Eight}
use Rattle.dw_ops.specs.Operations.{and, breg, deref, ge, lit, plus, shl}
use Rattle.dw_stack.specs.Expressions.{operations_in}
use Rattle.dw_stack.specs.Located.{LocatedExpression}
use Rattle.dw_stack.specs.Paths.{Placed}
use Rattle.dw_rules.specs.Rules.{PlacedRule, Row, Rule, RuleOver, cfa_expression, expression, offset, register_and_offset, rule_in, with_rule}
use Rattle.dw_rules.specs.RowsWithExpressions.{rules_with_expressions}
use Rattle.dw_compact_rows.specs.Slots.{rule_of_slot}
use Rattle.dw_cached_rows.specs.declared.packed_row.PackedRow.{PackedRow}
use Rattle.dw_cached_rows.specs.declared.packed_row.TheConstants.{RBX, RBP, RSP, R12, R13, R14, R15, REALIGNED, RETURN_ADDRESS, LAST}

-- the register `r` is saved at the CFA plus 8 times this number; 0 says that it has no rule
abbrev pub saved_rule : ℕ → ℤ → List (ℕ × Rule)
saved_rule r (pos zero) = []
saved_rule r k = (r, offset (k *ℤ pos 8)) ∷ []

-- the rules of the callee-saved registers, and then others
abbrev pub saving_with : PackedRow → List (ℕ × Rule) → List (ℕ × Rule)
saving_with p others = saved_rule RBX p.rbx ++ (saved_rule RBP p.rbp ++ (saved_rule R12 p.r12 ++ (saved_rule R13 p.r13
    ++ (saved_rule R14 p.r14 ++ (saved_rule R15 p.r15 ++ others)))))

-- the rules of a row whose return address is saved just below the CFA
abbrev pub saving_rules : PackedRow → List (ℕ × Rule)
saving_rules p = saving_with p ((RETURN_ADDRESS, offset (negsuc 7)) ∷ [])

-- the rules of the last row of a stack, whose return address is undefined
abbrev pub last_rules : List (ℕ × Rule)
last_rules = (RETURN_ADDRESS, RuleOver.undefined) ∷ []

abbrev pub rules_of : PackedRow → List (ℕ × Rule)
rules_of p = if nat_lt p.form LAST then saving_rules p else last_rules

-- The entry stands for a row with these rules, whatever addresses the row covers. An entry of the
-- form 0 stands for no row.
pub record IsRowOf (p : PackedRow) (row : Row) : Type 0 where
  pub some : p.form ≢ 0
  pub usual : p.form ≢ REALIGNED
  pub cfa : row.cfa ≡ Some (register_and_offset (p.form % LAST) p.cfa_offset)
  pub rules : row.rules ≡ rules_of p

-- ---- expressions of x86-64

abbrev pub little_64 : Target
little_64 = record { order = Little; address_size = Eight }

-- the bytes of the expression encode these operations, and `size` is their number
pub record IsCoded (operations : List Placed) (size : ℕ) (x : LocatedExpression) : Type 0 where
  pub target : x.target ≡ little_64
  pub are : operations_in x.target x.bytes ≡ operations
  pub long : length x.bytes ≡ size

-- ---- rows of procedure linkage tables

-- The CFA in an entry of a procedure linkage table, as linkers write it: rsp plus 8, and 8 more from
-- the byte `limit` of the entry on, where it has pushed a number. An entry has 16 bytes, so rip says
-- where in it the frame is.
abbrev pub plt_operations : ℕ → List Placed
plt_operations limit = (0, breg RSP (pos 8)) ∷ (2, breg RETURN_ADDRESS (pos 0)) ∷ (4, lit 15) ∷ (5, and) ∷ (6, lit limit)
    ∷ (7, ge) ∷ (8, lit 3) ∷ (9, shl) ∷ (10, plus) ∷ []

abbrev pub IsPltExpression : ℕ → LocatedExpression → Type 0
IsPltExpression limit x = IsCoded (plt_operations limit) 11 x

-- what the expression adds to rsp if rip has this content
abbrev pub plt_offset : ℕ → ℕ → ℤ
plt_offset limit rip = if nat_le limit (rip % 16) then pos 16 else pos 8

-- The entry stands for a row of a procedure linkage table at one address: it has what the row's
-- expression adds to rsp there, whether rip has this address or, as in a caller, the next one.
pub record IsPltRowOf (p : PackedRow) (address : ℕ) (row : Row) : Type 0 where
  pub expression : LocatedExpression
  pub cfa : row.cfa ≡ Some (cfa_expression expression)
  pub is : IsPltExpression p.plt_limit expression
  pub some : p.plt_limit ≢ 0
  pub inside : p.plt_limit < 16
  pub form : p.form ≡ RSP
  pub here : p.cfa_offset ≡ plt_offset p.plt_limit address
  pub next : p.cfa_offset ≡ plt_offset p.plt_limit (suc address)
  pub rules : row.rules ≡ saving_rules p

-- ---- rows of realigned stacks

-- the address that is a number of words above rbp, and the word that memory has there
abbrev pub address_operations : ℤ → List Placed
address_operations words = (0, breg RBP (words *ℤ pos 8)) ∷ []

abbrev pub word_operations : ℤ → List Placed
word_operations words = (0, breg RBP (words *ℤ pos 8)) ∷ (2, deref) ∷ []

-- what an entry says of a register; 0 says that it has no rule
abbrev pub words_for : PackedRow → ℕ → ℤ
words_for p r = if RBX == r then p.rbx else if RBP == r then p.rbp else if R12 == r then p.r12 else if R13 == r then p.r13
    else if R14 == r then p.r14 else if R15 == r then p.r15 else pos 0

-- The register is saved at an address by rbp: one word above the one that the number says.
abbrev pub IsSavedByRbp : ℤ → Rule → Type 0
IsSavedByRbp (pos zero) rule = rule ≡ RuleOver.default
IsSavedByRbp k rule = (x : LocatedExpression) × (rule ≡ expression x) × IsCoded (address_operations (k +ℤ pos 1)) 2 x

-- The entry stands for a row as gcc writes it for a stack that it has realigned: the CFA is a word by
-- rbp, registers are saved at addresses by rbp, and the return address is just below the CFA.
pub record IsRealignedRowOf (p : PackedRow) (row : Row) : Type 0 where
  pub form : p.form ≡ REALIGNED
  pub expression : LocatedExpression
  pub cfa : row.cfa ≡ Some (cfa_expression expression)
  pub is : IsCoded (word_operations p.cfa_offset) 3 expression
  pub saved : (r : ℕ) → r ≢ RETURN_ADDRESS → IsSavedByRbp (words_for p r) (rule_in row.rules r)
  pub returns : rule_in row.rules RETURN_ADDRESS ≡ offset (negsuc 7)

-- the entry stands for a row, as walks take it
abbrev pub IsWalkedRowOf : PackedRow → Row → Type 0
IsWalkedRowOf p row = IsRowOf p row ⊎ IsRealignedRowOf p row

-- the entry stands for the row of an address
abbrev pub StandsFor : ℕ → PackedRow → Row → Type 0
StandsFor address p row = IsWalkedRowOf p row ⊎ IsPltRowOf p address row

-- the entry was packed from the row of an address
abbrev pub IsPackedFrom : ℕ → Row → PackedRow → Type 0
IsPackedFrom address row p = (IsRowOf p row × (p.plt_limit ≡ 0)) ⊎ IsPltRowOf p address row ⊎ IsRealignedRowOf p row

-- the byte of an expression that encodes a number of words, if it is small enough
abbrev pub word_byte : ℤ → ℕ
word_byte (pos n) = 8 * n
word_byte (negsuc n) = 120 - 8 * n

abbrev pub is_small : ℤ → Bool
is_small (pos n) = nat_lt n 8
is_small (negsuc n) = nat_lt n 8

-- what the entry says of a register, and of the CFA, can be encoded so
abbrev pub is_saved_small : ℤ → Bool
is_saved_small (pos zero) = true
is_saved_small k = is_small (k +ℤ pos 1)

abbrev pub first_are_small : PackedRow → Bool
first_are_small p = is_small p.cfa_offset && is_saved_small p.rbx && is_saved_small p.rbp && is_saved_small p.r12

abbrev pub are_small : PackedRow → Bool
are_small p = first_are_small p && is_saved_small p.r13 && is_saved_small p.r14 && is_saved_small p.r15

abbrev pub AreSmall : PackedRow → Type 0
AreSmall p = are_small p ≡ true

-- ---- what slots of compact rules say

-- an entry has room for the rule of the register
abbrev pub is_packed : ℕ → Bool
is_packed r = (r == RBX) || (r == RBP) || (nat_le R12 r && nat_le r RETURN_ADDRESS)

-- a register with its rule, which refers to no expression; nothing if it has none
abbrev pub rule_given : ℕ → PlacedRule → List (ℕ × Rule)
rule_given r rule = rules_with_expressions [] (with_rule r rule)

-- 8 times the number is where the slot says that a register is saved; 0 says that it has no rule
abbrev pub IsInWords : ℤ → ℤ → Type 0
IsInWords slot words = (r : ℕ) → rule_given r (rule_of_slot slot) ≡ saved_rule r words
