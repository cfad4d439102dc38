-- The entries of location lists (DWARF 5, sections 2.6.2 and 7.7.3): which bytes encode which
-- entry.
use Rattle.std.specs.Prelude.{ℕ, ◌==◌, ◌≤◌, Bool, true, false, if◌then◌else◌, List, Option, Some, None}
use Rattle.dw_bytes.specs.declared.target.Target.{Target}
use Rattle.dw_bytes.specs.Operands.{address, unsigned, block, Block, Line, none, one, three, Coded}
use Rattle.dw_stack.specs.declared.state.Kind.TheVariants.{Location}
use Rattle.dw_stack.specs.Expressions.{IsGoodExpression}

-- An entry: one constructor for each code in `entry_line` below, with the operands in the order in
-- which they are encoded. An expression is a block: its offset in the section, the target (byte
-- order and address size) that it is read with, and its bytes.
pub data Entry : Type 0 where
  end_of_list : Entry
  offset_pair : ℕ → ℕ → Block → Entry
  default_location : Block → Entry
  base_address : ℕ → Entry
  start_end : ℕ → ℕ → Block → Entry
  start_length : ℕ → ℕ → Block → Entry

-- Which operands follow an entry's code. None for an unknown code, and for codes 01 to 03, whose
-- entries need `.debug_addr` and aren't accepted.
abbrev pub entry_line : ℕ → Option (Line Entry)
entry_line code =
    if code == 0x00 then Some (none end_of_list)
    else if code == 0x04 then Some (three unsigned unsigned block offset_pair)
    else if code == 0x05 then Some (one block default_location)
    else if code == 0x06 then Some (one address base_address)
    else if code == 0x07 then Some (three address address block start_end)
    else if code == 0x08 then Some (three address unsigned block start_length)
    else None

-- these bytes, which begin at this offset of the section, encode the entry
abbrev pub IsEntry : Target → ℕ → List ℕ → Entry → Type 0
IsEntry = Coded entry_line

abbrev pub is_end : Entry → Bool
is_end end_of_list = true
is_end (offset_pair begin end e) = false
is_end (default_location e) = false
is_end (base_address base) = false
is_end (start_end begin end e) = false
is_end (start_length begin count e) = false

abbrev pub is_default : Entry → Bool
is_default end_of_list = false
is_default (offset_pair begin end e) = false
is_default (default_location e) = true
is_default (base_address base) = false
is_default (start_end begin end e) = false
is_default (start_length begin count e) = false

-- the expression of an entry, if it has one
abbrev pub expression_in : Entry → Option Block
expression_in end_of_list = None
expression_in (offset_pair begin end e) = Some e
expression_in (default_location e) = Some e
expression_in (base_address base) = None
expression_in (start_end begin end e) = Some e
expression_in (start_length begin count e) = Some e

-- the entry's range, if it has one, doesn't end before it begins
abbrev pub IsRange : Entry → Type 0
IsRange end_of_list = Unit {0}
IsRange (offset_pair begin end e) = begin ≤ end
IsRange (default_location e) = Unit {0}
IsRange (base_address base) = Unit {0}
IsRange (start_end begin end e) = begin ≤ end
IsRange (start_length begin count e) = Unit {0}

-- the expression, if there is one, passes the check of expressions as a location description
-- (`IsGoodExpression`, dw_stack/specs/Expressions.antt)
abbrev pub IsGoodLocation : Option Block → Type 0
IsGoodLocation None = Unit {0}
IsGoodLocation (Some e) = IsGoodExpression Location e.target e.bytes
