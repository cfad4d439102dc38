-- What C gets as a row.
use Rattle.std.specs.Prelude.{◌≡◌, ℕ, pos, List, length, map, Option, Some, option_map}
use Rattle.std.specs.Option.{option_and_then}
use Rattle.dw_rules.specs.Rules.{Rule, Cfa, default, undefined, same_value, offset, val_offset, register, expression, val_expression}
use Rattle.dw_rules.specs.Rules.{register_and_offset, cfa_expression}
use Rattle.dw_process.specs.Processes.{ProcessState, found_at}
use Rattle.dw_process.specs.declared.found_row.FoundRow.{FoundRow}
use Rattle.dw_c_types.specs.Slots.{put_into}
use Rattle.dw_c_types.specs.declared.row.CRule.{CRule}
use Rattle.dw_c_types.specs.declared.row.CRow.{CRow}

-- C's struct for the rule of register r. An expression is given by its offset in the section and
-- its length.
abbrev pub coded : ℕ → Rule → CRule
coded r default = record { offset = pos 0; length = 0; register = r; source = 0; kind = 0 }
coded r undefined = record { offset = pos 0; length = 0; register = r; source = 0; kind = 1 }
coded r same_value = record { offset = pos 0; length = 0; register = r; source = 0; kind = 2 }
coded r (offset n) = record { offset = n; length = 0; register = r; source = 0; kind = 3 }
coded r (val_offset n) = record { offset = n; length = 0; register = r; source = 0; kind = 4 }
coded r (register other) = record { offset = pos 0; length = 0; register = r; source = other; kind = 5 }
coded r (expression e) = record { offset = pos e.offset; length = length e.bytes; register = r; source = 0; kind = 6 }
coded r (val_expression e) = record { offset = pos e.offset; length = length e.bytes; register = r; source = 0; kind = 7 }

abbrev pub crule_of : ℕ × Rule → CRule
crule_of x = coded x.0 x.1

-- C's struct for the rule of the CFA. Its kinds are those of a register's rule: 4 for a register
-- plus an offset, 7 for an expression.
abbrev pub cfa_coded : Cfa → CRule
cfa_coded (register_and_offset r n) = record { offset = n; length = 0; register = r; source = 0; kind = 4 }
cfa_coded (cfa_expression e) = record { offset = pos e.offset; length = length e.bytes; register = 0; source = 0; kind = 7 }

-- the row of an address as loaded, with its module; None if the process is closed
abbrev pub found_in : Option ProcessState → ℕ → Option FoundRow
found_in held address = option_and_then (λ p. found_at p address) held

-- `row` is C's struct for the found row, and the rules of the row's registers are written to the
-- front of the slots, as many as fit
pub record IsRowOf (found : FoundRow) (row : CRow) (old new : List CRule) : Type 0 where
  pub id : row.id ≡ found.id
  pub cookie : row.cookie ≡ found.cookie
  pub load_address : row.load_address ≡ found.load_address
  pub start : row.start ≡ found.row.start
  pub end : row.end ≡ found.row.end
  pub cfa : option_map cfa_coded found.row.cfa ≡ Some row.cfa
  pub return_register : row.return_register ≡ found.return_register
  pub count : row.count ≡ length found.row.rules
  pub rules : new ≡ put_into (map crule_of found.row.rules) old
