-- Reading a `.debug_loclists` section from left to right, up to the first fault. Each entry is
-- checked as soon as it is read: at most one default per list, then its range, then its expression.
use Rattle.std.specs.Prelude.{◌≡◌, ℕ, zero, suc, ◌+◌, ◌==◌, ◌&&◌, ◌||◌, nat_lt, Bool, false, if◌then◌else◌, List, [], ◌∷◌, length, Option}
use Rattle.std.specs.Prelude.{Some, None, Result, Ok, Err, option_map}
use Rattle.std.specs.List.{list_any}
use Rattle.dw_bytes.specs.declared.target.Target.{Target}
use Rattle.dw_bytes.specs.declared.target.Format.{Format}
use Rattle.dw_bytes.specs.declared.fault.Fault.{Fault}
use Rattle.dw_bytes.specs.declared.fault.FaultKind.TheVariants.{UnknownEntry, SecondDefault, BackRange, NoEnd, BadOffsetEntry}
use Rattle.dw_bytes.specs.Reading.{ReadPosition, ◌>>=◌, section_from, offset_at}
use Rattle.dw_bytes.specs.Operands.{Block, coded_at}
use Rattle.dw_bytes.specs.Fields.{unless, ok_unless, fields_at}
use Rattle.dw_bytes.specs.Bodies.{framed_at}
use Rattle.dw_bytes.specs.Sequence.{sequence_of, exactly_of}
use Rattle.dw_bytes.specs.Answers.{fault_in, values_in}
use Rattle.dw_loclists.specs.Entries.{Entry, end_of_list, offset_pair, default_location, base_address, start_end, start_length, entry_line}
use Rattle.dw_loclists.specs.Entries.{is_end, is_default, expression_in}
use Rattle.dw_loclists.specs.Lists.{Loclist, Table, table_header, starts_of, lists_of}
use Rattle.dw_loclists.specs.Locations.{location_of, expressions_in}
use Rattle.dw_stack.specs.Located.{LocatedExpression, located_fault}

-- ---- entries

-- reads an entry: its code, and then its operands
unfoldable pub entry_at : ReadPosition → Result (Entry × ReadPosition) Fault
entry_at r = coded_at entry_line UnknownEntry r

-- whether the entry has a range that ends before it begins
abbrev pub is_back_range : Entry → Bool
is_back_range end_of_list = false
is_back_range (offset_pair begin end e) = nat_lt end begin
is_back_range (default_location e) = false
is_back_range (base_address base) = false
is_back_range (start_end begin end e) = nat_lt end begin
is_back_range (start_length begin count e) = false

abbrev pub location_fault : Option Block → Option Fault
location_fault e = located_fault (option_map location_of e)

-- The first fault of an entry at offset `at`: a second default in its list, a range that ends
-- before it begins, or the first fault of its expression. `has_default` tells whether the list
-- already had a default.
abbrev pub entry_fault : Bool → ℕ → Entry → Option Fault
entry_fault has_default at entry =
    if has_default && is_default entry then Some (record { kind = SecondDefault; at = at })
    else if is_back_range entry then Some (record { kind = BackRange; at = at })
    else location_fault (expression_in entry)

-- the value x, or the fault if there is one
abbrev pub unless_fault : {X : Type 0} → Option Fault → X → Result X Fault
unless_fault None x = Ok x
unless_fault (Some fault) x = Err fault

unfoldable pub checked_entry_at : Bool → ReadPosition → Result (Entry × ReadPosition) Fault
checked_entry_at has_default r = entry_at r >>= λ entry. unless_fault (entry_fault has_default r.position entry.0) entry

-- ---- lists

-- the fault if a table ends before an end_of_list; it is at the table's end, where `r` is
abbrev pub no_end : ReadPosition → Fault
no_end r = record { kind = NoEnd; at = r.position }

-- Reads entries up to an end_of_list, which the result leaves out. The fault is NoEnd if the table
-- ends, or `count` entries were read, before an end_of_list. `has_default` tells whether the list
-- already had a default_location.
abbrev pub at_most_entries : ℕ → Bool → ReadPosition → Result (List Entry × ReadPosition) Fault
at_most_entries zero has_default r = Err (no_end r)
at_most_entries (suc count) has_default r =
    if nat_lt 0 (length r.rest)
    then (checked_entry_at has_default r >>= λ entry.
    if is_end entry.0
    then Ok ([], entry.1)
    else (at_most_entries count (has_default || is_default entry.0) entry.1 >>= λ others. Ok (entry.0 ∷ others.0, others.1)))
    else Err (no_end r)

-- Reads entries up to the end_of_list of their list. `has_default` tells whether the list already
-- had a default_location. A list has no more entries than bytes, so the number of bytes left is
-- enough as a limit.
unfoldable pub entries_at : Bool → ReadPosition → Result (List Entry × ReadPosition) Fault
entries_at has_default r = at_most_entries (length r.rest) has_default r

unfoldable pub list_at : ReadPosition → Result (Loclist × ReadPosition) Fault
list_at r = entries_at false r >>= λ entries. Ok (record { offset = r.position; entries = entries.0 }, entries.1)

-- The list that begins at the offset `at` of a section, read up to its end_of_list. No list at a
-- lower offset counts, and no table does.
abbrev pub IsListAt : Target → List ℕ → ℕ → Loclist → Type 0
IsListAt target section at l = (after : ReadPosition) × (list_at (section_from target section at) ≡ Ok (l, after))

-- all values, or the first fault
abbrev pub all_of : {X : Type 0} → List (Result X Fault) → Result (List X) Fault
all_of [] = Ok []
all_of (Ok x ∷ items) = all_of items >>= λ others. Ok (x ∷ others)
all_of (Err fault ∷ items) = Err fault

-- reads lists without gaps, up to the end of their table
unfoldable pub lists_at : ReadPosition → Result (List Loclist) Fault
lists_at r = all_of (sequence_of list_at r)

-- ---- tables

-- whether a list begins at offset `at`; `starts` has the offsets of the lists
abbrev pub is_among : ℕ → List ℕ → Bool
is_among at starts = list_any (λ start. start == at) starts

abbrev pub list_offset_at : Format → ℕ → List ℕ → ReadPosition → Result (ℕ × ReadPosition) Fault
list_offset_at format array starts r = offset_at format r >>= λ offset. ok_unless
    (unless (is_among (array + offset.0) starts) BadOffsetEntry) r.position offset

-- Reads a table within the bytes that its length covers: the header, the offset array, the lists,
-- and then the array a second time, to check that each of its offsets leads to a list.
unfoldable pub table_at : ReadPosition → Result (Table × ReadPosition) Fault
table_at r = do
  framed ← framed_at r
  header ← fields_at (table_header r.target) framed.0.1
  offsets ← exactly_of (offset_at framed.0.0) header.0 header.1
  lists ← lists_at offsets.1
  named ← exactly_of (list_offset_at framed.0.0 header.1.position (starts_of lists)) header.0 header.1
  Ok (record { offset = r.position; format = framed.0.0; array = header.1.position; offsets = named.0; lists = lists }, framed.1)

-- reads the tables of a section from an offset on, up to the section's end or the first fault
unfoldable pub tables_from : Target → List ℕ → ℕ → List (Result Table Fault)
tables_from target section at = sequence_of table_at (section_from target section at)

-- All tables of a section from left to right, up to the section's end or the first fault.
abbrev pub tables_of : Target → List ℕ → List (Result Table Fault)
tables_of target section = tables_from target section 0

-- the first fault of a section, if it has one
abbrev pub lists_fault : Target → List ℕ → Option Fault
lists_fault target section = fault_in (tables_of target section)

-- ---- checked sections

-- A section's bytes, with the target (byte order and address size) that they are read with.
pub record ListSection : Type 0 where
  pub target : Target
  pub section : List ℕ

-- A section that passed the check: it has no fault.
abbrev pub IsChecked : ListSection → Type 0
IsChecked s = lists_fault s.target s.section ≡ None

-- the tables of a section, in order
abbrev pub tables_in : ListSection → List Table
tables_in s = values_in (tables_of s.target s.section)

-- the lists of a section, in order
abbrev pub lists_in : ListSection → List Loclist
lists_in s = lists_of (tables_in s)

-- the expressions of a section's lists, in order, each with its offset in the section
abbrev pub located_in : ListSection → List LocatedExpression
located_in s = expressions_in (lists_in s)
