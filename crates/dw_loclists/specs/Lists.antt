-- The tables and lists of a `.debug_loclists` section (DWARF 5, sections 7.7.3 and 7.29): which
-- bytes encode which table.
use Rattle.std.specs.Prelude.{◌≡◌, ◌≤◌, ◌+◌, ◌==◌, ℕ, false, count_by, List, [], ◌∷◌, ◌++◌, length, map, Contains}
use Rattle.std.specs.List.{AllByRecursion, flat_map}
use Rattle.dw_bytes.specs.declared.target.Target.{Target}
use Rattle.dw_bytes.specs.declared.target.Format.{Format}
use Rattle.dw_bytes.specs.declared.fault.FaultKind.TheVariants.{ListVersion, AddressSize, SegmentSize}
use Rattle.dw_bytes.specs.Encoding.{Offset, InitialLengthPair, bytes_of_address}
use Rattle.dw_bytes.specs.Operands.{fixed}
use Rattle.dw_bytes.specs.Fields.{Fields, made, field, any, byte, unless, Encodes}
use Rattle.dw_bytes.specs.Sequence.{Sequence}
use Rattle.dw_loclists.specs.Entries.{Entry, end_of_list, IsEntry, is_end, is_default, expression_in, IsRange, IsGoodLocation}

-- ---- lists

-- A list: the offset of its first byte in the section, and its entries without the end_of_list.
pub record Loclist : Type 0 where
  pub offset : ℕ
  pub entries : List Entry

-- The bytes encode the list: its entries without gaps, and then an end_of_list, which is the only
-- one. Each expression passes the check as a location (`IsGoodLocation`). Two rules are this
-- checker's own: a list has at most one default_location, and no range ends before it begins.
pub record IsList (target : Target) (at : ℕ) (bytes : List ℕ) (l : Loclist) : Type 0 where
  pub offset_is : l.offset ≡ at
  pub encoded : Sequence (IsEntry target) at bytes (l.entries ++ end_of_list ∷ [])
  pub no_end : AllByRecursion (λ e. is_end e ≡ false) l.entries
  pub ranges : AllByRecursion IsRange l.entries
  pub one_default : count_by is_default l.entries ≤ 1
  pub expressions : AllByRecursion (λ e. IsGoodLocation (expression_in e)) l.entries

-- ---- tables

-- A table: the offset of its first byte, its format (32-bit or 64-bit DWARF), the offset of its
-- offset array, the values in that array (which count from the array's first byte), and its lists.
pub record Table : Type 0 where
  pub offset : ℕ
  pub format : Format
  pub array : ℕ
  pub offsets : List ℕ
  pub lists : List Loclist

-- The header after the length: version 5, the target's address size, a segment selector size of 0,
-- and the number of offsets in the array.
abbrev pub table_header : Target → Fields ℕ
table_header target =
    field (fixed 2) (λ version. unless (version == 5) ListVersion) (λ version.
    byte AddressSize (bytes_of_address target.address_size) (
    byte SegmentSize 0 (
    any (fixed 4) (λ count.
    made count))))

-- the offset of each list's first byte, in order
abbrev pub starts_of : List Loclist → List ℕ
starts_of lists = map (λ (l : Loclist). l.offset) lists

-- The bytes encode v, a value in a table's offset array, and a list begins v bytes after the
-- array's first byte (this checker's own rule). `array` is the offset of that byte, and `starts`
-- has the offsets of the table's lists.
abbrev pub IsListOffset : Target → Format → ℕ → List ℕ → ℕ → List ℕ → ℕ → Type 0
IsListOffset target format array starts at bytes v = Offset target.order format bytes v × Contains starts (array + v)

-- The bytes encode the table: its length, and then that many bytes: the header, the array with the
-- number of offsets that the header states, and lists without gaps.
pub record IsTable (target : Target) (at : ℕ) (bytes : List ℕ) (t : Table) : Type 0 where
  pub front : List ℕ
  pub header : List ℕ
  pub offsets : List ℕ
  pub lists : List ℕ
  pub parts : bytes ≡ front ++ (header ++ (offsets ++ lists))
  pub offset_is : t.offset ≡ at
  pub length_is : InitialLengthPair target.order front (t.format, length (header ++ (offsets ++ lists)))
  pub header_is : Encodes target (table_header target) (at + length front) header (length t.offsets)
  pub array_is : t.array ≡ at + length front + length header
  pub offsets_are : Sequence (IsListOffset target t.format t.array (starts_of t.lists)) t.array offsets t.offsets
  pub lists_are : Sequence (IsList target) (t.array + length offsets) lists t.lists

-- the bytes of a section encode these tables, without gaps
abbrev pub AreTables : Target → ℕ → List ℕ → List Table → Type 0
AreTables target = Sequence (IsTable target)

-- all lists of these tables, in order
abbrev pub lists_of : List Table → List Loclist
lists_of tables = flat_map (λ (t : Table). t.lists) tables

-- A section is well formed if its bytes are the encodings of tables, without gaps.
abbrev pub IsWellFormed : Target → List ℕ → Type 0
IsWellFormed target section = (tables : List Table) × AreTables target 0 section tables
