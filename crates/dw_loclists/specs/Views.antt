-- What the code's values stand for: which entry of `Entries.antt` an `Entry` is, and which offsets
-- lists and stored expressions have.
use Rattle.std.specs.Prelude.{ℕ}
use Rattle.dw_bytes.specs.Operands.{block_of}
use Rattle.dw_loclists.specs.declared.stored_lists.StoredExpression.{StoredExpression}
use Rattle.dw_loclists.specs.declared.entry.Entry as declared
use Rattle.dw_loclists.specs.declared.stored_section.LocationList as declared_list
use Rattle.dw_loclists.specs.declared.entry.Entry.TheVariants as entries
use Rattle.dw_loclists.specs.Entries.{Entry}

abbrev pub entry_of : declared.Entry → Entry
entry_of entries.EndOfList = Entry.end_of_list
entry_of (entries.OffsetPair begin end e) = Entry.offset_pair begin end (block_of e)
entry_of (entries.DefaultLocation e) = Entry.default_location (block_of e)
entry_of (entries.BaseAddress base) = Entry.base_address base
entry_of (entries.StartEnd begin end e) = Entry.start_end begin end (block_of e)
entry_of (entries.StartLength begin count e) = Entry.start_length begin count (block_of e)

-- the offset of a list's first byte in the section
abbrev pub start_of : declared_list.LocationList → ℕ
start_of l = l.offset

-- the offset of a stored expression's first byte in the section
abbrev pub offset_of : StoredExpression → ℕ
offset_of k = k.offset
