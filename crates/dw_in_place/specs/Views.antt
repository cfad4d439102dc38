-- What values of the code's types stand for.
use Rattle.dw_in_place.specs.declared.search_table.SearchTable.{SearchTable}
use Rattle.dw_in_place.specs.declared.section_in_place.SectionInPlace as declared_section
use Rattle.dw_in_place.specs.InPlace.{SectionInPlace}
use Rattle.dw_in_place.specs.SearchTables.{Table}

abbrev pub table_of : SearchTable → Table
table_of t = record { target = t.target; address = t.address; frame_address = t.frame_address; count = t.count; bytes = t.bytes.now }

-- the section that a value of the code's type `SectionInPlace` stands for
abbrev pub section_of : declared_section.SectionInPlace → SectionInPlace
section_of s = record { is_aarch64 = s.is_aarch64; bases = s.bases; target = s.target; bytes = s.bytes.now }
