-- What values of the code's types `CieHeader`, `FdeHeader` and `Header` stand for in Sections.antt.
use Rattle.dw_frame.specs.declared.header.CieHeader.{CieHeader}
use Rattle.dw_frame.specs.declared.header.FdeHeader.{FdeHeader}
use Rattle.dw_frame.specs.declared.header.Header as declared
use Rattle.dw_frame.specs.declared.header.Header.TheVariants as headers
use Rattle.dw_frame.specs.Sections.{Header, cie_header, fde_header}
use Rattle.dw_frame.specs.Sections.{CieHeader as ReadHeader}

abbrev pub header_of : CieHeader → ReadHeader
header_of h = record {
  version = h.version;
  code_alignment_factor = h.code_alignment_factor;
  data_alignment_factor = h.data_alignment_factor;
  return_address_register = h.return_address_register;
}

abbrev pub cie_head : CieHeader → Header
cie_head h = cie_header (header_of h)

abbrev pub fde_head : FdeHeader → Header
fde_head h = fde_header (record {
  cie_pointer = h.cie_pointer;
  initial_location = h.initial_location;
  address_range = h.address_range;
})

abbrev pub head_of : declared.Header → Header
head_of (headers.Cie h) = cie_head h
head_of (headers.Fde h) = fde_head h
