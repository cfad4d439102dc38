use Rattle.std.proofs.Common.{◌≡◌, ℕ, ◌+◌, ◌<◌, List, length, map, get_or, sym, ap, ◌∙◌, arith}
use Rattle.std.specs.Prelude.{slice_get}
use Rattle.dw_frame.specs.Views.{cie_of}
use Rattle.dw_frame.specs.Bounds.{Ascends}
use Rattle.dw_frame.specs.declared.entry.CommonInformationEntry.{CommonInformationEntry}
use Rattle.dw_rows.specs.AddressIndex.{cie_offset}
use Rattle.dw_rows.specs.Section.{cie_at}
use Rattle.dw_rows.proofs.Faults.{found-at}
use Rattle.dw_rules.proofs.Elements.{contains-map}
use Rattle.dw_rows.proofs.Elements.{read-map}
use Rattle.dw_rows.proofs.cie_search.place_near.Goals as goal

abbrev offset_in : CommonInformationEntry → ℕ
offset_in c = c.offset

-- if the CIE at the index `place` begins at `offset`, it is the CIE that looking up `offset` gives
stands-at : (cies : List CommonInformationEntry) (place offset : ℕ) (x : CommonInformationEntry) → Ascends cie_offset (map cie_of cies)
    → place < length cies → get_or cies place x ≡ x → cie_offset (cie_of x) ≡ offset
    → (place < length cies) × (cie_at (map cie_of cies) offset ≡ slice_get (map cie_of cies) place)
stands-at cies place offset x order lt here at_x = (
  lt,
  found-at (map cie_of cies) order (cie_of x) offset (contains-map cie_of cies x (place, lt, here)) at_x
      ∙ sym (read-map cie_of cies place x lt here),
)

pub returns-then-from-offset : goal.returns-then-from-offset
returns-then-from-offset c =
    stands-at c.args.cies.now c.args.near c.args.offset c.index-cies-near.result c.requires (omega arith) (sym c.index-cies-near.is)
    (ap offset_in c.index-cies-near.is ∙ (sym c.from.ensures ∙ c.if-from-offset.true))

pub returns-then-from-offset-2 : goal.returns-then-from-offset-2
returns-then-from-offset-2 c =
    stands-at c.args.cies.now (c.args.near + 1) c.args.offset c.index-cies-near-then-near-cies-2.result c.requires (omega arith)
    (sym c.index-cies-near-then-near-cies-2.is)
    (ap offset_in c.index-cies-near-then-near-cies-2.is ∙ (sym c.from-then-near-cies-2.ensures ∙ c.if-from-offset-2.true))
