-- When a section is well formed, in the standard's words (DWARF 5, section 6.4.1).
use Rattle.std.specs.Prelude.{◌≡◌, ℕ, List, Contains}
use Rattle.dw_bytes.specs.declared.target.Target.{Target}
use Rattle.dw_frame.specs.Records.{Cie, Fde, Record, cies_among, fdes_among}
use Rattle.dw_frame.specs.Sections.{AreRecords}
use Rattle.dw_rows.specs.GoodPrograms.{IsGoodCieProgram, IsGoodFdeProgram}
use Rattle.dw_rows.specs.Section.{CoversOnce}

-- The CIEs and FDEs of a section are good, however they were read. Each CIE_pointer is the offset of
-- a CIE. All programs are good, where an FDE's program begins with the rules that its CIE's program
-- leaves. No address is covered by two FDEs.
pub record AreGood (records : List Record) : Type 0 where
  pub pointers : (f : Fde) → Contains (fdes_among records) f → (c : Cie) × Contains (cies_among records) c × (c.offset ≡ f.cie_pointer)
  pub cie_programs : (c : Cie) → Contains (cies_among records) c → IsGoodCieProgram c
  pub fde_programs : (f : Fde) (c : Cie) → Contains (fdes_among records) f → Contains (cies_among records) c → c.offset ≡ f.cie_pointer
      → IsGoodFdeProgram c f
  pub once : CoversOnce (fdes_among records)

-- The bytes of a `.debug_frame` section are the encodings of CIEs and FDEs, without gaps, and these
-- are good.
pub record IsWellFormed (target : Target) (section : List ℕ) : Type 0 where
  pub records : List Record
  pub encoded : AreRecords target 0 section records
  pub good : AreGood records
