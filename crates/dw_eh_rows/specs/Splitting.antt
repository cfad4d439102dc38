-- What is known while the records of a section are split into those that are kept and those that are
-- left out.
use Rattle.std.specs.Prelude.{◌≡◌, ◌≤◌, ℕ, Bool, List, [], ◌∷◌, ◌++◌, length, map, Option, Some, None, Ok, Err}
use Rattle.std.specs.List.{fold}
use Rattle.dw_bytes.specs.declared.target.Target.{Target}
use Rattle.dw_bytes.specs.declared.fault.Fault.{Fault}
use Rattle.dw_bytes.specs.Answers.{fault_in, values_in}
use Rattle.dw_frame.specs.Bounds.{ArePlaced}
use Rattle.dw_frame.specs.Records.{Cie, Fde, cies_among, fdes_among}
use Rattle.dw_frame.specs.Views.{cie_of, fde_of}
use Rattle.dw_eh_frame.specs.declared.pointer.Bases.{Bases}
use Rattle.dw_eh_frame.specs.Items.{Item, items_from, items_of}
use Rattle.dw_eh_frame.specs.Records.{EhRecord, all_in_dwarf}
use Rattle.dw_eh_rows.specs.KeptRecords.{Split, fault_after, split_one, split_records}
use Rattle.dw_eh_rows.specs.Signals.{signal_frames}
use Rattle.dw_eh_rows.specs.declared.kept_records.LeftOutRecord.{LeftOutRecord}
use Rattle.dw_eh_rows.specs.declared.kept_records.Split as declared
use Rattle.dw_eh_rows.specs.declared.signals.SignalRange.{SignalRange}

-- what is kept of a section, and the other records
pub record Parts : Type 0 where
  pub cies : List Cie
  pub fdes : List Fde
  pub signals : List SignalRange
  pub left_out : List LeftOutRecord

abbrev pub parts_of : declared.Split → Parts
parts_of s = record {
  cies = map cie_of s.cies.items;
  fdes = map fde_of s.fdes.items;
  signals = s.signals.items;
  left_out = s.left_out.items;
}

-- ---- one more record

abbrev pub with_record : Parts → EhRecord → Parts
with_record p x = record {
  cies = p.cies ++ cies_among (all_in_dwarf (x ∷ []));
  fdes = p.fdes ++ fdes_among (all_in_dwarf (x ∷ []));
  signals = p.signals ++ signal_frames (x ∷ []);
  left_out = p.left_out;
}

abbrev pub with_fault : Parts → ℕ → Fault → Parts
with_fault p at fault = record {
  cies = p.cies;
  fdes = p.fdes;
  signals = p.signals;
  left_out = p.left_out ++ record { offset = at; fault = fault } ∷ [];
}

abbrev pub with_record_unless : Parts → ℕ → EhRecord → Option Fault → Parts
with_record_unless p at x None = with_record p x
with_record_unless p at x (Some fault) = with_fault p at fault

abbrev pub with_item : Parts → Item → Parts
with_item p (at, Err fault) = with_fault p at fault
with_item p (at, Ok x) = with_record_unless p at x (fault_after p.cies x)

-- ---- so far

-- The records before the offset `at` are split. The parts are those of what is kept of them.
pub record IsSplit (a : Bool) (bases : Bases) (target : Target) (section : List ℕ) (at : ℕ) (p : Parts) : Type 0 where
  pub inside : at ≤ length section
  pub so_far : Split
  pub split : split_records a bases target section ≡ fold split_one so_far (values_in (items_from a bases target section at))
  pub faults : fault_in (items_of a bases target section) ≡ fault_in (items_from a bases target section at)
  pub cies_are : p.cies ≡ cies_among (all_in_dwarf so_far.kept)
  pub fdes_are : p.fdes ≡ fdes_among (all_in_dwarf so_far.kept)
  pub signals_are : p.signals ≡ signal_frames so_far.kept
  pub left_out_are : p.left_out ≡ so_far.left_out
  pub placed : ArePlaced target 0 at (all_in_dwarf so_far.kept)
