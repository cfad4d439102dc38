use Rattle.std.proofs.Common.{ℕ, Bool, List}
use Rattle.dw_bytes.specs.declared.target.Target.{Target}
use Rattle.dw_eh_frame.specs.declared.pointer.Bases.{Bases}
use Rattle.dw_eh_rows.specs.KeptRecords.{split_records}
use Rattle.dw_eh_rows.proofs.KeptOnes.{AreGoodOnes, kept-good, own-cie, own-programs, whole-faults}
use Rattle.dw_eh_rows.proofs.laws.what_is_kept_can_only_overlap.Goals as goal

pub returns : goal.returns
returns c =
    let good : (is_aarch64 : Bool) (bases : Bases) (target : Target) (section : List ℕ)
    → AreGoodOnes is_aarch64 target section (split_records is_aarch64 bases target section).kept =
    λ is_aarch64 bases target section. kept-good is_aarch64 bases target section
    (c.items_have_their_cies.ensures is_aarch64 bases target section) in
    record {
      fault = λ is_aarch64 bases target section fault is.
          whole-faults (record { cies = c.copies_are_left_out_in_place.ensures.cies; fdes = c.copies_are_left_out_in_place.ensures.fdes })
          is_aarch64 bases target section fault (good is_aarch64 bases target section) is;
      cies = λ is_aarch64 bases target section e among.
          own-cie is_aarch64 target section (split_records is_aarch64 bases target section).kept e (good is_aarch64 bases target section) among;
      programs = λ is_aarch64 bases target section e among.
          own-programs is_aarch64 target section (split_records is_aarch64 bases target section).kept e (good is_aarch64 bases target section) among;
    }
