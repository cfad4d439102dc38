use Rattle.dw_eh_rows.proofs.SignalAddresses.{signal-addresses, no-signal}
use Rattle.dw_eh_rows.proofs.WholeSections.{SectionLaws, faultless, read-of}
use Rattle.dw_eh_rows.specs.Signals.{eh_fdes}
use Rattle.dw_eh_rows.proofs.laws.signal_frames_are_exact.Goals as goal

pub returns : goal.returns
returns c =
    let laws : SectionLaws = record {
      encoded = c.sections_are_records.ensures;
      placed = c.records_lie_one_after_another.ensures;
      good = c.records_without_fault_are_good.ensures;
    } in
    record {
      covered = λ is_aarch64 bases target section none.
          let f = faultless laws is_aarch64 bases target section none in
          signal-addresses is_aarch64 bases target section (record {
            kept = c.only_copies_are_left_out.ensures.fdes is_aarch64 bases target section;
            cie = c.cies_are_read_at_their_pointers.ensures is_aarch64 bases target section (read-of is_aarch64 bases target section) f.encoded;
          }) f;
      others = λ records a none. no-signal (eh_fdes records) a none;
    }
