use Rattle.dw_eh_frame.specs.Views.{eh_record_of}
use Rattle.dw_in_place.specs.Views.{section_of}
use Rattle.dw_in_place.proofs.Scanned.{comes-on}
use Rattle.dw_in_place.proofs.scan.first_covering.Goals as goal

pub loop-at-preserved : goal.loop-at-preserved
loop-at-preserved c =
    let s = c.args.section.now in
    record {
      inside = c.in_ok-record.ensures.forward.1;
      comes = comes-on (section_of s) c.args.address c.loop-at.at c.in_ok-record.next (eh_record_of c.in_ok-record.record)
          c.loop-at.invariant.comes
          (c.records_come_in_order.ensures.entry s.is_aarch64 s.bases s.target s.bytes.now c.loop-at.at c.in_ok-record.next
          (eh_record_of c.in_ok-record.record) c.in_ok-record.ensures.exact) c.if-covers.ensures.no;
      last = c.cie_after-last.ensures s.is_aarch64 s.target s.bytes.now c.in_ok-record.ensures.cie c.loop-at.invariant.last;
    }
