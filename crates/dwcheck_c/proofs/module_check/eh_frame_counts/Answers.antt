use Rattle.std.proofs.Common.{refl}
use Rattle.dw_eh_rows.specs.Section.{eh_frame_of}
use Rattle.dwcheck_c.proofs.module_check.eh_frame_counts.Goals as goal

pub returns-clause-accepted : goal.returns-clause-accepted
returns-clause-accepted c =
    let s = c.args.section in
    let frame = eh_frame_of s.is_aarch64 s.bases c.args.target s.bytes.now in
    let checked = c.in_ok-counts.ensures in
    record {
      frame = frame;
      is = record { accepted = checked.answer; is = refl; checked = checked.checked };
      counted = c.counts_shown.ensures frame checked.counts;
    }
