use Rattle.std.proofs.Common.{◌≡◌, [], All, ap, subst, sym, ◌∙◌}
use Rattle.dw_bytes.specs.Answers.{values_in}
use Rattle.dw_eh_frame.specs.Encoding.{AreEhRecords}
use Rattle.dw_eh_frame.specs.Records.{EhRecord, all_in_dwarf, eh_records_of}
use Rattle.dw_eh_rows.specs.Signals.{HasNoSignals}
use Rattle.dw_eh_rows.proofs.SignalCies.{no-signals}
use Rattle.dw_eh_rows.proofs.WholeSections.{values-read}
use Rattle.dw_rows.specs.Section.{FrameSection}
use Rattle.dw_eh_rows.proofs.signals.signal_frames_of.Goals as goal

pub returns-clause-frames : goal.returns-clause-frames
returns-clause-frames c =
    let records = values_in (eh_records_of c.args.is_aarch64 c.args.bases c.args.target c.args.section.now) in
    let w = (c.sections_without_fault_are_well_formed.ensures c.args.is_aarch64 c.args.bases c.args.target c.args.section.now).0 c.requires.faultless in
    let read = ((c.sections_are_records.ensures c.args.is_aarch64 c.args.bases c.args.target c.args.section.now w.records).0 w.encoded).0 in
    let values : records ≡ w.records = ap (λ items. values_in {X = EhRecord} items) read ∙ values-read w.records in
    let encoded = subst (AreEhRecords c.args.is_aarch64 c.args.bases c.args.target [] 0 c.args.section.now) (sym values) w.encoded in
    rw c.new.ensures.items (sym (no-signals c.args.is_aarch64 c.args.bases c.args.target c.args.section.now records
    (record {
      cie = c.cies_are_read_at_their_pointers.ensures c.args.is_aarch64 c.args.bases c.args.target c.args.section.now records encoded;
      kept = c.copies_are_left_out_in_place.ensures.cies (all_in_dwarf records);
    })
    encoded
    (subst (All (HasNoSignals c.args.is_aarch64 c.args.target c.args.section.now))
    (c.cies.ensures.cies ∙ ap (λ (s : FrameSection). s.cies) c.requires.frame)
    c.if-may_one_have_signals.ensures)))
