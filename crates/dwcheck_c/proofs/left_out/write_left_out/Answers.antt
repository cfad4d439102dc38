use Rattle.std.proofs.Common.{◌∙◌, ap, map, take}
use Rattle.std.specs.Prelude.{slice_set}
use Rattle.std.proofs.Math.ListN.{get_or}
use Rattle.std.proofs.lemmas.Option.{slice_get-get_or}
use Rattle.dw_bytes.specs.declared.fault.FaultKind.TheVariants.{Truncated}
use Rattle.dw_eh_rows.specs.declared.kept_records.LeftOutRecord.{LeftOutRecord}
use Rattle.dw_c_types.specs.Slots.{put_into}
use Rattle.dw_c_types.proofs.Putting.{puts_found}
use Rattle.dwcheck_c.specs.LeftOutRecords.{shown_left_out}
use Rattle.dwcheck_c.proofs.left_out.write_left_out.Goals as goal

pub loop-index-preserved : goal.loop-index-preserved
loop-index-preserved c =
    let found = c.args.found.now in let i = c.loop-index.index in
    let past : LeftOutRecord = record { offset = 0; fault = record { kind = Truncated; at = 0 } } in
    c.put.ensures ∙ ap (λ l. slice_set l i c.c_left_out_of.result) c.loop-index.invariant
    ∙ ap (λ x. slice_set (put_into (map shown_left_out (take i found)) c.args.slots.now) i x) c.c_left_out_of.ensures
    ∙ puts_found shown_left_out found c.args.slots.now i (get_or found i past) c.loop-index-test.true
    (slice_get-get_or found i past c.loop-index-test.true)
