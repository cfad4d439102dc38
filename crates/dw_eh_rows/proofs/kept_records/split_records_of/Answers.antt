use Rattle.std.proofs.Common.{◌≡◌, map, Result, Ok, Err, refl, sym, ap, subst, arith}
use Rattle.std.specs.Prelude.{IfOk}
use Rattle.dw_bytes.specs.declared.fault.Fault.{Fault}
use Rattle.dw_bytes.specs.Reading.{section_from}
use Rattle.dw_frame.specs.Views.{cie_of, fde_of}
use Rattle.dw_eh_frame.specs.declared.record.EhRecord as declared
use Rattle.dw_eh_frame.specs.Items.{item_at, item_with}
use Rattle.dw_eh_frame.specs.Views.{HasCieOf, LiesAt, eh_record_of}
use Rattle.dw_eh_rows.specs.Splitting.{IsSplit, parts_of}
use Rattle.dw_eh_rows.proofs.SplitSteps.{split-first, split-ascend, split-left, split-record}
use Rattle.dw_eh_rows.proofs.kept_records.split_records_of.Goals as goal

pub loop-at-init : goal.loop-at-init
loop-at-init c = record {
  split = split-first c.args.is_aarch64 c.args.bases c.args.target c.args.section.now _
      (ap (map cie_of) c.new.ensures.items) (ap (map fde_of) c.new-3.ensures.items) c.new-4.ensures.items c.new-5.ensures.items;
  left = rw (c.new.ensures.items, c.new-2.ensures) tt;
  last = tt;
}

pub split_record-requires-clause-order : goal.split_record-requires-clause-order
split_record-requires-clause-order c = split-ascend c.loop-at.invariant.split

pub loop-at-preserved-in_ok-split_record-in-Ok : goal.loop-at-preserved-in_ok-split_record-in-Ok
loop-at-preserved-in_ok-split_record-in-Ok c =
    let section = c.args.section.now in
    let target = c.args.target in
    let at = c.loop-at.at in
    let read = c.in_ok-item.ensures in
    let next = c.in_ok-item.next in
    let is = subst (λ (item : Result declared.EhRecord Fault). item_at c.args.is_aarch64 c.args.bases section (section_from target section at)
    ≡ Ok (item_with at item, section_from target section next)) c.in-Ok.is read.exact in
    let lies = subst (λ (item : Result declared.EhRecord Fault). IfOk item (λ x. LiesAt target at next (eh_record_of x))) c.in-Ok.is read.sound in
    let cie = subst (λ (item : Result declared.EhRecord Fault). IfOk item (HasCieOf c.args.is_aarch64 target section)) c.in-Ok.is read.cie in
    record {
      split = subst (IsSplit c.args.is_aarch64 c.args.bases target section next) (sym c.in_ok-split_record-in-Ok.ensures.split)
          (split-record c.args.is_aarch64 c.args.bases target section at next (eh_record_of c.in-Ok.record) (parts_of c.loop-at.split)
          c.loop-at.invariant.split
          (c.items_come_in_order.ensures.entry c.args.is_aarch64 c.args.bases target section at next (at, Ok (eh_record_of c.in-Ok.record)) is)
          (omega (arith, read.forward.0)) read.forward.1 lies);
      left = c.in_ok-split_record-in-Ok.ensures.left;
      last = c.cie_after-last.ensures c.args.is_aarch64 target section cie c.loop-at.invariant.last;
    }

pub loop-at-preserved : goal.loop-at-preserved
loop-at-preserved c =
    let section = c.args.section.now in
    let target = c.args.target in
    let at = c.loop-at.at in
    let read = c.in_ok-item.ensures in
    let next = c.in_ok-item.next in
    let left = c.in_ok-leave_out-in-Err.ensures in
    let is = subst (λ (item : Result declared.EhRecord Fault). item_at c.args.is_aarch64 c.args.bases section (section_from target section at)
    ≡ Ok (item_with at item, section_from target section next)) c.in-Err.is read.exact in
    record {
      split = subst (IsSplit c.args.is_aarch64 c.args.bases target section next) (sym left.left_out)
          (split-left c.args.is_aarch64 c.args.bases target section at next (Err c.in-Err.fault) c.in-Err.fault (parts_of c.loop-at.split)
          c.loop-at.invariant.split
          (c.items_come_in_order.ensures.entry c.args.is_aarch64 c.args.bases target section at next (at, Err c.in-Err.fault) is)
          refl (omega (arith, read.forward.0)) read.forward.1);
      left = rw (left.same.0, left.same.1) c.loop-at.invariant.left;
      last = c.loop-at.invariant.last;
    }
