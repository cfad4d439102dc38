use Rattle.std.proofs.Common.{Option, sym, ap, ◌∙◌}
use Rattle.std.proofs.lemmas.Result.{err_from_is_err_and}
use Rattle.dw_bytes.specs.Reading.{section_from}
use Rattle.dw_eh_frame.specs.Records.{EhFde}
use Rattle.dw_eh_frame.specs.Views.{eh_fde_of, eh_record_of}
use Rattle.dw_in_place.specs.InPlace.{covering}
use Rattle.dw_in_place.proofs.AtOffset.{fde-at-is, fde-at-unread, covering-none}
use Rattle.dw_in_place.proofs.in_place.covering_fde.Goals as goal

pub returns-in_err-record-clause-fde : goal.returns-in_err-record-clause-fde
returns-in_err-record-clause-fde c =
    let s = c.args.section.now in
    let p = err_from_is_err_and c.from_residual.result c.from_residual.ensures.1 in
    rw (p.1, p.2)
    (fde-at-unread s.is_aarch64 s.bases s.target s.bytes.now c.args.at c.args.address _ c.in_err-record.ensures.exact)

pub returns-in_default-clause-fde : goal.returns-in_default-clause-fde
returns-in_default-clause-fde c =
    let s = c.args.section.now in
    fde-at-is s.is_aarch64 s.bases s.target s.bytes.now c.args.at c.args.address (eh_record_of c.in_ok-record.record)
    (section_from s.target s.bytes.now c.in_ok-record.field-0-1) c.in_ok-record.ensures.exact
    ∙ ap (λ (o : Option EhFde). covering c.args.address o) (sym c.in_default.ensures.fde)

pub returns-then-not-covers_address-clause-fde : goal.returns-then-not-covers_address-clause-fde
returns-then-not-covers_address-clause-fde c =
    let s = c.args.section.now in
    fde-at-is s.is_aarch64 s.bases s.target s.bytes.now c.args.at c.args.address (eh_record_of c.in_ok-record.record)
    (section_from s.target s.bytes.now c.in_ok-record.field-0-1) c.in_ok-record.ensures.exact
    ∙ (ap (λ (o : Option EhFde). covering c.args.address o) (sym c.in-Some.ensures.fde)
    ∙ covering-none c.args.address (eh_fde_of c.in-Some.fde)
    (λ here. let wrong = c.if-not-covers_address.ensures.1 here in cc))

pub returns-clause-fde : goal.returns-clause-fde
returns-clause-fde c =
    let s = c.args.section.now in
    fde-at-is s.is_aarch64 s.bases s.target s.bytes.now c.args.at c.args.address (eh_record_of c.in_ok-record.record)
    (section_from s.target s.bytes.now c.in_ok-record.field-0-1) c.in_ok-record.ensures.exact
    ∙ ap (λ (o : Option EhFde). covering c.args.address o) (sym c.in-Some.ensures.fde)
