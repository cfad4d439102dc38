use Rattle.std.proofs.Common.{Option, ◌∙◌, subst}
use Rattle.std.specs.Prelude.{IfSome}
use Rattle.dw_eh_frame.specs.declared.record.EhCie.{EhCie}
use Rattle.dw_eh_frame.specs.Views.{fde_with_cie}
use Rattle.dw_in_place.specs.Known.{IsReady, IsRead}
use Rattle.dw_in_place.specs.Views.{section_of}
use Rattle.dw_in_place.proofs.AtOffset.{covering-none}
use Rattle.dw_in_place.proofs.InForce.{found-read, quick}
use Rattle.dw_in_place.proofs.in_place.find_known.Goals as goal

pub returns-in-Row-clause-answer : goal.returns-in-Row-clause-answer
returns-in-Row-clause-answer c =
    let s = section_of c.args.section.now in
    let e = fde_with_cie c.in-Some.cie c.in-Some-usual_fde.fde in
    let read : IsRead s c.args.at e = record {
      next = c.in-Some-usual_fde.field-0-1;
      read = c.in-Some-usual_fde.ensures.exact;
      lies = c.in-Some-usual_fde.ensures.sound;
      inside = c.in-Some-usual_fde.ensures.forward.1;
    } in
    let ready = subst (λ (o : Option EhCie). IfSome o (IsReady s c.args.known.now.state)) c.in-Some.is c.requires.known in
    let q = quick s c.args.at e c.args.address (c.in-Row.start, c.in-Row.end) c.seek_quickly.new.state read ready.faultless ready.plain
    c.in-Row.ensures.sought in
    (c.in-Some.cie, c.in-Some.is, q.found, q.row, q.lendable)

pub returns-in-Nothing-clause-answer : goal.returns-in-Nothing-clause-answer
returns-in-Nothing-clause-answer c =
    let s = section_of c.args.section.now in
    let e = fde_with_cie c.in-Some.cie c.in-Some-usual_fde.fde in
    let read : IsRead s c.args.at e = record {
      next = c.in-Some-usual_fde.field-0-1;
      read = c.in-Some-usual_fde.ensures.exact;
      lies = c.in-Some-usual_fde.ensures.sound;
      inside = c.in-Some-usual_fde.ensures.forward.1;
    } in
    found-read s c.args.at c.args.address e read ∙ covering-none c.args.address e c.in-Nothing.ensures.sought
