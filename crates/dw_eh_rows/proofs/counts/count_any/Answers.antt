use Rattle.std.proofs.Common.{◌≡◌, Ok, sym, subst, ◌∙◌}
use Rattle.dw_bytes.specs.Reading.{section_from}
use Rattle.dw_eh_frame.specs.declared.record.EhRecord as declared
use Rattle.dw_eh_frame.specs.Records.{eh_record_at}
use Rattle.dw_eh_frame.specs.Views.{LiesAt, eh_cie_of, eh_fde_of, eh_record_of}
use Rattle.dw_eh_rows.proofs.CountedSteps.{counted-ascend, counted-cie, counted-fde, counted-nothing}
use Rattle.dw_eh_rows.proofs.counts.count_any.Goals as goal
use Rattle.dw_eh_rows.proofs.counts.count_any.Goals.{in-Cie+in_ok-counted-in-Cie, in-Fde+in_ok-counted-in-Fde, in-Nothing}

pub count_fde-requires-clause-order : goal.count_fde-requires-clause-order
count_fde-requires-clause-order c = counted-ascend c.requires.so_far

pub returns-then-counted-clause-counted : goal.returns-then-counted-clause-counted
returns-then-counted-clause-counted c =
    let a = c.args.is_aarch64 in
    let bases = c.args.bases in
    let target = c.args.target in
    let section = c.args.section.now in
    let at = c.args.at in
    let next = c.in-Ok.next in
    let read = c.in-Ok.ensures in
    let inside = read.forward.1 in
    let old = c.args.tally.now in
    let before = c.args.context.now in
    let found = λ (r : declared.EhRecord). eh_record_at a bases section (section_from target section at) ≡ Ok (eh_record_of r, section_from target section next) in
    let lies = λ (r : declared.EhRecord). LiesAt target at next (eh_record_of r) in (
      read.forward.0,
      elim c.match-record.branch [
        | in-Cie+in_ok-counted-in-Cie w ↦
            let taken = w.in_ok-counted-in-Cie.ensures in
            let is_counted = sym w.counted-is ∙ c.if-counted.true in
            rw (w.tally-is, w.context-is)
            (counted-cie a bases target section at next (eh_cie_of w.in-Cie.cie) old w.count_cie.new.tally before w.count_cie.new.context
            c.requires.so_far (subst found w.in-Cie.is read.exact) (subst lies w.in-Cie.is read.sound) inside (taken.cies is_counted)
            (taken.counted is_counted) (taken.ready is_counted))
        | in-Fde+in_ok-counted-in-Fde w ↦
            let taken = w.in_ok-counted-in-Fde.ensures in
            let is_counted = sym w.counted-is ∙ c.if-counted.true in
            let cie = taken.cie is_counted in
            rw (w.tally-is, w.context-is)
            (counted-fde a bases target section at next (eh_fde_of w.in-Fde.fde) cie.0 old w.count_fde.new.tally before w.count_fde.new.context
            c.requires.so_far (subst found w.in-Fde.is read.exact) (subst lies w.in-Fde.is read.sound) inside cie.1 taken.cies
            (taken.counted is_counted) (taken.ready is_counted))
        | in-Nothing w ↦
            rw (w.tally-is, w.context-is)
            (counted-nothing a bases target section at next w.in-Nothing.field-0 old before c.requires.so_far
            (subst found w.in-Nothing.is read.exact) read.forward.0 inside)
      ],
    )
