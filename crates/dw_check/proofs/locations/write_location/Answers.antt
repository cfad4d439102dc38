use Rattle.dw_stack.specs.Certificates.{checked_of}
use Rattle.dw_check.specs.Text.{expression_offset_line}
use Rattle.dw_check.proofs.Evaluated.{each_text}
use Rattle.dw_check.proofs.Growth.{front_wider}
use Rattle.dw_check.proofs.Writing.{writes_front, writes_then, writes_whole}
use Rattle.dw_check.proofs.locations.write_location.Goals as goal

pub returns-in_err-write_location_offset-clause-written : goal.returns-in_err-write_location_offset-clause-written
returns-in_err-write_location_offset-clause-written g c = λ gs given.
    let checked = checked_of c.args.checked.now in
    let own = each_text checked.kind checked.target checked.bytes gs c.requires.showable.short c.requires.showable.good in (
      own.0,
      own.1,
      writes_front _ _ _ _ c.from_residual.ensures.0
          (front_wider _ _ (expression_offset_line c.args.offset) own.0 c.in_err-write_location_offset.ensures.written),
    )

pub returns-clause-written : goal.returns-clause-written
returns-clause-written g c = λ gs given.
    let own = c.write_outcome.ensures.written gs given in (
      own.0,
      own.1,
      writes_then _ _ _ _ (expression_offset_line c.args.offset) own.0 c.in_ok-write_location_offset.ensures.written
          (writes_whole _ _ _ _ own.2),
    )
