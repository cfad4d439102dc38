use Rattle.std.proofs.Common.{sym, ◌∙◌}
use Rattle.dw_eh_frame.specs.Views.{eh_fde_of}
use Rattle.dw_in_place.specs.Views.{section_of}
use Rattle.dw_in_place.proofs.InForce.{alone-read, in-force, lendable}
use Rattle.dw_in_place.proofs.OneFde.{expressions-alone}
use Rattle.dw_in_place.proofs.in_place.find_by_check.Goals as goal

pub returns-then-in_cie-eq0-clause-row : goal.returns-then-in_cie-eq0-clause-row
returns-then-in_cie-eq0-clause-row c =
    let s = section_of c.args.section.now in
    let e = eh_fde_of c.args.fde.now in
    let one = alone-read s c.requires.read.0 e c.requires.read.1 c.in_ok-in_cie.ensures.fault in
    in-force s e c.args.address c.seek_row-start.result c.seek_row-start.new.state c.check_programs.new.checked one c.requires.covers
    c.seek_row-start.ensures (expressions-alone s.target s.bytes e ∙ sym c.in_ok-in_cie.ensures.kept)

pub returns-then-in_cie-eq0-clause-lendable : goal.returns-then-in_cie-eq0-clause-lendable
returns-then-in_cie-eq0-clause-lendable c =
    let s = section_of c.args.section.now in
    let e = eh_fde_of c.args.fde.now in
    let one = alone-read s c.requires.read.0 e c.requires.read.1 c.in_ok-in_cie.ensures.fault in
    lendable s e c.args.address c.seek_row-start.result c.seek_row-start.new.state c.check_programs.new.checked c.in_ok-in_cie.in_cie
    one c.seek_row-start.ensures c.in_ok-in_cie.ensures.kept c.in_ok-in_cie.ensures.in_cie

pub returns-else-in_cie-eq0-clause-row : goal.returns-else-in_cie-eq0-clause-row
returns-else-in_cie-eq0-clause-row c =
    let s = section_of c.args.section.now in
    let e = eh_fde_of c.args.fde.now in
    let one = alone-read s c.requires.read.0 e c.requires.read.1 c.in_ok-in_cie.ensures.fault in
    in-force s e c.args.address c.seek_row-start.result c.seek_row-start.new.state c.check_programs.new.checked one c.requires.covers
    c.seek_row-start.ensures (expressions-alone s.target s.bytes e ∙ sym c.in_ok-in_cie.ensures.kept)

pub returns-else-in_cie-eq0-clause-lendable : goal.returns-else-in_cie-eq0-clause-lendable
returns-else-in_cie-eq0-clause-lendable c =
    let s = section_of c.args.section.now in
    let e = eh_fde_of c.args.fde.now in
    let one = alone-read s c.requires.read.0 e c.requires.read.1 c.in_ok-in_cie.ensures.fault in
    lendable s e c.args.address c.seek_row-start.result c.seek_row-start.new.state c.check_programs.new.checked c.in_ok-in_cie.in_cie
    one c.seek_row-start.ensures c.in_ok-in_cie.ensures.kept c.in_ok-in_cie.ensures.in_cie
